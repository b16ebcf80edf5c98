use Rattle.std.proofs.Common.{length}
use Rattle.ss_words.specs.TextScan.{SameFindings, left_in_line}
use Rattle.ss_words.proofs.scan.line.scan_line.Given as goal

abbrev pub invariant-loop-rest : goal.invariant-loop-rest
invariant-loop-rest l =
    SameFindings l.fn.words (left_in_line l.below.taken l.below.rest.now l.fn.words l.line) l.words
    (left_in_line l.below.taken l.below.rest.now l.words l.rest)

abbrev pub decreases-loop-rest : goal.decreases-loop-rest
decreases-loop-rest l = length l.rest
