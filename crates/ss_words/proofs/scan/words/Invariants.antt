use Rattle.std.proofs.Common.{[], ◌+◌, length}
use Rattle.ss_words.specs.TextLines.{text_lines}
use Rattle.ss_words.specs.TextWords.{found_in_text, found_from_line}
use Rattle.ss_words.specs.TextScan.{SameFindings, nearest}
use Rattle.ss_words.proofs.scan.words.Given as goal

abbrev pub invariant-loop-line : goal.invariant-loop-line
invariant-loop-line l =
    SameFindings [] (found_in_text l.fn.text) l.words
    (found_from_line (nearest l.words) (l.lines.taken + 1) 0 (text_lines l.lines.rest.now))

abbrev pub decreases-loop-line : goal.decreases-loop-line
decreases-loop-line l = length l.lines.rest.now
