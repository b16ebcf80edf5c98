use Rattle.std.proofs.Common.{arith, sym, ◌^◌, ◌≤◌}
use Rattle.ss_words.specs.TextRuns.{number_of}
use Rattle.ss_words.proofs.TextRunLemmas.{number_of-nil, number_of-more, number_of-too_large}
use Rattle.ss_words.proofs.scan.run.number_of.Goals as goal

pub loop-byte-init : goal.loop-byte-init
loop-byte-init c = (sym number_of-nil, omega arith)

pub loop-byte-preserved : goal.loop-byte-preserved
loop-byte-preserved c =
    let more = number_of-more c.args.digits.now c.loop-byte.byte-index c.loop-byte-test.true in
    (omega arith, omega arith)

pub returns-then-number-digit : goal.returns-then-number-digit
returns-then-number-digit c =
    λ small. let large : 2 ^ 63 ≤ number_of c.args.digits.now = number_of-too_large c.args.digits.now
    c.loop-byte.byte-index (2 ^ 63) c.loop-byte-test.true (omega arith) in omega arith
