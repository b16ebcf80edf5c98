use Rattle.std.proofs.Common.{◌+◌, ◌≤◌, arith, sym}
use Rattle.ss_words.specs.TextRuns.{number_of}
use Rattle.ss_words.proofs.TextRunLemmas.{number_of-nil, number_of-more, number_of-too_large}
use Rattle.ss_debug.proofs.pieces.value_up_to.Goals as goal

pub loop-b-init : goal.loop-b-init
loop-b-init c = (sym number_of-nil, omega arith)

pub loop-b-preserved : goal.loop-b-preserved
loop-b-preserved c =
    let more = number_of-more c.args.digits.now c.loop-b.b-index c.loop-b-test.true in (omega arith, omega arith)

pub returns-then-value-limit : goal.returns-then-value-limit
returns-then-value-limit c =
    λ small. let large : c.args.limit + 1 ≤ number_of c.args.digits.now =
    number_of-too_large c.args.digits.now c.loop-b.b-index (c.args.limit + 1) c.loop-b-test.true (omega arith) in
    omega arith
