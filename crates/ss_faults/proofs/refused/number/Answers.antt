use Rattle.std.proofs.Common.{◌∙◌}
use Rattle.ss_data.proofs.NumberLemmas.{number-parse, none-from_utf8, text-from_utf8}
use Rattle.ss_faults.proofs.refused.number.Goals as goal

pub returns-in_err-text : goal.returns-in_err-text
returns-in_err-text c =
    rw c.from_residual.ensures
    (none-from_utf8 c.args.piece.now c.from_utf8.result _ _ c.in_err-text.ensures.value c.from_utf8.ensures.cases)

pub returns : goal.returns
returns c =
    let text =
    text-from_utf8 c.from_utf8.result c.in_ok-text.text _ _ c.in_ok-text.ensures.value c.from_utf8.ensures.cases in
    rw (← text.0) (c.ok-2.ensures.value ∙ number-parse c.in_ok-text.text.now c.parse.result c.parse.ensures.value.0)
