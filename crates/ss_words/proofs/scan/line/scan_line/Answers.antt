use Rattle.std.proofs.Common.{◌∙◌, sym, ap, List, map, ◌++◌}
use Rattle.std.proofs.lemmas.Result.{err_from_is_err_and}
use Rattle.ss_words.specs.TextWords.{Finding, word}
use Rattle.ss_words.proofs.TextBytesLemmas.{eqb-same}
use Rattle.ss_words.proofs.TextFinds.{is_first-goes}
use Rattle.ss_words.proofs.TextSteps.{left_in_line-none}
use Rattle.ss_words.proofs.scan.line.scan_line.Goals as goal

pub returns-in_err-len : goal.returns-in_err-len
returns-in_err-len c =
    let p = err_from_is_err_and c.from_residual.result c.from_residual.ensures.1 in
    rw (p.1, p.2) (is_first-goes c.in_err-len.field-0.0 _ _ _ _ c.loop-rest.invariant c.in_err-len.ensures.found)

pub returns : goal.returns
returns c =
    c.loop-rest.invariant ∙ ap (λ (fs : List Finding). map word c.loop-rest.words ++ fs)
    (left_in_line-none _ _ _ _ (eqb-same _ 0 (sym c.loop-rest-test.ensures)))
