use Rattle.std.proofs.Common.{sym, ◌∙◌, ap}
use Rattle.ss_words.specs.TextBytes.{sign_from}
use Rattle.ss_words.proofs.TextFinds.{is_first-refused}
use Rattle.ss_words.proofs.TextSteps.{goes-sign, first-stray, sign_fits}
use Rattle.ss_words.proofs.scan.line.scan_sign.Goals as goal

pub returns-in_ok-push-in-Some-clause-len : goal.returns-in_ok-push-in-Some-clause-len
returns-in_ok-push-in-Some-clause-len c =
    sign_fits c.args.rest.now c.in-Some.sign c.sign_len.result c.requires.nonempty
    (ap (sign_from _) (sym c.second.ensures) ∙ sym c.sign_from.ensures ∙ c.in-Some.is) c.sign_len.ensures

pub returns-in_ok-push-in-Some-clause-found : goal.returns-in_ok-push-in-Some-clause-found
returns-in_ok-push-in-Some-clause-found c =
    goes-sign c.args.below.now.taken c.args.below.now.rest.now c.args.words.now _ c.args.rest.now c.in-Some.sign
    c.sign_len.result c.requires.nonempty c.requires.no_comment c.requires.no_run
    (ap (sign_from _) (sym c.second.ensures) ∙ sym c.sign_from.ensures ∙ c.in-Some.is) c.in_ok-push-in-Some.ensures
    c.sign_len.ensures

pub returns-in-None-clause-found : goal.returns-in-None-clause-found
returns-in-None-clause-found c =
    is_first-refused _ _ _ _ c.refused.ensures
    (first-stray c.args.below.now.taken c.args.below.now.rest.now c.args.words.now c.args.rest.now
    c.requires.nonempty c.requires.no_comment c.requires.no_run c.requires.no_blank
    (ap (sign_from _) (sym c.second.ensures) ∙ sym c.sign_from.ensures ∙ c.in-None.is))
