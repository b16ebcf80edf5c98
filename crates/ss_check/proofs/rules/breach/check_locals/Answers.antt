use Rattle.std.proofs.Common.{sym, ap, ◌∙◌}
use Rattle.std.specs.Prelude.{map, option_map}
use Rattle.ss_routines.specs.View.{local_view}
use Rattle.ss_check.specs.Increments.{locals_refusal}
use Rattle.ss_check.proofs.Turns.{local_passed, local_told, locals_end}
use Rattle.ss_check.proofs.rules.breach.check_locals.Goals as goal

pub returns-in-Some-clause-err : goal.returns-in-Some-clause-err
returns-in-Some-clause-err c =
    rw c.in_ok-wrong.ensures
    (local_told c.args.whole.now c.args.locals.now c.loop-local.local-index c.local-item.result
    (locals_refusal c.args.whole.now
    (map local_view c.args.locals.now)) c.in-Some.name.now c.loop-local-test.true c.local-item.is
    c.loop-local.invariant (sym c.first_of_names.ensures ∙ ap (option_map (λ n. n.now)) c.in-Some.is))

pub loop-local-preserved : goal.loop-local-preserved
loop-local-preserved c =
    local_passed c.args.whole.now c.args.locals.now c.loop-local.local-index c.local-item.result
    (locals_refusal c.args.whole.now (map local_view c.args.locals.now)) c.loop-local-test.true c.local-item.is
    c.loop-local.invariant (sym c.first_of_names.ensures ∙ ap (option_map (λ n. n.now)) c.in_default.is)

pub returns-clause-sound : goal.returns-clause-sound
returns-clause-sound c =
    locals_end c.args.whole.now c.args.locals.now c.loop-local.local-index
    (locals_refusal c.args.whole.now (map local_view c.args.locals.now)) c.loop-local-test.false c.loop-local.invariant
