use Rattle.std.proofs.Common.{false, sym, ◌∙◌}
use Rattle.ss_routines.specs.View.{spots}
use Rattle.ss_check.specs.Increments.{places_refusal}
use Rattle.ss_check.proofs.Turns.{place_passed, place_told, places_end}
use Rattle.ss_check.proofs.rules.breach.check_places.Goals as goal

pub returns-in-Some-2-clause-err : goal.returns-in-Some-2-clause-err
returns-in-Some-2-clause-err c =
    rw c.in_ok-wrong.ensures
    (place_told c.args.whole.now c.args.in_main c.loop-spot.behind_find c.loop-spot.rest.now c.in-Some.spot.now
    c.in-Some.behind.now
    (places_refusal c.args.whole.now c.args.in_main false
    (spots c.args.places.now)) c.in-Some-2.rule c.in-Some.ensures.cases.0
    c.loop-spot.invariant (sym c.in_ok-rule.ensures ∙ c.in-Some-2.is))

pub loop-spot-preserved : goal.loop-spot-preserved
loop-spot-preserved c =
    rw c.is_find-behind_find.ensures
    (place_passed c.args.whole.now c.args.in_main c.loop-spot.behind_find c.loop-spot.rest.now c.in-Some.spot.now
    c.in-Some.behind.now
    (places_refusal c.args.whole.now c.args.in_main false
    (spots c.args.places.now)) c.in-Some.ensures.cases.0 c.loop-spot.invariant
    (sym c.in_ok-rule.ensures ∙ c.in_default-2.is))

pub returns-clause-sound : goal.returns-clause-sound
returns-clause-sound c =
    places_end c.args.whole.now c.args.in_main c.loop-spot.behind_find c.loop-spot.rest.now
    (places_refusal c.args.whole.now c.args.in_main false
    (spots c.args.places.now)) c.in_default.ensures.cases c.loop-spot.invariant
