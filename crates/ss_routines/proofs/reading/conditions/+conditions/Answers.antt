use Rattle.std.proofs.Common.{refl, arith}
use Rattle.std.proofs.lemmas.Result.{err_from_is_err_and}
use Rattle.ss_words.specs.declared.mark.Mark.TheVariants as m
use Rattle.ss_words.specs.declared.reserved.Reserved.TheVariants as r
use Rattle.ss_routines.specs.Combined.{if_mark, star}
use Rattle.ss_routines.specs.ConditionReading.{inner_either, relation_with, conjunction_with}
use Rattle.ss_routines.specs.View.{relation_view, conjunction_view}
use Rattle.ss_routines.proofs.Rooms.{list_begins, list_turns, list_stops}
use Rattle.ss_routines.proofs.ListLoop.{list_fails}
use Rattle.ss_routines.proofs.EitherRooms.{either_shut, either_deeper}
use Rattle.ss_words.specs.Reading.{refuse}
use Rattle.ss_routines.proofs.AbsentParts.{no_mark}
use Rattle.ss_routines.proofs.PartAnswers.{mark_reads, mark_fails}
use Rattle.ss_routines.proofs.reading.conditions.+conditions.Goals as goal

pub additions-loop-more-init : goal.additions-loop-more-init
additions-loop-more-init t c = record {
  shorter = omega arith;
  going =
      list_begins (if_mark (m.Reserved r.And) (relation_with c.args.room (inner_either c.args.room))) relation_view
      c.args.cursor.now c.new-more.result.items c.new-more.ensures.items;
}

pub additions-returns-in_err-relation-clause-exact : goal.additions-returns-in_err-relation-clause-exact
additions-returns-in_err-relation-clause-exact t c =
    let p = err_from_is_err_and c.from_residual.result c.from_residual.ensures.1 in
    rw (p.1, p.2) (list_fails (if_mark (m.Reserved r.And) (relation_with c.args.room (inner_either c.args.room)))
    relation_view (star (if_mark (m.Reserved r.And) (relation_with c.args.room (inner_either c.args.room)))
    c.args.cursor.now) c.loop-more.more.items
    c.in_err-relation.field-0.0 c.loop-more.cursor c.next_relation.new.cursor c.in_err-relation.ensures.exact
    c.loop-more.invariant.going)

pub additions-loop-more-preserved : goal.additions-loop-more-preserved
additions-loop-more-preserved t c = record {
  shorter = omega (arith, c.in_ok-relation.ensures.shorter);
  going =
      list_turns (if_mark (m.Reserved r.And) (relation_with c.args.room (inner_either c.args.room))) relation_view
      (star (if_mark (m.Reserved r.And) (relation_with c.args.room (inner_either c.args.room))) c.args.cursor.now)
      c.loop-more.more.items c.in-Some.relation c.push.new.self.items
      c.loop-more.cursor c.next_relation.new.cursor c.in_ok-push.ensures.items
      (rw c.in-Some.is at c.in_ok-relation.ensures.exact) (rw c.in-Some.is at c.in_ok-relation.ensures.taken)
      c.loop-more.invariant.going;
}

pub additions-returns-clause-exact : goal.additions-returns-clause-exact
additions-returns-clause-exact t c =
    list_stops (if_mark (m.Reserved r.And) (relation_with c.args.room (inner_either c.args.room))) relation_view
    (star (if_mark (m.Reserved r.And) (relation_with c.args.room (inner_either c.args.room))) c.args.cursor.now)
    c.loop-more.more.items
    c.loop-more.cursor c.next_relation.new.cursor (rw c.in_default.is at c.in_ok-relation.ensures.exact)
    c.loop-more.invariant.going

pub alternatives-loop-more-init : goal.alternatives-loop-more-init
alternatives-loop-more-init t c = record {
  shorter = omega arith;
  going =
      list_begins (if_mark (m.Reserved r.Or) (conjunction_with c.args.room (inner_either c.args.room))) conjunction_view
      c.args.cursor.now c.new-more.result.items c.new-more.ensures.items;
}

pub alternatives-returns-in_err-conjunction-clause-exact : goal.alternatives-returns-in_err-conjunction-clause-exact
alternatives-returns-in_err-conjunction-clause-exact t c =
    let p = err_from_is_err_and c.from_residual.result c.from_residual.ensures.1 in
    rw (p.1, p.2) (list_fails (if_mark (m.Reserved r.Or) (conjunction_with c.args.room (inner_either c.args.room)))
    conjunction_view (star (if_mark (m.Reserved r.Or) (conjunction_with c.args.room (inner_either c.args.room)))
    c.args.cursor.now) c.loop-more.more.items
    c.in_err-conjunction.field-0.0 c.loop-more.cursor c.next_conjunction.new.cursor c.in_err-conjunction.ensures.exact
    c.loop-more.invariant.going)

pub alternatives-loop-more-preserved : goal.alternatives-loop-more-preserved
alternatives-loop-more-preserved t c = record {
  shorter = omega (arith, c.in_ok-conjunction.ensures.shorter);
  going =
      list_turns (if_mark (m.Reserved r.Or) (conjunction_with c.args.room (inner_either c.args.room))) conjunction_view
      (star (if_mark (m.Reserved r.Or) (conjunction_with c.args.room (inner_either c.args.room))) c.args.cursor.now)
      c.loop-more.more.items c.in-Some.conjunction c.push.new.self.items
      c.loop-more.cursor c.next_conjunction.new.cursor c.in_ok-push.ensures.items
      (rw c.in-Some.is at c.in_ok-conjunction.ensures.exact) (rw c.in-Some.is at c.in_ok-conjunction.ensures.taken)
      c.loop-more.invariant.going;
}

pub alternatives-returns-clause-exact : goal.alternatives-returns-clause-exact
alternatives-returns-clause-exact t c =
    list_stops (if_mark (m.Reserved r.Or) (conjunction_with c.args.room (inner_either c.args.room))) conjunction_view
    (star (if_mark (m.Reserved r.Or) (conjunction_with c.args.room (inner_either c.args.room))) c.args.cursor.now)
    c.loop-more.more.items
    c.loop-more.cursor c.next_conjunction.new.cursor (rw c.in_default.is at c.in_ok-conjunction.ensures.exact)
    c.loop-more.invariant.going

pub inner-returns-then-room-eq0-clause-exact : goal.inner-returns-then-room-eq0-clause-exact
unfolding refuse
inner-returns-then-room-eq0-clause-exact t c = rw (either_shut c.args.room c.if-room-eq0.true) refl

pub inner-returns-clause-exact : goal.inner-returns-clause-exact
inner-returns-clause-exact t c = rw (either_deeper c.args.room c.if-room-eq0.false) c.either.ensures.exact

pub next_conjunction-returns-then-not-eat-clause-exact : goal.next_conjunction-returns-then-not-eat-clause-exact
next_conjunction-returns-then-not-eat-clause-exact t c =
    no_mark _ _ c.eat.result _ _ c.eat.ensures.exact c.if-not-eat.true

pub next_conjunction-returns-in_err-conjunction-clause-exact :
    goal.next_conjunction-returns-in_err-conjunction-clause-exact
next_conjunction-returns-in_err-conjunction-clause-exact t c =
    let p = err_from_is_err_and c.from_residual.result c.from_residual.ensures.1 in
    rw (p.1, p.2)
    (mark_fails _ _ c.eat.result _ _ c.in_err-conjunction.field-0.0 _ c.eat.ensures.exact c.if-not-eat.false
    c.in_err-conjunction.ensures.exact)

pub next_conjunction-returns-clause-exact : goal.next_conjunction-returns-clause-exact
next_conjunction-returns-clause-exact t c =
    mark_reads _ _ c.eat.result _ _
    (conjunction_view c.in_ok-conjunction.field-0) _ c.eat.ensures.exact c.if-not-eat.false
    c.in_ok-conjunction.ensures.exact

pub next_relation-returns-then-not-eat-clause-exact : goal.next_relation-returns-then-not-eat-clause-exact
next_relation-returns-then-not-eat-clause-exact t c = no_mark _ _ c.eat.result _ _ c.eat.ensures.exact c.if-not-eat.true

pub next_relation-returns-in_err-relation-clause-exact : goal.next_relation-returns-in_err-relation-clause-exact
next_relation-returns-in_err-relation-clause-exact t c =
    let p = err_from_is_err_and c.from_residual.result c.from_residual.ensures.1 in
    rw (p.1, p.2) (mark_fails _ _ c.eat.result _ _ c.in_err-relation.field-0.0 _ c.eat.ensures.exact c.if-not-eat.false
    c.in_err-relation.ensures.exact)

pub next_relation-returns-clause-exact : goal.next_relation-returns-clause-exact
next_relation-returns-clause-exact t c =
    mark_reads _ _ c.eat.result _ _ (relation_view c.in_ok-relation.field-0) _ c.eat.ensures.exact c.if-not-eat.false
    c.in_ok-relation.ensures.exact
