use Rattle.std.proofs.Common.{arith}
use Rattle.std.proofs.lemmas.Result.{err_from_is_err_and}
use Rattle.ss_routines.specs.Combined.{star}
use Rattle.ss_routines.specs.LoopReading.{next_qualifier, qualifiers_at}
use Rattle.ss_routines.specs.View.{qualifier_view}
use Rattle.ss_routines.proofs.Rooms.{list_begins, list_turns, list_stops}
use Rattle.ss_routines.proofs.ListLoop.{list_fails}
use Rattle.ss_routines.proofs.reading.phrases.qualifiers.Goals as goal

pub loop-qualifiers-init : goal.loop-qualifiers-init
loop-qualifiers-init c = record {
  shorter = omega arith;
  going =
      list_begins (next_qualifier c.args.room) qualifier_view c.args.cursor.now c.new-qualifiers.result.items
      c.new-qualifiers.ensures.items;
}

pub returns-in_err-qualifier-clause-exact : goal.returns-in_err-qualifier-clause-exact
unfolding qualifiers_at star
returns-in_err-qualifier-clause-exact c =
    let p = err_from_is_err_and c.from_residual.result c.from_residual.ensures.1 in
    rw (p.1, p.2) (list_fails (next_qualifier c.args.room) qualifier_view
    (star (next_qualifier c.args.room) c.args.cursor.now) c.loop-qualifiers.qualifiers.items
    c.in_err-qualifier.field-0.0 c.loop-qualifiers.cursor c.next_qualifier.new.cursor c.in_err-qualifier.ensures.exact
    c.loop-qualifiers.invariant.going)

pub loop-qualifiers-preserved : goal.loop-qualifiers-preserved
loop-qualifiers-preserved c = record {
  shorter = omega (arith, c.in_ok-qualifier.ensures.shorter);
  going =
      list_turns (next_qualifier c.args.room) qualifier_view (star (next_qualifier c.args.room) c.args.cursor.now)
      c.loop-qualifiers.qualifiers.items c.in-Some.qualifier c.push.new.self.items
      c.loop-qualifiers.cursor c.next_qualifier.new.cursor c.in_ok-push.ensures.items
      (rw c.in-Some.is at c.in_ok-qualifier.ensures.exact) (rw c.in-Some.is at c.in_ok-qualifier.ensures.taken)
      c.loop-qualifiers.invariant.going;
}

pub returns-clause-exact : goal.returns-clause-exact
unfolding qualifiers_at star
returns-clause-exact c =
    list_stops (next_qualifier c.args.room) qualifier_view (star (next_qualifier c.args.room) c.args.cursor.now)
    c.loop-qualifiers.qualifiers.items
    c.loop-qualifiers.cursor c.next_qualifier.new.cursor (rw c.in_default.is at c.in_ok-qualifier.ensures.exact)
    c.loop-qualifiers.invariant.going
