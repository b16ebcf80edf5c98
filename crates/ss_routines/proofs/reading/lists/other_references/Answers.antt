use Rattle.std.proofs.Common.{arith}
use Rattle.std.proofs.lemmas.Result.{err_from_is_err_and}
use Rattle.ss_words.specs.declared.mark.Mark.TheVariants as m
use Rattle.ss_words.specs.declared.word.Sign.TheVariants as s
use Rattle.ss_routines.specs.Combined.{if_mark, star}
use Rattle.ss_routines.specs.SimpleReading.{reference_at}
use Rattle.ss_routines.specs.View.{reference_view}
use Rattle.ss_routines.proofs.Rooms.{list_begins, list_turns, list_stops}
use Rattle.ss_routines.proofs.ListLoop.{list_fails}
use Rattle.ss_routines.proofs.reading.lists.other_references.Goals as goal

pub loop-targets-init : goal.loop-targets-init
loop-targets-init c = record {
  shorter = omega arith;
  going =
      list_begins (if_mark (m.Sign s.Comma) (reference_at c.args.room)) reference_view c.args.cursor.now
      c.new-targets.result.items c.new-targets.ensures.items;
}

pub returns-in_err-target-clause-exact : goal.returns-in_err-target-clause-exact
returns-in_err-target-clause-exact c =
    let p = err_from_is_err_and c.from_residual.result c.from_residual.ensures.1 in
    rw (p.1, p.2) (list_fails (if_mark (m.Sign s.Comma) (reference_at c.args.room)) reference_view
    (star (if_mark (m.Sign s.Comma) (reference_at c.args.room)) c.args.cursor.now) c.loop-targets.targets.items
    c.in_err-target.field-0.0 c.loop-targets.cursor c.next_reference.new.cursor c.in_err-target.ensures.exact
    c.loop-targets.invariant.going)

pub loop-targets-preserved : goal.loop-targets-preserved
loop-targets-preserved c = record {
  shorter = omega (arith, c.in_ok-target.ensures.shorter);
  going =
      list_turns (if_mark (m.Sign s.Comma) (reference_at c.args.room)) reference_view
      (star (if_mark (m.Sign s.Comma) (reference_at c.args.room)) c.args.cursor.now) c.loop-targets.targets.items
      c.in-Some.target c.push.new.self.items
      c.loop-targets.cursor c.next_reference.new.cursor c.in_ok-push.ensures.items
      (rw c.in-Some.is at c.in_ok-target.ensures.exact) (rw c.in-Some.is at c.in_ok-target.ensures.taken)
      c.loop-targets.invariant.going;
}

pub returns-clause-exact : goal.returns-clause-exact
returns-clause-exact c =
    list_stops (if_mark (m.Sign s.Comma) (reference_at c.args.room)) reference_view
    (star (if_mark (m.Sign s.Comma) (reference_at c.args.room)) c.args.cursor.now) c.loop-targets.targets.items
    c.loop-targets.cursor c.next_reference.new.cursor (rw c.in_default.is at c.in_ok-target.ensures.exact)
    c.loop-targets.invariant.going
