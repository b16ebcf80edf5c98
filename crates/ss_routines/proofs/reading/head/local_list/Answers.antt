use Rattle.std.proofs.Common.{map, refl, arith}
use Rattle.std.proofs.lemmas.Result.{err_from_is_err_and}
use Rattle.ss_words.specs.Plain.{word_lines}
use Rattle.ss_words.specs.Noting.{repeat}
use Rattle.ss_words.proofs.Loop.{passes_on}
use Rattle.ss_words.proofs.Writes.{noting_begins, noting_turns, noting_stops, noting_fails}
use Rattle.ss_routines.specs.PlacesAtLines.{noting_local}
use Rattle.ss_routines.specs.View.{local_view}
use Rattle.ss_routines.proofs.reading.head.local_list.Goals as goal

pub loop-init : goal.loop-init
loop-init c =
    record {
      shorter = omega arith;
      going = noting_begins (noting_local (word_lines c.args.text.now))
          (repeat (noting_local (word_lines c.args.text.now))) _ _ refl;
    }

pub returns-in_err-next_local-clause-exact : goal.returns-in_err-next_local-clause-exact
returns-in_err-next_local-clause-exact c =
    let p = err_from_is_err_and c.from_residual.result c.from_residual.ensures.1 in
    rw (p.1, p.2) (passes_on c.in_err-next_local.field-0.0 c.next_local.new.cursor
    (noting_local (word_lines c.args.text.now) (map local_view c.loop.out.items) c.loop.cursor) _
    (λ e h. noting_fails (noting_local (word_lines c.args.text.now)) _ (map local_view c.loop.out.items) c.loop.cursor
    c.next_local.new.cursor e h c.loop.invariant.going) c.in_err-next_local.ensures.exact)

pub loop-preserved : goal.loop-preserved
loop-preserved c =
    record {
      shorter = omega (arith, c.in_ok-next_local.ensures.shorter);
      going = noting_turns
          (noting_local (word_lines c.args.text.now)) _ (map local_view c.loop.out.items)
          (map local_view c.next_local.new.out.items) c.loop.cursor c.next_local.new.cursor
          (rw c.if-branch.true at c.in_ok-next_local.ensures.exact)
          (c.in_ok-next_local.ensures.taken (rw c.if-branch.true refl)) c.loop.invariant.going;
    }

pub returns-clause-exact : goal.returns-clause-exact
returns-clause-exact c =
    noting_stops (noting_local (word_lines c.args.text.now)) _ (map local_view c.loop.out.items)
    (map local_view c.next_local.new.out.items) c.loop.cursor c.next_local.new.cursor
    (rw c.if-branch.false at c.in_ok-next_local.ensures.exact) c.loop.invariant.going
