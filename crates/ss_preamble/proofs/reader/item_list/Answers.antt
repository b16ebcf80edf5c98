use Rattle.std.proofs.Common.{refl, arith}
use Rattle.std.proofs.lemmas.Result.{err_from_is_err_and}
use Rattle.ss_words.specs.Plain.{word_lines}
use Rattle.ss_words.proofs.Loop.{passes_on}
use Rattle.ss_words.proofs.Writes.{noting_begins, noting_turns, noting_stops, noting_fails}
use Rattle.ss_preamble.specs.ItemsAtLines.{next_item_at, items_at}
use Rattle.ss_preamble.specs.View.{items_view}
use Rattle.ss_preamble.proofs.reader.item_list.Goals as goal

pub loop-init : goal.loop-init
unfolding items_at
loop-init c = record {
  shorter = omega arith;
  going =
      noting_begins (next_item_at (word_lines c.args.text.now)) (items_at (word_lines c.args.text.now)) _ _ refl;
}

pub returns-in_err-push_item-clause-exact : goal.returns-in_err-push_item-clause-exact
returns-in_err-push_item-clause-exact c =
    let p = err_from_is_err_and c.from_residual.result c.from_residual.ensures.1 in
    rw (p.1, p.2) (passes_on c.in_err-push_item.field-0.0 c.push_item.new.cursor
    (next_item_at (word_lines c.args.text.now) (items_view c.loop.out.items) c.loop.cursor) _
    (λ e h. noting_fails (next_item_at (word_lines c.args.text.now)) _ (items_view c.loop.out.items) c.loop.cursor
    c.push_item.new.cursor e h c.loop.invariant.going) c.in_err-push_item.ensures.exact)

pub loop-preserved : goal.loop-preserved
loop-preserved c = record {
  shorter = omega (arith, c.in_ok-push_item.ensures.shorter);
  going =
      noting_turns (next_item_at (word_lines c.args.text.now)) _ (items_view c.loop.out.items)
      (items_view c.push_item.new.out.items) c.loop.cursor c.push_item.new.cursor
      (rw c.if-branch.true at c.in_ok-push_item.ensures.exact)
      (c.in_ok-push_item.ensures.taken (rw c.if-branch.true refl)) c.loop.invariant.going;
}

pub returns-clause-exact : goal.returns-clause-exact
returns-clause-exact c =
    noting_stops (next_item_at (word_lines c.args.text.now)) _ (items_view c.loop.out.items)
    (items_view c.push_item.new.out.items) c.loop.cursor c.push_item.new.cursor
    (rw c.if-branch.false at c.in_ok-push_item.ensures.exact) c.loop.invariant.going
