use Rattle.std.proofs.Common.{◌≡◌, drop}
use Rattle.ss_preamble.specs.View.{items_view}
use Rattle.ss_check.specs.Increments.{IsOnce, items_refusal, with_items}
use Rattle.ss_check.specs.Declarations.{headed_items, headed_items_under}
use Rattle.ss_check.proofs.rules.breach.check_items.Given as goal

-- the items so far break no rule, and those that are left bring the tables to those of all
abbrev pub invariant-loop-one : goal.invariant-loop-one
invariant-loop-one l = record {
  once : IsOnce l.before;
  sound : items_refusal l.whole l.before (headed_items_under l.heading (items_view (drop l.one-index l.items)))
      ≡ items_refusal l.whole l.fn.before (headed_items (items_view l.items));
  tables : with_items l.before (headed_items_under l.heading (items_view (drop l.one-index l.items)))
      ≡ with_items l.fn.before (headed_items (items_view l.items));
}
