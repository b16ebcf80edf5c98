use Rattle.std.proofs.Common.{◌≡◌, drop}
use Rattle.ss_preamble.specs.View.{items_view}
use Rattle.ss_check.specs.Increments.{with_items}
use Rattle.ss_check.specs.Declarations.{headed_items, headed_items_under}
use Rattle.ss_check.proofs.rules.breach.add_items.Given as goal

-- the items that are left bring the tables to those of all
abbrev pub invariant-loop-one : goal.invariant-loop-one
invariant-loop-one l =
    with_items l.tables (headed_items_under l.heading (items_view (drop l.one-index l.items)))
    ≡ with_items l.fn.tables (headed_items (items_view l.items))
