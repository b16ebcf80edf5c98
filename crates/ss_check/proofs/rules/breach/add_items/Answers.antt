use Rattle.ss_preamble.specs.View.{items_view}
use Rattle.ss_check.specs.Increments.{with_items}
use Rattle.ss_check.specs.Declarations.{headed_items}
use Rattle.ss_check.proofs.Turns.{filled_end, filled_turn}
use Rattle.ss_check.proofs.rules.breach.add_items.Goals as goal

pub loop-one-preserved : goal.loop-one-preserved
loop-one-preserved c =
    rw (c.in_ok-add_item.ensures, c.heading_at-heading.ensures)
    (filled_turn c.loop-one.tables c.loop-one.heading c.args.items.now c.loop-one.one-index c.one-item.result
    (with_items c.args.tables.now (headed_items (items_view c.args.items.now))) c.loop-one-test.true c.one-item.is
    c.loop-one.invariant)

pub returns : goal.returns
returns c =
    filled_end c.loop-one.tables c.loop-one.heading c.args.items.now c.loop-one.one-index
    (with_items c.args.tables.now (headed_items (items_view c.args.items.now))) c.loop-one-test.false
    c.loop-one.invariant
