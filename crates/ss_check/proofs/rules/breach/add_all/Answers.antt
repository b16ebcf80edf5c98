use Rattle.std.specs.Prelude.{map}
use Rattle.ss_preamble.specs.View.{items_view}
use Rattle.ss_routines.specs.View.{section_view}
use Rattle.ss_check.specs.Declarations.{headed_items}
use Rattle.ss_check.specs.Increments.{with_items, with_sections}
use Rattle.ss_check.proofs.Turns.{headed_end, headed_turn}
use Rattle.ss_check.proofs.rules.breach.add_all.Goals as goal

pub loop-section-preserved : goal.loop-section-preserved
loop-section-preserved c =
    rw c.in_ok-add_head.ensures
    (headed_turn c.loop-section.tables c.args.sections.now c.loop-section.section-index c.section-item.result
    (with_sections (with_items c.args.tables.now (headed_items (items_view c.args.items.now)))
    (map section_view c.args.sections.now)) c.loop-section-test.true c.section-item.is c.loop-section.invariant)

pub returns : goal.returns
returns c =
    headed_end c.loop-section.tables c.args.sections.now c.loop-section.section-index
    (with_sections (with_items c.args.tables.now (headed_items (items_view c.args.items.now)))
    (map section_view c.args.sections.now)) c.loop-section-test.false c.loop-section.invariant
