use Rattle.std.proofs.Common.{refl, w64, to_z, of_z}
use Rattle.ss_store.specs.Store.{number_of}
use Rattle.ss_debug.specs.Entities.{attribute_line}
use Rattle.ss_debug.proofs.Tables.{line_more}
use Rattle.ss_debug.proofs.entity_text.push_attributes.Goals as goal

pub loop-attribute-preserved : goal.loop-attribute-preserved
loop-attribute-preserved g c =
    let m = c.args.machine.now in
    line_more
    (attribute_line m.input.program m.state.store c.args.class (number_of (to_z w64 (of_z w64 c.args.x))))
    c.loop-attribute.attribute _ c.args.text.now.items c.loop-attribute.text.items _ refl c.loop-attribute.invariant
    c.in_ok-push_attribute.ensures.ok
