use Rattle.std.proofs.Common.{refl, w64, to_z, of_z}
use Rattle.ss_store.specs.Store.{number_of}
use Rattle.ss_trace.specs.EntityNumbers.{attribute_numbers}
use Rattle.ss_trace.proofs.SameNumbers.{numbers_more}
use Rattle.ss_trace.proofs.entity_numbers.push_attributes.Goals as goal

pub loop-attribute-preserved : goal.loop-attribute-preserved
loop-attribute-preserved g c =
    let m = c.args.machine.now in
    numbers_more
    (attribute_numbers m.state.store c.args.class (number_of (to_z w64 (of_z w64 c.args.x))))
    c.loop-attribute.attribute _ c.args.numbers.now.items c.loop-attribute.numbers.items _ refl
    c.loop-attribute.invariant c.in_ok-push_attribute.ensures
