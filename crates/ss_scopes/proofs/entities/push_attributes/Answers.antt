use Rattle.std.proofs.Common.{refl}
use Rattle.ss_inspect.proofs.TextSequences.{text_more}
use Rattle.ss_scopes.specs.Entities.{attribute_item}
use Rattle.ss_scopes.proofs.entities.push_attributes.Goals as goal

pub loop-attribute-preserved : goal.loop-attribute-preserved
loop-attribute-preserved g c =
    let m = c.args.machine.now in
    text_more (attribute_item m.input.program m.state.store c.args.class c.args.number)
    c.loop-attribute.attribute _ c.args.out.now.items c.loop-attribute.out.items _ refl c.loop-attribute.invariant
    c.in_ok-push_attribute.ensures
