use Rattle.std.proofs.Common.{refl}
use Rattle.ss_inspect.proofs.TextSequences.{text_more}
use Rattle.ss_scopes.specs.Sets.{class_item}
use Rattle.ss_scopes.proofs.sets.push_classes.Goals as goal

pub loop-class-preserved : goal.loop-class-preserved
loop-class-preserved g c =
    let m = c.args.machine.now in
    text_more (class_item m.input.program m.state.store)
    c.loop-class.class _ c.args.out.now.items c.loop-class.out.items _ refl c.loop-class.invariant
    c.in_ok-push_class_item.ensures
