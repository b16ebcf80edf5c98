use Rattle.std.proofs.Common.{refl, w64, to_z, of_z}
use Rattle.ss_store.specs.Store.{number_of}
use Rattle.ss_inspect.specs.Lists.{class_lists_with}
use Rattle.ss_inspect.proofs.TextSequences.{text_more}
use Rattle.ss_inspect.proofs.places.push_lists_with.Goals as goal

pub loop-set-preserved : goal.loop-set-preserved
loop-set-preserved g c =
    let m = c.args.machine.now in
    text_more (class_lists_with m.input.program m.state.store c.args.class (number_of (to_z w64 (of_z w64 c.args.x))))
    c.loop-set.set _ c.args.text.now.items c.loop-set.text.items _ refl c.loop-set.invariant c.in_ok-push_class_lists_with.ensures
