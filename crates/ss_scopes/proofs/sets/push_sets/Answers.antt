use Rattle.std.proofs.Common.{refl}
use Rattle.ss_inspect.proofs.TextSequences.{text_more}
use Rattle.ss_scopes.specs.Sets.{set_item}
use Rattle.ss_scopes.proofs.sets.push_sets.Goals as goal

pub loop-set-preserved : goal.loop-set-preserved
loop-set-preserved g c =
    let m = c.args.machine.now in
    text_more (set_item m.input.program m.state.store)
    c.loop-set.set _ c.args.out.now.items c.loop-set.out.items _ refl c.loop-set.invariant
    c.in_ok-push_set_item.ensures
