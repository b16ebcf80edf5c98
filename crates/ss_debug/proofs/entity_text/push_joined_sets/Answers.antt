use Rattle.std.proofs.Common.{refl, w64, to_z, of_z}
use Rattle.ss_store.specs.Store.{number_of}
use Rattle.ss_debug.specs.Entities.{joined_set_lines}
use Rattle.ss_debug.proofs.Tables.{line_more}
use Rattle.ss_debug.proofs.entity_text.push_joined_sets.Goals as goal

pub loop-set-preserved : goal.loop-set-preserved
loop-set-preserved g c =
    let m = c.args.machine.now in
    line_more
    (joined_set_lines m.input.program m.state.store c.args.class (number_of (to_z w64 (of_z w64 c.args.x))))
    c.loop-set.set _ c.args.text.now.items c.loop-set.text.items _ refl c.loop-set.invariant
    c.in_ok-push_joined_set.ensures.ok
