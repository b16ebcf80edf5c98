use Rattle.std.proofs.Common.{refl, w64, to_z, of_z}
use Rattle.ss_store.specs.Store.{number_of}
use Rattle.ss_trace.specs.EntityNumbers.{set_numbers}
use Rattle.ss_trace.proofs.SameNumbers.{numbers_more}
use Rattle.ss_trace.proofs.entity_numbers.push_sets.Goals as goal

pub loop-set-preserved : goal.loop-set-preserved
loop-set-preserved g c =
    let m = c.args.machine.now in
    numbers_more
    (set_numbers m.input.program m.state.store c.args.class (number_of (to_z w64 (of_z w64 c.args.x))))
    c.loop-set.set _ c.args.numbers.now.items c.loop-set.numbers.items _ refl c.loop-set.invariant
    c.in_ok-push_set.ensures
