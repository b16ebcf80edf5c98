use Rattle.std.proofs.Common.{◌≤◌, length, rules}
use Rattle.ss_machine.proofs.Wells.{stands_in_bounds}
use Rattle.ss_machine.proofs.machine.Machine.frames.Goals as goal

pub overflow_add-result : goal.overflow_add-result
overflow_add-result g c =
    let few : length c.self.inside.executor.held.state.below ≤ 199 = (stands_in_bounds _ _ _ _ c.self.invariant).few in
    search rules
