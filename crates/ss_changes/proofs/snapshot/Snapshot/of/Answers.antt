use Rattle.std.proofs.Common.{subst}
use Rattle.ss_machine.specs.Moment.{Moment}
use Rattle.ss_changes.specs.Snapshots.{IsTakenIn}
use Rattle.ss_changes.proofs.Across.{taken_here}
use Rattle.ss_changes.proofs.snapshot.Snapshot.of.Goals as goal

pub returns-clause-taken : goal.returns-clause-taken
returns-clause-taken g c =
    subst (λ (x : Moment). IsTakenIn x.input c.in_ok-left.left) c.machine-machine.ensures
    (taken_here c.machine-machine.result.now c.in_ok-left.left c.known.ensures.state c.in_ok-left.ensures)
