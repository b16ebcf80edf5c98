use Rattle.ss_machine.proofs.Rooms.{control_room, timing_room}
use Rattle.ss_machine.proofs.executor.Executor.room_of_targets.Goals as goal

pub returns-in-Control : goal.returns-in-Control
returns-in-Control g c =
    rw c.in-Control.is (control_room c.args.program.now c.args.self.now.held.state c.known.ensures)

pub returns-in-Timing : goal.returns-in-Timing
returns-in-Timing g c =
    rw c.in-Timing.is
    (timing_room c.args.program.now c.args.self.now.held.state c.args.ways _ c.known.ensures
    (rw c.in-Timing.is at c.requires.timed))
