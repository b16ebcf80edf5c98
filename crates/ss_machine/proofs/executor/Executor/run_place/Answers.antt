use Rattle.std.proofs.Common.{arith}
use Rattle.ss_machine.proofs.Scopes.{walks_here}
use Rattle.ss_machine.proofs.executor.Executor.run_place.Goals as goal

pub run_assign-requires-clause-sound : goal.run_assign-requires-clause-sound
run_assign-requires-clause-sound g c = rw c.in-Assign.is at c.requires.sound

pub run_assign-requires-clause-room : goal.run_assign-requires-clause-room
run_assign-requires-clause-room g c = omega (arith, rw c.in-Assign.is at c.requires.room)

pub returns-in-Assign-clause-state : goal.returns-in-Assign-clause-state
returns-in-Assign-clause-state g c = rw (c.in-Assign.is, ← c.requires.tables) c.run_assign.ensures.state

pub returns-in-Assign-clause-notes : goal.returns-in-Assign-clause-notes
returns-in-Assign-clause-notes g c = rw c.in-Assign.is c.run_assign.ensures.notes

pub run_making-requires-clause-sound : goal.run_making-requires-clause-sound
run_making-requires-clause-sound g c = rw c.value.ensures (rw c.in-Making.is at c.requires.sound)

pub run_making-requires-clause-room : goal.run_making-requires-clause-room
run_making-requires-clause-room g c = omega (arith, rw c.in-Making.is at c.requires.room)

pub returns-in-Making-clause-state : goal.returns-in-Making-clause-state
returns-in-Making-clause-state g c =
    rw (c.in-Making.is, ← c.requires.tables) (rw c.value.ensures at c.run_making.ensures.state)

pub returns-in-Making-clause-notes : goal.returns-in-Making-clause-notes
returns-in-Making-clause-notes g c = rw c.in-Making.is c.run_making.ensures.notes

pub run_filing-requires-clause-sound : goal.run_filing-requires-clause-sound
run_filing-requires-clause-sound g c = rw c.value-in-Filing.ensures (rw c.in-Filing.is at c.requires.sound)

pub run_filing-requires-clause-room : goal.run_filing-requires-clause-room
run_filing-requires-clause-room g c = omega (arith, rw c.in-Filing.is at c.requires.room)

pub returns-in-Filing-clause-state : goal.returns-in-Filing-clause-state
returns-in-Filing-clause-state g c =
    rw (c.in-Filing.is, ← c.requires.tables) (rw c.value-in-Filing.ensures at c.run_filing.ensures.state)

pub returns-in-Filing-clause-notes : goal.returns-in-Filing-clause-notes
returns-in-Filing-clause-notes g c = rw c.in-Filing.is c.run_filing.ensures.notes

pub run_output-requires-clause-sound : goal.run_output-requires-clause-sound
run_output-requires-clause-sound g c = rw c.value-in-Output.ensures (rw c.in-Output.is at c.requires.sound)

pub run_output-requires-clause-room : goal.run_output-requires-clause-room
run_output-requires-clause-room g c = omega (arith, rw c.in-Output.is at c.requires.room)

pub returns-in-Output-clause-state : goal.returns-in-Output-clause-state
returns-in-Output-clause-state g c =
    rw (c.in-Output.is, ← c.requires.tables) (rw c.value-in-Output.ensures at c.run_output.ensures.state)

pub returns-in-Output-clause-notes : goal.returns-in-Output-clause-notes
returns-in-Output-clause-notes g c = rw c.in-Output.is c.run_output.ensures.notes

pub run_control-requires-clause-room : goal.run_control-requires-clause-room
run_control-requires-clause-room g c = omega (arith, rw c.in-Control.is at c.requires.room)

pub returns-in-Control-clause-state : goal.returns-in-Control-clause-state
returns-in-Control-clause-state g c = rw c.in-Control.is c.run_control.ensures.state

pub returns-in-Control-clause-notes : goal.returns-in-Control-clause-notes
returns-in-Control-clause-notes g c = rw c.in-Control.is c.run_control.ensures.notes

pub run_branch-requires-clause-sound : goal.run_branch-requires-clause-sound
run_branch-requires-clause-sound g c = rw c.in-Branch.is at c.requires.sound

pub run_branch-requires-clause-room : goal.run_branch-requires-clause-room
run_branch-requires-clause-room g c = omega (arith, rw c.in-Branch.is at c.requires.room)

pub returns-in-Branch-clause-state : goal.returns-in-Branch-clause-state
returns-in-Branch-clause-state g c = rw (c.in-Branch.is, ← c.requires.tables) c.run_branch.ensures.state

pub returns-in-Branch-clause-notes : goal.returns-in-Branch-clause-notes
returns-in-Branch-clause-notes g c = rw c.in-Branch.is c.run_branch.ensures.notes

pub run_looping-requires-clause-sound : goal.run_looping-requires-clause-sound
run_looping-requires-clause-sound g c = rw c.in-Looping.is at c.requires.sound

pub run_looping-requires-clause-walks : goal.run_looping-requires-clause-walks
run_looping-requires-clause-walks g c =
    walks_here c.args.program.now c.args.self.now.held c.requires.well c.requires.tables

pub run_looping-requires-clause-room : goal.run_looping-requires-clause-room
run_looping-requires-clause-room g c = rw c.in-Looping.is at c.requires.room

pub returns-in-Looping-clause-state : goal.returns-in-Looping-clause-state
returns-in-Looping-clause-state g c = rw (c.in-Looping.is, ← c.requires.tables) c.run_looping.ensures.state

pub returns-in-Looping-clause-notes : goal.returns-in-Looping-clause-notes
returns-in-Looping-clause-notes g c = rw c.in-Looping.is c.run_looping.ensures.notes

pub run_call-requires-clause-sound : goal.run_call-requires-clause-sound
run_call-requires-clause-sound g c = rw c.value-in-Call.ensures ((rw c.in-Call.is at c.requires.sound).0)

pub run_call-requires-clause-room : goal.run_call-requires-clause-room
run_call-requires-clause-room g c = omega (arith, rw c.in-Call.is at c.requires.room)

pub returns-in-Call-clause-state : goal.returns-in-Call-clause-state
returns-in-Call-clause-state g c = rw c.in-Call.is (rw c.value-in-Call.ensures at c.run_call.ensures.state)

pub returns-in-Call-clause-notes : goal.returns-in-Call-clause-notes
returns-in-Call-clause-notes g c = rw c.in-Call.is c.run_call.ensures.notes

pub run_timing-requires-clause-sound : goal.run_timing-requires-clause-sound
run_timing-requires-clause-sound g c = rw c.value-in-Timing.ensures (rw c.in-Timing.is at c.requires.sound)

pub run_timing-requires-clause-room : goal.run_timing-requires-clause-room
run_timing-requires-clause-room g c = rw c.value-in-Timing.ensures (rw c.in-Timing.is at c.requires.room)

pub returns-in-Timing-clause-state : goal.returns-in-Timing-clause-state
returns-in-Timing-clause-state g c = rw c.in-Timing.is (rw c.value-in-Timing.ensures at c.run_timing.ensures.state)

pub returns-in-Timing-clause-notes : goal.returns-in-Timing-clause-notes
returns-in-Timing-clause-notes g c = rw c.in-Timing.is (rw c.value-in-Timing.ensures at c.run_timing.ensures.notes)

pub read-requires-clause-sound : goal.read-requires-clause-sound
read-requires-clause-sound g c = rw c.in-Read.is at c.requires.sound

pub read-requires-clause-room : goal.read-requires-clause-room
read-requires-clause-room g c = omega (arith, rw c.in-Read.is at c.requires.room)

pub returns-in-Read-clause-state : goal.returns-in-Read-clause-state
returns-in-Read-clause-state g c = rw c.in-Read.is c.read.ensures.state

pub returns-in-Read-clause-notes : goal.returns-in-Read-clause-notes
returns-in-Read-clause-notes g c = rw c.in-Read.is c.read.ensures.notes
