use Rattle.std.proofs.Common.{arith}
use Rattle.ss_machine.proofs.Returns.{caller_well, caller_variables, caller_yield}
use Rattle.ss_machine.proofs.executor.Executor.run_return.Goals as goal

pub come_back-requires-clause-frame : goal.come_back-requires-clause-frame
come_back-requires-clause-frame g c = caller_well _ _ _ c.requires.well c.in_ok-drop_frame.ensures.state

pub come_back-requires-clause-variables : goal.come_back-requires-clause-variables
come_back-requires-clause-variables g c = caller_variables _ _ _ c.requires.well c.in_ok-drop_frame.ensures.state

pub come_back-requires-clause-room : goal.come_back-requires-clause-room
come_back-requires-clause-room g c =
    omega (
      arith,
      caller_yield c.args.program.now _ _ c.in_ok-drop_frame.ensures.state,
      c.drop_frame.ensures.notes.room,
      c.requires.room,
    )
