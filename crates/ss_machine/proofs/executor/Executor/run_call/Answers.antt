use Rattle.std.proofs.Common.{arith}
use Rattle.ss_values.specs.Seen.{view_readings}
use Rattle.ss_state.proofs.ValueCounts.{values_length}
use Rattle.ss_state.proofs.Sounds.{called_there, called_few}
use Rattle.ss_machine.proofs.executor.Executor.run_call.Goals as goal

pub open_frame-requires-clause-section : goal.open_frame-requires-clause-section
open_frame-requires-clause-section g c = called_there c.args.program.now.sections c.args.call.now c.requires.called

pub open_frame-requires-clause-few : goal.open_frame-requires-clause-few
open_frame-requires-clause-few g c =
    omega (
      arith,
      values_length (view_readings c.view.result) c.args.call.now.given c.values.new.values.items c.in-Ok.ensures.ok,
      called_few c.args.program.now c.args.call.now c.known.ensures c.requires.called,
    )
