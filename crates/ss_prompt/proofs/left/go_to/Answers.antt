use Rattle.std.proofs.Common.{◌≤◌, arith}
use Rattle.ss_machine.specs.Moment.{position}
use Rattle.ss_state.specs.declared.limits.TheConstants.{LAST_POSITION}
use Rattle.ss_debug.specs.View.{debugger_state_of}
use Rattle.ss_prompt.proofs.Ways.{gone}
use Rattle.ss_prompt.proofs.left.go_to.Goals as goal

pub returns-clause-way : goal.returns-clause-way
returns-clause-way g c =
    let d = c.args.debugger.now in
    let within : position d.machine ≤ LAST_POSITION = rw c.machine.ensures at c.known.ensures.within in
    gone _ c.make_movement.result d.machine.input (debugger_state_of d) (debugger_state_of c.make_movement.new.debugger)
    c.args.to (omega arith) within c.make_movement.ensures.place c.make_movement.ensures.memory

pub returns-in_err-make_movement-clause-way : goal.returns-in_err-make_movement-clause-way
returns-in_err-make_movement-clause-way g c =
    let d = c.args.debugger.now in
    let within : position d.machine ≤ LAST_POSITION = rw c.machine.ensures at c.known.ensures.within in
    gone _ c.make_movement.result d.machine.input (debugger_state_of d) (debugger_state_of c.make_movement.new.debugger)
    c.args.to (omega arith) within c.make_movement.ensures.place c.make_movement.ensures.memory
