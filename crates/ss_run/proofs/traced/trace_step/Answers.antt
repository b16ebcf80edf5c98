use Rattle.ss_machine.specs.Moment.{HasMoved}
use Rattle.ss_run.proofs.Traces.{step_traced}
use Rattle.ss_run.proofs.traced.trace_step.Goals as goal

pub returns-in_ok-trace_change-clause-rows : goal.returns-in_ok-trace_change-clause-rows
returns-in_ok-trace_change-clause-rows g c =
    let m : HasMoved c.args.debugger.now.machine c.step_forward.new.self.machine =
    rw c.in-Moved.is at c.in_ok-stepped.ensures.ok in
    let rows = c.in_ok-trace_change.ensures.rows in
    step_traced _ _ _ _ _ _ _ _ m.input c.read_here-here.ensures.position m.position rows.0 rows.1
