use Rattle.std.proofs.Common.{◌≡◌, ap, refl, true}
use Rattle.ss_state.specs.State.{is_faulted}
use Rattle.ss_machine.specs.Moment.{position}
use Rattle.ss_state.specs.Run.{run}
use Rattle.ss_debug.specs.Turn.{debugger_state_after}
use Rattle.ss_debug.specs.AfterRefusal.{IsStateAfterRefusal}
use Rattle.ss_run.proofs.Advances.{where_said}
use Rattle.ss_run.proofs.whole_run.end_of_run.Goals as goal

pub returns-in-Ok-clause-position : goal.returns-in-Ok-clause-position
unfolding debugger_state_after
returns-in-Ok-clause-position g c = ap (λ d. d.position) c.in-Ok.ensures.place

pub returns-in-Ok-clause-ok : goal.returns-in-Ok-clause-ok
returns-in-Ok-clause-ok g c =
    let k = rw c.machine.ensures at c.known.ensures.state in
    let s = rw c.machine-2.ensures at c.status.ensures in
    let m = c.args.debugger.now.machine in
    let faulted : is_faulted (run m.input (position m)).status ≡ true = rw (← k, ← s, c.in-Faulted.is) refl in
    (faulted, where_said c.args.debugger.now _ (rw c.new-line.ensures.items at c.in-Ok.ensures.said))

pub returns-in-Err-clause-position : goal.returns-in-Err-clause-position
unfolding IsStateAfterRefusal
returns-in-Err-clause-position g c = ap (λ d. d.position) c.in-Err.ensures.memory.1
