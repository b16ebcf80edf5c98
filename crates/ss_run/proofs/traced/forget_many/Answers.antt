use Rattle.std.proofs.Common.{ap}
use Rattle.ss_debug.specs.Turn.{debugger_state_after}
use Rattle.ss_debug.specs.AfterRefusal.{IsStateAfterRefusal}
use Rattle.ss_run.proofs.traced.forget_many.Goals as goal

pub returns-in_err-obey-clause-position : goal.returns-in_err-obey-clause-position
unfolding IsStateAfterRefusal
returns-in_err-obey-clause-position g c = ap (λ d. d.position) c.in_err-obey.ensures.memory.1

pub returns-clause-position : goal.returns-clause-position
unfolding debugger_state_after
returns-clause-position g c = ap (λ d. d.position) c.in_ok-obey.ensures.place
