use Rattle.std.proofs.Common.{ap, ◌∙◌}
use Rattle.ss_state.specs.declared.status.Status.TheVariants.{Faulted}
use Rattle.ss_state.specs.Held.{Held}
use Rattle.ss_machine.proofs.Notings.{noted_anew}
use Rattle.ss_machine.proofs.executor.Executor.settle.Goals as goal

pub returns-in-Err-clause-state : goal.returns-in-Err-clause-state
returns-in-Err-clause-state g c =
    rw c.in-Err.is
    (c.mark.ensures.state
    ∙ ap (λ (h : Held). record h.state { status = Faulted c.in-Err.fault }) c.roll_back.ensures.held)

pub returns-in-Err-clause-notes : goal.returns-in-Err-clause-notes
returns-in-Err-clause-notes g c =
    noted_anew 1 c.args.self.now c.roll_back.new.self c.mark.new.self c.roll_back.ensures.held
    c.roll_back.ensures.steps c.roll_back.ensures.current c.roll_back.ensures.notes c.roll_back.ensures.closes
    c.mark.ensures.notes
