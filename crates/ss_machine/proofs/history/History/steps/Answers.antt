use Rattle.std.proofs.Common.{sym, ◌∙◌}
use Rattle.ss_machine.proofs.Histories.{length-steps}
use Rattle.ss_machine.proofs.history.History.steps.Goals as goal

pub returns : goal.returns
returns c = rw (← c.self.view_is) (c.steps.ensures ∙ sym (length-steps _ _ c.self.invariant.1))
