-- BACK CAUSE: the state of a debugger if memory was refused.
use Rattle.std.proofs.Common.{◌≡◌, subst}
use Rattle.ss_prompt.specs.Causes.{back_cause_next, IsBackCauseRefused}
use Rattle.ss_prompt.specs.PromptState.{PromptState}
use Rattle.ss_prompt.specs.Stops.{IsStopRefused}
use Rattle.ss_prompt.proofs.StopRefusals.{at_place}

-- it was made
pub caused : (s after : PromptState) → after ≡ back_cause_next s → IsBackCauseRefused s after
unfolding IsBackCauseRefused
caused s after e = at_place (back_cause_next s) after e

-- the text at its stop was refused
pub behind_cause : (s next after : PromptState) → next ≡ back_cause_next s → IsStopRefused next after →
    IsBackCauseRefused s after
unfolding IsBackCauseRefused
behind_cause s next after e h = subst (λ (x : PromptState). IsStopRefused x after) e h

-- for it
pub ruleset causing = (caused, behind_cause)
