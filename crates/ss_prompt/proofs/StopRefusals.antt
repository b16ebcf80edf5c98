-- The state of a debugger if memory was refused at a stop.
use Rattle.std.proofs.Common.{◌≡◌, inl, inr, subst, ap}
use Rattle.ss_debug.specs.AfterRefusal.{IsStateAfterRefusal}
use Rattle.ss_debug.specs.declared.commands.Command.{Command}
use Rattle.ss_debug.specs.declared.commands.Command.TheVariants as plain
use Rattle.ss_debug.specs.declared.commands.Command.TheVariants.{Move}
use Rattle.ss_debug.specs.declared.commands.Movement.{Movement as PlainMovement}
use Rattle.ss_trace.specs.declared.movement.Movement.{Movement}
use Rattle.ss_trace.specs.Turn as trace
use Rattle.ss_prompt.specs.Histories.{HasLookedBack}
use Rattle.ss_prompt.specs.Past.{HasSearchedPast}
use Rattle.ss_prompt.specs.Plain.{plain_next, IsPlainRefused}
use Rattle.ss_prompt.specs.PromptState.{PromptState, IsSameBeside}
use Rattle.ss_prompt.specs.Stops.{HasLookedBeside, IsStopRefused}
use Rattle.ss_prompt.specs.Travel.{travel_next, IsTravelRefused}

-- it stays in its state
pub at_place : (s after : PromptState) → after ≡ s → IsStopRefused s after
unfolding IsStopRefused HasSearchedPast
at_place s after e = inr (inl e)

-- the history was searched
pub by_past : (s after : PromptState) → HasSearchedPast s after → IsStopRefused s after
unfolding IsStopRefused
by_past s after h = inr h

-- a state next to it was looked at, after the search
pub by_changes : (s next after : PromptState) → next ≡ s → HasLookedBeside next after → IsStopRefused s after
unfolding IsStopRefused
by_changes s next after e h = inl (subst (λ (x : PromptState). HasLookedBeside x after) e h)

-- at a stop
pub ruleset stops = (at_place, by_past, by_changes)

same : (s after : PromptState) → after ≡ s → IsSameBeside s after
same s after e = (
  ap (λ (v : PromptState). v.model) e,
  ap (λ (v : PromptState). v.lines) e,
  ap (λ (v : PromptState). v.input) e,
  ap (λ (v : PromptState). v.displays) e,
  ap (λ (v : PromptState). v.listed) e,
  ap (λ (v : PromptState). v.data_text) e,
  ap (λ (v : PromptState). v.symbols) e,
  ap (λ (v : PromptState). v.left) e,
)

-- all but the debugger is the same
pub beside : (s after : PromptState) → IsStopRefused s after → IsSameBeside s after
unfolding IsStopRefused HasSearchedPast HasLookedBeside HasLookedBack
beside s after (inl h) = h.0
beside s after (inr (inl e)) = same s after e
beside s after (inr (inr h)) = h.1.0

-- after a movement of docs/DEBUGGER.md
pub behind_plain : (s next after : PromptState) (m : PlainMovement) → next ≡ plain_next s (Move m)
    → IsStopRefused next after → IsPlainRefused s (Move m) after
unfolding IsPlainRefused
behind_plain s next after m e h =
    let there : IsStopRefused (plain_next s (Move m)) after = subst (λ (x : PromptState). IsStopRefused x after) e h in
    (beside (plain_next s (Move m)) after there, inr (inr there))

-- after another movement
pub behind_travel : (s next after : PromptState) (m : Movement) → next ≡ travel_next s m → IsStopRefused next after
    → IsTravelRefused s m after
unfolding IsTravelRefused
behind_travel s next after m e h =
    let there : IsStopRefused (travel_next s m) after = subst (λ (x : PromptState). IsStopRefused x after) e h in
    (beside (travel_next s m) after there, inr (inr there))

-- a command of docs/DEBUGGER.md was made in part or whole
pub partly_plain : (s after : PromptState) (command : Command) → IsSameBeside s after
    → IsStateAfterRefusal s.input s.debugger command after.debugger → IsPlainRefused s command after
unfolding IsPlainRefused
partly_plain s after plain.Blank b h = (b, h)
partly_plain s after plain.Bad b h = (b, h)
partly_plain s after (plain.Move movement) b h = (b, inr (inl h))
partly_plain s after (plain.Break line) b h = (b, h)
partly_plain s after (plain.Clear line) b h = (b, h)
partly_plain s after (plain.Forget count) b h = (b, h)
partly_plain s after (plain.Show question) b h = (b, h)
partly_plain s after plain.Quit b h = (b, h)

-- another movement was
pub partly_travel : (s after : PromptState) (m : Movement) → IsSameBeside s after
    → trace.IsStateAfterRefusal s.input s.debugger m after.debugger → IsTravelRefused s m after
unfolding IsTravelRefused
partly_travel s after m b h = (b, inr (inl h))

-- it was not made
pub unmoved_plain : (s after : PromptState) (m : PlainMovement) → after ≡ s → IsPlainRefused s (Move m) after
unfolding IsPlainRefused
unmoved_plain s after m e = (same s after e, inl (ap (λ (v : PromptState). v.debugger) e))

pub unmoved_travel : (s after : PromptState) (m : Movement) → after ≡ s → IsTravelRefused s m after
unfolding IsTravelRefused
unmoved_travel s after m e = (same s after e, inl (ap (λ (v : PromptState). v.debugger) e))

-- after movements
pub ruleset movements = (
  partly_plain,
  partly_travel,
  behind_plain,
  behind_travel,
  unmoved_plain,
  unmoved_travel,
)
