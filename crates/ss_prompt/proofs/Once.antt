-- The state of a debugger if memory was refused in TBREAK.
use Rattle.std.proofs.Common.{◌≡◌, ℕ, Bool, inl, inr, subst}
use Rattle.ss_debug.specs.AfterRefusal.{IsStateAfterRefusal}
use Rattle.ss_prompt.specs.Once.{run_on, after_run, once_stop, once_set, was_taken, IsRunRefused, IsOnceRefused}
use Rattle.ss_prompt.specs.PromptState.{PromptState, IsSameBeside}
use Rattle.ss_prompt.specs.Stops.{IsStopRefused}
use Rattle.ss_prompt.proofs.StopRefusals.{beside}

-- ---- after BREAK

-- for RUN
pub in_run : (s after : PromptState) (line : ℕ) (was : Bool) → IsSameBeside s after →
    IsStateAfterRefusal s.input s.debugger run_on after.debugger → IsRunRefused s line was after
unfolding IsRunRefused
in_run s after line was b h = (b, inl h)

-- for CLEAR
pub in_clear : (s after : PromptState) (line : ℕ) (was : Bool) → IsSameBeside s after → after.debugger ≡ after_run s →
    IsRunRefused s line was after
unfolding IsRunRefused
in_clear s after line was b e = (b, inr (inl e))

-- for the text at the stop
pub at_stop : (s next after : PromptState) (line : ℕ) (was : Bool) → next ≡ once_stop s line was →
    IsStopRefused next after → IsRunRefused s line was after
unfolding IsRunRefused
at_stop s next after line was e h =
    let there : IsStopRefused (once_stop s line was) after = subst (λ (x : PromptState). IsStopRefused x after) e h in
    (beside (once_stop s line was) after there, inr (inr there))

-- in one of these places
pub ruleset runs = (in_run, in_clear, at_stop)

-- ---- TBREAK

-- before BREAK, or for it
pub in_set : (s after : PromptState) (line : ℕ) → IsSameBeside s after → after.debugger ≡ s.debugger →
    IsOnceRefused s line after
unfolding IsOnceRefused
in_set s after line b e = (b, inl e)

-- after BREAK
pub after_set : (s after : PromptState) (line : ℕ) → IsSameBeside s after →
    after.debugger ≡ (once_set s line).debugger → IsOnceRefused s line after
unfolding IsOnceRefused
after_set s after line b e = (b, inr (inl e))

-- after BREAK took the line
pub taken_set : (s next after : PromptState) (line : ℕ) (was : Bool) → next ≡ once_set s line →
    was ≡ was_taken s line → IsRunRefused next line was after → IsOnceRefused s line after
unfolding IsOnceRefused IsRunRefused
taken_set s next after line was e f h =
    let there : IsRunRefused (once_set s line) line was after =
    subst (λ (x : PromptState). IsRunRefused x line was after) e h in
    (there.0, inr (inr (subst (λ (x : Bool). IsRunRefused (once_set s line) line x after) f there)))

-- in one of these places
pub ruleset refusals = (in_set, after_set, taken_set)
