-- Movements to a state in which a condition holds: what they leave as it is, and refusals.
use Rattle.std.proofs.Common.{◌≡◌, ℕ, Bool, List, Option, Some, None, inl, inr, refl, subst}
use Rattle.ss_expressions.specs.Aims.{Aim, Aimed, aimed, refused}
use Rattle.ss_prompt.specs.PromptState.{PromptState, IsSameBeside}
use Rattle.ss_prompt.specs.Stops.{IsStopRefused}
use Rattle.ss_prompt.specs.Until.{holds_at, IsSeekCut, seek_next, IsSeekRefused, until_led, aim_by, IsAimRefused}
use Rattle.ss_prompt.specs.Until.{IsUntilRefused}
use Rattle.ss_prompt.specs.declared.until.Until.{Until}
use Rattle.ss_prompt.specs.declared.until.Until.TheVariants.{Run, Back, First}
use Rattle.ss_prompt.proofs.StopRefusals.{beside}

-- ---- refusals of memory

-- the movement was made in part or whole
pub partly_seek : (s after : PromptState) (way : Until) (aim : Aim) → IsSameBeside s after
    → IsSeekCut way s.input s.debugger (holds_at s.input aim) after.debugger → IsSeekRefused s way aim after
unfolding IsSeekRefused
partly_seek s after way aim b h = (b, inl h)

-- the text at its stop was refused
pub behind_seek : (s next after : PromptState) (way : Until) (aim : Aim) → next ≡ seek_next s way aim
    → IsStopRefused next after → IsSeekRefused s way aim after
unfolding IsSeekRefused
behind_seek s next after way aim e h =
    let there : IsStopRefused (seek_next s way aim) after = subst (λ (x : PromptState). IsStopRefused x after) e h in
    (beside (seek_next s way aim) after there, inr there)

-- for a movement
pub ruleset seeking = (partly_seek, behind_seek)

-- before the movement
pub before_aim : (s after : PromptState) (way : Until) (text : List ℕ) → after ≡ s → IsUntilRefused s way text after
unfolding IsUntilRefused
before_aim s after way text e = inl e

-- for the movement
pub for_aim : (s after : PromptState) (way : Until) (text : List ℕ) (aim : Aim) →
    Some (aimed aim) ≡ aim_by s text s.symbols → IsSeekRefused s way aim after → IsUntilRefused s way text after
unfolding IsUntilRefused
for_aim s after way text aim e h = inr (subst (λ (o : Option Aimed). IsAimRefused s way o after) e h)

-- for the command
pub ruleset aiming = (before_aim, for_aim)

-- ---- the break lines

-- a movement leaves the break lines
pub seek_breaks : (s : PromptState) (way : Until) (aim : Aim) → (seek_next s way aim).debugger.breaks ≡ s.debugger.breaks
seek_breaks s Run aim = refl
seek_breaks s Back aim = refl
seek_breaks s First aim = refl

pub until_breaks : (s : PromptState) (way : Until) (o : Option Aimed) →
    (until_led s way o).debugger.breaks ≡ s.debugger.breaks
until_breaks s way None = refl
until_breaks s way (Some (aimed aim)) = seek_breaks s way aim
until_breaks s way (Some (refused answer)) = refl
