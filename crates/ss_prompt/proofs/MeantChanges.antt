-- RUN CHANGE and BACK CHANGE of a text: what they leave as it is, and refusals.
use Rattle.std.proofs.Common.{◌≡◌, ℕ, Bool, true, false, List, Option, Some, None, inl, inr, refl, subst}
use Rattle.ss_trace.specs.Turn.{IsAfterRefusedShape}
use Rattle.ss_expressions.specs.Meanings.{Meaning, Meant, meant, refused}
use Rattle.ss_prompt.specs.Meant.{change_shape, change_next, IsChangeRefused, change_led, display_led, undisplay_led}
use Rattle.ss_prompt.specs.Meant.{meant_next, meaning_in}
use Rattle.ss_prompt.specs.PromptState.{PromptState, IsSameBeside}
use Rattle.ss_prompt.specs.Stops.{IsStopRefused}
use Rattle.ss_prompt.specs.declared.manner.Manner.{Manner}
use Rattle.ss_prompt.specs.declared.manner.Manner.TheVariants.{Why, History, RunChange, BackChange, Display}
use Rattle.ss_prompt.specs.declared.manner.Manner.TheVariants.{Undisplay}
use Rattle.ss_prompt.proofs.StopRefusals.{beside}

-- ---- refusals of memory

-- the movement was made in part or whole
pub partly_changed : (s after : PromptState) (back : Bool) (m : Meaning) → IsSameBeside s after
    → IsAfterRefusedShape s.input s.debugger (change_shape s back m) after.debugger → IsChangeRefused s back m after
unfolding IsChangeRefused
partly_changed s after back m b h = (b, inl h)

-- the text at its stop was refused
pub behind_change : (s next after : PromptState) (back : Bool) (m : Meaning) → next ≡ change_next s back m
    → IsStopRefused next after → IsChangeRefused s back m after
unfolding IsChangeRefused
behind_change s next after back m e h =
    let there : IsStopRefused (change_next s back m) after = subst (λ (x : PromptState). IsStopRefused x after) e h in
    (beside (change_next s back m) after there, inr there)

-- for a movement
pub ruleset changing = (partly_changed, behind_change)

-- ---- the break lines

change_breaks : (s : PromptState) (back : Bool) (o : Option Meant) →
    (change_led s back o).debugger.breaks ≡ s.debugger.breaks
change_breaks s back None = refl
change_breaks s true (Some (meant m)) = refl
change_breaks s false (Some (meant m)) = refl
change_breaks s back (Some (refused answer)) = refl

displayed_breaks : (s : PromptState) (text : List ℕ) (o : Option Meant) →
    (display_led s text o).debugger.breaks ≡ s.debugger.breaks
displayed_breaks s text None = refl
displayed_breaks s text (Some (meant m)) = refl
displayed_breaks s text (Some (refused answer)) = refl

undisplayed_breaks : (s : PromptState) (text : List ℕ) (o : Option Meant) →
    (undisplay_led s text o).debugger.breaks ≡ s.debugger.breaks
undisplayed_breaks s text None = refl
undisplayed_breaks s text (Some (meant m)) = refl
undisplayed_breaks s text (Some (refused answer)) = refl

-- a command on what a text asks leaves the break lines
pub meant_breaks : (s : PromptState) (manner : Manner) (text : List ℕ) →
    (meant_next s manner text).debugger.breaks ≡ s.debugger.breaks
meant_breaks s Why text = refl
meant_breaks s History text = refl
meant_breaks s RunChange text = change_breaks s false (meaning_in s text)
meant_breaks s BackChange text = change_breaks s true (meaning_in s text)
meant_breaks s Display text = displayed_breaks s text (meaning_in s text)
meant_breaks s Undisplay text = undisplayed_breaks s text (meaning_in s text)

-- ---- the position

-- DISPLAY and UNDISPLAY leave it
pub displayed_position : (s : PromptState) (text : List ℕ) (o : Option Meant) →
    (display_led s text o).debugger.position ≡ s.debugger.position
displayed_position s text None = refl
displayed_position s text (Some (meant m)) = refl
displayed_position s text (Some (refused answer)) = refl

pub undisplayed_position : (s : PromptState) (text : List ℕ) (o : Option Meant) →
    (undisplay_led s text o).debugger.position ≡ s.debugger.position
undisplayed_position s text None = refl
undisplayed_position s text (Some (meant m)) = refl
undisplayed_position s text (Some (refused answer)) = refl
