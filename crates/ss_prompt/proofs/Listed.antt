-- The state of the prompt when the line after which LIST goes on and the position that was left are noted.
use Rattle.std.proofs.Common.{◌≡◌, ℕ, Option, ap, ◌∙◌}
use Rattle.ss_debug.specs.View.{DebuggerView}
use Rattle.ss_prompt.specs.PromptState.{PromptState, PromptDeskView, state_at, noting, leaving, with_listed, with_left}

-- a desk that led to a state notes a line and a position
pub noted : (d : DebuggerView) (k l m : PromptDeskView) (to : PromptState) (x y p q : Option ℕ) → state_at d k ≡ to →
    l ≡ noting k x → x ≡ y → m ≡ leaving l p → p ≡ q → state_at d m ≡ with_left (with_listed to y) q
noted d k l m to x y p q e f g h i =
    ap (λ (v : PromptDeskView). state_at d v) (h ∙ ap (λ (v : PromptDeskView). leaving v p) f)
    ∙ ap (λ (v : PromptState). with_left (with_listed v x) p) e
    ∙ ap (λ (v : Option ℕ). with_left (with_listed to v) p) g
    ∙ ap (λ (v : Option ℕ). with_left (with_listed to y) v) i
