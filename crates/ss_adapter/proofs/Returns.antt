-- A debugger that goes to a position, and a question that is the only one.
use Rattle.std.proofs.Common.{◌≡◌, ℕ, List, [], ◌∷◌, length, refl, sym, ap, ◌∙◌, Some}
use Rattle.ss_machine.specs.Moment.{position}
use Rattle.ss_state.specs.Run.{Input}
use Rattle.ss_debug.specs.Turn.{DebuggerState, debugger_state_at}
use Rattle.ss_debug.specs.View.{DebuggerView, debugger_state_of}
use Rattle.ss_adapter.specs.declared.reach.Way.{Way}
use Rattle.ss_adapter.specs.Reach.{nearest_place}

-- the debugger is at the position to which it was to go, if its position says so
pub stands_at : (d : DebuggerView) (old : DebuggerState) (e to : ℕ) → debugger_state_of d ≡ debugger_state_at old e →
    position d.machine ≡ to → debugger_state_of d ≡ debugger_state_at old to
stands_at d old e to h p = h ∙ ap (λ q. debugger_state_at old q) (sym (ap (λ s. s.position) h) ∙ p)

-- the nearest of one is that one
pub alone : (t : Input) (d : DebuggerState) (way : Way) (texts : List (List ℕ)) → length texts ≡ 1 →
    Some 0 ≡ nearest_place t d way texts
unfolding nearest_place
alone t d way [] e = absurd (cc)
alone t d way (text ∷ []) e = refl
alone t d way (text ∷ other ∷ texts) e = absurd (cc)
