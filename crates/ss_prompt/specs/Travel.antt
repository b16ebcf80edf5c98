-- The movements that are none of docs/DEBUGGER.md.
use Rattle.std.specs.Prelude.{ℕ, ◌≡◌, ◌⊎◌, List, ◌++◌, if◌then◌else◌}
use Rattle.ss_trace.specs.declared.movement.Movement.{Movement}
use Rattle.ss_trace.specs.Turn.{answer, state_after, IsStateAfterRefusal}
use Rattle.ss_prompt.specs.PromptState.{PromptState, with_debugger, IsSameBeside}
use Rattle.ss_prompt.specs.Stops.{travels_back, travels_whole, stop_text, leg_text, IsStopRefused}

-- the state after a movement
abbrev pub travel_next : PromptState → Movement → PromptState
travel_next state movement = with_debugger state (state_after state.input state.debugger movement)

-- the text at its stop, with what the whole movement changed or with one step's changes
abbrev pub travel_stop : PromptState → Movement → List ℕ
travel_stop state movement =
    if travels_whole movement then leg_text state.debugger.position (travel_next state movement)
    else stop_text (travels_back movement state.debugger.position) (travel_next state movement)

-- the answer to a movement, and the text at its stop
abbrev pub travel_said : PromptState → Movement → List ℕ
travel_said state movement = answer state.input state.debugger movement ++ travel_stop state movement

-- if memory was refused, it was not made, or in part or whole, and perhaps the text at its stop was
-- refused
unfoldable pub IsTravelRefused : PromptState → Movement → PromptState → Type 0
IsTravelRefused state movement after =
    IsSameBeside state after
    × ((after.debugger ≡ state.debugger)
    ⊎ (IsStateAfterRefusal state.input state.debugger movement after.debugger
    ⊎ IsStopRefused (travel_next state movement) after))
