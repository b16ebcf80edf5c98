-- The commands of docs/DEBUGGER.md at the prompt.
use Rattle.std.specs.Prelude.{ℕ, ◌≡◌, ◌⊎◌, List, [], ◌++◌, if◌then◌else◌}
use Rattle.ss_debug.specs.declared.commands.Command.{Command}
use Rattle.ss_debug.specs.declared.commands.Command.TheVariants.{Move, Show}
use Rattle.ss_debug.specs.declared.commands.Movement.{Movement}
use Rattle.ss_debug.specs.declared.commands.Question.TheVariants.{Taken, Events}
use Rattle.ss_debug.specs.Turn.{answer, debugger_state_after}
use Rattle.ss_debug.specs.AfterRefusal.{IsStateAfterRefusal}
use Rattle.ss_prompt.specs.PromptState.{PromptState, with_debugger, IsSameBeside}
use Rattle.ss_prompt.specs.Rows.{notice_rows_text}
use Rattle.ss_prompt.specs.Taken.{next_said}
use Rattle.ss_prompt.specs.Stops.{goes_back, is_whole, stop_text, leg_text, IsStopRefused}

-- the state after a command
abbrev pub plain_next : PromptState → Command → PromptState
plain_next state command = with_debugger state (debugger_state_after state.input state.debugger command)

-- the rows of the pending notices in a state
abbrev pub notices_said : PromptState → List ℕ
notices_said state = notice_rows_text state.input state.debugger.position

-- the text at the stop of a movement, with what the whole movement changed or with one step's changes
abbrev pub move_stop : PromptState → Movement → List ℕ
move_stop state m =
    if is_whole m then leg_text state.debugger.position (plain_next state (Move m))
    else stop_text (goes_back m) (plain_next state (Move m))

-- the text after the answer to a command: at the stop of a movement, on the next pieces of the data
-- after SHOW TAKEN, and the rows of the notices after SHOW EVENTS
abbrev pub plain_stop : PromptState → Command → List ℕ
plain_stop state (Move m) = move_stop state m
plain_stop state (Show Taken) = next_said (plain_next state (Show Taken))
plain_stop state (Show Events) = notices_said (plain_next state (Show Events))
plain_stop state command = []

-- the answer to a command
abbrev pub plain_said : PromptState → Command → List ℕ
plain_said state command = answer state.input state.debugger command ++ plain_stop state command

-- if memory was refused: a movement was not made, or in part or whole, and then perhaps memory for
-- the text at its stop was refused; any other command left all as it was
unfoldable pub IsPlainRefused : PromptState → Command → PromptState → Type 0
IsPlainRefused state (Move m) after =
    IsSameBeside state after
    × ((after.debugger ≡ state.debugger)
    ⊎ (IsStateAfterRefusal state.input state.debugger (Move m) after.debugger
    ⊎ IsStopRefused (plain_next state (Move m)) after))
IsPlainRefused state command after =
    IsSameBeside state after × IsStateAfterRefusal state.input state.debugger command after.debugger
