-- The text at the stop of a movement.
use Rattle.std.specs.Prelude.{ℕ, ◌≡◌, ◌⊎◌, ◌+◌, ◌≤◌, Bool, true, false, nat_lt, List, ◌++◌}
use Rattle.ss_debug.specs.declared.commands.Movement.{Movement as PlainMovement}
use Rattle.ss_debug.specs.declared.commands.Movement.TheVariants.{RunTo, Next, Back, BackEvent, BackBreak}
use Rattle.ss_debug.specs.Turn.{debugger_state_at}
use Rattle.ss_trace.specs.declared.movement.Movement.{Movement}
use Rattle.ss_trace.specs.declared.movement.Movement.TheVariants.{Over, Out, BackOver, BackOut, BackTo, BackChange, Go}
use Rattle.ss_changes.specs.Texts.{stop_changes, stop_changes_ahead, stop_changes_since}
use Rattle.ss_prompt.specs.Past.{past_told, HasSearchedPast}
use Rattle.ss_prompt.specs.PromptState.{PromptState, IsSameBeside, source_line, fault_told, answers_to}

-- whether a movement of docs/DEBUGGER.md goes back
abbrev pub goes_back : PlainMovement → Bool
goes_back (Back n) = true
goes_back BackEvent = true
goes_back BackBreak = true
goes_back _ = false

-- whether a movement that is none of docs/DEBUGGER.md goes back from position p
abbrev pub travels_back : Movement → ℕ → Bool
travels_back (BackOver n) p = true
travels_back BackOut p = true
travels_back (BackTo time) p = true
travels_back (BackChange x) p = true
travels_back (Go q) p = nat_lt q p
travels_back _ p = false

-- whether a movement of docs/DEBUGGER.md is made as one: what it changed is shown as a whole
abbrev pub is_whole : PlainMovement → Bool
is_whole (RunTo time) = true
is_whole Next = true
is_whole BackEvent = true
is_whole _ = false

-- whether a movement that is none of docs/DEBUGGER.md is
abbrev pub travels_whole : Movement → Bool
travels_whole (Over n) = true
travels_whole Out = true
travels_whole (BackOver n) = true
travels_whole BackOut = true
travels_whole (BackTo time) = true
travels_whole _ = false

-- the changes of the last step; if a movement went back, the changes of the next one
abbrev pub changes_told : Bool → PromptState → List ℕ
changes_told false state = stop_changes state.input state.debugger.earliest state.debugger.position
changes_told true state = stop_changes_ahead state.input state.debugger.position

-- the text at a stop before the changes: the meaning of the fault, if there is one, and the text of
-- the history on it; the line of the model
abbrev pub head_text : PromptState → List ℕ
head_text state =
    fault_told state.data_text state.input state.debugger.position ++ past_told state ++ source_line state

-- the text at a stop with these lines on changes: what comes before them, those lines, the answers to
-- the questions of each stop
abbrev pub text_with : List ℕ → PromptState → List ℕ
text_with changes state =
    head_text state ++ changes
    ++ answers_to state.symbols state.input state.debugger.position state.displays

-- the text at the stop of a movement, which went back or not, with the changes of one step
abbrev pub stop_text : Bool → PromptState → List ℕ
stop_text is_back state = text_with (changes_told is_back state) state

-- the text at the stop of a movement from state p, with all that differs
abbrev pub leg_text : ℕ → PromptState → List ℕ
leg_text p state = text_with (stop_changes_since state.input p state.debugger.position) state

-- if memory was refused for the changes, the debugger is at its position, or one step away
unfoldable pub HasLookedBeside : PromptState → PromptState → Type 0
HasLookedBeside state after =
    IsSameBeside state after × (after.debugger ≡ debugger_state_at state.debugger after.debugger.position)
    × (state.debugger.position ≤ after.debugger.position + 1) × (after.debugger.position ≤ state.debugger.position + 1)

-- if memory was refused for the text at a stop: for the changes, or for the text of the history
unfoldable pub IsStopRefused : PromptState → PromptState → Type 0
IsStopRefused state after = HasLookedBeside state after ⊎ HasSearchedPast state after
