-- The state in which a refusal of memory leaves the debugger.
use Rattle.std.specs.Prelude.{ℕ, ◌≡◌, ◌≤◌}
use Rattle.ss_state.specs.Run.{Input}
use Rattle.ss_debug.specs.declared.commands.Command.{Command}
use Rattle.ss_debug.specs.declared.commands.Command.TheVariants.{Move}
use Rattle.ss_debug.specs.Move.{MovementShape, forward, back, search_back, shape_of}
use Rattle.ss_debug.specs.Turn.{DebuggerState, debugger_state_at, end_of}

-- a forward movement to q of which some steps were made: all but the position is as before
abbrev pub IsPartOfMovement : DebuggerState → ℕ → DebuggerState → Type 0
IsPartOfMovement old q new =
    (new ≡ debugger_state_at old new.position) × (old.position ≤ new.position) × (new.position ≤ q)

-- a movement forward was made in part, one back as a whole
abbrev pub IsStateAfterRefusedMovement : Input → DebuggerState → MovementShape → DebuggerState → Type 0
IsStateAfterRefusedMovement input old (forward condition n) new =
    IsPartOfMovement old (end_of input old (forward condition n)) new
IsStateAfterRefusedMovement input old (back n) new = new ≡ debugger_state_at old (end_of input old (back n))
IsStateAfterRefusedMovement input old (search_back test word) new =
    new ≡ debugger_state_at old (end_of input old (search_back test word))

-- any other command than a movement left the state as it was
unfoldable pub IsStateAfterRefusal : Input → DebuggerState → Command → DebuggerState → Type 0
IsStateAfterRefusal input old (Move m) new = IsStateAfterRefusedMovement input old (shape_of input old.breaks m) new
IsStateAfterRefusal input old _ new = new ≡ old
