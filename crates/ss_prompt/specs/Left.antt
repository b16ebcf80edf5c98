-- The state that the last movement left, and SHOW CHANGED.
use Rattle.std.specs.Prelude.{ℕ, ◌≡◌, ◌≤◌, min, max, Bool, false, List, Option, Some, None, if◌then◌else◌}
use Rattle.ss_debug.specs.declared.commands.Command.TheVariants.{Move}
use Rattle.ss_debug.specs.Turn.{DebuggerState, debugger_state_at}
use Rattle.ss_trace.specs.Turn.{state_after}
use Rattle.ss_trace.specs.declared.movement.Movement.TheVariants.{Go}
use Rattle.ss_changes.specs.Texts.{changed_text, all_changes_since}
use Rattle.ss_prompt.specs.declared.commands.PromptCommand.{PromptCommand}
use Rattle.ss_prompt.specs.declared.commands.PromptCommand.TheVariants.{Plain, Travel}
use Rattle.ss_prompt.specs.Points.{is_movement}
use Rattle.ss_prompt.specs.PromptState.{PromptState, IsSameBeside}
use Rattle.ss_prompt.specs.Stops.{is_whole, travels_whole, HasLookedBeside}

-- whether a command is a movement of which all that it changed is shown
abbrev pub moves_whole : PromptCommand → Bool
moves_whole (Plain (Move m)) = is_whole m
moves_whole (Travel m) = travels_whole m
moves_whole _ = false

-- the position that the last movement left, after a command; no other movement keeps one
abbrev pub left_after : PromptState → PromptCommand → Option ℕ
left_after state command =
    if moves_whole command then Some state.debugger.position else if is_movement command then None else state.left

-- the position to which GO p goes: p itself, or, if FORGET dropped its state, the earliest that is kept
abbrev pub position_near : PromptState → ℕ → ℕ
position_near state p = (state_after state.input state.debugger (Go p)).position

-- the changes since a position that was left; if there is none, those of the last step
abbrev pub changes_asked : PromptState → Option ℕ → List ℕ
changes_asked state None = changed_text state.input state.debugger.earliest state.debugger.position
changes_asked state (Some p) = all_changes_since state.input (position_near state p) state.debugger.position

-- the answer to SHOW CHANGED
abbrev pub changed_said : PromptState → List ℕ
changed_said state = changes_asked state state.left

-- a debugger is between its old position and position p, and all else is as it was
abbrev pub IsOnTheWay : DebuggerState → ℕ → DebuggerState → Type 0
IsOnTheWay old p new =
    (new ≡ debugger_state_at old new.position) × (min p old.position ≤ new.position)
    × (new.position ≤ max p old.position)

-- if memory was refused for the changes since a position that was left, the debugger is on the way
-- there; for those of the last step, at its position or one step away
abbrev pub IsAskedRefused : PromptState → Option ℕ → PromptState → Type 0
IsAskedRefused state None after = HasLookedBeside state after
IsAskedRefused state (Some p) after = IsSameBeside state after × IsOnTheWay state.debugger p after.debugger

-- if memory was refused for SHOW CHANGED
unfoldable pub IsChangedRefused : PromptState → PromptState → Type 0
IsChangedRefused state after = IsAskedRefused state state.left after
