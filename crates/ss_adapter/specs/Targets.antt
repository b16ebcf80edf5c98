-- The states near by on a line of the model, to which goto leads.
use Rattle.std.specs.Prelude.{ℕ, Bool, not, ◌&&◌, List, [], ◌++◌, codes, None, nat_eq, if◌then◌else◌}
use Rattle.ss_state.specs.Run.{Input}
use Rattle.ss_debug.specs.declared.limits.TheConstants.{GREATEST_BOUND}
use Rattle.ss_debug.specs.Answer.{state_line}
use Rattle.ss_debug.specs.Move.{StopCondition, line_at, forward_end, search_back_end}
use Rattle.ss_debug.specs.Turn.{DebuggerState}
use Rattle.ss_messages.specs.Bodies.{state_item, without_last}
use Rattle.ss_messages.specs.Counting.{meant}
use Rattle.ss_messages.specs.declared.counting.Counting.{Counting}
use Rattle.ss_adapter.specs.declared.reach.Way.{Way}
use Rattle.ss_adapter.specs.declared.reach.Way.TheVariants.{Forward, Back}

-- whether state p is on a line
abbrev pub is_on_line : Input → ℕ → ℕ → Bool
is_on_line input line p = nat_eq (line_at input p) line

-- a search forward stops at a later state on a line, and at the end of the run
abbrev pub line_condition : Input → ℕ → StopCondition
line_condition input line =
    record { time = None; test = is_on_line input line; word = codes "LINE"; bound_word = codes "BOUND" }

-- the state at which a search for a line ends
abbrev pub line_end : Input → DebuggerState → Way → ℕ → ℕ
line_end input debugger Forward line = forward_end input (line_condition input line) debugger.position GREATEST_BOUND
line_end input debugger Back line =
    search_back_end (is_on_line input line) debugger.earliest debugger.position GREATEST_BOUND

-- state p as a target of goto, with its line, as the editor counts
abbrev pub state_target : Input → ℕ → ℕ → List ℕ
state_target input p n = state_item p (without_last (state_line input p)) n

-- the target at which a search for a line ended, if it led to a state on the line
abbrev pub target_met : Input → ℕ → ℕ → ℕ → ℕ → List ℕ
target_met input from line q n =
    if not (nat_eq q from) && is_on_line input line q then state_target input q n else []

-- the nearest state on the line that the editor means by a number, forward or back
abbrev pub near_item : Input → DebuggerState → Counting → Way → ℕ → List ℕ
near_item input debugger counting way n =
    let line = meant counting.lines_from_one n in
    target_met input debugger.position line (line_end input debugger way line) n

-- the nearest earlier one, and the nearest later one
abbrev pub near_items : Input → DebuggerState → Counting → ℕ → List ℕ
near_items input debugger counting n =
    near_item input debugger counting Back n ++ near_item input debugger counting Forward n
