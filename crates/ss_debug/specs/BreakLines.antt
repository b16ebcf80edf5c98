-- The break lines: lines in ascending order, each with the condition on which alone it stops, if it has one.
use Rattle.std.specs.Prelude.{ℕ, Bool, not, ◌&&◌, List, [], ◌∷◌, ◌++◌, length, map, nat_lt, nat_le, nat_eq}
use Rattle.std.specs.Prelude.{Option, None, if◌then◌else◌}
use Rattle.std.specs.List.{filter, list_any}
use Rattle.ss_program.specs.Program.{ProgramTable}
use Rattle.ss_state.specs.State.{State}
use Rattle.ss_debug.specs.declared.limits.TheConstants.{MOST_BREAK_LINES}
use Rattle.ss_debug.specs.BreakCondition.{BreakCondition, is_met_if_any, IsSoundIfAny}

-- a break line, and its condition, if it has one
pub record BreakPoint : Type 0 where
  -- the line
  pub line : ℕ
  -- its condition, if it has one
  pub when : Option BreakCondition

-- their conditions name only rows that exist
abbrev pub AreSoundBreaks : ProgramTable → List BreakPoint → Type 0
AreSoundBreaks program [] = Unit {0}
AreSoundBreaks program (b ∷ breaks) = IsSoundIfAny program b.when × AreSoundBreaks program breaks

-- whether a break line stops in a state whose place is on a line
abbrev pub stops_on : ProgramTable → State → ℕ → BreakPoint → Bool
stops_on program state line b = nat_eq b.line line && is_met_if_any program state b.when

-- the lines
abbrev pub break_lines : List BreakPoint → List ℕ
break_lines breaks = map (λ b. b.line) breaks

-- whether a line is a break line
abbrev pub is_break_line : List BreakPoint → ℕ → Bool
is_break_line breaks line = list_any (λ b. nat_eq b.line line) breaks

-- with one more, in place of that of its line: those before it, itself, and those after it
unfoldable pub with_break : BreakPoint → List BreakPoint → List BreakPoint
with_break b breaks =
    filter (λ a. nat_lt a.line b.line) breaks ++ b ∷ filter (λ a. nat_lt b.line a.line) breaks

-- without that of a line
unfoldable pub without_break : ℕ → List BreakPoint → List BreakPoint
without_break line breaks = filter (λ b. not (nat_eq b.line line)) breaks

-- whether there is no room for a line: as many other lines are set as may be
abbrev pub is_full : List BreakPoint → ℕ → Bool
is_full breaks line = nat_le MOST_BREAK_LINES (length (without_break line breaks))

-- the break lines after a line is made one with a condition, or without
abbrev pub breaks_with : List BreakPoint → ℕ → Option BreakCondition → List BreakPoint
breaks_with breaks line when =
    if is_full breaks line then breaks else with_break (record { line = line; when = when }) breaks

-- the break lines after BREAK: that of the line has no condition
abbrev pub breaks_after_set : List BreakPoint → ℕ → List BreakPoint
breaks_after_set breaks line = breaks_with breaks line None
