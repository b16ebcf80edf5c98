-- The break lines that two tables hold: one says of each line whether it is one, the other has the conditions of lines.
use Rattle.std.specs.Prelude.{ℕ, List, map, slice_get, unwrap_or, Option, None}
use Rattle.std.specs.Option.{option_map}
use Rattle.ss_debug.specs.BreakCondition.{BreakCondition}
use Rattle.ss_debug.specs.BreakLines.{BreakPoint}

-- the condition that a table has for a line, if it has one
abbrev pub condition_at : List (Option BreakCondition) → ℕ → Option BreakCondition
condition_at conditions line = unwrap_or (slice_get conditions line) None

-- a line with its condition
abbrev pub break_at : List (Option BreakCondition) → ℕ → BreakPoint
break_at conditions line = record { line = line; when = condition_at conditions line }

-- some lines with their conditions
abbrev pub breaks_of : List (Option BreakCondition) → List ℕ → List BreakPoint
breaks_of conditions lines = map (break_at conditions) lines

-- a break line as it is shown: its line, and the text of its condition
pub record ShownBreak : Type 0 where
  -- its line
  pub line : ℕ
  -- the text of its condition, if it has one
  pub text : Option (List ℕ)

-- how a break line is shown
abbrev pub shown_break : BreakPoint → ShownBreak
shown_break b = record { line = b.line; text = option_map (λ w. w.text) b.when }
