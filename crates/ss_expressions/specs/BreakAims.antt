-- An aim as the condition of a break line.
use Rattle.std.specs.Prelude.{ℕ, List, Option, Some, None, if◌then◌else◌}
use Rattle.ss_debug.specs.BreakCondition.{BreakCondition}
use Rattle.ss_expressions.specs.Aims.{Aim}
use Rattle.ss_expressions.specs.LocalNames.{names_local}

-- the section whose local variables an aim names, if it names any
abbrev pub section_of_locals : Aim → Option ℕ
section_of_locals aim = if names_local aim.condition then Some aim.section else None

-- an aim as the condition of a break line with a text
abbrev pub break_condition : Aim → List ℕ → BreakCondition
break_condition aim text = record { section = section_of_locals aim; condition = aim.condition; text = text }
