-- A condition of a section as an aim: the states in which it holds.
use Rattle.std.specs.Prelude.{ℕ, Bool, false, not, ◌&&◌, nat_eq, List, Option, Some, None, Result, Ok, Err}
use Rattle.std.specs.Prelude.{if◌then◌else◌}
use Rattle.ss_words.specs.declared.fault.RunFault.{RunFault}
use Rattle.ss_program.specs.Program.{ProgramTable}
use Rattle.ss_program.specs.ProgramCondition.{Condition}
use Rattle.ss_check.specs.Symbols.{Symbols}
use Rattle.ss_program.specs.ProgramSound.{IsSoundCondition, scope_in}
use Rattle.ss_check.specs.Asked.{AskedFault, judged_condition}
use Rattle.ss_values.specs.Conditions.{holds}
use Rattle.ss_state.specs.State.{State}
use Rattle.ss_expressions.specs.Answers.{readings_of, refused_answer}
use Rattle.ss_expressions.specs.Asked.{Asked, value, truth, asked_in}
use Rattle.ss_expressions.specs.LocalNames.{names_local}

-- a condition, and the number of the section in which it is asked
pub record Aim : Type 0 where
  -- the number of the section
  pub section : ℕ
  -- the condition
  pub condition : Condition

-- a truth that may have a fault: a fault is no truth
abbrev pub is_true : Result Bool RunFault → Bool
is_true (Ok b) = b
is_true (Err fault) = false

-- it names a local variable of a section that is not the last frame's
abbrev pub is_elsewhere : State → Aim → Bool
is_elsewhere state aim = names_local aim.condition && not (nat_eq state.frame.section aim.section)

-- whether it holds in a state: not where it has no value
unfoldable pub holds_in : ProgramTable → State → Aim → Bool
holds_in program state aim =
    if is_elsewhere state aim then false else is_true (holds (readings_of program state) aim.condition)

-- an aim is one for the runs of a program: its condition names only rows that exist in its section
abbrev pub IsSoundAim : ProgramTable → Aim → Type 0
IsSoundAim program aim = IsSoundCondition (scope_in program aim.section) aim.condition

-- what a condition is as an aim
pub data Aimed : Type 0 where
  -- the aim
  aimed : Aim → Aimed
  -- no aim: the answer that says why
  refused : List ℕ → Aimed

-- a condition as the checker judges it in a section
abbrev pub aim_judged : ℕ → Result Condition AskedFault → Aimed
aim_judged section (Ok condition) = aimed (record { section = section; condition = condition })
aim_judged section (Err fault) = refused (refused_answer fault)

-- the aim that is asked for in a section, if a condition is asked
abbrev pub aim_if_asked : Symbols → ℕ → Option Asked → Option Aimed
aim_if_asked symbols section None = None
aim_if_asked symbols section (Some (value e)) = None
aim_if_asked symbols section (Some (truth c)) = Some (aim_judged section (judged_condition symbols section c))

-- the aim of a text in a section, if the text is a condition
unfoldable pub aim_asked : Symbols → ℕ → List ℕ → Option Aimed
aim_asked symbols section text = aim_if_asked symbols section (asked_in text)

-- if it is an aim, it is one for the runs of a program
abbrev pub IsSoundAimed : ProgramTable → Aimed → Type 0
IsSoundAimed program (aimed aim) = IsSoundAim program aim
IsSoundAimed program (refused answer) = Unit {0}

-- and if it is anything
abbrev pub IsAimOf : ProgramTable → Option Aimed → Type 0
IsAimOf program None = Unit {0}
IsAimOf program (Some it) = IsSoundAimed program it
