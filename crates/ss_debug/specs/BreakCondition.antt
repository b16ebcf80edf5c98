-- The condition of a break line: when it holds, and for which programs it is one.
use Rattle.std.specs.Prelude.{ℕ, Bool, true, false, ◌&&◌, List, nat_eq, Option, Some, None, Result, Ok, Err}
use Rattle.ss_words.specs.declared.fault.RunFault.{RunFault}
use Rattle.ss_program.specs.Program.{ProgramTable}
use Rattle.ss_program.specs.ProgramCondition.{Condition}
use Rattle.ss_program.specs.ProgramSound.{IsSoundCondition, scope_in}
use Rattle.ss_store.specs.Tables.{tables_of}
use Rattle.ss_values.specs.Conditions.{holds}
use Rattle.ss_state.specs.Readings.{readings}
use Rattle.ss_state.specs.State.{State}

-- a condition of the language as that of a break line
pub record BreakCondition : Type 0 where
  -- the number of the section whose local variables it names, if it names any
  pub section : Option ℕ
  -- the condition
  pub condition : Condition
  -- its text
  pub text : List ℕ

-- a truth that may have a fault: a fault is no truth
abbrev pub is_true : Result Bool RunFault → Bool
is_true (Ok b) = b
is_true (Err fault) = false

-- the last frame is of a section, if one is named
abbrev pub is_in : State → Option ℕ → Bool
is_in state None = true
is_in state (Some section) = nat_eq state.frame.section section

-- whether a condition holds in a state: only in its section, and not if it has a fault
unfoldable pub is_met : ProgramTable → State → BreakCondition → Bool
is_met program state c = is_in state c.section && is_true (holds (readings (tables_of program) state) c.condition)

-- a condition, if there is one, holds in a state
abbrev pub is_met_if_any : ProgramTable → State → Option BreakCondition → Bool
is_met_if_any program state None = true
is_met_if_any program state (Some c) = is_met program state c

-- a condition names only rows that exist: in its section; if it names no section, in each
abbrev pub IsSoundOf : ProgramTable → Option ℕ → Condition → Type 0
IsSoundOf program None c = (q : ℕ) → IsSoundCondition (scope_in program q) c
IsSoundOf program (Some q) c = IsSoundCondition (scope_in program q) c

-- so does that of a break line, if it has one
abbrev pub IsSoundIfAny : ProgramTable → Option BreakCondition → Type 0
IsSoundIfAny program None = Unit {0}
IsSoundIfAny program (Some c) = IsSoundOf program c.section c.condition
