-- What is asked, as the checker judges it in a section: an expression, a condition, a list, or a
-- class.
use Rattle.std.specs.Prelude.{◌≡◌, ℕ, ◌<◌, length, Bool, false, Option, Some, None, Result, Ok, Err}
use Rattle.ss_program.specs.declared.target.SetRef.{SetRef}
use Rattle.ss_program.specs.Program.{ProgramTable}
use Rattle.ss_program.specs.ProgramExpr.{Expr}
use Rattle.ss_program.specs.ProgramCondition.{Condition, any, all, is_empty}
use Rattle.ss_program.specs.ProgramSound.{Scope, IsSoundExpr, IsSoundCondition, scope_in}
use Rattle.ss_check.specs.Symbols.{Symbols}
use Rattle.ss_check.specs.Asked.{AskedFault, judged_expression, judged_condition}
use Rattle.ss_expressions.specs.LocalNames.{expr_names_local, names_local}
use Rattle.ss_expressions.specs.Wanted.{Wanted, of_value, of_truth, of_list, of_class}

-- what is asked, with the numbers of its names
pub data Sense : Type 0 where
  -- the value of an expression
  expression : Expr → Sense
  -- whether a condition holds
  condition : Condition → Sense
  -- the list of which a condition says that it IS EMPTY
  list : Condition → Sense
  -- the living entities of a class
  living : ℕ → Sense

-- the list of which a condition says that it IS EMPTY
abbrev pub set_in : Condition → Option SetRef
set_in (any (all (is_empty r is) rs) cs) = Some r
set_in _ = None

-- some variable in it is a local one
abbrev pub sense_names_local : Sense → Bool
sense_names_local (expression e) = expr_names_local e
sense_names_local (condition c) = names_local c
sense_names_local (list c) = names_local c
sense_names_local (living class) = false

-- what the checker judged, as what is asked, or its fault
abbrev pub as_sense : {A : Type 0} → (A → Sense) → Result A AskedFault → Result Sense AskedFault
as_sense make (Ok x) = Ok (make x)
as_sense make (Err fault) = Err fault

-- what is asked, as the checker judges it in section number q, or its fault
abbrev pub judged_sense : Symbols → ℕ → Wanted → Result Sense AskedFault
judged_sense symbols q (of_value e) = as_sense expression (judged_expression symbols q e)
judged_sense symbols q (of_truth c) = as_sense condition (judged_condition symbols q c)
judged_sense symbols q (of_list c) = as_sense list (judged_condition symbols q c)
judged_sense symbols q (of_class c) = Ok (living c)

-- it names only rows that exist in a scope
abbrev pub IsSoundSense : Scope → Sense → Type 0
IsSoundSense scope (expression e) = IsSoundExpr scope e
IsSoundSense scope (condition c) = IsSoundCondition scope c
IsSoundSense scope (list c) = IsSoundCondition scope c
IsSoundSense scope (living class) = Unit {0}
