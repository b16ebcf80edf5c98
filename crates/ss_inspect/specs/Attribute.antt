-- One entity, or one attribute of it, whose number is the value of a variable.
use Rattle.std.specs.Prelude.{ℕ, ℤ, List, codes, Option, Some, None}
use Rattle.ss_program.specs.Program.{ProgramTable}
use Rattle.ss_program.specs.declared.variable.Variable.{Variable}
use Rattle.ss_store.specs.Store.{Store}
use Rattle.ss_state.specs.Readings.{variable_in}
use Rattle.ss_state.specs.Run.{Input, run}
use Rattle.ss_debug.specs.Answer.{variable_named}
use Rattle.ss_debug.specs.Entities.{class_named, class_text}
use Rattle.ss_trace.specs.Question.{class_attribute_text}
use Rattle.ss_inspect.specs.Texts.{no_such_text}

-- an entity whole, or one attribute of it, kept ones too, or which of them isn't there
abbrev pub told_text : List ℕ → ℤ → Option (List ℕ) → ProgramTable → Store → List ℕ
told_text class x None program store = class_text class x program store (class_named program class)
told_text class x (Some name) program store =
    class_attribute_text class x name program store (class_named program class)

-- the answer with the value of a variable as the number, or that there is no such variable
abbrev pub variable_told_text : List ℕ → List ℕ → Option (List ℕ) → Input → ℕ → Option Variable → List ℕ
variable_told_text class by name input p None = no_such_text (codes "VARIABLE") by
variable_told_text class by name input p (Some v) =
    told_text class (variable_in (run input p) v) name input.program (run input p).store

-- the answer to SHOW c v and SHOW c v a in state p
unfoldable pub by_variable_text : List ℕ → List ℕ → Option (List ℕ) → Input → ℕ → List ℕ
by_variable_text class by name input p = variable_told_text class by name input p (variable_named input p by)
