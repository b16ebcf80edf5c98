-- Questions whose answers may change: those of docs/DEBUGGER.md, one attribute, how many members.
use Rattle.std.specs.Prelude.{ℕ, List, [], ◌∷◌, codes, Option, Some, None, option_map, Result, if◌then◌else◌}
use Rattle.std.specs.Str.{bytes_eq}
use Rattle.ss_debug.specs.declared.commands.Command.{Command}
use Rattle.ss_debug.specs.declared.commands.Command.TheVariants.{Show}
use Rattle.ss_debug.specs.declared.commands.Question.{Question as PlainQuestion}
use Rattle.ss_debug.specs.declared.commands.Question.TheVariants.{Entity, Set}
use Rattle.ss_trace.specs.declared.question.Question.{Question}
use Rattle.ss_trace.specs.declared.question.Question.TheVariants.{Shown, Attribute, Count}
use Rattle.ss_program.specs.Program.{ProgramTable}
use Rattle.ss_prompt.specs.declared.missing.Missing.{Missing}
use Rattle.ss_prompt.specs.Missing.{asked_of_program}
use Rattle.ss_prompt.specs.Words.{command_behind, question_of, only_name_of}

-- the first that is there
abbrev pub first_there : {A : Type 0} → Option A → Option A → Option A
first_there (Some x) other = Some x
first_there None other = other

-- c k a: an entity as SHOW takes it, and the name of an attribute
abbrev pub attribute_in : Command → Option (List ℕ) → Option Question
attribute_in (Show (Entity class x)) (Some name) = Some (Attribute class x name)
attribute_in _ _ = None

-- COUNT s [k]: a list as SHOW SET takes it
abbrev pub count_in : Command → Option Question
count_in (Show (Set name owner)) = Some (Count name owner)
count_in _ = None

-- the question on an attribute that two words or more ask
abbrev pub attribute_asked : List ℕ → List ℕ → List (List ℕ) → Option Question
attribute_asked what word rest =
    attribute_in (command_behind (codes "SHOW") (what ∷ word ∷ [])) (only_name_of rest)

-- the question on a number of members that two words or more ask
abbrev pub count_asked : List ℕ → List (List ℕ) → Option Question
count_asked what words =
    if bytes_eq what (codes "COUNT") then count_in (command_behind (codes "SHOW SET") words) else None

-- a question that is none of docs/DEBUGGER.md
abbrev pub own_asked : List (List ℕ) → Option Question
own_asked [] = None
own_asked (what ∷ []) = None
own_asked (what ∷ word ∷ rest) = first_there (attribute_asked what word rest) (count_asked what (word ∷ rest))

-- one of docs/DEBUGGER.md, or else another
abbrev pub shown_or : Option PlainQuestion → Option Question → Option Question
shown_or (Some q) other = Some (Shown q)
shown_or None other = other

-- the question that some words ask
abbrev pub asked_of : List (List ℕ) → Option Question
asked_of words = shown_or (question_of (command_behind (codes "SHOW") words)) (own_asked words)

-- that question as a program has its names, or which of them it hasn't
abbrev pub question_in : ProgramTable → List (List ℕ) → Option (Result Question Missing)
question_in program words = option_map (asked_of_program program) (asked_of words)
