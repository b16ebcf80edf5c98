-- The questions that a text may ask.
use Rattle.std.specs.Prelude.{ℕ, List, ◌++◌, codes, Option, Some, None, Result, Ok, Err}
use Rattle.ss_program.specs.Program.{ProgramTable}
use Rattle.ss_trace.specs.declared.question.Question.{Question}
use Rattle.ss_prompt.specs.declared.commands.PromptCommand.{PromptCommand}
use Rattle.ss_prompt.specs.declared.commands.PromptCommand.TheVariants.{Why, Missing}
use Rattle.ss_prompt.specs.declared.missing.Missing.{Missing as NoName}
use Rattle.ss_prompt.specs.Reading.{prompt_command_of}

-- the question that WHY asks, or the name in it that the program hasn't
abbrev pub asked_by : PromptCommand → Option (Result Question NoName)
asked_by (Why question) = Some (Ok question)
asked_by (Missing m) = Some (Err m)
asked_by _ = None

-- the question that the prompt reads in a text after some words
abbrev pub asked_after : ProgramTable → List ℕ → List ℕ → Option (Result Question NoName)
asked_after program head text = asked_by (prompt_command_of program (head ++ text))

-- a set, or else a variable
abbrev pub set_or_variable : Option (Result Question NoName) → Option (Result Question NoName) →
    Option (Result Question NoName)
set_or_variable (Some (Ok x)) other = Some (Ok x)
set_or_variable (Some (Err m)) other = other
set_or_variable None other = other

-- a question, or else that of a name alone
abbrev pub question_or_name : Option (Result Question NoName) → Option (Result Question NoName) →
    Option (Result Question NoName)
question_or_name (Some asked) other = Some asked
question_or_name None other = other

-- the question that a text asks about a program: the one that the prompt reads in it after WHY; of a name alone, which
-- the prompt reads as an expression there, that of the set or the variable
abbrev pub question_of : ProgramTable → List ℕ → Option (Result Question NoName)
question_of program text = question_or_name (asked_after program (codes "WHY ") text)
    (set_or_variable (asked_after program (codes "WHY SET ") text) (asked_after program (codes "WHY VAR ") text))
