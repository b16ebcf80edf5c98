-- The answer to SHOW of an expression or a condition.
use Rattle.std.specs.Prelude.{ℕ, Bool, List, [], ◌∷◌, codes, Option, Some, None, unwrap_or}
use Rattle.ss_program.specs.Program.{ProgramTable}
use Rattle.ss_check.specs.Symbols.{Symbols}
use Rattle.ss_check.specs.Asked.{IsSymbolsOf}
use Rattle.ss_state.specs.Run.{run}
use Rattle.ss_expressions.specs.Answers.{asked_answer}
use Rattle.ss_prompt.specs.Advice.{unread_text}
use Rattle.ss_prompt.specs.PromptState.{PromptState}
use Rattle.ss_prompt.specs.Words.{only_name_of}

-- the answer by a symbol table, if one is kept and the text is an expression or a condition
abbrev pub value_by : PromptState → List ℕ → Option Symbols → Option (List ℕ)
value_by state text None = None
value_by state text (Some symbols) =
    asked_answer symbols state.input.program (run state.input state.debugger.position) text

-- the word SHOW as the name of a form of commands
abbrev pub show_word : Option (List ℕ)
show_word = only_name_of (codes "SHOW" ∷ [])

-- the answer to SHOW of a text: its value in the present state; if it is neither an expression nor a
-- condition, that it is no command
abbrev pub value_said : PromptState → List ℕ → Bool → List ℕ
value_said state text numbered = unwrap_or (value_by state text state.symbols) (unread_text show_word numbered)

-- a symbol table, if one is kept, is that of the program
abbrev pub Suits : ProgramTable → Option Symbols → Type 0
Suits program None = Unit {0}
Suits program (Some symbols) = IsSymbolsOf program symbols
