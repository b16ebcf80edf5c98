-- The value of a text that is asked in a section, and whether it has a meaning there.
use Rattle.std.specs.Prelude.{ℕ, List, Option, Some, None, Result, Ok, Err}
use Rattle.ss_program.specs.Program.{ProgramTable}
use Rattle.ss_check.specs.Symbols.{Symbols}
use Rattle.ss_check.specs.Asked.{AskedFault}
use Rattle.ss_state.specs.State.{State}
use Rattle.ss_readings.specs.Value.{Value}
use Rattle.ss_expressions.specs.Answers.{refused_answer}
use Rattle.ss_expressions.specs.Asked.{Asked, asked_in}
use Rattle.ss_expressions.specs.Meanings.{Meant, meant as means, refused as means_nothing, meaning_asked, meaning_value}
use Rattle.ss_expressions.specs.Senses.{Sense, judged_sense}
use Rattle.ss_expressions.specs.Wanted.{wanted_of}

-- the value of what a text means, in the last frame of a state
abbrev pub value_of_meant : ProgramTable → State → Option Meant → Option Value
value_of_meant program state None = None
value_of_meant program state (Some (means meaning)) = meaning_value program meaning state 0
value_of_meant program state (Some (means_nothing answer)) = None

-- the value of a text in a state, by the names of section number q
unfoldable pub value_asked : Symbols → ProgramTable → State → ℕ → List ℕ → Option Value
value_asked symbols program state q text = value_of_meant program state (meaning_asked symbols program q text)

-- what is asked has a meaning in a section, or none: the answer that says why
pub data Judgement : Type 0 where
  meant : Judgement
  refused : List ℕ → Judgement

-- as the checker judges it
abbrev pub judgement : Result Sense AskedFault → Judgement
judgement (Ok sense) = meant
judgement (Err fault) = refused (refused_answer fault)

-- that of what is asked in section number q, if anything is
abbrev pub judged_if_asked : Symbols → ProgramTable → ℕ → Option Asked → Option Judgement
judged_if_asked symbols program q None = None
judged_if_asked symbols program q (Some asked) = Some (judgement (judged_sense symbols q (wanted_of program asked)))

-- that of a text
unfoldable pub judged_text : Symbols → ProgramTable → ℕ → List ℕ → Option Judgement
judged_text symbols program q text = judged_if_asked symbols program q (asked_in text)
