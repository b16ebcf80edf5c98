-- What a text means in a section: what it is about in the states of a run.
use Rattle.std.specs.Prelude.{ℕ, ℤ, Bool, true, false, not, ◌&&◌, nat_eq, List, Option, Some, None, Result, Ok, Err}
use Rattle.std.specs.Prelude.{if◌then◌else◌}
use Rattle.std.specs.Option.{option_and_then}
use Rattle.ss_words.specs.declared.fault.RunFault.{RunFault}
use Rattle.ss_program.specs.declared.target.SetRef.{SetRef}
use Rattle.ss_program.specs.Program.{ProgramTable}
use Rattle.ss_program.specs.ProgramSound.{scope_in}
use Rattle.ss_check.specs.Symbols.{Symbols}
use Rattle.ss_check.specs.Asked.{AskedFault}
use Rattle.ss_store.specs.Store.{Store, number_of, is_owner, members_of}
use Rattle.ss_state.specs.State.{State, FrameState}
use Rattle.ss_state.specs.Frames.{frame_at}
use Rattle.ss_state.specs.Readings.{value_in, truth_in, subscript_in}
use Rattle.ss_debug.specs.Entities.{shape_of}
use Rattle.ss_inspect.specs.Living.{living_numbers}
use Rattle.ss_readings.specs.Value as values
use Rattle.ss_readings.specs.Value.{Value}
use Rattle.ss_readings.specs.Subject.{Subject}
use Rattle.ss_expressions.specs.Answers.{refused_answer}
use Rattle.ss_expressions.specs.Asked.{Asked, asked_in}
use Rattle.ss_expressions.specs.Wanted.{wanted_of}
use Rattle.ss_expressions.specs.Senses.{Sense, expression, condition, list, living, set_in, sense_names_local}
use Rattle.ss_expressions.specs.Senses.{judged_sense, IsSoundSense}

-- what is asked, and the number of the section in which it is asked
pub record Meaning : Type 0 where
  -- the number of the section
  pub section : ℕ
  -- what is asked
  pub sense : Sense

-- ---- its value

-- a number, if there is one and no fault
abbrev pub number_if : Option (Result ℤ RunFault) → Option Value
number_if (Some (Ok x)) = Some (values.number x)
number_if _ = None

-- a truth, if there is one and no fault
abbrev pub truth_if : Option (Result Bool RunFault) → Option Value
truth_if (Some (Ok b)) = Some (values.truth b)
truth_if _ = None

-- the members of the list of set number s for the owner that a value names, if there is one
abbrev pub listed_if : ProgramTable → Store → ℕ → Option (Result ℤ RunFault) → Option Value
listed_if program store s (Some (Ok x)) =
    if is_owner (shape_of program s) store (number_of x)
    then Some (values.members (members_of (shape_of program s) store (number_of x))) else None
listed_if program store s _ = None

-- the members of a list, read in the frame with `depth` others above it
abbrev pub list_value : ProgramTable → State → ℕ → SetRef → Option Value
list_value program state depth r = listed_if program state.store r.set (subscript_in program state depth r.owner)

-- the value of what is asked, read there
abbrev pub sense_value : ProgramTable → State → ℕ → Sense → Option Value
sense_value program state depth (expression e) = number_if (value_in program state depth e)
sense_value program state depth (condition c) = truth_if (truth_in program state depth c)
sense_value program state depth (list c) = option_and_then (list_value program state depth) (set_in c)
sense_value program state depth (living class) = Some (values.members (living_numbers state.store class))

-- it can be read in a frame: one of its own section, if it names a local variable
abbrev pub is_read_in : Meaning → Option FrameState → Bool
is_read_in meaning None = false
is_read_in meaning (Some frame) = not (sense_names_local meaning.sense && not (nat_eq frame.section meaning.section))

-- the value of a meaning, read there
unfoldable pub meaning_value : ProgramTable → Meaning → State → ℕ → Option Value
meaning_value program meaning state depth =
    if is_read_in meaning (frame_at state depth) then sense_value program state depth meaning.sense else None

-- what it is about in the runs of a program
abbrev pub subject_of : Meaning → ProgramTable → Subject
subject_of meaning program = record {
  local = sense_names_local meaning.sense;
  value = meaning_value program meaning;
}

-- it is one for the runs of a program: it names only rows that exist in its section
abbrev pub IsSoundMeaning : ProgramTable → Meaning → Type 0
IsSoundMeaning program meaning = IsSoundSense (scope_in program meaning.section) meaning.sense

-- ---- the meaning of a text

-- what a text means
pub data Meant : Type 0 where
  -- the meaning
  meant : Meaning → Meant
  -- no meaning: the answer that says why
  refused : List ℕ → Meant

-- what is asked in section number q, as the checker judged it
abbrev pub meant_judged : ℕ → Result Sense AskedFault → Meant
meant_judged q (Ok sense) = meant (record { section = q; sense = sense })
meant_judged q (Err fault) = refused (refused_answer fault)

-- the meaning of what is asked in section number q, if anything is
abbrev pub meant_if_asked : Symbols → ProgramTable → ℕ → Option Asked → Option Meant
meant_if_asked symbols program q None = None
meant_if_asked symbols program q (Some asked) = Some (meant_judged q (judged_sense symbols q (wanted_of program asked)))

-- the meaning of a text that is asked in section number q, if it asks anything
unfoldable pub meaning_asked : Symbols → ProgramTable → ℕ → List ℕ → Option Meant
meaning_asked symbols program q text = meant_if_asked symbols program q (asked_in text)

-- if it is a meaning, it is one for the runs of a program
abbrev pub IsSoundMeant : ProgramTable → Meant → Type 0
IsSoundMeant program (meant meaning) = IsSoundMeaning program meaning
IsSoundMeant program (refused answer) = Unit {0}

-- and if it is anything
abbrev pub IsMeaningOf : ProgramTable → Option Meant → Type 0
IsMeaningOf program None = Unit {0}
IsMeaningOf program (Some it) = IsSoundMeant program it
