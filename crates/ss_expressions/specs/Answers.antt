-- The answers to expressions, conditions, lists and classes, in the section of the last frame.
use Rattle.std.specs.Prelude.{ℕ, ℤ, Bool, true, false, List, ◌∷◌, [], ◌++◌, codes, decimal, Option, Some, None}
use Rattle.std.specs.Prelude.{Result, Ok, Err}
use Rattle.std.specs.Fmt.{signed_decimal}
use Rattle.ss_words.specs.declared.fault.RunFault.{RunFault}
use Rattle.ss_words.specs.Faults.{run_fault_number}
use Rattle.ss_program.specs.declared.kinds.Owner.{Owner}
use Rattle.ss_program.specs.declared.kinds.Owner.TheVariants.{System, OwnedBy}
use Rattle.ss_program.specs.declared.target.SetRef.{SetRef}
use Rattle.ss_program.specs.Program.{ProgramTable, class_of, set_of}
use Rattle.ss_check.specs.declared.fault.CheckRule.{CheckRule}
use Rattle.ss_check.specs.CheckRules.{check_rule_code}
use Rattle.ss_check.specs.Symbols.{Symbols}
use Rattle.ss_check.specs.Asked.{AskedFault, Unknown, Broken}
use Rattle.ss_sentences.specs.Wording.{fault_sentence, rule_sentence}
use Rattle.ss_store.specs.Tables.{tables_of}
use Rattle.ss_values.specs.Values.{Readings, value_of, subscript_value}
use Rattle.ss_values.specs.Conditions.{holds}
use Rattle.ss_state.specs.State.{State}
use Rattle.ss_state.specs.Readings.{readings}
use Rattle.ss_debug.specs.Entities.{list_text}
use Rattle.ss_inspect.specs.Living.{class_living_text}
use Rattle.ss_expressions.specs.Asked.{Asked, asked_in}
use Rattle.ss_expressions.specs.Wanted.{wanted_of}
use Rattle.ss_expressions.specs.Senses.{Sense, expression, condition, list, living, set_in, judged_sense}

-- the number of a fault, and its sentence
abbrev pub fault_line : RunFault → List ℕ
fault_line fault =
    codes "F" ++ decimal (run_fault_number fault) ++ codes ": " ++ fault_sentence (run_fault_number fault) ++ 10 ∷ []

-- a text with its value, or the fault of its evaluation
abbrev pub value_answer : List ℕ → Result ℤ RunFault → List ℕ
value_answer text (Ok x) = text ++ codes " = " ++ signed_decimal x ++ 10 ∷ []
value_answer text (Err fault) = fault_line fault

-- YES or NO
abbrev pub yes_or_no : Bool → List ℕ
yes_or_no true = codes "YES"
yes_or_no false = codes "NO"

-- a text and whether it holds, or the fault of its evaluation
abbrev pub truth_answer : List ℕ → Result Bool RunFault → List ℕ
truth_answer text (Ok b) = text ++ codes ": " ++ yes_or_no b ++ 10 ∷ []
truth_answer text (Err fault) = fault_line fault

-- a name that is no variable
abbrev pub unknown_answer : List ℕ → List ℕ
unknown_answer name = codes "NO VARIABLE " ++ name ++ 10 ∷ []

-- a rule of the checker, with its sentence
abbrev pub broken_answer : CheckRule → List ℕ
broken_answer rule = check_rule_code rule ++ codes ": " ++ rule_sentence (check_rule_code rule) ++ 10 ∷ []

-- why what is asked has no value
abbrev pub refused_answer : AskedFault → List ℕ
refused_answer (Unknown name) = unknown_answer name
refused_answer (Broken rule) = broken_answer rule

-- the parts of a state that values are read from
abbrev pub readings_of : ProgramTable → State → Readings
readings_of program state = readings (tables_of program) state

-- the owner of a list as its answer names it: the system's has no number
abbrev pub owner_told : Owner → ℤ → Option ℤ
owner_told System x = None
owner_told (OwnedBy class) x = Some x

-- the list of set number s for the owner that a value names, as SHOW SET tells it
abbrev pub list_told : ProgramTable → State → ℕ → ℤ → List ℕ
list_told program state s x =
    list_text (set_of program s).name (owner_told (set_of program s).owner x) program state s (set_of program s).owner

-- that list, or the fault of its owner's evaluation
abbrev pub list_by_owner : ProgramTable → State → ℕ → Result ℤ RunFault → List ℕ
list_by_owner program state s (Ok x) = list_told program state s x
list_by_owner program state s (Err fault) = fault_line fault

-- the answer to a list, if there is one
abbrev pub list_answer : ProgramTable → State → Option SetRef → List ℕ
list_answer program state None = []
list_answer program state (Some r) =
    list_by_owner program state r.set (subscript_value (readings_of program state) r.owner)

-- the living entities of a class, as SHOW c tells them
abbrev pub class_told : ProgramTable → State → ℕ → List ℕ
class_told program state class = class_living_text (class_of program class).name state.store (Some class)

-- the answer to what is asked, as the checker judged it
abbrev pub sense_answer : ProgramTable → State → List ℕ → Sense → List ℕ
sense_answer program state text (expression e) = value_answer text (value_of (readings_of program state) e)
sense_answer program state text (condition c) = truth_answer text (holds (readings_of program state) c)
sense_answer program state text (list c) = list_answer program state (set_in c)
sense_answer program state text (living class) = class_told program state class

-- the answer to a judgement: to what is asked, or why it has no value
abbrev pub judged_answer : ProgramTable → State → List ℕ → Result Sense AskedFault → List ℕ
judged_answer program state text (Ok sense) = sense_answer program state text sense
judged_answer program state text (Err fault) = refused_answer fault

-- the answer to what is asked, by the names of the section of the last frame
abbrev pub answer_to : Symbols → ProgramTable → State → List ℕ → Asked → List ℕ
answer_to symbols program state text asked =
    judged_answer program state text (judged_sense symbols state.frame.section (wanted_of program asked))

-- the answer to what a text asks, if it asks anything
abbrev pub answer_if_asked : Symbols → ProgramTable → State → List ℕ → Option Asked → Option (List ℕ)
answer_if_asked symbols program state text None = None
answer_if_asked symbols program state text (Some asked) = Some (answer_to symbols program state text asked)

-- the answer to a text that is an expression or a condition
unfoldable pub asked_answer : Symbols → ProgramTable → State → List ℕ → Option (List ℕ)
asked_answer symbols program state text = answer_if_asked symbols program state text (asked_in text)
