-- The rules of the program's classes that the order of notices needs.
use Rattle.std.specs.Prelude.{ℕ, zero, suc, ◌+◌, if◌then◌else◌, Bool, false, List, [], ◌∷◌, length, map, slice_index_or}
use Rattle.std.specs.List.{range_with_len}
use Rattle.ss_program.specs.declared.keys.Key.{Key}
use Rattle.ss_program.specs.Program.{ProgramTable, class_of, is_event, priority_of, event_of}

-- whether a class is an event class, its place in the order of priority, and the keys of its BREAK ties
pub record Rule : Type 0 where
  -- whether notices may be of it
  pub for_events : Bool
  -- its place in the order of priority
  pub priority : ℕ
  -- the keys of its BREAK ties
  pub ties : List Key

-- the rule of class c of a program
abbrev pub program_rule : ProgramTable → ℕ → Rule
program_rule program c = record {
  for_events = is_event (class_of program c).kind;
  priority = priority_of program c;
  ties = (event_of program c).ties;
}

-- the rules of a program's classes, class by class
abbrev pub rules_of : ProgramTable → List Rule
rules_of program = map (program_rule program) (range_with_len 0 (length program.classes))

-- the rule of a class
abbrev pub rule_at : List Rule → ℕ → Rule
rule_at rules class = slice_index_or rules class (record { for_events = false; priority = 0; ties = [] })

-- whether a class is an event class
abbrev pub is_event_class : List Rule → ℕ → Bool
is_event_class rules class = (rule_at rules class).for_events

-- the event classes of these rules, the first of which is that of this class
abbrev pub events_from : ℕ → List Rule → List ℕ
events_from class [] = []
events_from class (r ∷ rs) =
    if r.for_events then class ∷ events_from (class + 1) rs else events_from (class + 1) rs

-- the event classes in order of declaration
abbrev pub event_classes : List Rule → List ℕ
event_classes rules = events_from 0 rules

-- the number of an event class among the event classes, from 0: how many are declared before it
abbrev pub event_number : List Rule → ℕ → ℕ
event_number [] class = 0
event_number (r ∷ rs) zero = 0
event_number (r ∷ rs) (suc class) =
    if r.for_events then suc (event_number rs class) else event_number rs class
