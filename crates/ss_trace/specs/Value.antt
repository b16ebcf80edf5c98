-- The value of a question in a state, in one line.
use Rattle.std.specs.Prelude.{ℕ, ℤ, pos, List, [], ◌∷◌, ◌++◌, length, codes, decimal, nat_eq}
use Rattle.std.specs.Prelude.{Option, Some, None, unwrap_or, if◌then◌else◌}
use Rattle.std.specs.Option.{option_map}
use Rattle.std.specs.Fmt.{signed_decimal}
use Rattle.ss_program.specs.Program.{ProgramTable, set_of}
use Rattle.ss_program.specs.declared.kinds.Owner.{Owner}
use Rattle.ss_program.specs.declared.kinds.Owner.TheVariants.{System, OwnedBy}
use Rattle.ss_store.specs.Store.{Store, number_of, exists, members_of}
use Rattle.ss_events.specs.Rules.{rules_of}
use Rattle.ss_events.specs.Agenda.{Pending, in_order}
use Rattle.ss_state.specs.Readings.{variable_in}
use Rattle.ss_state.specs.State.{State}
use Rattle.ss_state.specs.Run.{Input, run}
use Rattle.ss_debug.specs.declared.commands.Question.{Question as ShownQuestion}
use Rattle.ss_debug.specs.declared.commands.Question.TheVariants as shown
use Rattle.ss_debug.specs.Answer.{moment_text, place_text, variable_named, entry_value, notice_lines}
use Rattle.ss_debug.specs.Entities.{class_named, set_named, shape_of, owner_or_variable, entity_lines, members_text}
use Rattle.ss_trace.specs.declared.question.Question.{Question}
use Rattle.ss_trace.specs.declared.question.Question.TheVariants.{Shown, Attribute, Count}
use Rattle.ss_trace.specs.Question.{attribute_named}

-- ---- lines in one

-- the text of a byte when lines are joined: between two lines a comma and a blank
abbrev pub joined_byte : ℕ → List ℕ → List ℕ
joined_byte b [] = if nat_eq b 10 then [] else b ∷ []
joined_byte b (c ∷ rest) = if nat_eq b 10 then codes ", " else b ∷ []

-- lines in one
abbrev pub joined_lines : List ℕ → List ℕ
joined_lines [] = []
joined_lines (b ∷ rest) = joined_byte b rest ++ joined_lines rest

-- a text, or LIVES if it is empty: something lives of which nothing is shown
abbrev pub or_lives : List ℕ → List ℕ
or_lives [] = codes "LIVES"
or_lives (b ∷ bs) = b ∷ bs

-- ---- what is asked for, if it exists

-- the lines of the entity of this class that x names, in one
abbrev pub entity_value : ProgramTable → Store → ℤ → Option ℕ → Option (List ℕ)
entity_value program store x None = None
entity_value program store x (Some class) =
    if exists store class (number_of x)
    then Some (or_lives (joined_lines (entity_lines program store class (number_of x)))) else None

-- the owner that x names, if it is an entity of this class
abbrev pub existing : Store → ℕ → ℤ → Option ℤ
existing store class x = if exists store class (number_of x) then Some x else None

-- the owner of a list: the system, which has no number, or an entity that is named or that a variable names
abbrev pub list_owner : Option ℤ → ProgramTable → State → Owner → Option ℤ
list_owner None program state System = Some (pos 0)
list_owner (Some x) program state System = None
list_owner owner program state (OwnedBy class) =
    existing state.store class (owner_or_variable owner program state class)

-- a set and the owner of its list
abbrev pub list_asked : Option ℤ → ProgramTable → State → Option ℕ → Option (ℕ × ℤ)
list_asked owner program state None = None
list_asked owner program state (Some set) =
    option_map (λ x. (set, x)) (list_owner owner program state (set_of program set).owner)

-- the members of such a list
abbrev pub members_asked : ProgramTable → Store → ℕ × ℤ → List ℕ
members_asked program store list = members_of (shape_of program list.0) store (number_of list.1)

-- the attribute of this name of the entity of this class that x names
abbrev pub attribute_asked : ProgramTable → Store → ℤ → List ℕ → Option ℕ → Option ℤ
attribute_asked program store x name None = None
attribute_asked program store x name (Some class) =
    if exists store class (number_of x) then attribute_named program store class (number_of x) name else None

-- the lines of pending notices, in one
abbrev pub pending_value : ProgramTable → List Pending → Option (List ℕ)
pending_value program [] = None
pending_value program (n ∷ ns) = Some (joined_lines (notice_lines program (n ∷ ns)))

-- how long a report is
abbrev pub report_value : List ℕ → List ℕ
report_value report = decimal (length report) ++ codes " BYTES"

-- ---- all questions

-- the value of a question of the debugger in state p, if what it asks for exists
abbrev pub shown_value : Input → ShownQuestion → ℕ → Option (List ℕ)
shown_value input shown.Clock p = Some (signed_decimal (run input p).clock)
shown_value input shown.Where p = Some (moment_text input p ++ place_text input p)
shown_value input (shown.Variable name) p =
    option_map (λ v. signed_decimal (variable_in (run input p) v)) (variable_named input p name)
shown_value input (shown.Entity name x) p =
    entity_value input.program (run input p).store x (class_named input.program name)
shown_value input (shown.Set name owner) p =
    option_map (λ list. members_text (members_asked input.program (run input p).store list))
    (list_asked owner input.program (run input p) (set_named input.program name))
shown_value input shown.Events p =
    pending_value input.program (in_order (rules_of input.program) (run input p).agenda)
shown_value input shown.Taken p = Some (decimal (run input p).feed.taken)
shown_value input shown.Entry p = Some (entry_value input.program (run input p).entry)
shown_value input shown.Report p = Some (report_value (run input p).report)

-- that of any question
abbrev pub value_of : Input → Question → ℕ → Option (List ℕ)
value_of input (Shown question) p = shown_value input question p
value_of input (Attribute class x name) p =
    option_map signed_decimal
    (attribute_asked input.program (run input p).store x name (class_named input.program class))
value_of input (Count name owner) p =
    option_map (λ list. decimal (length (members_asked input.program (run input p).store list)))
    (list_asked owner input.program (run input p) (set_named input.program name))

-- a value, or NONE
abbrev pub or_none : Option (List ℕ) → List ℕ
or_none value = unwrap_or value (codes "NONE")

-- the value of a question in state p, NONE if what it asks for does not exist
abbrev pub value_at : Input → Question → ℕ → List ℕ
value_at input question p = or_none (value_of input question p)
