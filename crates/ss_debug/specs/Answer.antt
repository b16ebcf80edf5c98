-- The texts that the debugger answers.
use Rattle.std.specs.Prelude.{ℕ, ◌+◌, ◌-◌, Bool, List, [], ◌∷◌, ◌++◌, codes, decimal, Option, Some, None}
use Rattle.std.specs.Prelude.{if◌then◌else◌, ◌&&◌, nat_lt, nat_eq, slice_get, position}
use Rattle.std.specs.Option.{option_map, option_or}
use Rattle.std.specs.Fmt.{signed_decimal}
use Rattle.std.specs.Str.{bytes_eq}
use Rattle.ss_words.specs.Faults.{run_fault_number}
use Rattle.ss_program.specs.Program.{ProgramTable, SectionTable, class_of, locals_of}
use Rattle.ss_program.specs.declared.variable.Variable.{Variable}
use Rattle.ss_program.specs.declared.variable.Variable.TheVariants.{Global, Local, Clock}
use Rattle.ss_events.specs.declared.agenda.Slot.{Slot}
use Rattle.ss_events.specs.Rules.{rules_of}
use Rattle.ss_events.specs.Agenda.{Pending, in_order}
use Rattle.ss_events.specs.Slots.{slot_of}
use Rattle.ss_state.specs.declared.entry.Entry.{Entry}
use Rattle.ss_state.specs.declared.entry.Entry.TheVariants.{Absent, Waiting, Running}
use Rattle.ss_state.specs.declared.status.Status.{Status}
use Rattle.ss_state.specs.declared.status.Status.TheVariants.{Ready, Stopped, Finished, Faulted}
use Rattle.ss_state.specs.Readings.{variable_in}
use Rattle.ss_state.specs.Run.{Input, run}
use Rattle.ss_debug.specs.BreakLines.{BreakPoint, is_break_line, is_full}
use Rattle.ss_debug.specs.Move.{StopCondition, is_ready_at, has_come, line_at}

-- the word of a status
abbrev pub status_text : Status → List ℕ
status_text Ready = codes "READY"
status_text Stopped = codes "STOPPED"
status_text Finished = codes "FINISHED"
status_text (Faulted f) = codes "FAULT F" ++ decimal (run_fault_number f)

-- a section's name; if there is none, an empty name, which is never met
abbrev pub section_name : Option SectionTable → List ℕ
section_name (Some s) = s.name
section_name None = []

-- the name of the section in which state p is
abbrev pub section_at : Input → ℕ → List ℕ
section_at input p = section_name (slice_get input.program.sections (run input p).frame.section)

-- the number of state p, its clock and its status
unfoldable pub moment_text : Input → ℕ → List ℕ
moment_text input p =
    codes "STATE " ++ decimal p ++ codes " CLOCK " ++ signed_decimal (run input p).clock
    ++ codes " " ++ status_text (run input p).status

-- the section and the line of its place
unfoldable pub place_text : Input → ℕ → List ℕ
place_text input p = codes " IN " ++ section_at input p ++ codes " LINE " ++ decimal (line_at input p)

-- the state line of state p
unfoldable pub state_line : Input → ℕ → List ℕ
state_line input p = moment_text input p ++ place_text input p ++ 10 ∷ []

-- the answer of a movement to state p: its word and the state line
unfoldable pub movement_text : List ℕ → Input → ℕ → List ℕ
movement_text word input p = word ++ codes ": " ++ state_line input p

-- the word of a movement from p by at most n steps to a state q that is ready: TIME if the time has
-- come, the condition's word if it is met later than p, its word for the bound if all steps were
-- made, else BOUND
abbrev pub ready_word : Input → StopCondition → ℕ → ℕ → ℕ → List ℕ
ready_word input condition p n q =
    if has_come input condition.time q then codes "TIME" else
    if nat_lt p q && condition.test q then condition.word else
    if nat_eq q (p + n) then condition.bound_word else codes "BOUND"

-- the word of a movement from p by at most n steps to q: HALTED if the status isn't ready
abbrev pub forward_word : Input → StopCondition → ℕ → ℕ → ℕ → List ℕ
forward_word input condition p n q =
    if is_ready_at input q then ready_word input condition p n q else codes "HALTED"

-- the word at the earliest kept position
abbrev pub earliest_word : ℕ → List ℕ
earliest_word earliest = if nat_eq earliest 0 then codes "START" else codes "NOTHING KEPT"

-- the word of a movement back by n from p
abbrev pub back_word : ℕ → ℕ → ℕ → List ℕ
back_word earliest p n = if nat_lt (p - earliest) n then earliest_word earliest else codes "DONE"

-- the word of a search back from p that ended at q; the word for a test that holds is given
abbrev pub search_back_word : (ℕ → Bool) → List ℕ → ℕ → ℕ → ℕ → List ℕ
search_back_word test word earliest p q =
    if nat_lt q p && test q then word else
    if nat_eq q earliest then earliest_word earliest else codes "BOUND"

-- the answer to FORGET: how many steps back can be made now
unfoldable pub kept_text : ℕ → List ℕ
kept_text n = codes "KEPT " ++ decimal n ++ 10 ∷ []

-- the answer to BREAK: with the greatest number of other lines there is no room for one more
unfoldable pub break_text : List BreakPoint → ℕ → List ℕ
break_text breaks line =
    if is_full breaks line then codes "TOO MANY BREAKS\n" else codes "BREAK " ++ decimal line ++ codes " SET\n"

-- the answer to BREAK with a condition, of which the text is given
unfoldable pub break_when_text : List BreakPoint → ℕ → List ℕ → List ℕ
break_when_text breaks line text =
    if is_full breaks line then codes "TOO MANY BREAKS\n"
    else codes "BREAK " ++ decimal line ++ codes " WHEN " ++ text ++ codes " SET\n"

-- the answer to CLEAR
unfoldable pub clear_text : List BreakPoint → ℕ → List ℕ
clear_text breaks line =
    if is_break_line breaks line then codes "BREAK " ++ decimal line ++ codes " CLEARED\n"
    else codes "NO BREAK " ++ decimal line ++ 10 ∷ []

-- the answer to SHOW CLOCK in state p
unfoldable pub clock_text : Input → ℕ → List ℕ
clock_text input p = codes "CLOCK " ++ signed_decimal (run input p).clock ++ 10 ∷ []

-- the variable that a name means in state p: TIME.V, else a global variable, else a local of the
-- section of the last frame
abbrev pub variable_named : Input → ℕ → List ℕ → Option Variable
variable_named input p name =
    if bytes_eq name (codes "TIME.V") then Some Clock
    else option_or (option_map Global (position (bytes_eq name) input.program.globals))
    (option_map Local (position (bytes_eq name)
    (locals_of (slice_get input.program.sections (run input p).frame.section))))

-- the line of a variable of this name, or that there is none
abbrev pub value_line : Input → ℕ → List ℕ → Option Variable → List ℕ
value_line input p name (Some v) =
    name ++ codes " = " ++ signed_decimal (variable_in (run input p) v) ++ 10 ∷ []
value_line input p name None = codes "NO VARIABLE " ++ name ++ 10 ∷ []

-- the answer to SHOW VAR in state p
unfoldable pub var_text : List ℕ → Input → ℕ → List ℕ
var_text name input p = value_line input p name (variable_named input p name)

-- the answer to SHOW TAKEN in state p
unfoldable pub taken_text : Input → ℕ → List ℕ
taken_text input p = codes "TAKEN " ++ decimal (run input p).feed.taken ++ 10 ∷ []

-- an entry: its class, the reference of its notice, and whether it waits or its event runs
abbrev pub entry_value : ProgramTable → Entry → List ℕ
entry_value program Absent = codes "NONE"
entry_value program (Waiting class notice) =
    (class_of program class).name ++ codes " " ++ decimal notice ++ codes " WAITING"
entry_value program (Running class notice) =
    (class_of program class).name ++ codes " " ++ decimal notice ++ codes " RUNNING"

-- its line
abbrev pub entry_line : ProgramTable → Entry → List ℕ
entry_line program entry = codes "ENTRY " ++ entry_value program entry ++ 10 ∷ []

-- the answer to SHOW ENTRY in state p
unfoldable pub entry_text : Input → ℕ → List ℕ
entry_text input p = entry_line input.program (run input p).entry

-- the line of a pending notice: its class, its reference and its time
abbrev pub notice_line : ProgramTable → ℕ → Slot → List ℕ
notice_line program notice slot =
    (class_of program slot.class).name ++ codes " " ++ decimal notice
    ++ codes " AT " ++ signed_decimal slot.time ++ 10 ∷ []

-- a line for each notice
abbrev pub notice_lines : ProgramTable → List Pending → List ℕ
notice_lines program [] = []
notice_lines program (n ∷ ns) = notice_line program n.notice (slot_of n) ++ notice_lines program ns

-- a line for each notice, or that there is none
abbrev pub pending_text : ProgramTable → List Pending → List ℕ
pending_text program [] = codes "NO EVENTS\n"
pending_text program (n ∷ ns) = notice_lines program (n ∷ ns)

-- the answer to SHOW EVENTS in state p: the pending notices, the next first
unfoldable pub events_text : Input → ℕ → List ℕ
events_text input p = pending_text input.program (in_order (rules_of input.program) (run input p).agenda)

-- the answer to SHOW REPORT in state p: the line REPORT and the report's bytes
unfoldable pub report_text : Input → ℕ → List ℕ
report_text input p = codes "REPORT\n" ++ (run input p).report
