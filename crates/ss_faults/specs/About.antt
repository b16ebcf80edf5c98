-- The parts that the sentence of a fault names: those of the statement of the state that it left.
use Rattle.std.specs.Prelude.{ℕ, ℤ, pos, List, [], ◌∷◌, ◌++◌, codes, length, Option, Some, None}
use Rattle.ss_words.specs.declared.fault.RunFault.{RunFault}
use Rattle.ss_words.specs.declared.fault.RunFault.TheVariants as f
use Rattle.ss_program.specs.declared.target.Target.{Target}
use Rattle.ss_program.specs.declared.target.Target.TheVariants as targets
use Rattle.ss_program.specs.declared.target.SetRef.{SetRef}
use Rattle.ss_program.specs.declared.place.Assign.TheVariants.{Add, Subtract}
use Rattle.ss_program.specs.declared.place.Output.TheVariants.{Skip}
use Rattle.ss_program.specs.declared.place.Place.{Place}
use Rattle.ss_program.specs.declared.place.Place.TheVariants as places
use Rattle.ss_program.specs.declared.making.Making.{Making}
use Rattle.ss_program.specs.declared.making.Making.TheVariants.{Create, CreateEvery, Destroy}
use Rattle.ss_program.specs.declared.filing.Position.{Position}
use Rattle.ss_program.specs.declared.filing.Position.TheVariants as position
use Rattle.ss_program.specs.declared.filing.Filing.{Filing}
use Rattle.ss_program.specs.declared.filing.Filing.TheVariants.{File, FileAt, RemoveAt, Remove}
use Rattle.ss_program.specs.declared.looping.Looping.TheVariants.{For}
use Rattle.ss_program.specs.declared.looping.Begin.{Begin}
use Rattle.ss_program.specs.declared.looping.Begin.TheVariants.{AtTheEnd, From, After}
use Rattle.ss_program.specs.declared.looping.Phrase.{Phrase}
use Rattle.ss_program.specs.declared.looping.Phrase.TheVariants.{Counting, Each, Walking}
use Rattle.ss_program.specs.declared.timing.Notice.{Notice}
use Rattle.ss_program.specs.declared.timing.Notice.TheVariants.{New, Known}
use Rattle.ss_program.specs.declared.timing.When.{When}
use Rattle.ss_program.specs.declared.timing.When.TheVariants.{At, Now, In}
use Rattle.ss_program.specs.declared.timing.Timing.{Timing}
use Rattle.ss_program.specs.declared.timing.Timing.TheVariants as timings
use Rattle.ss_program.specs.declared.variable.Variable.TheVariants.{Global}
use Rattle.ss_program.specs.Program.{ProgramTable, set_of}
use Rattle.ss_program.specs.ProgramExpr.{Expr}
use Rattle.ss_state.specs.declared.entry.Entry.{Entry}
use Rattle.ss_state.specs.declared.entry.Entry.TheVariants.{Absent, Waiting, Running}
use Rattle.ss_state.specs.State.{State}
use Rattle.ss_state.specs.Readings.{variable_in}
use Rattle.ss_faults.specs.declared.told.Told.{Told}
use Rattle.ss_faults.specs.declared.told.Told.TheVariants.{Value}
use Rattle.ss_faults.specs.Readings.{told_of, subscript_told, at_entity, attribute_told}
use Rattle.ss_faults.specs.Missing.{place_told}
use Rattle.ss_faults.specs.Texts.{label_and_value, label_and_count, entity_text, list_text, class_text, set_text}
use Rattle.ss_faults.specs.Texts.{section_text, if_told, missing_text}

-- ---- parts of statements

-- the entity of class c that an expression names
abbrev pub entity_of : ProgramTable → State → ℕ → Expr → List ℕ
entity_of program state c expression = if_told (told_of program state expression) (entity_text program c)

-- the list of a set and an owner
abbrev pub list_of : ProgramTable → State → SetRef → List ℕ
list_of program state set = if_told (subscript_told program state set.owner) (list_text program set.set)

-- a member of a set
abbrev pub member_of : ProgramTable → State → Expr → SetRef → List ℕ
member_of program state expression set = entity_of program state (set_of program set.set).member expression

-- the member that BEFORE or AFTER names, and the list
abbrev pub beside_of : ProgramTable → State → Position → SetRef → List ℕ
beside_of program state position.ByRule set = []
beside_of program state (position.AtEnd end) set = []
beside_of program state (position.Before e) set = member_of program state e set ++ list_of program state set
beside_of program state (position.After e) set = member_of program state e set ++ list_of program state set

-- the member at which a walk through a list begins, and the list
abbrev pub begin_of : ProgramTable → State → SetRef → Begin → List ℕ
begin_of program state set AtTheEnd = []
begin_of program state set (From e) = member_of program state e set ++ list_of program state set
begin_of program state set (After e) = member_of program state e set ++ list_of program state set

-- that member and list of a phrase
abbrev pub beginning_of : ProgramTable → State → Phrase → List ℕ
beginning_of program state (Counting d x first last step) = []
beginning_of program state (Each c is_called x count) = []
beginning_of program state (Walking d x r begin) = begin_of program state r begin

-- the time or the days that SCHEDULE asks for
abbrev pub time_of : ProgramTable → State → When → List ℕ
time_of program state (At e) = if_told (told_of program state e) (label_and_value (codes " Time: "))
time_of program state Now = []
time_of program state (In e) = if_told (told_of program state e) (label_and_value (codes " Days: "))

-- the notice of THE
abbrev pub notice_of : ProgramTable → State → ℕ → Notice → List ℕ
notice_of program state c (New is_called t) = []
notice_of program state c (Known is_called e) = entity_of program state c e

-- the step of a phrase
abbrev pub step_of : ProgramTable → State → Option Expr → List ℕ
step_of program state None = []
step_of program state (Some e) = if_told (told_of program state e) (label_and_value (codes " Value: "))

-- the value of a target before it is assigned
abbrev pub target_value : ProgramTable → State → Target → Told
target_value program state (targets.Variable x) = Value (variable_in state x)
target_value program state (targets.Attribute c a i) =
    at_entity (subscript_told program state i) (attribute_told state c a)

-- two values after their labels, if both are known
abbrev pub pair_of : List ℕ → List ℕ → Told → Told → List ℕ
pair_of first second a told = if_told a (λ x. if_told told (λ y. label_and_value first x ++ label_and_value second y))

-- ---- the parts that each fault is about

-- F1: both values of ADD and SUBTRACT
abbrev pub sum_of : ProgramTable → State → Place → List ℕ
sum_of program state (places.Assign (Add e t)) =
    pair_of (codes " Added: ") (codes " To: ") (told_of program state e) (target_value program state t)
sum_of program state (places.Assign (Subtract e t)) =
    pair_of (codes " Subtracted: ") (codes " From: ") (told_of program state e) (target_value program state t)
sum_of program state place = []

-- F4: the member, and the set
abbrev pub member_already_filed : ProgramTable → State → Place → List ℕ
member_already_filed program state (places.Filing (File e how r)) =
    member_of program state e r ++ set_text program r.set
member_already_filed program state (places.Filing (FileAt end e r)) =
    member_of program state e r ++ set_text program r.set
member_already_filed program state place = []

-- the member that FILE or REMOVE looks for, and the list
abbrev pub member_sought : ProgramTable → State → Filing → List ℕ
member_sought program state (File e how r) = beside_of program state how r
member_sought program state (FileAt end e r) = []
member_sought program state (RemoveAt end t r) = []
member_sought program state (Remove e r) = member_of program state e r ++ list_of program state r

-- F5: the member that is looked for, and the list
abbrev pub member_not_filed : ProgramTable → State → Place → List ℕ
member_not_filed program state (places.Filing f) = member_sought program state f
member_not_filed program state (places.Looping (For l)) = beginning_of program state l.phrase
member_not_filed program state place = []

-- F6: the list
abbrev pub empty_list : ProgramTable → State → Place → List ℕ
empty_list program state (places.Filing (RemoveAt end t r)) = list_of program state r
empty_list program state place = []

-- F7, F8: the entity
abbrev pub ending_entity : ProgramTable → State → Place → List ℕ
ending_entity program state (places.Making (Destroy c is_called e)) = entity_of program state c e
ending_entity program state place = []

-- F9: the class, the time and the clock
abbrev pub too_early : ProgramTable → State → Place → List ℕ
too_early program state (places.Timing (timings.Schedule x)) =
    class_text program x.class ++ time_of program state x.when ++ label_and_value (codes " Clock: ") state.clock
too_early program state place = []

-- F10: the notice
abbrev pub notice_scheduled_twice : ProgramTable → State → Place → List ℕ
notice_scheduled_twice program state (places.Timing (timings.Schedule x)) = notice_of program state x.class x.notice
notice_scheduled_twice program state place = []

-- F11: the notice
abbrev pub notice_not_scheduled : ProgramTable → State → Place → List ℕ
notice_not_scheduled program state (places.Timing (timings.Cancel c is_called e)) = entity_of program state c e
notice_not_scheduled program state place = []

-- the class of a notice that is scheduled
abbrev pub timed_class : ProgramTable → Timing → List ℕ
timed_class program (timings.Schedule x) = class_text program x.class
timed_class program (timings.Cancel c is_called e) = []
timed_class program timings.Start = []

-- F12, F20: the class
abbrev pub made_class : ProgramTable → Place → List ℕ
made_class program (places.Making (Create c is_called t)) = class_text program c
made_class program (places.Making (CreateEvery c e count)) = class_text program c
made_class program (places.Timing x) = timed_class program x
made_class program place = []

-- the number of entities that CREATE EVERY asks for
abbrev pub number_of : ProgramTable → State → Option Expr → ℕ → List ℕ
number_of program state None count = label_and_value (codes " Value: ") (variable_in state (Global count))
number_of program state (Some e) count = if_told (told_of program state e) (label_and_value (codes " Value: "))

-- the class and the count of entities that CREATE EVERY makes
abbrev pub creation_count : ProgramTable → State → Making → List ℕ
creation_count program state (Create c is_called t) = []
creation_count program state (CreateEvery c e count) = class_text program c ++ number_of program state e count
creation_count program state (Destroy c is_called e) = []

-- F13: the class, and the count
abbrev pub out_of_count : ProgramTable → State → Place → List ℕ
out_of_count program state (places.Making m) = creation_count program state m
out_of_count program state (places.Output (Skip e)) =
    if_told (told_of program state e) (label_and_value (codes " Value: "))
out_of_count program state place = []

-- the set that a phrase goes through
abbrev pub walked_set : ProgramTable → Phrase → List ℕ
walked_set program (Counting d x first last step) = []
walked_set program (Each c is_called x count) = []
walked_set program (Walking d x r begin) = set_text program r.set

-- F14: the set
abbrev pub left_set : ProgramTable → Place → List ℕ
left_set program (places.Looping (For l)) = walked_set program l.phrase
left_set program place = []

-- the step after BY
abbrev pub loop_step : ProgramTable → State → Phrase → List ℕ
loop_step program state (Counting d x first last step) = step_of program state step
loop_step program state (Each c is_called x count) = []
loop_step program state (Walking d x r begin) = []

-- F15: the step
abbrev pub below_one : ProgramTable → State → Place → List ℕ
below_one program state (places.Looping (For l)) = loop_step program state l.phrase
below_one program state place = []

-- F16, F17, F21: the number of pieces that are taken before the statement
abbrev pub pieces_taken : State → List ℕ
pieces_taken state = label_and_count (codes " Taken before: ") state.feed.taken

-- F18: the section
abbrev pub too_deep : ProgramTable → Place → List ℕ
too_deep program (places.Call c) = section_text program c.section
too_deep program place = []

-- F19: the number of bytes of the report
abbrev pub report_size : State → List ℕ
report_size state = label_and_count (codes " Report so far: ") (length state.report)

-- F22: the entry's notice, if there is one
abbrev pub entry_of : ProgramTable → Entry → List ℕ
entry_of program Absent = []
entry_of program (Waiting c k) = entity_text program c (pos k)
entry_of program (Running c k) = entity_text program c (pos k)

-- the parts that a fault names at a statement
unfoldable pub about : ProgramTable → State → RunFault → Place → List ℕ
about program state f.OutOfRange place = sum_of program state place
about program state f.ZeroDivisor place = []
about program state f.NoEntity place = missing_text program (place_told program state place)
about program state f.AlreadyInSet place = member_already_filed program state place
about program state f.NotInList place = member_not_filed program state place
about program state f.EmptySet place = empty_list program state place
about program state f.EndedInUse place = ending_entity program state place
about program state f.EndedOwner place = ending_entity program state place
about program state f.TimeBeforeClock place = too_early program state place
about program state f.AlreadyScheduled place = notice_scheduled_twice program state place
about program state f.NotScheduled place = notice_not_scheduled program state place
about program state f.AlreadyCreated place = made_class program place
about program state f.CountOutOfRange place = out_of_count program state place
about program state f.MemberLeft place = left_set program place
about program state f.StepBelowOne place = below_one program state place
about program state f.NoMoreData place = pieces_taken state
about program state f.NotANumber place = pieces_taken state
about program state f.TooManyFrames place = too_deep program place
about program state f.ReportFull place = report_size state
about program state f.TooManyReferences place = made_class program place
about program state f.NotExternal place = pieces_taken state
about program state f.OutsideEntry place = entry_of program state.entry
