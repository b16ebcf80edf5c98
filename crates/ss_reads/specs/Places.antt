-- What statements look at, by their kinds, in written order.
use Rattle.std.specs.Prelude.{ℕ, zero, suc, ◌+◌, ℤ, pos, List, [], ◌∷◌, ◌++◌, Option, Some, None, if◌then◌else◌}
use Rattle.ss_program.specs.declared.variable.Variable.{Variable as AVariable}
use Rattle.ss_program.specs.declared.variable.Variable.TheVariants.{Global, Local}
use Rattle.ss_program.specs.declared.target.Target.{Target}
use Rattle.ss_program.specs.declared.target.Target.TheVariants as targets
use Rattle.ss_program.specs.declared.place.Place.{Place}
use Rattle.ss_program.specs.declared.place.Place.TheVariants as places
use Rattle.ss_program.specs.declared.place.Assign.{Assign}
use Rattle.ss_program.specs.declared.place.Assign.TheVariants.{Let, Add, Subtract}
use Rattle.ss_program.specs.declared.place.Output.{Output}
use Rattle.ss_program.specs.declared.place.Output.TheVariants.{Print, Skip}
use Rattle.ss_program.specs.declared.place.Control.{Control}
use Rattle.ss_program.specs.declared.place.Control.TheVariants.{Stop, Return, End}
use Rattle.ss_program.specs.declared.branch.Question.TheVariants.{Whether, WasFound, WasNone}
use Rattle.ss_program.specs.declared.branch.Branch.{Branch}
use Rattle.ss_program.specs.declared.branch.Branch.TheVariants.{If, Else, Always}
use Rattle.ss_program.specs.declared.making.Making.{Making}
use Rattle.ss_program.specs.declared.making.Making.TheVariants.{Create, CreateEvery, Destroy}
use Rattle.ss_program.specs.declared.filing.Position.{Position}
use Rattle.ss_program.specs.declared.filing.Position.TheVariants as positions
use Rattle.ss_program.specs.declared.filing.Filing.{Filing}
use Rattle.ss_program.specs.declared.filing.Filing.TheVariants.{File, FileAt, RemoveAt, Remove}
use Rattle.ss_program.specs.declared.looping.Begin.{Begin}
use Rattle.ss_program.specs.declared.looping.Begin.TheVariants.{AtTheEnd, From, After}
use Rattle.ss_program.specs.declared.looping.Phrase.{Phrase}
use Rattle.ss_program.specs.declared.looping.Phrase.TheVariants.{Counting, Each, Walking}
use Rattle.ss_program.specs.declared.looping.ForPhrase.{ForPhrase}
use Rattle.ss_program.specs.declared.looping.Qualifier.{Qualifier}
use Rattle.ss_program.specs.declared.looping.Telling.{Telling}
use Rattle.ss_program.specs.declared.looping.Looping.{Looping}
use Rattle.ss_program.specs.declared.looping.Looping.TheVariants.{For, Loop, Find, Gather, Tell}
use Rattle.ss_program.specs.declared.timing.Notice.{Notice}
use Rattle.ss_program.specs.declared.timing.Notice.TheVariants.{New, Known}
use Rattle.ss_program.specs.declared.timing.Listing.TheVariants.{InParentheses, Given}
use Rattle.ss_program.specs.declared.timing.When.{When}
use Rattle.ss_program.specs.declared.timing.When.TheVariants.{At, Now, In}
use Rattle.ss_program.specs.declared.timing.Schedule.{Schedule}
use Rattle.ss_program.specs.declared.timing.Timing.{Timing}
use Rattle.ss_program.specs.declared.timing.Timing.TheVariants as timings
use Rattle.ss_program.specs.declared.timing.Listing.{Listing}
use Rattle.ss_program.specs.Program.{ProgramTable, SectionTable, is_routine, section_of}
use Rattle.ss_program.specs.ProgramExpr.{Expr}
use Rattle.ss_events.specs.Agenda.{Pending, least}
use Rattle.ss_events.specs.Rules.{rules_of}
use Rattle.ss_state.specs.State.{State}
use Rattle.ss_state.specs.Loops.{OpenLoop, innermost, loop_of_phrase, loop_variable}
use Rattle.ss_state.specs.Statements.Timing.{event_section, loads}
use Rattle.ss_reads.specs.declared.part.Item.TheVariants as items
use Rattle.ss_reads.specs.declared.part.Part.TheVariants.{Variable, Of}
use Rattle.ss_reads.specs.declared.read.Read.{Read}
use Rattle.ss_reads.specs.declared.read.Read.TheVariants.{Candidate, Part}
use Rattle.ss_reads.specs.declared.read.Read.TheVariants as reads
use Rattle.ss_reads.specs.Scenes.{Scene}
use Rattle.ss_reads.specs.Expressions.{variable_reads, expr_reads, subscript_reads, item_reads, list_reads}
use Rattle.ss_reads.specs.Expressions.{condition_reads}

-- several expressions
abbrev pub values_reads : Scene → List Expr → List Read
values_reads s [] = []
values_reads s (e ∷ es) = expr_reads s e ++ values_reads s es

-- an expression that may be left out
abbrev pub option_reads : Scene → Option Expr → List Read
option_reads s None = []
option_reads s (Some e) = expr_reads s e

-- of a target only its subscript is read
abbrev pub target_reads : Scene → Target → List Read
target_reads s (targets.Variable x) = []
target_reads s (targets.Attribute c a i) = subscript_reads s i

-- several targets
abbrev pub targets_reads : Scene → List Target → List Read
targets_reads s [] = []
targets_reads s (t ∷ ts) = target_reads s t ++ targets_reads s ts

-- the value that a target has
abbrev pub old_reads : Scene → Target → List Read
old_reads s (targets.Variable x) = variable_reads s x
old_reads s (targets.Attribute c a i) = item_reads s (items.Attribute c a) i

-- ADD and SUBTRACT read their target, too
abbrev pub assign_reads : Scene → Assign → List Read
assign_reads s (Let written target e) = target_reads s target ++ expr_reads s e
assign_reads s (Add e target) = expr_reads s e ++ old_reads s target
assign_reads s (Subtract e target) = expr_reads s e ++ old_reads s target

-- how many entities CREATE EVERY makes: as many as are written, else N.c
abbrev pub number_reads : Scene → Option Expr → ℕ → List Read
number_reads s None count = variable_reads s (Global count)
number_reads s (Some e) count = expr_reads s e

-- DESTROY reads the variable of the class, or what is CALLED
abbrev pub making_reads : Scene → Making → List Read
making_reads s (Create c is_called target) = target_reads s target
making_reads s (CreateEvery c e count) = number_reads s e count
making_reads s (Destroy c is_called e) = expr_reads s e

-- the member that BEFORE or AFTER names
abbrev pub position_reads : Scene → Position → List Read
position_reads s positions.ByRule = []
position_reads s (positions.AtEnd end) = []
position_reads s (positions.Before e) = expr_reads s e
position_reads s (positions.After e) = expr_reads s e

-- FILE and REMOVE read their list
abbrev pub filing_reads : Scene → Filing → List Read
filing_reads s (File e position set) = expr_reads s e ++ (position_reads s position ++ list_reads s set)
filing_reads s (FileAt end e set) = expr_reads s e ++ list_reads s set
filing_reads s (RemoveAt end target set) = target_reads s target ++ list_reads s set
filing_reads s (Remove e set) = expr_reads s e ++ list_reads s set

-- PRINT and SKIP
abbrev pub output_reads : Scene → Output → List Read
output_reads s (Print count es picture) = values_reads s es
output_reads s (Skip e) = expr_reads s e

-- IF of a condition
abbrev pub branch_reads : Scene → Branch → List Read
branch_reads s (If (Whether c)) = condition_reads s c
branch_reads s (If WasFound) = []
branch_reads s (If WasNone) = []
branch_reads s Else = []
branch_reads s Always = []

-- the member at which a walk begins
abbrev pub begin_reads : Scene → Begin → List Read
begin_reads s AtTheEnd = []
begin_reads s (From e) = expr_reads s e
begin_reads s (After e) = expr_reads s e

-- a FOR phrase whose loop is not open: its bounds; N.c; or its list, and the member at which it begins
abbrev pub entry_reads : Scene → Phrase → List Read
entry_reads s (Counting d x first last step) = expr_reads s first ++ (expr_reads s last ++ option_reads s step)
entry_reads s (Each c is_called x count) = variable_reads s (Global count)
entry_reads s (Walking d x set begin) = list_reads s set ++ begin_reads s begin

-- qualifiers
abbrev pub qualifiers_reads : Scene → List Qualifier → List Read
qualifiers_reads s [] = []
qualifiers_reads s (q ∷ qs) = condition_reads s q.condition ++ qualifiers_reads s qs

-- a scene in which a variable has another value
abbrev pub scene_with : Scene → AVariable → ℤ → Scene
scene_with s x k = record s { given = Some (record { variable = x; value = k }) }

-- a FOR phrase whose loop is open: the candidate that goes to its variable next, and what the qualifiers read then
abbrev pub turn_reads : Scene → ForPhrase → Option ℤ → List Read
turn_reads s f None = Candidate (loop_variable f.phrase) None ∷ []
turn_reads s f (Some k) =
    Candidate (loop_variable f.phrase) (Some k)
    ∷ qualifiers_reads (scene_with s (loop_variable f.phrase) k) f.qualifiers

-- a FOR phrase, by its open loop, if it has one
abbrev pub phrase_reads : Scene → ForPhrase → Option OpenLoop → List Read
phrase_reads s f None = entry_reads s f.phrase
phrase_reads s f (Some l) = turn_reads s f l.candidate

-- the targets of COMPUTE
abbrev pub tellings_reads : Scene → List Telling → List Read
tellings_reads s [] = []
tellings_reads s (t ∷ ts) = target_reads s t.target ++ tellings_reads s ts

-- FOR, and COMPUTE's expression
abbrev pub looping_reads : Scene → Looping → List Read
looping_reads s (For f) =
    phrase_reads s f (loop_of_phrase s.state.frame.place (innermost s.state.frame.loops))
looping_reads s Loop = []
looping_reads s Find = []
looping_reads s (Gather e) = expr_reads s e
looping_reads s (Tell ts) = tellings_reads s ts

-- SCHEDULE THE reads the variable of the class, or what is CALLED
abbrev pub notice_reads : Scene → Notice → List Read
notice_reads s (New is_called target) = target_reads s target
notice_reads s (Known is_called e) = expr_reads s e

-- when a notice is due
abbrev pub when_reads : Scene → When → List Read
when_reads s (At e) = expr_reads s e
when_reads s Now = []
when_reads s (In e) = expr_reads s e

-- the notice and the arguments, as they are written
abbrev pub listed_reads : Scene → Notice → List Expr → Listing → List Read
listed_reads s notice es InParentheses = values_reads s es ++ notice_reads s notice
listed_reads s notice es Given = notice_reads s notice ++ values_reads s es

-- SCHEDULE
abbrev pub schedule_reads : Scene → Schedule → List Read
schedule_reads s x = listed_reads s x.notice x.arguments x.listing ++ when_reads s x.when

-- attribute a of notice k of class c
abbrev pub attribute_read : ℕ → ℕ → ℕ → Read
attribute_read c k a = Part (Of (items.Attribute c a) (pos k))

-- n attributes of notice k of class c, from number a on
abbrev pub attributes_reads : ℕ → ℕ → ℕ → ℕ → List Read
attributes_reads c k a zero = []
attributes_reads c k a (suc n) = attribute_read c k a ∷ attributes_reads c k (a + 1) n

-- the event of notice k of class c: the notice, and its attributes that go to parameters
abbrev pub event_reads : ProgramTable → ℕ → ℕ → List Read
event_reads program c k =
    reads.Notice c k ∷ attributes_reads c k 0 (section_of program (event_section program c)).given

-- the event that is due next, if there is one
abbrev pub next_event_reads : ProgramTable → Option Pending → List Read
next_event_reads program None = []
next_event_reads program (Some n) = event_reads program n.class n.notice

-- START SIMULATION, if it starts an event
abbrev pub start_reads : ProgramTable → State → List Read
start_reads program state =
    if loads program state then [] else next_event_reads program (least (rules_of program) state.agenda.pending)

-- SCHEDULE, CANCEL and START SIMULATION
abbrev pub timing_reads : Scene → Timing → List Read
timing_reads s (timings.Schedule x) = schedule_reads s x
timing_reads s (timings.Cancel c is_called e) = expr_reads s e
timing_reads s timings.Start = start_reads s.program s.state

-- n local variables, from number i on
abbrev pub locals_reads : ℕ → ℕ → List Read
locals_reads i zero = []
locals_reads i (suc n) = Part (Variable (Local i)) ∷ locals_reads (i + 1) n

-- the end of a routine reads what it yields
abbrev pub yields_reads : SectionTable → List Read
yields_reads section = if is_routine section then locals_reads section.given section.yielded else []

-- STOP, RETURN and END
abbrev pub control_reads : Scene → Control → List Read
control_reads s Stop = []
control_reads s Return = yields_reads (section_of s.program s.state.frame.section)
control_reads s End = yields_reads (section_of s.program s.state.frame.section)

-- a place; a CALL reads what is given
abbrev pub place_reads : Scene → Place → List Read
place_reads s (places.Assign a) = assign_reads s a
place_reads s (places.Making m) = making_reads s m
place_reads s (places.Filing f) = filing_reads s f
place_reads s (places.Output o) = output_reads s o
place_reads s (places.Control c) = control_reads s c
place_reads s (places.Branch b) = branch_reads s b
place_reads s (places.Looping l) = looping_reads s l
place_reads s (places.Call c) = values_reads s c.given
place_reads s (places.Timing t) = timing_reads s t
place_reads s (places.Read ts) = targets_reads s ts
