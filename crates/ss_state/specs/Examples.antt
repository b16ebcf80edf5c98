-- Small programs, and the results of their runs.
use Rattle.std.specs.Prelude.{ℕ, pos, List, [], ◌∷◌, ◌++◌, map, replicate, codes, Bool, true, false}
use Rattle.std.specs.Prelude.{Some, None}
use Rattle.ss_words.specs.declared.terms.TermSign.TheVariants.{Plus, Minus}
use Rattle.ss_program.specs.declared.target.Target.TheVariants.{Variable as ToVariable, Attribute}
use Rattle.ss_program.specs.declared.target.SetRef.{SetRef}
use Rattle.ss_program.specs.declared.making.Making.TheVariants.{Create, Destroy}
use Rattle.ss_words.specs.declared.terms.SetEnd.TheVariants as ends
use Rattle.ss_program.specs.declared.filing.Position.TheVariants.{ByRule}
use Rattle.ss_program.specs.declared.filing.Filing.TheVariants.{File, RemoveAt}
use Rattle.ss_program.specs.declared.looping.Begin.TheVariants.{AtTheEnd}
use Rattle.ss_program.specs.declared.keys.Key.{Key}
use Rattle.ss_words.specs.declared.terms.Rank.TheVariants.{Low}
use Rattle.ss_program.specs.declared.kinds.ClassKind.TheVariants.{Temporary, Event as OfEvent}
use Rattle.ss_program.specs.declared.kinds.Discipline.{Discipline}
use Rattle.ss_program.specs.declared.kinds.Discipline.TheVariants.{Fifo, Ranked}
use Rattle.ss_program.specs.declared.kinds.Owner.TheVariants.{System}
use Rattle.ss_program.specs.declared.variable.Variable.{Variable}
use Rattle.ss_program.specs.declared.variable.Variable.TheVariants.{Global, Local}
use Rattle.ss_words.specs.declared.terms.Comparison.{Comparison}
use Rattle.ss_words.specs.declared.terms.Direction.{Direction}
use Rattle.ss_words.specs.declared.terms.Direction.TheVariants.{Onward}
use Rattle.ss_program.specs.declared.looping.Phrase.TheVariants.{Counting, Each, Walking}
use Rattle.ss_program.specs.declared.looping.Qualifier.{Qualifier}
use Rattle.ss_words.specs.declared.terms.QualifierWord.{QualifierWord}
use Rattle.ss_words.specs.declared.terms.Statistic.TheVariants.{Number, Sum, Maximum, Minimum}
use Rattle.ss_program.specs.declared.looping.Looping.TheVariants.{For, Find, Gather, Tell}
use Rattle.ss_program.specs.declared.branch.Question.TheVariants.{WasFound}
use Rattle.ss_program.specs.declared.branch.Branch.TheVariants.{If, Else, Always}
use Rattle.ss_program.specs.declared.place.Assign.TheVariants.{Let, Add}
use Rattle.ss_program.specs.declared.place.Output.TheVariants.{Skip}
use Rattle.ss_program.specs.declared.place.Control.TheVariants.{Return, End}
use Rattle.ss_program.specs.declared.place.Place.{Place}
use Rattle.ss_program.specs.declared.place.Place.TheVariants.{Assign, Making, Filing, Output, Control, Branch, Looping}
use Rattle.ss_program.specs.declared.place.Place.TheVariants.{Call, Timing, Read}
use Rattle.ss_program.specs.declared.timing.Notice.TheVariants.{New, Known}
use Rattle.ss_program.specs.declared.timing.Listing.TheVariants.{Given}
use Rattle.ss_program.specs.declared.timing.When.{When}
use Rattle.ss_program.specs.declared.timing.When.TheVariants.{At, Now, In}
use Rattle.ss_program.specs.declared.timing.Timing.TheVariants.{Schedule, Cancel, Start}
use Rattle.ss_program.specs.declared.place.Spot.{Spot}
use Rattle.ss_program.specs.declared.kinds.SectionKind.TheVariants.{Main, Routine, Event}
use Rattle.ss_program.specs.ProgramExpr.{Expr, expr, no_sums, sum, term, no_products, product, Factor, digits, variable}
use Rattle.ss_program.specs.ProgramExpr.{attribute, implied, of_system}
use Rattle.ss_program.specs.ProgramCondition.{Condition, any, no_conjunctions, all, no_relations, compared}
use Rattle.ss_program.specs.Program.{ProgramTable, SectionTable}
use Rattle.ss_state.specs.State.{State}
use Rattle.ss_values.specs.Values.{Readings}
use Rattle.ss_state.specs.Run.{Input, input_with, run}

-- ---- expressions and conditions

-- an expression of one factor only
abbrev pub alone : Factor → Expr
alone factor = expr None (term factor no_products) no_sums

-- a number
abbrev pub number : ℕ → Expr
number n = alone (digits n)

-- a number below zero
abbrev pub below_zero : ℕ → Expr
below_zero n = expr (Some Minus) (term (digits n) no_products) no_sums

-- the least integer: minus the greatest, less 1
abbrev pub least_integer : Expr
least_integer =
    expr (Some Minus) (term (digits 9223372036854775807) no_products) (sum Minus (term (digits 1) no_products) no_sums)

-- local number i
abbrev pub local : ℕ → Expr
local i = alone (variable (Local i))

-- local number i compared with a number
abbrev pub compares : ℕ → Comparison → ℕ → Condition
compares i comparison n = any (all (compared (local i) comparison (number n)) no_relations) no_conjunctions

-- a qualifier on local number i
abbrev pub qualifier : QualifierWord → ℕ → Comparison → ℕ → Qualifier
qualifier word i comparison n = record { word = word; condition = compares i comparison n }

-- nothing to read
abbrev pub no_readings : Readings
no_readings = record {
  tables = record { classes = []; sets = []; system = 0 };
  variables = [];
  locals = [];
  clock = pos 0;
  store = record { made = []; references = []; system = [] };
}

-- ---- places

-- LET variable = expression
abbrev pub let_be : Variable → Expr → Place
let_be target expression = Assign (Let false (ToVariable target) expression)

-- ADD expression TO variable
abbrev pub add_to : Variable → Expr → Place
add_to target expression = Assign (Add expression (ToVariable target))

-- END
abbrev pub end_place : Place
end_place = Control End

-- FOR local number i = a TO b, which controls the next place
abbrev pub for_bare : ℕ → Expr → Expr → List Qualifier → Place
for_bare i a b qs =
    Looping (For (record { phrase = Counting Onward (Local i) a b None; qualifiers = qs; has_do = false }))

-- FOR EACH of a class whose number is global variable n; its variable is global variable i
abbrev pub for_each : ℕ → ℕ → Place
for_each i n = Looping (For (record { phrase = Each 0 false (Global i) n; qualifiers = []; has_do = false }))

-- ---- programs

-- places on line 1
abbrev pub on_one_line : List Place → List Spot
on_one_line xs = map (λ x. record { line = 1; place = x }) xs

-- MAIN with n locals
abbrev pub main_of : ℕ → List Place → SectionTable
main_of n xs = record {
  name = codes "MAIN";
  kind = Main;
  line = 1;
  given = 0;
  yielded = 0;
  saving = false;
  locals = replicate n [];
  places = on_one_line xs;
  listing = Given;
  defines = [];
}

-- a routine with n locals, some of them given and some yielded
abbrev pub routine_of : ℕ → ℕ → ℕ → List Place → SectionTable
routine_of given yielded n xs = record {
  name = codes "R";
  kind = Routine;
  line = 1;
  given = given;
  yielded = yielded;
  saving = false;
  locals = replicate n [];
  places = on_one_line xs;
  listing = Given;
  defines = [];
}

-- a program with n global variables
abbrev pub program_of : ℕ → List SectionTable → ProgramTable
program_of n sections = record { globals = replicate n []; classes = []; sets = []; priority = []; sections = sections }

-- state number k of a MAIN with n locals over data
abbrev pub main_run : List ℕ → ℕ → List Place → ℕ → State
main_run text n xs k = run (input_with (program_of 0 (main_of n xs ∷ [])) text) k

-- ---- examples

-- the numbers from 1 to 9 that pass these qualifiers, added to local 1
abbrev pub sum_of_passed : List Qualifier → List Place
sum_of_passed qs = for_bare 0 (number 1) (number 9) qs ∷ add_to (Local 1) (local 0) ∷ end_place ∷ []

-- the first number from 1 to 5 that passes a qualifier goes to local 1; 100 if there is none
abbrev pub first_of_five : Qualifier → List Place
first_of_five qualifier =
    for_bare 0 (number 1) (number 5) (qualifier ∷ []) ∷ Looping Find ∷ Branch (If WasFound) ∷ let_be (Local 1) (local 0)
    ∷ Branch Else ∷ let_be (Local 1) (number 100) ∷ Branch Always ∷ end_place ∷ []

-- the statistics of the numbers from a to b go to locals 1 to 4
abbrev pub statistics_of : Expr → Expr → List Place
statistics_of a b =
    for_bare 0 a b [] ∷ Looping (Gather (local 0))
    ∷ Looping (Tell (record { target = ToVariable (Local 1); statistic = Number }
    ∷ record { target = ToVariable (Local 2); statistic = Sum }
    ∷ record { target = ToVariable (Local 3); statistic = Maximum }
    ∷ record { target = ToVariable (Local 4); statistic = Minimum } ∷ []))
    ∷ end_place ∷ []

-- a routine yields one more than it is given; MAIN calls it with 4
abbrev pub one_more : ProgramTable
one_more =
    program_of 0 (
    main_of 1 (Call (record {
      section = 1;
      given = number 4 ∷ [];
      targets = ToVariable (Local 0) ∷ [];
      listing = Given;
    }) ∷ end_place
    ∷ [])
    ∷ routine_of 1 1 2 (let_be (Local 1) (local 0) ∷ add_to (Local 1) (number 1) ∷ Control Return ∷ end_place ∷ [])
    ∷ []
    )

-- a routine calls itself without end
abbrev pub endless_calls : ProgramTable
endless_calls =
    let again : Place = Call (record { section = 1; given = []; targets = []; listing = Given }) in
    program_of 0 (main_of 0 (again ∷ end_place ∷ []) ∷ routine_of 0 0 0 (again ∷ end_place ∷ []) ∷ [])

-- READ of two locals
abbrev pub read_two : List Place
read_two = Read (ToVariable (Local 0) ∷ ToVariable (Local 1) ∷ []) ∷ end_place ∷ []

-- two entities, each of which adds its number to global variable 2
abbrev pub each_of_two : ProgramTable
each_of_two =
    program_of 3 (
    main_of 0 (let_be (Global 1) (number 2) ∷ for_each 0 1 ∷ add_to (Global 2) (alone (variable (Global 0))) ∷ end_place
    ∷ [])
    ∷ []
    )

-- SKIP of a number of lines
abbrev pub skip_of : Expr → List Place
skip_of expression = Output (Skip expression) ∷ end_place ∷ []

-- ---- entities and sets

-- MAIN with 2 locals over a temporary class with one attribute, whose variable is global 0, and a set of the system of
-- this discipline
abbrev pub jobs_with : Discipline → List Place → ProgramTable
jobs_with discipline xs = record {
  globals = [] ∷ [];
  classes = record { name = []; kind = Temporary; variable = 0; attributes = [] ∷ [] } ∷ [];
  sets = record { name = []; discipline = discipline; owner = System; member = 0 } ∷ [];
  priority = [];
  sections = main_of 2 xs ∷ [];
}

-- the list of that set
abbrev pub queue : SetRef
queue = record { set = 0; owner = of_system }

-- the entity that the class's variable names
abbrev pub job : Expr
job = alone (variable (Global 0))

-- a new entity with this value, filed by the discipline
abbrev pub job_of : ℕ → List Place
job_of n =
    Making (Create 0 false (ToVariable (Global 0))) ∷ Assign (Let false (Attribute 0 0 (implied 0)) (number n))
    ∷ Filing (File job ByRule queue) ∷ []

-- FOR EVERY member of the list
abbrev pub for_every_job : Direction → Place
for_every_job direction =
    Looping (For (record { phrase = Walking direction (Global 0) queue AtTheEnd; qualifiers = []; has_do = false }))

-- the member's value written after the digits of local 0
abbrev pub note_value : Place
note_value =
    Assign (Let false (ToVariable (Local 0)) (expr None (term (variable (Local 0)) (product (digits 10) no_products))
    (sum Plus (term (attribute 0 0 (implied 0)) no_products) no_sums)))

-- three entities of the values 3, 1 and 2 are filed, and their list is walked
abbrev pub three_jobs : Discipline → Direction → ProgramTable
three_jobs discipline way =
    jobs_with discipline (job_of 3 ++ (job_of 1 ++ (job_of 2 ++ (for_every_job way ∷ note_value ∷ end_place ∷ []))))

-- two entities are filed, and the loop removes the last member at its first turn
abbrev pub next_is_removed : ProgramTable
next_is_removed =
    jobs_with Fifo (job_of 1 ++ (job_of 2 ++ (for_every_job Onward
    ∷ Filing (RemoveAt ends.Last (ToVariable (Local 1)) queue) ∷ end_place ∷ [])))

-- an entity is ended though it is filed
abbrev pub filed_is_ended : ProgramTable
filed_is_ended = jobs_with Fifo (job_of 1 ++ (Making (Destroy 0 false job) ∷ end_place ∷ []))

-- the least value first
abbrev pub by_least : Discipline
by_least = Ranked (record { rank = Low; attribute = 0 } ∷ [])

-- ---- event notices

-- MAIN over an event class with one attribute, whose variable is global 0, and a set of the system for its notices; the
-- keys that break ties, whether the event says SAVING, and its places, with the attribute in its first local
abbrev pub ticks_with : List Key → Bool → List Place → List Place → ProgramTable
ticks_with ties saving xs ys = record {
  globals = [] ∷ [] ∷ [];
  classes = record {
    name = [];
    kind = OfEvent (record { section = 1; ties = ties; external = false });
    variable = 0;
    attributes = [] ∷ [];
  } ∷ [];
  sets = record { name = []; discipline = Fifo; owner = System; member = 0 } ∷ [];
  priority = [];
  sections = main_of 0 xs ∷ record {
    name = codes "TICK";
    kind = Event;
    line = 1;
    given = 1;
    yielded = 0;
    saving = saving;
    locals = [] ∷ [];
    places = on_one_line ys;
    listing = Given;
    defines = [];
  } ∷ [];
}

-- SCHEDULE A notice with this value
abbrev pub tick_of : ℕ → When → Place
tick_of n when = Timing (Schedule (record {
  class = 0;
  notice = New false (ToVariable (Global 0));
  listing = Given;
  arguments = number n ∷ [];
  when = when;
}))

-- SCHEDULE THE notice that the class's variable names
abbrev pub tick_again : When → Place
tick_again when = Timing (Schedule (record {
  class = 0;
  notice = Known false job;
  listing = Given;
  arguments = [];
  when = when;
}))

-- AT a number
abbrev pub at : ℕ → When
at n = At (number n)

-- AT a number below zero
abbrev pub at_below : ℕ → When
at_below n = At (below_zero n)

-- DESTROY it
abbrev pub destroy_tick : Place
destroy_tick = Making (Destroy 0 false job)

-- FILE it in the list
abbrev pub file_tick : Place
file_tick = Filing (File job ByRule queue)

-- CANCEL it
abbrev pub cancel_tick : Place
cancel_tick = Timing (Cancel 0 false job)

-- START SIMULATION
abbrev pub start_place : Place
start_place = Timing Start

-- the event's value written after the digits of global 1
abbrev pub note_tick : Place
note_tick =
    Assign (Let false (ToVariable (Global 1)) (expr None (term (variable (Global 1)) (product (digits 10) no_products))
    (sum Plus (term (variable (Local 0)) no_products) no_sums)))

-- the least value first
abbrev pub by_value : List Key
by_value = record { rank = Low; attribute = 0 } ∷ []

-- two notices at one time, of the values 2 and 1
abbrev pub two_ticks : List Key → ProgramTable
two_ticks ties =
    ticks_with ties false (tick_of 2 Now ∷ tick_of 1 Now ∷ start_place ∷ end_place ∷ []) (note_tick ∷ end_place ∷ [])

-- the first of two notices gets another value after its scheduling
abbrev pub tick_changed : ProgramTable
tick_changed =
    ticks_with by_value false (tick_of 1 Now ∷ Assign (Let false (Attribute 0 0 (implied 0)) (number 9))
    ∷ tick_of 2 Now ∷ start_place ∷ end_place ∷ []) (note_tick ∷ end_place ∷ [])

-- an event schedules another one in five days
abbrev pub tick_every_five : ProgramTable
tick_every_five =
    ticks_with [] false (tick_of 7 (At (number 3)) ∷ start_place ∷ end_place ∷ [])
    (tick_of 7 (In (number 5)) ∷ end_place ∷ [])

-- an event schedules its own notice, which is saved
abbrev pub tick_saved : ProgramTable
tick_saved =
    ticks_with [] true (tick_of 7 (At (number 3)) ∷ start_place ∷ end_place ∷ [])
    (tick_again (In (number 5)) ∷ end_place ∷ [])

-- MAIN's places after a notice due at 3
abbrev pub behind_tick : List Place → ProgramTable
behind_tick xs = ticks_with [] false (tick_of 7 (At (number 3)) ∷ (xs ++ end_place ∷ [])) (end_place ∷ [])

-- ---- external events

-- MAIN over an external event class ARRIVAL with one attribute, whose variable is global 0; its event has two locals
abbrev pub arrivals_with : List Place → List Place → ProgramTable
arrivals_with xs ys = record {
  globals = [] ∷ [] ∷ [];
  classes = record {
    name = codes "ARRIVAL";
    kind = OfEvent (record { section = 1; ties = []; external = true });
    variable = 0;
    attributes = [] ∷ [];
  } ∷ [];
  sets = [];
  priority = [];
  sections = main_of 0 xs ∷ record {
    name = codes "ARRIVAL";
    kind = Event;
    line = 1;
    given = 1;
    yielded = 0;
    saving = false;
    locals = [] ∷ [];
    places = on_one_line ys;
    listing = Given;
    defines = [];
  } ∷ [];
}

-- each entry's event reads one value, which it writes after the digits of global 1
abbrev pub values_of_arrivals : ProgramTable
values_of_arrivals =
    arrivals_with (start_place ∷ end_place ∷ []) (Read (ToVariable (Local 0) ∷ []) ∷ note_tick ∷ end_place ∷ [])

-- an event that the model scheduled does this while an entry waits
abbrev pub while_waiting : Place → ProgramTable
while_waiting place = arrivals_with (tick_of 7 Now ∷ start_place ∷ end_place ∷ []) (place ∷ end_place ∷ [])

-- CANCEL of notice number n
abbrev pub cancel_number : ℕ → Place
cancel_number n = Timing (Cancel 0 true (number n))

-- READ of a local
abbrev pub read_one : Place
read_one = Read (ToVariable (Local 0) ∷ [])

-- ---- old steps

-- X, the only local of MAIN, is 1, 2 and then 3
abbrev pub counting_up : Input
counting_up =
    input_with (program_of 0 (main_of 1 (let_be (Local 0) (number 1) ∷ let_be (Local 0) (number 2)
    ∷ let_be (Local 0) (number 3) ∷ end_place ∷ []) ∷ [])) []
