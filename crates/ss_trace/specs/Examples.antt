-- Small programs, and questions that are followed through their runs.
use Rattle.std.specs.Prelude.{ℕ, pos, List, [], ◌∷◌, codes, false, None}
use Rattle.ss_words.specs.declared.terms.SetEnd.TheVariants as ends
use Rattle.ss_words.specs.declared.terms.TermSign.TheVariants.{Plus}
use Rattle.ss_program.specs.declared.target.Target.TheVariants.{Variable as ToVariable, Attribute as ToAttribute}
use Rattle.ss_program.specs.declared.making.Making.TheVariants.{Create, CreateEvery, Destroy}
use Rattle.ss_program.specs.declared.filing.Position.TheVariants.{ByRule}
use Rattle.ss_program.specs.declared.filing.Filing.TheVariants.{File, RemoveAt}
use Rattle.ss_program.specs.declared.kinds.ClassKind.TheVariants.{Permanent, Temporary, Event as OfEvent}
use Rattle.ss_program.specs.declared.kinds.Discipline.TheVariants.{Fifo}
use Rattle.ss_program.specs.declared.kinds.Owner.TheVariants.{System, OwnedBy}
use Rattle.ss_program.specs.declared.kinds.SectionKind.{SectionKind}
use Rattle.ss_program.specs.declared.kinds.SectionKind.TheVariants.{Main, Routine, Event}
use Rattle.ss_program.specs.declared.place.Assign.TheVariants.{Let}
use Rattle.ss_program.specs.declared.place.Output.TheVariants.{Skip}
use Rattle.ss_program.specs.declared.place.Place.{Place}
use Rattle.ss_program.specs.declared.place.Place.TheVariants.{Assign, Making, Filing, Output, Call, Read}
use Rattle.ss_program.specs.declared.timing.Listing.TheVariants.{Given}
use Rattle.ss_program.specs.declared.timing.When.TheVariants.{At}
use Rattle.ss_program.specs.declared.variable.Variable.TheVariants.{Global, Local}
use Rattle.ss_program.specs.ProgramExpr.{expr, no_sums, sum, term, no_products, variable, digits, implied, at}
use Rattle.ss_program.specs.Program.{ProgramTable, SectionTable}
use Rattle.ss_state.specs.Run.{Input, input_with}
use Rattle.ss_state.specs.Examples.{alone, number, job, queue, end_place, start_place, tick_of, on_one_line}
use Rattle.ss_state.specs.Examples.{next_is_removed}
use Rattle.ss_debug.specs.declared.commands.Question.TheVariants as shown
use Rattle.ss_debug.specs.Move.{search_back_end}
use Rattle.ss_trace.specs.declared.question.Question.{Question}
use Rattle.ss_trace.specs.declared.question.Question.TheVariants.{Shown, Attribute}
use Rattle.ss_trace.specs.Question.{changes_at}
use Rattle.ss_trace.specs.Movements.{ahead_end, has_changed}

-- a section with these parameters, locals and places
abbrev pub section : List ℕ → SectionKind → ℕ → ℕ → List (List ℕ) → List Place → SectionTable
section name kind given yielded locals places = record {
  name = name;
  kind = kind;
  line = 1;
  given = given;
  yielded = yielded;
  saving = false;
  locals = locals;
  places = on_one_line places;
  listing = Given;
  defines = [];
}

-- jobs, a row of the system, and a routine, from state to state: 0 CREATE A JOB; 1 LET SIZE = 5;
-- 2 FILE JOB IN ROW; 3 CALL MORE GIVEN 4 YIELDING X, in which 4 LET Q = P + 1 and 5 END;
-- 6 LET SIZE = X; 7 REMOVE FIRST JOB FROM ROW; 8 DESTROY JOB; 9 CREATE A JOB; 10 END
abbrev pub jobs : ProgramTable
jobs = record {
  globals = codes "JOB" ∷ [];
  classes = record { name = codes "JOB"; kind = Temporary; variable = 0; attributes = codes "SIZE" ∷ [] } ∷ [];
  sets = record { name = codes "ROW"; discipline = Fifo; owner = System; member = 0 } ∷ [];
  priority = [];
  sections =
      section (codes "MAIN") Main 0 0 (codes "X" ∷ []) (
      Making (Create 0 false (ToVariable (Global 0)))
      ∷ Assign (Let false (ToAttribute 0 0 (implied 0)) (number 5))
      ∷ Filing (File job ByRule queue)
      ∷ Call (record { section = 1; given = number 4 ∷ []; targets = ToVariable (Local 0) ∷ []; listing = Given })
      ∷ Assign (Let false (ToAttribute 0 0 (implied 0)) (alone (variable (Local 0))))
      ∷ Filing (RemoveAt ends.First (ToVariable (Global 0)) queue)
      ∷ Making (Destroy 0 false job)
      ∷ Making (Create 0 false (ToVariable (Global 0)))
      ∷ end_place ∷ [])
      ∷ section (codes "MORE") Routine 1 1 (codes "P" ∷ codes "Q" ∷ []) (
      Assign (Let false (ToVariable (Local 1)) (expr None (term (variable (Local 0)) no_products)
      (sum Plus (term (digits 1) no_products) no_sums)))
      ∷ end_place ∷ [])
      ∷ [];
}

-- its run
abbrev pub jobs_run : Input
jobs_run = input_with jobs []

-- a job that is filed and removed in neighbouring steps: 0 CREATE A JOB; 1 FILE JOB IN ROW;
-- 2 REMOVE FIRST JOB FROM ROW; 3 END
abbrev pub brief : ProgramTable
brief = record jobs {
  sections = section (codes "MAIN") Main 0 0 [] (
      Making (Create 0 false (ToVariable (Global 0)))
      ∷ Filing (File job ByRule queue)
      ∷ Filing (RemoveAt ends.First (ToVariable (Global 0)) queue)
      ∷ end_place ∷ []) ∷ [];
}

-- its run
abbrev pub brief_run : Input
brief_run = input_with brief []

-- an event: 0 SCHEDULE A TICK(7) AT 3; 1 START SIMULATION; in TICK 2 SKIP 0, 3 SKIP 2 and 4 END;
-- 5 START SIMULATION; 6 END
abbrev pub ticks : ProgramTable
ticks = record {
  globals = codes "TICK" ∷ [];
  classes = record {
    name = codes "TICK";
    kind = OfEvent (record { section = 1; ties = []; external = false });
    variable = 0;
    attributes = codes "LOAD" ∷ [];
  } ∷ [];
  sets = [];
  priority = [];
  sections =
      section (codes "MAIN") Main 0 0 [] (tick_of 7 (At (number 3)) ∷ start_place ∷ end_place ∷ [])
      ∷ section (codes "TICK") Event 1 0 (codes "N" ∷ []) (
      Output (Skip (number 0)) ∷ Output (Skip (number 2)) ∷ end_place ∷ [])
      ∷ [];
}

-- its run
abbrev pub ticks_run : Input
ticks_run = input_with ticks []

-- desks, each with a row of jobs: 0 READ N.DESK; 1 CREATE EVERY DESK; 2 CREATE A JOB;
-- 3 FILE JOB IN ROW(2); 4 LET OPEN(2) = 7; 5 END
abbrev pub desks : ProgramTable
desks = record {
  globals = codes "DESK" ∷ codes "N.DESK" ∷ codes "JOB" ∷ [];
  classes =
      record { name = codes "DESK"; kind = Permanent 1; variable = 0; attributes = codes "OPEN" ∷ [] }
      ∷ record { name = codes "JOB"; kind = Temporary; variable = 2; attributes = [] }
      ∷ [];
  sets = record { name = codes "ROW"; discipline = Fifo; owner = OwnedBy 0; member = 1 } ∷ [];
  priority = [];
  sections = section (codes "MAIN") Main 0 0 [] (
      Read (ToVariable (Global 1) ∷ [])
      ∷ Making (CreateEvery 0 None 1)
      ∷ Making (Create 1 false (ToVariable (Global 2)))
      ∷ Filing (File (alone (variable (Global 2))) ByRule (record { set = 0; owner = at (number 2) }))
      ∷ Assign (Let false (ToAttribute 0 0 (at (number 2))) (number 7))
      ∷ end_place ∷ []) ∷ [];
}

-- its run over the number of desks
abbrev pub desks_run : Input
desks_run = input_with desks (codes "3\n")

-- 0 READ A, B, A; 1 LET A = 5; 2 END
abbrev pub readings : ProgramTable
readings = record {
  globals = codes "A" ∷ codes "B" ∷ [];
  classes = [];
  sets = [];
  priority = [];
  sections = section (codes "MAIN") Main 0 0 [] (
      Read (ToVariable (Global 0) ∷ ToVariable (Global 1) ∷ ToVariable (Global 0) ∷ [])
      ∷ Assign (Let false (ToVariable (Global 0)) (number 5))
      ∷ end_place ∷ []) ∷ [];
}

-- its run over three numbers
abbrev pub readings_run : Input
readings_run = input_with readings (codes "3 4 5\n")

-- a list whose next member is removed while it is walked: F14 at step 9
abbrev pub walk_run : Input
walk_run = input_with next_is_removed []

-- ---- questions

-- VAR v
abbrev pub var : List ℕ → Question
var name = Shown (shown.Variable name)

-- SET ROW
abbrev pub row : Question
row = Shown (shown.Set (codes "ROW") None)

-- JOB k
abbrev pub job_shown : ℕ → Question
job_shown k = Shown (shown.Entity (codes "JOB") (pos k))

-- JOB 1 SIZE
abbrev pub size : Question
size = Attribute (codes "JOB") (pos 1) (codes "SIZE")

-- JOB 1 M.ROW
abbrev pub membership : Question
membership = Attribute (codes "JOB") (pos 1) (codes "M.ROW")

-- the set without a name of the walk
abbrev pub walked_set : Question
walked_set = Shown (shown.Set [] None)

-- ---- searches

-- the end of BACK CHANGE from p, when the states before another one are forgotten
abbrev pub back_from : Input → Question → ℕ → ℕ → ℕ
back_from input question earliest p = search_back_end (changes_at input question) earliest p 20

-- the end of RUN CHANGE from p
abbrev pub run_from : Input → Question → ℕ → ℕ
run_from input question p = ahead_end input [] (has_changed input question) p 20
