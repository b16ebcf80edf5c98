-- Small programs whose states are seen.
use Rattle.std.specs.Prelude.{ℕ, ◌+◌, List, [], ◌∷◌, codes, false, None}
use Rattle.ss_words.specs.declared.terms.Rank.TheVariants.{High, Low}
use Rattle.ss_words.specs.declared.terms.TermSign.TheVariants.{Plus}
use Rattle.ss_program.specs.declared.target.Target.TheVariants.{Variable as ToVariable, Attribute}
use Rattle.ss_program.specs.declared.making.Making.TheVariants.{Create, CreateEvery}
use Rattle.ss_program.specs.declared.filing.Position.TheVariants.{ByRule}
use Rattle.ss_program.specs.declared.filing.Filing.TheVariants.{File}
use Rattle.ss_program.specs.declared.kinds.ClassKind.TheVariants.{Permanent, Temporary, Event as OfEvent}
use Rattle.ss_program.specs.declared.kinds.Discipline.TheVariants.{Fifo, Lifo, Ranked}
use Rattle.ss_program.specs.declared.kinds.Owner.TheVariants.{System, OwnedBy}
use Rattle.ss_program.specs.declared.kinds.SectionKind.{SectionKind}
use Rattle.ss_program.specs.declared.kinds.SectionKind.TheVariants.{Main, Routine, Event}
use Rattle.ss_program.specs.declared.place.Assign.TheVariants.{Let}
use Rattle.ss_program.specs.declared.place.Output.TheVariants.{Skip}
use Rattle.ss_program.specs.declared.place.Place.{Place}
use Rattle.ss_program.specs.declared.place.Place.TheVariants.{Assign, Making, Filing, Output, Call, Read}
use Rattle.ss_program.specs.declared.place.Spot.{Spot}
use Rattle.ss_program.specs.declared.timing.Listing.TheVariants.{Given}
use Rattle.ss_program.specs.declared.timing.When.TheVariants.{At}
use Rattle.ss_program.specs.declared.variable.Variable.TheVariants.{Global, Local}
use Rattle.ss_program.specs.ProgramExpr.{expr, no_sums, sum, term, no_products, variable, digits, implied, at}
use Rattle.ss_program.specs.Program.{ProgramTable, SectionTable}
use Rattle.ss_state.specs.Run.{Input, input_with}
use Rattle.ss_state.specs.Examples.{alone, number, job, queue, end_place, start_place, tick_of}

-- places, the first on this line and each other one on the line after the one before it
abbrev pub on_lines_from : ℕ → List Place → List Spot
on_lines_from l [] = []
on_lines_from l (x ∷ xs) = record { line = l; place = x } ∷ on_lines_from (l + 1) xs

-- a section whose head is on line l, with these parameters, locals and places
abbrev pub section : List ℕ → SectionKind → ℕ → ℕ → ℕ → List (List ℕ) → List Place → SectionTable
section name kind l given yielded locals places = record {
  name = name;
  kind = kind;
  line = l;
  given = given;
  yielded = yielded;
  saving = false;
  locals = locals;
  places = on_lines_from (l + 1) places;
  listing = Given;
  defines = [];
}

-- jobs, a row of the system, and a routine: 7 CREATE A JOB; 8 LET SIZE = 5; 9 FILE JOB IN ROW;
-- 10 CALL MORE GIVEN 4 YIELDING X; 11 END; in MORE: 13 LET Q = P + 1; 14 END
abbrev pub jobs : ProgramTable
jobs = record {
  globals = codes "JOB" ∷ [];
  classes = record { name = codes "JOB"; kind = Temporary; variable = 0; attributes = codes "SIZE" ∷ [] } ∷ [];
  sets = record { name = codes "ROW"; discipline = Fifo; owner = System; member = 0 } ∷ [];
  priority = [];
  sections =
      section (codes "MAIN") Main 6 0 0 (codes "X" ∷ []) (
      Making (Create 0 false (ToVariable (Global 0)))
      ∷ Assign (Let false (Attribute 0 0 (implied 0)) (number 5))
      ∷ Filing (File job ByRule queue)
      ∷ Call (record { section = 1; given = number 4 ∷ []; targets = ToVariable (Local 0) ∷ []; listing = Given })
      ∷ end_place ∷ [])
      ∷ section (codes "MORE") Routine 12 1 1 (codes "P" ∷ codes "Q" ∷ []) (
      Assign (Let false (ToVariable (Local 1)) (expr None (term (variable (Local 0)) no_products)
      (sum Plus (term (digits 1) no_products) no_sums)))
      ∷ end_place ∷ [])
      ∷ [];
}

-- its run
abbrev pub jobs_run : Input
jobs_run = input_with jobs []

-- an event: 5 SCHEDULE A TICK(7) AT 3; 6 START SIMULATION; 7 END; in TICK: 9 SKIP 2; 10 END
abbrev pub ticks : ProgramTable
ticks = record {
  globals = codes "TICK" ∷ [];
  classes = record {
    name = codes "TICK";
    kind = OfEvent (record { section = 1; ties = []; external = false });
    variable = 0;
    attributes = codes "LOAD" ∷ [];
  } ∷ [];
  sets = [];
  priority = [];
  sections =
      section (codes "MAIN") Main 4 0 0 [] (tick_of 7 (At (number 3)) ∷ start_place ∷ end_place ∷ [])
      ∷ section (codes "TICK") Event 8 1 0 (codes "N" ∷ []) (Output (Skip (number 2)) ∷ end_place ∷ [])
      ∷ [];
}

-- its run
abbrev pub ticks_run : Input
ticks_run = input_with ticks []

-- desks, each with a row of jobs: 6 READ N.DESK; 7 CREATE EVERY DESK; 8 CREATE A JOB; 9 FILE JOB IN ROW(2);
-- 10 LET OPEN(2) = 7; 11 END
abbrev pub desks : ProgramTable
desks = record {
  globals = codes "DESK" ∷ codes "N.DESK" ∷ codes "JOB" ∷ [];
  classes =
      record { name = codes "DESK"; kind = Permanent 1; variable = 0; attributes = codes "OPEN" ∷ [] }
      ∷ record { name = codes "JOB"; kind = Temporary; variable = 2; attributes = [] }
      ∷ [];
  sets = record { name = codes "ROW"; discipline = Fifo; owner = OwnedBy 0; member = 1 } ∷ [];
  priority = [];
  sections = section (codes "MAIN") Main 5 0 0 [] (
      Read (ToVariable (Global 1) ∷ [])
      ∷ Making (CreateEvery 0 None 1)
      ∷ Making (Create 1 false (ToVariable (Global 2)))
      ∷ Filing (File (alone (variable (Global 2))) ByRule (record { set = 0; owner = at (number 2) }))
      ∷ Assign (Let false (Attribute 0 0 (at (number 2))) (number 7))
      ∷ end_place ∷ []) ∷ [];
}

-- its run over data
abbrev pub desks_run : Input
desks_run = input_with desks (codes "3\n")

-- queues of jobs: QUEUE RANKED BY HIGH URGENCY THEN BY LOW SIZE, one of each desk; LATE RANKED BY LOW SIZE, the
-- system's; DONE a LIFO set of the system
abbrev pub queues : ProgramTable
queues = record {
  globals = codes "DESK" ∷ codes "N.DESK" ∷ codes "JOB" ∷ [];
  classes =
      record { name = codes "DESK"; kind = Permanent 1; variable = 0; attributes = [] }
      ∷ record {
        name = codes "JOB";
        kind = Temporary;
        variable = 2;
        attributes = codes "SIZE" ∷ codes "URGENCY" ∷ [];
      }
      ∷ [];
  sets =
      record {
        name = codes "QUEUE";
        discipline = Ranked (record { rank = High; attribute = 1 } ∷ record { rank = Low; attribute = 0 } ∷ []);
        owner = OwnedBy 0;
        member = 1;
      }
      ∷ record {
        name = codes "LATE";
        discipline = Ranked (record { rank = Low; attribute = 0 } ∷ []);
        owner = System;
        member = 1;
      }
      ∷ record { name = codes "DONE"; discipline = Lifo; owner = System; member = 1 }
      ∷ [];
  priority = [];
  sections = section (codes "MAIN") Main 8 0 0 [] (end_place ∷ []) ∷ [];
}

-- its run
abbrev pub queues_run : Input
queues_run = input_with queues []
