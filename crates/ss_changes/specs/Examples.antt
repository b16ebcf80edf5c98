-- Small programs whose steps change something, or nothing.
use Rattle.std.specs.Prelude.{[], ◌∷◌, codes, false, None}
use Rattle.ss_words.specs.declared.terms.SetEnd.TheVariants as ends
use Rattle.ss_words.specs.declared.terms.TermSign.TheVariants.{Plus}
use Rattle.ss_program.specs.declared.target.Target.TheVariants.{Variable as ToVariable, Attribute}
use Rattle.ss_program.specs.declared.making.Making.TheVariants.{Create, Destroy}
use Rattle.ss_program.specs.declared.filing.Position.TheVariants.{ByRule}
use Rattle.ss_program.specs.declared.filing.Filing.TheVariants.{File, RemoveAt}
use Rattle.ss_program.specs.declared.kinds.ClassKind.TheVariants.{Temporary}
use Rattle.ss_program.specs.declared.kinds.Discipline.TheVariants.{Fifo}
use Rattle.ss_program.specs.declared.kinds.Owner.TheVariants.{System}
use Rattle.ss_program.specs.declared.kinds.SectionKind.TheVariants.{Main, Routine}
use Rattle.ss_program.specs.declared.place.Assign.TheVariants.{Let}
use Rattle.ss_program.specs.declared.place.Output.TheVariants.{Skip}
use Rattle.ss_program.specs.declared.place.Place.TheVariants.{Assign, Making, Filing, Output, Call, Read}
use Rattle.ss_program.specs.declared.timing.Listing.TheVariants.{Given}
use Rattle.ss_program.specs.declared.variable.Variable.TheVariants.{Global, Local}
use Rattle.ss_program.specs.ProgramExpr.{expr, no_sums, sum, term, no_products, variable, digits, implied}
use Rattle.ss_program.specs.Program.{ProgramTable}
use Rattle.ss_state.specs.Run.{Input, input_with}
use Rattle.ss_state.specs.Examples.{alone, number, job, queue, end_place, next_is_removed}
use Rattle.ss_inspect.specs.Examples.{section, desks}

-- jobs, a row of the system, and a routine: 7 READ N, M, X; 8 LET M = M; 9 SKIP 0; 10 CREATE A JOB; 11 FILE JOB IN ROW;
-- 12 CALL MORE GIVEN 4 YIELDING X; 13 LET SIZE = X; 14 REMOVE FIRST JOB FROM ROW; 15 DESTROY JOB; 16 CREATE A JOB;
-- 17 END; in MORE: 19 LET Q = P + 1; 20 END
abbrev pub jobs : ProgramTable
jobs = record {
  globals = codes "JOB" ∷ codes "N" ∷ codes "M" ∷ [];
  classes = record { name = codes "JOB"; kind = Temporary; variable = 0; attributes = codes "SIZE" ∷ [] } ∷ [];
  sets = record { name = codes "ROW"; discipline = Fifo; owner = System; member = 0 } ∷ [];
  priority = [];
  sections =
      section (codes "MAIN") Main 6 0 0 (codes "X" ∷ []) (
      Read (ToVariable (Global 1) ∷ ToVariable (Global 2) ∷ ToVariable (Local 0) ∷ [])
      ∷ Assign (Let false (ToVariable (Global 2)) (alone (variable (Global 2))))
      ∷ Output (Skip (number 0))
      ∷ Making (Create 0 false (ToVariable (Global 0)))
      ∷ Filing (File job ByRule queue)
      ∷ Call (record { section = 1; given = number 4 ∷ []; targets = ToVariable (Local 0) ∷ []; listing = Given })
      ∷ Assign (Let false (Attribute 0 0 (implied 0)) (alone (variable (Local 0))))
      ∷ Filing (RemoveAt ends.First (ToVariable (Global 0)) queue)
      ∷ Making (Destroy 0 false job)
      ∷ Making (Create 0 false (ToVariable (Global 0)))
      ∷ end_place ∷ [])
      ∷ section (codes "MORE") Routine 18 1 1 (codes "P" ∷ codes "Q" ∷ []) (
      Assign (Let false (ToVariable (Local 1)) (expr None (term (variable (Local 0)) no_products)
      (sum Plus (term (digits 1) no_products) no_sums)))
      ∷ end_place ∷ [])
      ∷ [];
}

-- its run over data
abbrev pub jobs_run : Input
jobs_run = input_with jobs (codes "3 4 9\n")

-- seven desks, each with a row of jobs
abbrev pub desks_run : Input
desks_run = input_with desks (codes "7\n")

-- a loop whose next member is removed: F14
abbrev pub removed_run : Input
removed_run = input_with next_is_removed []
