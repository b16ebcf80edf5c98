-- so do IF, ELSE and ALWAYS
use Rattle.std.proofs.Common.{Bool, true, false}
use Rattle.std.specs.Prelude.{if◌then◌else◌}
use Rattle.ss_program.specs.declared.place.Place.TheVariants as places
use Rattle.ss_program.specs.declared.branch.Branch.{Branch}
use Rattle.ss_program.specs.declared.branch.Branch.TheVariants.{If, Else, Always}
use Rattle.ss_program.specs.declared.ways.Ways.{Ways}
use Rattle.ss_program.specs.Program.{ProgramTable}
use Rattle.ss_state.specs.State.{State}
use Rattle.ss_store.specs.Tables.{tables_of}
use Rattle.ss_state.specs.Statements.Branching.{question_answer, step_branch}
use Rattle.ss_state.specs.Well.{IsInBounds}
use Rattle.ss_state.proofs.Ranges.{anything}
use Rattle.ss_state.proofs.Wells.Shared.{IsPlace, LeadsHere, settled_well, state_at_place_well}

pub branch_well : (p : ProgramTable) (s : State) (y : Ways) (b : Branch) → LeadsHere p s y (places.Branch b) →
    IsInBounds p s →
    IsInBounds p (step_branch (tables_of p) s y b)
branch_well p s y (If q) l w =
    settled_well (λ (_ : Bool). Unit {0}) p s (question_answer (tables_of p) s q) _ w (anything _)
    (λ b _. state_at_place_well p s _ (either b) w)
  where
    either : (b : Bool) → IsPlace p s (if b then y.next else y.exit)
    either true = l.next
    either false = l.leads
branch_well p s y Else l w = state_at_place_well p s y.next l.next w
branch_well p s y Always l w = state_at_place_well p s y.next l.next w
