-- Which relation of a condition with OR is looked at.
use Rattle.std.proofs.Common.{◌≡◌, ◌≤◌, ◌<◌, ℕ, List, [], ◌∷◌, length, map, arith}
use Rattle.ss_program.specs.Program.{ProgramTable}
use Rattle.ss_program.specs.ProgramCondition.{Conjunction, any, conjunctions_of}
use Rattle.ss_state.specs.State.{State}
use Rattle.ss_faults.specs.declared.told.Told.{Told}
use Rattle.ss_faults.specs.Missing.{condition_told, first_told}

-- none of the further conjunctions is looked at
pub further : {A : Type 0} (f : A → Conjunction) (more : List A) (p : ProgramTable) (s : State) (c : Conjunction)
    (r : Told) → r ≡ first_told p s c → 1 ≤ length more → r ≡ condition_told p s (any c (conjunctions_of (map f more)))
further f [] p s c r e h = absurd (omega (arith, h))
further f (x ∷ xs) p s c r e h = e

-- of conditions
pub ruleset conditions = (further)
