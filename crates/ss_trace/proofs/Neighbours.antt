-- The numbers that a set has for an entity's neighbours.
use Rattle.std.proofs.Common.{◌≡◌, ℕ, ℤ, pos, List, refl}
use Rattle.std.specs.Prelude.{if◌then◌else◌, unwrap_or}
use Rattle.ss_program.specs.Program.{ProgramTable}
use Rattle.ss_store.specs.declared.shape.Neighbours.{Neighbours}
use Rattle.ss_store.specs.Store.{Store}
use Rattle.ss_trace.specs.EntityNumbers.{AreKept}
use Rattle.ss_trace.specs.Told.{tells_beside, tells_member}

-- the numbers of a set agree with a member if they agree with the neighbours that are read of it
pub beside_is : (p : ProgramTable) (st : Store) (c k s : ℕ) (xs : List ℤ) (i : ℕ) (n : Neighbours) →
    AreKept p st c k s n →
    tells_beside xs i (pos (unwrap_or n.before 0)) (pos (unwrap_or n.behind 0)) (pos (if n.is_filed then 1 else 0))
    ≡ tells_member p st c k xs s i
beside_is p st c k s xs i n h = rw (h.0, h.1, h.2) refl
