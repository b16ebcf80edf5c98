-- The value of a variable, whether a state has it or not.
use Rattle.std.proofs.Common.{◌≡◌, ℕ, zero, suc, ◌<◌, ◌≤◌, List, [], ◌∷◌, length, refl, arith, Option, Some, None}
use Rattle.std.specs.Prelude.{ℤ, pos, slice_get, slice_index_or, unwrap_or}
use Rattle.ss_program.specs.Program.{ProgramTable}
use Rattle.ss_store.specs.Tables.{Tables, tables_of}
use Rattle.ss_machine.proofs.Scopes.{set_count}

-- there is nothing after the last
pub past_end : (xs : List ℤ) (i : ℕ) → length xs ≤ i → slice_index_or xs i (pos 0) ≡ pos 0
past_end [] i h = refl
past_end (x ∷ xs) zero h = absurd (omega (arith, h))
past_end (x ∷ xs) (suc i) h = past_end xs i (omega (arith, h))

-- one that may be missing
pub local_or : (xs : List ℤ) (i : ℕ) → unwrap_or (slice_get xs i) (pos 0) ≡ slice_index_or xs i (pos 0)
local_or [] i = refl
local_or (x ∷ xs) zero = refl
local_or (x ∷ xs) (suc i) = local_or xs i

-- variables
pub ruleset variables = (past_end, local_or)

-- the store has the sets of the program
pub sets_kept : (p : ProgramTable) (t : Tables) (s : ℕ) → t ≡ tables_of p → s < length p.sets → s < length t.sets
sets_kept p t s e h = let count : length t.sets ≡ length p.sets = rw e (set_count p) in omega (arith, count, h)
