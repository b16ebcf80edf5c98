-- The numbers of entities.
use Rattle.std.proofs.Common.{◌≡◌, ℕ, suc, ◌≤◌, false, [], refl, arith, slice_get}
use Rattle.std.proofs.Common.{None}
use Rattle.std.proofs.lemmas.Option.{slice_get_past}
use Rattle.ss_debug.specs.Entities.{lines_below}
use Rattle.ss_store.specs.Store.{Store, made_of, exists, greatest_number}
use Rattle.ss_inspect.specs.Living.{living_at, living_numbers}
use Rattle.ss_inspect.proofs.TextSequences.{none_past}

-- there is no entity past the greatest number
pub none_there : (st : Store) (c i : ℕ) → greatest_number st c ≤ i → exists st c (suc i) ≡ false
none_there st c i h =
    let made : slice_get (made_of st c) i ≡ None = slice_get_past (made_of st c) i (omega (arith, h)) in
    let references : slice_get st.references i ≡ None = slice_get_past st.references i (omega (arith, h)) in
    rw (made, references) refl

none_living : (st : Store) (c i : ℕ) → greatest_number st c ≤ i → living_at st c i ≡ []
none_living st c i h = rw (none_there st c i h) refl

-- those that live are all up to any limit that none is past
pub all_living : (st : Store) (c m : ℕ) → greatest_number st c ≤ m →
    lines_below (living_at st c) m ≡ living_numbers st c
all_living st c m h = none_past (living_at st c) (greatest_number st c) m h (none_living st c)
