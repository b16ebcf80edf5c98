-- Two sets of one owner have two list numbers.
use Rattle.std.proofs.Common.{◌≡◌, ℕ, zero, suc, ◌+◌, ◌<◌, ◌≤◌, List, [], Bool, true, false}
use Rattle.std.proofs.Common.{refl, sym, ap, ◌∙◌, arith, length, take}
use Rattle.std.proofs.Common.{nat_lt}
use Rattle.std.specs.Prelude.{slice_index_or, count_by, ◌==◌, ◌&&◌}
use Rattle.std.proofs.lemmas.Bool.{eqb-true}
use Rattle.std.proofs.lemmas.Bool.Decides.{nat_tests}
use Rattle.std.proofs.lemmas.List.Sums.{count_by_more_no, count_by_more_yes}
use Rattle.std.proofs.lemmas.Option.{unwrap_or-slice_get}
use borrow.Author.Tests.{ltb-true, ltb-false}
use Rattle.ss_program.specs.declared.kinds.Discipline.TheVariants.{Fifo}
use Rattle.ss_program.specs.declared.kinds.Owner.{Owner}
use Rattle.ss_program.specs.declared.kinds.Owner.TheVariants.{System, OwnedBy}
use Rattle.ss_program.specs.Program.{ProgramTable, SetTable, set_of, is_same_owner, owned_among}
use Rattle.ss_store.specs.declared.shape.SetShape.{SetShape}
use Rattle.ss_debug.specs.Entities.{shape_of}
use Rattle.ss_trace.proofs.Glances.{shape_is}
use Rattle.ss_trace.proofs.NumberPlaces.{both, at_by}

-- ---- two sets have two lists

pub owner_is : (v w : Owner) → is_same_owner v w ≡ true → v ≡ w
owner_is System System e = refl
owner_is (OwnedBy c) (OwnedBy d) e = ap OwnedBy (eqb-true c d e)
owner_is System (OwnedBy d) e = absurd (cc)
owner_is (OwnedBy c) System e = absurd (cc)

owner_itself : (w : Owner) → is_same_owner w w ≡ true
owner_itself System = refl
owner_itself (OwnedBy c) = grind (arith, nat_tests)

counted_no_less : (test : SetTable → Bool) (xs : List SetTable) (i : ℕ) (d : SetTable) → i < length xs →
    count_by test (take i xs) ≤ count_by test (take (i + 1) xs)
counted_no_less test xs i d h = chosen (test (slice_index_or xs i d)) refl
  where
    chosen : (b : Bool) → test (slice_index_or xs i d) ≡ b →
        count_by test (take i xs) ≤ count_by test (take (i + 1) xs)
    chosen true e = let more = count_by_more_yes test xs i d h e in omega (arith, more)
    chosen false e = let same = count_by_more_no test xs i d h e in omega (arith, same)

counted_less : (test : SetTable → Bool) (xs : List SetTable) (i j : ℕ) (d : SetTable) → i < j → j ≤ length xs →
    test (slice_index_or xs i d) ≡ true → count_by test (take i xs) < count_by test (take j xs)
counted_less test xs i zero d h l e = absurd (omega (arith, h))
counted_less test xs i (suc j) d h l e =
    let next : suc j ≡ j + 1 = omega arith in
    at_by (nat_lt i j) i j refl
    (λ f.
    let before = counted_less test xs i j d f (omega (arith, l)) e in
    let more = counted_no_less test xs j d (omega (arith, l)) in
    rw next (omega (arith, before, more)))
    (λ f.
    let more = count_by_more_yes test xs i d (omega (arith, h, l)) e in
    rw (next, sym f) (omega (arith, more))) h

abbrev no_set : SetTable
no_set = record { name = []; discipline = Fifo; owner = System; member = 0 }

row_is : (p : ProgramTable) (s : ℕ) → slice_index_or p.sets s no_set ≡ set_of p s
row_is p s = sym (unwrap_or-slice_get p.sets s no_set)

-- one of two sets of an owner has the lower list number
lists_apart : (p : ProgramTable) (s i : ℕ) → s < i → i < length p.sets → (shape_of p s).owner ≡ (shape_of p i).owner →
    (shape_of p s).list ≡ (shape_of p i).list → ⊥
lists_apart p s i less h e l =
    let w : Owner = (set_of p s).owner in
    let one = shape_is p s (omega (arith, less, h)) in
    let other = shape_is p i h in
    let owners : w ≡ (set_of p i).owner =
    ap (λ (x : SetShape). x.owner) (sym one) ∙ e ∙ ap (λ (x : SetShape). x.owner) other in
    let numbers : owned_among w (take s p.sets) ≡ owned_among (set_of p i).owner (take i p.sets) =
    ap (λ (x : SetShape). x.list) (sym one) ∙ l ∙ ap (λ (x : SetShape). x.list) other in
    let first : is_same_owner w (slice_index_or p.sets s no_set).owner ≡ true =
    ap (λ (x : SetTable). is_same_owner w x.owner) (row_is p s) ∙ owner_itself w in
    let fewer =
    counted_less (λ (x : SetTable). is_same_owner w x.owner) p.sets s i no_set less (omega (arith, h)) first in
    let same : owned_among w (take s p.sets) ≡ owned_among w (take i p.sets) =
    numbers ∙ ap (λ (v : Owner). owned_among v (take i p.sets)) (sym owners) in
    omega (arith, fewer, same)

-- lists of one owner with one number are those of one set
pub one_set : (p : ProgramTable) (s i : ℕ) → s < length p.sets → i < length p.sets →
    (is_same_owner (shape_of p s).owner (shape_of p i).owner && ((shape_of p s).list == (shape_of p i).list)) ≡ true →
    s ≡ i
one_set p s i h k e =
    let b = both _ _ e in
    let owners : (shape_of p s).owner ≡ (shape_of p i).owner = owner_is _ _ b.0 in
    let lists : (shape_of p s).list ≡ (shape_of p i).list = eqb-true _ _ b.1 in
    by_order (nat_lt s i) (nat_lt i s) refl refl owners lists
  where
    by_order : (a b : Bool) → nat_lt s i ≡ a → nat_lt i s ≡ b → (shape_of p s).owner ≡ (shape_of p i).owner →
        (shape_of p s).list ≡ (shape_of p i).list → s ≡ i
    by_order true b f g o l = absurd (lists_apart p s i (omega (arith, ltb-true _ _ f)) k o l)
    by_order false true f g o l = absurd (lists_apart p i s (omega (arith, ltb-true _ _ g)) h (sym o) (sym l))
    by_order false false f g o l = omega (arith, ltb-false _ _ f, ltb-false _ _ g)
