-- The places of the numbers of an entity.
use Rattle.std.proofs.Common.{◌≡◌, ℕ, ℤ, zero, suc, ◌+◌, ◌*◌, ◌<◌, ◌≤◌, pos, List, [], ◌∷◌, ◌++◌, Bool, true, false}
use Rattle.std.proofs.Common.{refl, sym, ap, ◌∙◌, arith, length, length-append}
use Rattle.std.proofs.Common.{nat_lt}
use Rattle.std.specs.Prelude.{slice_index_or, ◌&&◌}
use Rattle.std.proofs.lemmas.Bool.Decides.{Decides-int_eq}
use borrow.Author.Tests.{ltb-true, ltb-false}
use Rattle.ss_program.specs.Program.{ProgramTable, class_of}
use Rattle.ss_store.specs.Store.{Store}
use Rattle.ss_trace.specs.EntityNumbers.{numbers_below, attribute_number, attribute_numbers, set_numbers}
use Rattle.ss_trace.specs.EntityNumbers.{entity_numbers}
use Rattle.ss_trace.specs.Told.{tells, set_place}

-- two tests that hold
pub both : (b c : Bool) → (b && c) ≡ true → (b ≡ true) × (c ≡ true)
both true c e = (refl, e)
both false c e = absurd (cc)

pub clash : true ≡ false → ⊥
clash e = cc

-- ---- the places of numbers

front_at : (xs ys : List ℤ) (i : ℕ) (d : ℤ) → i < length xs → slice_index_or (xs ++ ys) i d ≡ slice_index_or xs i d
front_at [] ys i d h = absurd (omega (arith, h))
front_at (x ∷ xs) ys zero d h = refl
front_at (x ∷ xs) ys (suc i) d h = front_at xs ys i d (omega (arith, h))

behind_at : (xs ys : List ℤ) (i : ℕ) (d : ℤ) → slice_index_or (xs ++ ys) (length xs + i) d ≡ slice_index_or ys i d
behind_at [] ys i d = let same : 0 + i ≡ i = omega arith in ap (λ (j : ℕ). slice_index_or ys j d) same
behind_at (x ∷ xs) ys i d =
    let same : suc (length xs) + i ≡ suc (length xs + i) = omega arith in
    ap (λ (j : ℕ). slice_index_or (x ∷ (xs ++ ys)) j d) same ∙ behind_at xs ys i d

-- if each list is one number, n of them are n numbers
ones_length : (f : ℕ → List ℤ) → ((i : ℕ) → length (f i) ≡ 1) → (n : ℕ) → length (numbers_below f n) ≡ n
ones_length f h zero = refl
ones_length f h (suc n) =
    let one = length-append (numbers_below f n) (f n) in
    let before = ones_length f h n in
    let here = h n in
    omega (arith, one, before, here)

-- if each list is six numbers, n of them are 6 * n numbers
sixes_length : (f : ℕ → List ℤ) → ((i : ℕ) → length (f i) ≡ 6) → (n : ℕ) → length (numbers_below f n) ≡ 6 * n
sixes_length f h zero = omega arith
sixes_length f h (suc n) =
    let one = length-append (numbers_below f n) (f n) in
    let before = sixes_length f h n in
    let here = h n in
    omega (arith, one, before, here)

grown_by : (b : Bool) (i n x y z : ℕ) → nat_lt i n ≡ b → (i < n → x ≤ y) → (i ≡ n → x ≤ y + z) → i < suc n → x ≤ y + z
grown_by true i n x y z e f g h = let less = f (omega (arith, ltb-true _ _ e)) in omega (arith, less)
grown_by false i n x y z e f g h = g (omega (arith, h, ltb-false _ _ e))

below_grows : (f : ℕ → List ℤ) (i n : ℕ) → i < n →
    length (numbers_below f i) + length (f i) ≤ length (numbers_below f n)
below_grows f i zero h = absurd (omega (arith, h))
below_grows f i (suc n) h =
    let one = length-append (numbers_below f n) (f n) in
    let grown =
    grown_by (nat_lt i n) i n (length (numbers_below f i) + length (f i)) (length (numbers_below f n)) (length (f n))
    refl (λ l. below_grows f i n l) (λ e. rw e (omega arith)) h in
    omega (arith, one, grown)

pub at_by : {A : Type 0} (b : Bool) (i n : ℕ) → nat_lt i n ≡ b → (i < n → A) → (i ≡ n → A) → i < suc n → A
at_by true i n e f g h = f (omega (arith, ltb-true _ _ e))
at_by false i n e f g h = g (omega (arith, h, ltb-false _ _ e))

-- number j of those of i
below_at : (f : ℕ → List ℤ) (n i j : ℕ) (d : ℤ) → i < n → j < length (f i) →
    slice_index_or (numbers_below f n) (length (numbers_below f i) + j) d ≡ slice_index_or (f i) j d
below_at f zero i j d h k = absurd (omega (arith, h))
below_at f (suc n) i j d h k =
    at_by (nat_lt i n) i n refl
    (λ l.
    front_at (numbers_below f n) (f n) (length (numbers_below f i) + j) d (omega (arith, below_grows f i n l, k))
    ∙ below_at f n i j d l k)
    (λ e. rw e (behind_at (numbers_below f n) (f n) j d)) h

pub below_same : (f g : ℕ → List ℤ) (n : ℕ) → ((i : ℕ) → i < n → f i ≡ g i) → numbers_below f n ≡ numbers_below g n
below_same f g zero h = refl
below_same f g (suc n) h =
    rw (below_same f g n (λ i k. h i (omega (arith, k))), h n (omega arith)) refl

-- attribute a of the numbers of an entity
pub attribute_at : (p : ProgramTable) (st : Store) (c k a : ℕ) → a < length (class_of p c).attributes →
    slice_index_or (entity_numbers p st c k) a (pos 0) ≡ attribute_number st c k a
attribute_at p st c k a h =
    let f : ℕ → List ℤ = attribute_numbers st c k in
    let n = length (class_of p c).attributes in
    let long = ones_length f (λ i. refl) a in
    let all = ones_length f (λ i. refl) n in
    let same : a ≡ length (numbers_below f a) + 0 = omega (arith, long) in
    front_at (numbers_below f n) (numbers_below (set_numbers p st c k) (length p.sets)) a (pos 0)
    (omega (arith, all, h))
    ∙ ap (λ (i : ℕ). slice_index_or (numbers_below f n) i (pos 0)) same ∙ below_at f n a 0 (pos 0) h (omega arith)

-- number j of set s
pub set_at : (p : ProgramTable) (st : Store) (c k s j : ℕ) → s < length p.sets → j < 6 →
    slice_index_or (entity_numbers p st c k) (set_place p c s + j) (pos 0)
    ≡ slice_index_or (set_numbers p st c k s) j (pos 0)
set_at p st c k s j h l =
    let f : ℕ → List ℤ = attribute_numbers st c k in
    let g : ℕ → List ℤ = set_numbers p st c k in
    let n = length (class_of p c).attributes in
    let all = ones_length f (λ i. refl) n in
    let long = sixes_length g (λ i. refl) s in
    let there : n + 6 * s + j ≡ length (numbers_below f n) + (length (numbers_below g s) + j) =
    omega (arith, all, long) in
    ap (λ (i : ℕ). slice_index_or (entity_numbers p st c k) i (pos 0)) there
    ∙ behind_at (numbers_below f n) (numbers_below g (length p.sets)) (length (numbers_below g s) + j) (pos 0)
    ∙ below_at g (length p.sets) s j (pos 0) h (omega (arith, l))

-- a number that agrees is equal
pub is_number : (xs : List ℤ) (i : ℕ) (x y : ℤ) → slice_index_or xs i (pos 0) ≡ x → tells xs i y ≡ true → x ≡ y
is_number xs i x y e h = sym e ∙ (Decides-int_eq (slice_index_or xs i (pos 0)) y).0 h
