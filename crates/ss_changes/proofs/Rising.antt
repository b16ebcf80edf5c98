-- Numbers that rise, and where one is found among them.
use Rattle.std.proofs.Common.{◌≡◌, ◌≢◌, ℕ, zero, suc, ◌-◌, ◌<◌, ◌≤◌, ◌==◌, ◌||◌, Bool, true, false, cond, List, [], ◌∷◌, ◌++◌}
use Rattle.std.proofs.Common.{length, refl, sym, ap, ◌∙◌, arith, slice_index_or, nat_lt, Result, Ok, Err}
use Rattle.std.specs.Prelude.{is_ok}
use Rattle.std.specs.List.{list_any}
use Rattle.std.specs.List.Sorted.{IsNonDecreasing, IsPermutation, IsBinarySearchResult}
use Rattle.std.specs.Ordering.{nat_cmp}
use Rattle.std.proofs.lemmas.Bool.Decides.{Decides-eqb}
use Rattle.std.proofs.lemmas.List.{append-nil, get_or_append_left, get_or_push, length-append}
use Rattle.std.proofs.lemmas.List.Sorted.{IsNonDecreasingBy-push, IsNonDecreasingBy-short, searched, list_any-IsPermutation}
use borrow.Author.Tests.{ltb-true, ltb-false}
use Rattle.ss_links.specs.Seats.{has}
use Rattle.ss_program.specs.Program.{ProgramTable}
use Rattle.ss_store.specs.Store.{Store, exists, greatest_number}
use Rattle.ss_state.specs.State.{State}
use Rattle.ss_inspect.specs.Living.{living_at, living_numbers}
use Rattle.ss_inspect.specs.Texts.{texts_below}
use Rattle.ss_changes.specs.Snapshots.{AreRising}
use Rattle.ss_changes.specs.View.{living_in}
use Rattle.ss_changes.proofs.Orders.{below_length, below_at}

-- ---- one that is found

has_at : (xs : List ℕ) (i x : ℕ) → i < length xs → slice_index_or xs i 0 ≡ x → has xs x ≡ true
has_at [] i x h e = absurd (omega (arith, h))
has_at (y ∷ ys) zero x h e = rw ((Decides-eqb y x).1 e) refl
has_at (y ∷ ys) (suc i) x h e = later (y == x) (has ys x) (has_at ys i x (omega (arith, h)) e)
  where
    later : (b c : Bool) → c ≡ true → (b || c) ≡ true
    later true c k = refl
    later false c k = k

none_by : (b : Bool) (y x : ℕ) (ys : List ℕ) → (y == x) ≡ b → y ≢ x → has ys x ≡ false → (b || has ys x) ≡ false
none_by true y x ys e h k = absurd (h ((Decides-eqb y x).0 e))
none_by false y x ys e h k = k

has_none : (xs : List ℕ) (x : ℕ) → ((k : ℕ) → k < length xs → slice_index_or xs k 0 ≢ x) → has xs x ≡ false
has_none [] x h = refl
has_none (y ∷ ys) x h =
    none_by _ y x ys refl (h 0 (omega arith)) (has_none ys x (λ k within. h (suc k) (omega (arith, within))))

-- by a search in numbers that rise
pub found : (xs : List ℕ) (x : ℕ) (r : Result ℕ ℕ) → IsBinarySearchResult (λ y. nat_cmp y x) xs r → IsNonDecreasing xs →
    is_ok r ≡ has xs x
found xs x (Ok i) h up =
    let at = searched xs x (Ok i) h (λ j k a b. up j k 0 a b) in sym (has_at xs i x at.0 at.1)
found xs x (Err i) h up =
    let at = searched xs x (Err i) h (λ j k a b. up j k 0 a b) in
    sym (has_none xs x (λ k within. not_there k within _ refl))
  where
    not_there : (k : ℕ) → k < length xs → (b : Bool) → nat_lt k i ≡ b → slice_index_or xs k 0 ≢ x
    not_there k within true e same =
        let at = searched xs x (Err i) h (λ j k a b. up j k 0 a b) in
        absurd (omega (arith, same, at.1 k (ltb-true k i e)))
    not_there k within false e same =
        let at = searched xs x (Err i) h (λ j k a b. up j k 0 a b) in
        absurd (omega (arith, same, at.2 k (omega (arith, ltb-false k i e)) within))

-- ---- the same numbers in another order

has_any : (xs : List ℕ) (x : ℕ) → has xs x ≡ list_any (λ y. y == x) xs
has_any [] x = refl
has_any (y ∷ ys) x = ap (λ b. (y == x) || b) (has_any ys x)

pub has_sorted : (xs ys : List ℕ) (x : ℕ) → IsPermutation xs ys → has ys x ≡ has xs x
has_sorted xs ys x h = has_any ys x ∙ sym (list_any-IsPermutation (λ y. y == x) xs ys h) ∙ sym (has_any xs x)

-- ---- the numbers of entities that live

record IsUpTo (n : ℕ) (xs : List ℕ) : Type 0 where
  rising : IsNonDecreasing xs
  most : (i d : ℕ) → i < length xs → slice_index_or xs i d ≤ n

most_after : (n : ℕ) (xs : List ℕ) (i d : ℕ) (b : Bool) → nat_lt i (length xs) ≡ b →
    ((j e : ℕ) → j < length xs → slice_index_or xs j e ≤ n) → i < length (xs ++ suc n ∷ []) →
    slice_index_or (xs ++ suc n ∷ []) i d ≤ suc n
most_after n xs i d true e h k =
    let less : i < length xs = ltb-true i (length xs) e in
    rw (get_or_append_left xs (suc n ∷ []) d i less) (omega (arith, h i d less))
most_after n xs i d false e h k =
    let same : i ≡ length xs = omega (arith, ltb-false i (length xs) e, k, length-append xs (suc n ∷ [])) in
    rw (same, get_or_push xs (suc n) d (length xs) refl) (omega arith)

one_more : (n : ℕ) (xs : List ℕ) (b : Bool) → IsUpTo n xs → IsUpTo (suc n) (xs ++ cond b (suc n ∷ []) [])
one_more n xs true h = record {
  rising =
      IsNonDecreasingBy-push (λ x. x) xs (suc n) h.rising
      (λ d some. omega (arith, h.most (length xs - 1) d (omega (arith, some))));
  most = λ i d k. most_after n xs i d _ refl h.most k;
}
one_more n xs false h =
    rw (append-nil xs) record { rising = h.rising; most = λ i d k. omega (arith, h.most i d k) }

up_to : (st : Store) (c n : ℕ) → IsUpTo n (texts_below (living_at st c) n)
up_to st c zero = record {
  rising = IsNonDecreasingBy-short (λ x. x) [] (omega arith);
  most = λ i d k. absurd (omega (arith, k));
}
up_to st c (suc n) = one_more n (texts_below (living_at st c) n) (exists st c (suc n)) (up_to st c n)

past_all : (xs : List (List ℕ)) (i : ℕ) → length xs ≤ i → slice_index_or xs i [] ≡ []
past_all [] i h = refl
past_all (x ∷ xs) zero h = absurd (omega (arith, h))
past_all (x ∷ xs) (suc i) h = past_all xs i (omega (arith, h))

-- those of each class rise
pub living_rise : (p : ProgramTable) (s : State) → AreRising (living_in p s)
living_rise p s c = at _ refl
  where
    at : (b : Bool) → nat_lt c (length p.classes) ≡ b → IsNonDecreasing (slice_index_or (living_in p s) c [])
    at true e =
        let same = below_at (λ k. living_numbers s.store k) (length p.classes) c [] (ltb-true c (length p.classes) e) in
        rw same (up_to s.store c (greatest_number s.store c)).rising
    at false e =
        let count = below_length (λ k. living_numbers s.store k) (length p.classes) in
        let none : slice_index_or (living_in p s) c [] ≡ [] =
        past_all (living_in p s) c (omega (arith, count, ltb-false c (length p.classes) e)) in
        rw none (IsNonDecreasingBy-short (λ x. x) [] (omega arith))
