-- The members of a list by their places.
use Rattle.std.proofs.Common.{◌≡◌, ℕ, zero, suc, ◌+◌, ◌≤◌, ◌==◌, true, false, List, [], ◌∷◌, ◌++◌}
use Rattle.std.proofs.Common.{take, drop, refl, sym, ap, ◌∙◌, arith, Some, None, slice_get}
use Rattle.std.proofs.lemmas.Bool.Decides.{nat_tests}
use Rattle.ss_links.specs.Seats.{has, times_in, first_of, next_in}
use Rattle.ss_links.proofs.SeatLaws.{times_in-present}
use Rattle.ss_store.proofs.Core.{some_eq}

-- ---- a walk

-- the member at a place is in the list
pub has_at : (ks : List ℕ) (i k : ℕ) → slice_get ks i ≡ Some k → has ks k ≡ true
has_at [] i k e = absurd (cc)
has_at (j ∷ ks) zero k e = let same : j ≡ k = some_eq e in grind (arith, nat_tests, same)
has_at (j ∷ ks) (suc i) k e = let there = has_at ks i k e in grind (arith, nat_tests, there)

tail_once : (j : ℕ) (ks : List ℕ) → ((x : ℕ) → times_in (j ∷ ks) x ≤ 1) → (x : ℕ) → times_in ks x ≤ 1
tail_once j ks once x = let h = once x in omega (arith, h)

-- the member after that at a place is at the next one
pub next_at : (ks : List ℕ) (i k : ℕ) → ((x : ℕ) → times_in ks x ≤ 1) → slice_get ks i ≡ Some k →
    next_in ks k ≡ slice_get ks (suc i)
next_at [] i k once e = absurd (cc)
next_at (j ∷ ks) zero k once e =
    let same : j ≡ k = some_eq e in
    let test : (j == k) ≡ true = grind (arith, nat_tests, same) in rw test (first ks)
  where
    first : (l : List ℕ) → first_of l ≡ slice_get l 0
    first [] = refl
    first (x ∷ l) = refl
next_at (j ∷ ks) (suc i) k once e =
    let few = once k in
    let one = times_in-present ks k (has_at ks i k e) in
    let other : (j == k) ≡ false = grind (arith, nat_tests, few, one) in
    rw other (next_at ks i k (tail_once j ks once) e)

-- if there is none at a place, there is none further on
pub none_further : (ks : List ℕ) (i j : ℕ) → slice_get ks i ≡ None → i ≤ j → slice_get ks j ≡ None
none_further [] i j e h = refl
none_further (k ∷ ks) zero j e h = absurd (cc)
none_further (k ∷ ks) (suc i) zero e h = absurd (omega arith)
none_further (k ∷ ks) (suc i) (suc j) e h = none_further ks i j e (omega (arith, h))

-- ---- a part

get_behind : (ks : List ℕ) (start n j : ℕ) → j ≡ start + n → slice_get (drop start ks) n ≡ slice_get ks j
get_behind ks zero n j e = let same : j ≡ n = omega (arith, e) in rw same refl
get_behind [] (suc s) n j e = refl
get_behind (k ∷ ks) (suc s) n j e =
    let next : j ≡ suc (s + n) = omega (arith, e) in rw next (get_behind ks s n (s + n) refl)

take_one_more : (ks : List ℕ) (n k : ℕ) → slice_get ks n ≡ Some k → take (suc n) ks ≡ take n ks ++ k ∷ []
take_one_more [] n k e = absurd (cc)
take_one_more (j ∷ ks) zero k e = let same : j ≡ k = some_eq e in rw same refl
take_one_more (j ∷ ks) (suc n) k e = ap (λ (l : List ℕ). j ∷ l) (take_one_more ks n k e)

take_whole : (ks : List ℕ) (n m : ℕ) → slice_get ks n ≡ None → n ≤ m → take n ks ≡ take m ks
take_whole [] zero zero e h = refl
take_whole [] zero (suc m) e h = refl
take_whole [] (suc n) zero e h = refl
take_whole [] (suc n) (suc m) e h = refl
take_whole (k ∷ ks) zero m e h = absurd (cc)
take_whole (k ∷ ks) (suc n) zero e h = absurd (omega arith)
take_whole (k ∷ ks) (suc n) (suc m) e h = ap (λ (l : List ℕ). k ∷ l) (take_whole ks n m e (omega (arith, h)))

-- one member more of a part of a list that begins at a place
pub page_more : (ks : List ℕ) (start n m k : ℕ) (page new : List ℕ) → slice_get ks (start + n) ≡ Some k → m ≡ n + 1 →
    page ≡ take n (drop start ks) → new ≡ page ++ k ∷ [] → new ≡ take m (drop start ks)
page_more ks start n m k page new e next h w =
    let same : m ≡ suc n = omega (arith, next) in
    let at : slice_get (drop start ks) n ≡ Some k = get_behind ks start n (start + n) refl ∙ e in
    rw (same, w, h) (sym (take_one_more (drop start ks) n k at))

-- if the list ends after n members from `start` on, these are the whole part
pub page_ends : (ks : List ℕ) (start n count : ℕ) → slice_get ks (start + n) ≡ None → n ≤ count →
    take n (drop start ks) ≡ take count (drop start ks)
page_ends ks start n count e h =
    take_whole (drop start ks) n count (get_behind ks start n (start + n) refl ∙ e) h
