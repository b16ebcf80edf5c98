-- The values that are read of a state.
use Rattle.std.proofs.Common.{◌≡◌, ℕ, zero, suc, ◌<◌, ◌≤◌, ◌==◌, false, List, [], ◌∷◌, length, refl, ap, arith, Some}
use Rattle.std.proofs.Common.{None, slice_get, slice_index_or, ℤ, pos, take, drop}
use Rattle.std.proofs.lemmas.Bool.Decides.{nat_tests}
use Rattle.ss_events.specs.Agenda.{Pending, pending_at}
use Rattle.ss_events.specs.WellAgenda.{IsRising}

-- a number that there is
pub there : (xs : List ℤ) (i : ℕ) → i < length xs → slice_get xs i ≡ Some (slice_index_or xs i (pos 0))
there [] i h = absurd (omega (arith, h))
there (x ∷ xs) zero h = refl
there (x ∷ xs) (suc i) h = there xs i (omega (arith, h))

-- past the last there is none
pub past : (xs : List ℤ) (i : ℕ) → length xs ≤ i → slice_get xs i ≡ None
past [] i h = refl
past (x ∷ xs) zero h = absurd (omega (arith, h))
past (x ∷ xs) (suc i) h = past xs i (omega (arith, h))

-- the whole list is the part of it that has its length, from the first member on
pub whole_page : (ks : List ℕ) (n : ℕ) → n ≡ length ks → take n (drop 0 ks) ≡ ks
whole_page [] zero h = refl
whole_page [] (suc n) h = absurd (omega (arith, h))
whole_page (k ∷ ks) zero h = absurd (omega (arith, h))
whole_page (k ∷ ks) (suc n) h = ap (λ (l : List ℕ). k ∷ l) (whole_page ks n (omega (arith, h)))

-- no notice has number 0
pub no_notice : (n : ℕ) (es : List Pending) → IsRising n es → pending_at es 0 ≡ None
no_notice n [] h = refl
no_notice n (e ∷ es) h =
    let other : (e.notice == 0) ≡ false = grind (arith, nat_tests, h) in rw other (no_notice e.notice es h.1)
