-- The members of lists.
use Rattle.std.proofs.Common.{◌≡◌, ℕ, zero, suc, List, [], ◌∷◌, length, take, drop, refl, ap, arith}

-- as many members as a list has are all of them
pub whole_page : (ks : List ℕ) (n : ℕ) → n ≡ length ks → take n (drop 0 ks) ≡ ks
whole_page [] zero h = refl
whole_page [] (suc n) h = absurd (omega (arith, h))
whole_page (k ∷ ks) zero h = absurd (omega (arith, h))
whole_page (k ∷ ks) (suc n) h = ap (λ (l : List ℕ). k ∷ l) (whole_page ks n (omega (arith, h)))
