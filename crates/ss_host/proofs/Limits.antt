use Rattle.std.proofs.Common.{◌≡◌, ℕ, zero, suc, ◌<◌, List, [], ◌∷◌, ◌++◌, length, take, refl, ap, ◌∙◌, Option, Some}
use Rattle.std.proofs.Common.{None, IfSome, arith}
use Rattle.std.specs.Prelude.{option_map}

-- a list that is shorter than the limit was not cut at it
take_short : (n : ℕ) (xs : List ℕ) → length (take n xs) < n → take n xs ≡ xs
take_short zero xs h = absurd (omega (arith, h))
take_short (suc n) [] h = refl
take_short (suc n) (x ∷ xs) h = ap (λ (ys : List ℕ). x ∷ ys) (take_short n xs (omega (arith, h)))

pub whole_within : (known : Option (List ℕ)) (limit : ℕ) (bytes : List ℕ) →
    IfSome (option_map (take limit) known) (λ xs. bytes ≡ [] ++ xs) → length bytes < limit →
    IfSome known (λ xs. bytes ≡ xs)
whole_within None limit bytes h short = tt
whole_within (Some xs) limit bytes h short = h ∙ take_short limit xs (omega (arith, ap length h, short))
