use Rattle.std.proofs.Common.{◌≡◌, ℕ, ◌+◌, Bool, cond, [], ◌∷◌, ◌++◌, zero, suc, ap, ◌∙◌, arith, add-one}
use Rattle.std.specs.List.{count_by, sum_by, range_with_len}
use Rattle.std.proofs.lemmas.List.Sums.{sum_by-append}

range_more : (a n j : ℕ) → a + n ≡ j → range_with_len a (suc n) ≡ range_with_len a n ++ j ∷ []
range_more a zero j e = let f : a ≡ j = omega arith in ap (λ x. x ∷ []) f
range_more a (suc n) j e = ap (λ xs. a ∷ xs) (range_more (a + 1) n j (omega (arith, e)))

-- one more place
pub counted_more : (p : ℕ → Bool) (n : ℕ) →
    count_by p (range_with_len 0 (n + 1)) ≡ count_by p (range_with_len 0 n) + cond (p n) 1 0
counted_more p n =
    let f : ℕ → ℕ = λ x. cond (p x) 1 0 in
    let one : sum_by f (n ∷ []) ≡ f n = omega arith in
    rw (add-one, range_more 0 n n (omega arith)) (sum_by-append f (range_with_len 0 n) (n ∷ []) ∙ ap (λ k. count_by p (range_with_len 0 n) + k) one)
