-- Runs and blanks cut off the front of a line.
use Rattle.std.proofs.Common.{◌≡◌, ℕ, Bool, true, false, suc, ◌+◌, List, [], ◌∷◌, take, drop, refl, ap, arith}
use Rattle.std.specs.List.{prefix_len, take_while}

suc-add : (n : ℕ) → 1 + n ≡ suc n
suc-add n = omega arith

module _ (p : ℕ → Bool) (x : ℕ) (xs : List ℕ) where
  pub prefix_len-yes : p x ≡ true → prefix_len p (x ∷ xs) ≡ suc (prefix_len p xs)
  prefix_len-yes h = rw h (suc-add (prefix_len p xs))

  pub prefix_len-no : p x ≡ false → prefix_len p (x ∷ xs) ≡ 0
  prefix_len-no h = rw h refl

  pub drop-yes : p x ≡ true → drop (prefix_len p (x ∷ xs)) (x ∷ xs) ≡ drop (prefix_len p xs) xs
  drop-yes h = ap (λ (n : ℕ). drop n (x ∷ xs)) (prefix_len-yes h)

  pub drop-no : p x ≡ false → drop (prefix_len p (x ∷ xs)) (x ∷ xs) ≡ x ∷ xs
  drop-no h = ap (λ (n : ℕ). drop n (x ∷ xs)) (prefix_len-no h)

  pub take_while-yes : p x ≡ true → take_while p (x ∷ xs) ≡ x ∷ take_while p xs
  take_while-yes h = ap (λ (n : ℕ). take n (x ∷ xs)) (prefix_len-yes h)

  pub take_while-no : p x ≡ false → take_while p (x ∷ xs) ≡ []
  take_while-no h = ap (λ (n : ℕ). take n (x ∷ xs)) (prefix_len-no h)
