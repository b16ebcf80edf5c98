-- Frames from the end of their list.
use Rattle.std.proofs.Common.{◌≡◌, ℕ, zero, suc, ◌-◌, ◌<◌, ◌≤◌, List, [], ◌∷◌, length, reverse, refl, sym, ap, ◌∙◌}
use Rattle.std.proofs.Common.{arith}
use Rattle.std.proofs.Common.{Some, slice_get, get_or}
use Rattle.std.proofs.lemmas.List.{get_or-reverse, length-reverse}
use Rattle.std.proofs.lemmas.Option.{slice_get-get_or}

-- the element at a place from the end
pub from_end : {A : Type 0} (xs : List A) (k : ℕ) → 0 < k → k ≤ length xs →
    slice_get (reverse xs) (k - 1) ≡ slice_get xs (length xs - k)
from_end [] k h w = absurd (omega arith)
from_end (x ∷ xs) k h w =
    let same : length (reverse (x ∷ xs)) ≡ length (x ∷ xs) = length-reverse (x ∷ xs) in
    let inside : k - 1 < length (reverse (x ∷ xs)) = omega (arith, same, h, w) in
    let there : length (x ∷ xs) - k < length (x ∷ xs) = omega (arith, h, w) in
    let at : length (x ∷ xs) - 1 - (k - 1) ≡ length (x ∷ xs) - k = omega (arith, h, w) in
    let low : k - 1 < length (x ∷ xs) = omega (arith, h, w) in
    slice_get-get_or (reverse (x ∷ xs)) (k - 1) x inside
    ∙ ap (λ y. Some y) (get_or-reverse (x ∷ xs) (k - 1) x low
    ∙ ap (λ i. get_or (x ∷ xs) i x) at)
    ∙ sym (slice_get-get_or (x ∷ xs) (length (x ∷ xs) - k) x there)

-- the element below the last frame
pub below_last : {A : Type 0} (x : A) (xs : List A) (k : ℕ) → 0 < k → slice_get (x ∷ xs) k ≡ slice_get xs (k - 1)
below_last x xs zero h = absurd (omega arith)
below_last x xs (suc k) h = let same : suc k - 1 ≡ k = omega arith in rw same refl
