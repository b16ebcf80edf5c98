-- the values of a frame's locals
use Rattle.std.proofs.Common.{◌≡◌, ◌≤◌, ◌<◌, ◌+◌, ◌-◌, ◌++◌, ℕ, ℤ, zero, suc, pos, Bool, true, false, List, [], ◌∷◌}
use Rattle.std.proofs.Common.{length, take, replicate, nat_le, get_or, set, slice_index_or, min, refl, ap, sym, ◌∙◌}
use Rattle.std.proofs.Common.{arith, length-append, length-take}
use Rattle.std.proofs.lemmas.Bool.{leb-true, leb-false}
use Rattle.std.proofs.lemmas.List.{get_or-take, length-replicate}
use Rattle.std.proofs.Math.Seq.{take-set-lt}
use Rattle.ss_state.proofs.Sets.{set_back}
use Rattle.ss_machine.specs.Locals.{padded, values_by, IsPaddedBy, HasCountBy}

-- the values given, and zeros after them
front_is : (count : ℕ) (given : List ℤ) → count ≤ 4 → length given ≤ count →
    take count (slice_index_or given 0 (pos 0) ∷ slice_index_or given 1 (pos 0) ∷ slice_index_or given 2 (pos 0)
    ∷ slice_index_or given 3 (pos 0) ∷ [])
    ≡ padded given count
front_is zero [] bound fits = refl
front_is zero (x0 ∷ xs) bound fits = absurd (omega (arith, fits))
front_is (suc zero) [] bound fits = refl
front_is (suc zero) (x0 ∷ []) bound fits = refl
front_is (suc zero) (x0 ∷ x1 ∷ xs) bound fits = absurd (omega (arith, fits))
front_is (suc (suc zero)) [] bound fits = refl
front_is (suc (suc zero)) (x0 ∷ []) bound fits = refl
front_is (suc (suc zero)) (x0 ∷ x1 ∷ []) bound fits = refl
front_is (suc (suc zero)) (x0 ∷ x1 ∷ x2 ∷ xs) bound fits = absurd (omega (arith, fits))
front_is (suc (suc (suc zero))) [] bound fits = refl
front_is (suc (suc (suc zero))) (x0 ∷ []) bound fits = refl
front_is (suc (suc (suc zero))) (x0 ∷ x1 ∷ []) bound fits = refl
front_is (suc (suc (suc zero))) (x0 ∷ x1 ∷ x2 ∷ []) bound fits = refl
front_is (suc (suc (suc zero))) (x0 ∷ x1 ∷ x2 ∷ x3 ∷ xs) bound fits = absurd (omega (arith, fits))
front_is (suc (suc (suc (suc zero)))) [] bound fits = refl
front_is (suc (suc (suc (suc zero)))) (x0 ∷ []) bound fits = refl
front_is (suc (suc (suc (suc zero)))) (x0 ∷ x1 ∷ []) bound fits = refl
front_is (suc (suc (suc (suc zero)))) (x0 ∷ x1 ∷ x2 ∷ []) bound fits = refl
front_is (suc (suc (suc (suc zero)))) (x0 ∷ x1 ∷ x2 ∷ x3 ∷ []) bound fits = refl
front_is (suc (suc (suc (suc zero)))) (x0 ∷ x1 ∷ x2 ∷ x3 ∷ x4 ∷ xs) bound fits = absurd (omega (arith, fits))
front_is (suc (suc (suc (suc (suc n))))) xs bound fits = absurd (omega (arith, bound))

-- the locals of a new frame
pub locals_given : (b : Bool) (count : ℕ) (given many : List ℤ) → nat_le count 4 ≡ b → length given ≤ count →
    IsPaddedBy b given count many →
    values_by b count (slice_index_or given 0 (pos 0) ∷ slice_index_or given 1 (pos 0)
    ∷ slice_index_or given 2 (pos 0) ∷ slice_index_or given 3 (pos 0) ∷ []) many
    ≡ padded given count
locals_given true count given many few fits are = front_is count given (leb-true count 4 few) fits
locals_given false count given many few fits are = are

-- one of few locals is another value
pub few_set : (count : ℕ) (xs : List ℤ) (i : ℕ) (x : ℤ) → i < length (take count xs) →
    take count (set xs i x) ≡ set (take count xs) i x
few_set count xs i x there =
    let long : length (take count xs) ≡ min count (length xs) = length-take count xs in
    take-set-lt count xs i x (omega (arith, there, long))

-- and the one before again
pub few_back : (count : ℕ) (xs : List ℤ) (i : ℕ) (x : ℤ) → i < length (take count xs) →
    set (take count (set xs i x)) i (get_or xs i (pos 0)) ≡ take count xs
few_back count xs i x there =
    let first : take count (set xs i x) ≡ set (take count xs) i x = few_set count xs i x there in
    let long : length (take count xs) ≡ min count (length xs) = length-take count xs in
    let held : get_or (take count xs) i (pos 0) ≡ get_or xs i (pos 0) =
    get_or-take count xs i (pos 0) (omega (arith, there, long)) in
    ap (λ (ys : List ℤ). set ys i (get_or xs i (pos 0))) first
    ∙ (ap (λ (y : ℤ). set (set (take count xs) i x) i y) (sym held) ∙ set_back (take count xs) i x (pos 0))

padded_length : (given : List ℤ) (count : ℕ) → length given ≤ count → length (padded given count) ≡ count
padded_length given count fits =
    let rest : List ℤ = replicate (count - length given) (pos 0) in
    let both : length (given ++ rest) ≡ length given + length rest = length-append given rest in
    let long : length rest ≡ count - length given = length-replicate (count - length given) (pos 0) in
    omega (arith, both, long, fits)

-- memory that begins with the values given has `count` values
pub has_count : (b : Bool) (count : ℕ) (given many : List ℤ) → length given ≤ count →
    IsPaddedBy b given count many → HasCountBy b count many
has_count true count given many fits are = tt
has_count false count given many fits are = ap length are ∙ padded_length given count fits

-- values that are few are those that lie within
pub few_are : (b : Bool) (count : ℕ) (few many : List ℤ) → nat_le count 4 ≡ b → HasCountBy b count many →
    length (values_by b count few many) ≤ 4 → take count few ≡ values_by b count few many
few_are true count few many is has short = refl
few_are false count few many is has short =
    let greater : 4 < count = leb-false count 4 is in
    absurd (omega (arith, greater, has, short))
