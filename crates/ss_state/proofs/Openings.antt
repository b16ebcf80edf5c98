-- which loops may be open at a place
use Rattle.std.proofs.Common.{◌≡◌, ◌≢◌, ◌≤◌, ℕ, ℤ, zero, suc, List, [], ◌∷◌, drop, Bool, true, false, Option, refl}
use Rattle.std.proofs.Common.{arith}
use Rattle.std.proofs.Math.Logic.{◌⊎◌, inl, inr}
use Rattle.std.proofs.lemmas.Bool.{or_cases, and_parts}
use Rattle.std.proofs.lemmas.Slice.Eq.{bytes_eq-Decides}
use Rattle.std.specs.Prelude.{if◌then◌else◌, bytes_eq, ◌&&◌, ◌||◌}
use Rattle.ss_program.specs.declared.place.Spot.{Spot}
use Rattle.ss_program.specs.Match.{is_at}
use Rattle.ss_program.specs.Nesting.{is_phrase, is_around, phrases_before, phrases_around, may_be_open}
use Rattle.ss_state.specs.Loops.{OpenLoop, loops_with_candidate}
use Rattle.ss_state.specs.Well.{phrases_of}

-- ---- lists

pub phrases_drop : (n : ℕ) (ls : List OpenLoop) → phrases_of (drop n ls) ≡ drop n (phrases_of ls)
phrases_drop zero ls = refl
phrases_drop (suc n) [] = refl
phrases_drop (suc n) (l ∷ ls) = phrases_drop n ls

pub phrases_moved : (c : Option ℤ) (ls : List OpenLoop) → phrases_of (loops_with_candidate c ls) ≡ phrases_of ls
phrases_moved c [] = refl
phrases_moved c (l ∷ ls) = refl

clash : (b : Bool) → b ≡ true → b ≡ false → ⊥
clash b t f = cc

-- the first is not this one
abbrev pub IsNotFirst : ℕ → List ℕ → Type 0
IsNotFirst i [] = Unit {0}
IsNotFirst i (j ∷ js) = j ≢ i

earlier_first : (ps : List Spot) (i k j : ℕ) → j ≤ k → IsNotFirst k (phrases_before ps i j)
earlier_first ps i k zero h = tt
earlier_first ps i k (suc j) h = chosen (is_around ps i j) (earlier_first ps i k j (omega (arith, h)))
  where
    chosen : (b : Bool) → IsNotFirst k (phrases_before ps i j) →
        IsNotFirst k (if b then j ∷ phrases_before ps i j else phrases_before ps i j)
    chosen true r = λ e. omega (arith, h, e)
    chosen false r = r

-- no phrase is around itself
pub around_first : (ps : List Spot) (i : ℕ) → IsNotFirst i (phrases_around ps i)
around_first ps i = earlier_first ps i i i (omega arith)

-- ---- the loops that may be open, by the two cases

abbrev pub Enters : List Spot → List ℕ → ℕ → Type 0
Enters ps js n = (js ≡ phrases_around ps n) ⊎ ((is_at ps is_phrase n ≡ true) × (js ≡ n ∷ phrases_around ps n))

second : (ps : List Spot) (js : List ℕ) (n : ℕ) →
    (is_at ps is_phrase n && bytes_eq js (n ∷ phrases_around ps n)) ≡ true → Enters ps js n
second ps js n h =
    let parts = and_parts (is_at ps is_phrase n) (bytes_eq js (n ∷ phrases_around ps n)) h in
    inr (parts.0, (bytes_eq-Decides js (n ∷ phrases_around ps n)).0 parts.1)

either_case : (ps : List Spot) (js : List ℕ) (n : ℕ) →
    (bytes_eq js (phrases_around ps n) ≡ true) ⊎ ((is_at ps is_phrase n && bytes_eq js (n ∷ phrases_around ps n)) ≡
    true) → Enters ps js n
either_case ps js n (inl e) = inl ((bytes_eq-Decides js (phrases_around ps n)).0 e)
either_case ps js n (inr h) = second ps js n h

pub enters : (ps : List Spot) (js : List ℕ) (n : ℕ) → may_be_open ps js n ≡ true → Enters ps js n
enters ps js n h = either_case ps js n (or_cases (bytes_eq js (phrases_around ps n))
    (is_at ps is_phrase n && bytes_eq js (n ∷ phrases_around ps n)) h)

or_second : (b c d : Bool) → c ≡ true → d ≡ true → (b || (c && d)) ≡ true
or_second true c d e f = refl
or_second false c d e f = rw (e, f) refl

pub opens : (ps : List Spot) (js : List ℕ) (n : ℕ) → Enters ps js n → may_be_open ps js n ≡ true
opens ps js n (inl e) = rw ((bytes_eq-Decides js (phrases_around ps n)).1 e) refl
opens ps js n (inr h) =
    or_second (bytes_eq js (phrases_around ps n)) (is_at ps is_phrase n) (bytes_eq js (n ∷ phrases_around ps n)) h.0
    ((bytes_eq-Decides js (n ∷ phrases_around ps n)).1 h.1)

-- at a place that is no phrase the loops are those around it
pub kept : (ps : List Spot) (js : List ℕ) (i : ℕ) → Enters ps js i → is_at ps is_phrase i ≡ false → js ≡ phrases_around ps i
kept ps js i (inl e) f = e
kept ps js i (inr h) f = absurd (clash _ h.0 f)
