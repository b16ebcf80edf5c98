-- values are in range
use Rattle.std.proofs.Common.{◌≡◌, ◌<◌, ◌≤◌, ◌^◌, arith, ℕ, ℤ, pos, negsuc, zero, suc, List, [], ◌∷◌, Bool, true, false}
use Rattle.std.proofs.Common.{Option, Some, None, Result, Ok, Err, refl}
use Rattle.std.specs.Prelude.{slice_index_or, slice_set, replicate, neg_ℤ, ◌+ℤ◌, ◌-ℤ◌, int_div, int_rem}
use Rattle.std.specs.Prelude.{unsigned_abs, int_lt, nat_eq, if◌then◌else◌}
use Rattle.std.specs.Int.{int_min, int_max}
use Rattle.std.proofs.lemmas.Int.{rem_below}
use Rattle.std.proofs.lemmas.Bool.{ltb-true, lt-ltb}
use Rattle.ss_words.specs.declared.fault.RunFault.{RunFault}
use Rattle.ss_words.specs.declared.fault.RunFault.TheVariants.{OutOfRange, ZeroDivisor}
use Rattle.ss_words.specs.declared.terms.TermSign.{TermSign}
use Rattle.ss_words.specs.declared.terms.TermSign.TheVariants.{Plus, Minus}
use Rattle.ss_program.specs.declared.variable.Variable.{Variable}
use Rattle.ss_program.specs.declared.variable.Variable.TheVariants.{Global, Local, Clock}
use Rattle.ss_values.specs.Faults.{◌>>=◌, ◌>>◌, refuse_if}
use Rattle.ss_values.specs.Values.{Readings, result_in_range, variable_value, with_sign, sum_or_difference}
use Rattle.ss_words.specs.Ranges.{in_range}
use Rattle.ss_values.specs.Values.{quotient_value, remainder_value}
use Rattle.ss_state.specs.Well.{AreInRange, IsStoreInRange}

-- a property of a value that was read
abbrev pub Got : {A : Type 0} → (A → Type 0) → Result A RunFault → Type 0
Got P (Ok x) = P x
Got P (Err e) = Unit {0}

pub after_got : {A B : Type 0} (P : A → Type 0) (Q : B → Type 0) (r : Result A RunFault) (f : A → Result B RunFault) →
    Got P r → ((x : A) → P x → Got Q (f x)) → Got Q (r >>= f)
after_got P Q (Ok x) f h k = k x h
after_got P Q (Err e) f h k = tt

pub anything : {A : Type 0} (r : Result A RunFault) → Got (λ (_ : A). Unit {0}) r
anything (Ok x) = tt
anything (Err e) = tt

-- the result after a test that may refuse
pub unless_refused : {A : Type 0} (P : A → Type 0) (b : Bool) (f : RunFault) (r : Result A RunFault) → Got P r →
    Got P (refuse_if b f >> r)
unless_refused P true f r h = tt
unless_refused P false f r h = h

abbrev pub IsIn : ℤ → Type 0
IsIn z = in_range z ≡ true

pub index_in : (zs : List ℤ) (i : ℕ) → AreInRange zs → IsIn (slice_index_or zs i (pos 0))
index_in [] i h = refl
index_in (z ∷ zs) zero h = h.0
index_in (z ∷ zs) (suc i) h = index_in zs i h.1

pub set_in : (zs : List ℤ) (i : ℕ) (x : ℤ) → AreInRange zs → IsIn x → AreInRange (slice_set zs i x)
set_in [] i x h k = tt
set_in (z ∷ zs) zero x h k = (k, h.1)
set_in (z ∷ zs) (suc i) x h k = (h.0, set_in zs i x h.1 k)

pub zeros_in : (n : ℕ) → AreInRange (replicate n (pos 0))
zeros_in zero = tt
zeros_in (suc n) = (refl, zeros_in n)

ranged_by : (z : ℤ) (b : Bool) → in_range z ≡ b → Got IsIn (if b then Ok z else Err OutOfRange)
ranged_by z true h = h
ranged_by z false h = tt

pub ranged_in : (z : ℤ) → Got IsIn (result_in_range z)
ranged_in z = ranged_by z (in_range z) refl

pub record AreIn (v : Readings) : Type 0 where
  pub variables : AreInRange v.variables
  pub locals : AreInRange v.locals
  pub clock : IsIn v.clock
  pub store : IsStoreInRange v.store

pub variable_in : (v : Readings) (x : Variable) → AreIn v → IsIn (variable_value v x)
variable_in v (Global i) h = index_in v.variables i h.variables
variable_in v (Local i) h = index_in v.locals i h.locals
variable_in v Clock h = h.clock

pub sign_in : (l : Option TermSign) (x : ℤ) → IsIn x → Got IsIn (with_sign l x)
sign_in None x h = h
sign_in (Some Plus) x h = h
sign_in (Some Minus) x h = ranged_in (neg_ℤ x)

pub joined_in : (s : TermSign) (x y : ℤ) → Got IsIn (sum_or_difference s x y)
joined_in Plus x y = ranged_in (x +ℤ y)
joined_in Minus x y = ranged_in (x -ℤ y)

pub either_in : (b : Bool) (x y : ℤ) → IsIn x → IsIn y → IsIn (if b then x else y)
either_in true x y h k = h
either_in false x y h k = k

pub max_in : (x y : ℤ) → IsIn x → IsIn y → IsIn (int_max x y)
max_in x y h k = either_in (int_lt y x) x y h k

pub min_in : (x y : ℤ) → IsIn x → IsIn y → IsIn (int_min x y)
min_in x y h k = either_in (int_lt y x) y x k h

pub quotient_in : (x y : ℤ) → Got IsIn (quotient_value x y)
quotient_in x y = tested (nat_eq (unsigned_abs y) 0)
  where
    tested : (b : Bool) → Got IsIn (refuse_if b ZeroDivisor >> result_in_range (int_div x y))
    tested true = tt
    tested false = ranged_in (int_div x y)

not_zero : (n : ℕ) → nat_eq n 0 ≡ false → 0 < n
not_zero zero e = cc
not_zero (suc n) e = omega arith

small_in : (z : ℤ) → unsigned_abs z < 2 ^ 63 → IsIn z
small_in (pos n) h = lt-ltb n (2 ^ 63) h
small_in (negsuc n) h = lt-ltb n (2 ^ 63) (omega (arith, h))

size_within : (z : ℤ) → IsIn z → unsigned_abs z ≤ 2 ^ 63
size_within (pos n) h = omega (arith, ltb-true n (2 ^ 63) h)
size_within (negsuc n) h = omega (arith, ltb-true n (2 ^ 63) h)

pub remainder_in : (x y : ℤ) → IsIn y → Got IsIn (remainder_value x y)
remainder_in x y h = tested (nat_eq (unsigned_abs y) 0) refl
  where
    tested : (b : Bool) → nat_eq (unsigned_abs y) 0 ≡ b → Got IsIn (refuse_if b ZeroDivisor >> Ok (int_rem x y))
    tested true e = tt
    tested false e =
        small_in (int_rem x y) (omega (arith, rem_below x y (not_zero (unsigned_abs y) e), size_within y h))
