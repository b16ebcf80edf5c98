-- The part that a condition's reading reads in one more parenthesis, by how many more may be open.
use Rattle.std.proofs.Common.{◌≡◌, ◌≢◌, ℕ, zero, suc, ◌-◌, refl, arith}
use Rattle.ss_words.specs.declared.refusal.Refusal.TheVariants.{PastLimit}
use Rattle.ss_words.specs.Reading.{refuse}
use Rattle.ss_routines.specs.ConditionReading.{either_with, either_at, inner_either}

pub either_at_is : (n : ℕ) → either_at n ≡ either_with n (inner_either n)
unfolding either_at
either_at_is zero = refl
either_at_is (suc n) = refl

pub either_shut : (n : ℕ) → n ≡ 0 → inner_either n ≡ refuse PastLimit
either_shut n h = rw h refl

deeper : (n k : ℕ) → n ≡ suc k → inner_either n ≡ either_with k (inner_either k)
deeper n k e = rw e (either_at_is k)

pub either_deeper : (n : ℕ) → n ≢ 0 → inner_either n ≡ either_with (n - 1) (inner_either (n - 1))
either_deeper n h = deeper n (n - 1) (omega arith)
