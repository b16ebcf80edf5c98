-- A run ends at exactly one position.
use Rattle.std.proofs.Common.{◌≡◌, ℕ, zero, suc, ◌<◌, ◌≤◌, ◌⊎◌, inl, inr, Bool, true, false, nat_lt, refl, arith}
use borrow.Author.Tests.{ltb-true, ltb-false}
use Rattle.ss_state.specs.declared.limits.TheConstants.{LAST_POSITION}
use Rattle.ss_state.specs.Run.{Input}
use Rattle.ss_debug.specs.Move.{is_ready_at}
use Rattle.ss_run.specs.Report.{IsRunEnd}
use Rattle.ss_run.specs.Laws.{EachRunEnds, EndsAtOnePosition}

-- the states before a position are ready
abbrev AreReady : Input → ℕ → Type 0
AreReady input n = (k : ℕ) → k < n → is_ready_at input k ≡ true

-- so they are, or the run has an end
abbrev HasEnd : Input → ℕ → Type 0
HasEnd input n = ((p : ℕ) × IsRunEnd input p) ⊎ AreReady input n

with_last : (input : Input) (n k : ℕ) (x : Bool) → nat_lt k n ≡ x → k < suc n → is_ready_at input n ≡ true →
    AreReady input n → is_ready_at input k ≡ true
with_last input n k true e below last all = all k (omega (arith, ltb-true _ _ e))
with_last input n k false e below last all =
    let same : k ≡ n = omega (arith, ltb-false _ _ e) in rw same last

one_more : (input : Input) (n : ℕ) (x : Bool) → is_ready_at input n ≡ x → n ≤ LAST_POSITION → AreReady input n →
    HasEnd input (suc n)
one_more input n true e within all = inr (λ k below. with_last input n k _ refl below e all)
one_more input n false e within all = inl (n, record { within = within; ready = all; ended = inl e })

or_more : (input : Input) (n : ℕ) → suc n ≤ LAST_POSITION → HasEnd input n → HasEnd input (suc n)
or_more input n within (inl end) = inl end
or_more input n within (inr all) = one_more input n _ refl (omega (arith, within)) all

looked : (input : Input) (n : ℕ) → n ≤ LAST_POSITION → HasEnd input n
looked input zero within = inr (λ k below. absurd (omega arith))
looked input (suc n) within = or_more input n within (looked input n (omega (arith, within)))

at_last : (input : Input) → HasEnd input LAST_POSITION → (p : ℕ) × IsRunEnd input p
at_last input (inl end) = end
at_last input (inr all) = (LAST_POSITION, record { within = omega arith; ready = all; ended = inr refl })

pub each_ends : EachRunEnds
each_ends input = at_last input (looked input LAST_POSITION (omega arith))

-- no end is before another
ready_is_not : (x : Bool) → x ≡ true → x ≡ false → ⊥
ready_is_not true e f = absurd cc
ready_is_not false e f = absurd cc

end_is_last : (input : Input) (p q : ℕ) → p < q → IsRunEnd input p → IsRunEnd input q → ⊥
end_is_last input p q before a b = elim a.ended [
  | inl e ↦ ready_is_not _ (b.ready p before) e
  | inr e ↦ omega (arith, b.within, e, before)
]

same_end : (input : Input) (p q : ℕ) (x y : Bool) → nat_lt p q ≡ x → nat_lt q p ≡ y → IsRunEnd input p →
    IsRunEnd input q → p ≡ q
same_end input p q true y e f a b = absurd (end_is_last input p q (omega (arith, ltb-true _ _ e)) a b)
same_end input p q false true e f a b = absurd (end_is_last input q p (omega (arith, ltb-true _ _ f)) b a)
same_end input p q false false e f a b = omega (arith, ltb-false _ _ e, ltb-false _ _ f)

pub ends_once : EndsAtOnePosition
ends_once input p q a b = same_end input p q _ _ refl refl a b
