-- The end of GO FIRST, seen from a debugger on its way there.
use Rattle.std.proofs.Common.{◌≡◌, ℕ, ◌+◌, ◌-◌, ◌<◌, ◌≤◌, Bool, true, false, not, ◌||◌, refl, sym, arith}
use Rattle.ss_state.specs.declared.limits.TheConstants.{LAST_POSITION}
use Rattle.ss_state.specs.Run.{Input}
use Rattle.ss_debug.specs.Move.{is_ready_at}
use Rattle.ss_debug.proofs.Moves.{least_is, least_at_least}
use Rattle.ss_trace.specs.Until.{is_first_stop, first_end}

-- it went on from the first k positions
abbrev pub WentOn : Input → (ℕ → Bool) → ℕ → ℕ → Type 0
WentOn t test p k = (j : ℕ) → j < k → is_first_stop t test (p + j) ≡ false

-- it ends at q, k positions on, if it stops there or may not go on
pub ends_first : (t : Input) (test : ℕ → Bool) (p q k : ℕ) → q ≡ p + k → k ≤ LAST_POSITION - p → WentOn t test p k →
    (k < LAST_POSITION - p → is_first_stop t test q ≡ true) → q ≡ first_end t test p
ends_first t test p q k e h none found =
    let found_at : k < LAST_POSITION - p → is_first_stop t test (p + k) ≡ true = λ g. rw e at found g in
    let f = least_is (λ j. is_first_stop t test (p + j)) (LAST_POSITION - p) k h none found_at in omega (arith, e, f)

-- else it does not end before q
pub ends_later : (t : Input) (test : ℕ → Bool) (p q k : ℕ) → q ≡ p + k → k ≤ LAST_POSITION - p → WentOn t test p k →
    q ≤ first_end t test p
ends_later t test p q k e h none =
    let f = least_at_least (λ j. is_first_stop t test (p + j)) (LAST_POSITION - p) k h none in omega (arith, e, f)

-- it stops in a state that isn't ready
pub stops_unready : (t : Input) (test : ℕ → Bool) (q : ℕ) → false ≡ is_ready_at t q → is_first_stop t test q ≡ true
stops_unready t test q e = rw (sym e) refl

-- it stops if the test holds
pub stops_met : (t : Input) (test : ℕ → Bool) (q : ℕ) → test q ≡ true → is_first_stop t test q ≡ true
stops_met t test q e = first (is_ready_at t q)
  where
    first : (b : Bool) → (not b || test q) ≡ true
    first true = e
    first false = refl
