-- The value at a position of a question that is asked at another. A question that names a local
-- variable is one of the last frame of the state in which it is asked.
use Rattle.std.specs.Prelude.{ℕ, zero, suc, ◌+◌, ◌-◌, min, max, Bool, not, ◌&&◌, nat_le, nat_lt, length, List, codes}
use Rattle.std.specs.Prelude.{Option, None, if◌then◌else◌}
use Rattle.ss_state.specs.State.{State}
use Rattle.ss_state.specs.Run.{Input, run}
use Rattle.ss_trace.specs.Movements.{frames_at}
use Rattle.ss_trace.specs.History.{positions_where, newest}
use Rattle.ss_readings.specs.Value.{Value, is_same}
use Rattle.ss_readings.specs.Subject.{Subject}

-- a test holds at the positions from a to a + k
unfoldable pub holds_over : (ℕ → Bool) → ℕ → ℕ → Bool
holds_over test a zero = test a
holds_over test a (suc k) = holds_over test a k && test (a + suc k)

-- state q has at least as many frames as state p
abbrev pub is_as_deep : Input → ℕ → ℕ → Bool
is_as_deep input p q = nat_le (frames_at input p) (frames_at input q)

-- the last frame of state p is open in state q: from the one to the other, both included, no state
-- has fewer frames than state p
unfoldable pub is_open : Input → ℕ → ℕ → Bool
is_open input p q = holds_over (is_as_deep input p) (min p q) (max p q - min p q)

-- how many frames a state has
abbrev pub frame_count : State → ℕ
frame_count state = 1 + length state.below

-- the value in a state of a question that is asked in frame number n, which is open there or not
abbrev pub value_in_frame : Subject → State → ℕ → Bool → Option Value
value_in_frame subject state n opened =
    if subject.local then (if opened then subject.value state (frame_count state - n) else None)
    else subject.value state 0

-- the value at q of a question that is asked at p
unfoldable pub seen : Input → Subject → ℕ → ℕ → Option Value
seen input subject p q = value_in_frame subject (run input q) (frames_at input p) (is_open input p q)

-- the step from state q changes it
abbrev pub changes_in : Input → Subject → ℕ → ℕ → Bool
changes_in input subject p q = not (is_same (seen input subject p q) (seen input subject p (q + 1)))

-- the step that led to state q changed it
abbrev pub has_changed_in : Input → Subject → ℕ → ℕ → Bool
has_changed_in input subject p q = nat_lt 0 q && changes_in input subject p (q - 1)

-- the steps from the earliest one on, and before state r, that change a question which is asked at p,
-- the newest first
abbrev pub changes_until : Input → Subject → ℕ → ℕ → ℕ → List ℕ
changes_until input subject p earliest r = positions_where (changes_in input subject p) earliest r

-- those before state p
abbrev pub changes_before : Input → Subject → ℕ → ℕ → List ℕ
changes_before input subject earliest p = changes_until input subject p earliest p

-- the newest of them, if there is one
abbrev pub last_change : Input → Subject → ℕ → ℕ → Option ℕ
last_change input subject earliest p = newest (changes_before input subject earliest p)
