-- The value of a question, followed from state to state.
use Rattle.std.proofs.Common.{◌≡◌, ℕ, zero, suc, ◌+◌, ◌-◌, ◌<◌, ◌≤◌, min, max, Bool, true, false, ◌&&◌, nat_le, nat_lt}
use Rattle.std.proofs.Common.{Option, refl, sym, ap, subst, ◌∙◌, arith}
use Rattle.std.specs.Prelude.{not, ℤ, Some, None}
use Rattle.std.specs.Ordering.{int_eq}
use Rattle.std.specs.Bool.{one_answer}
use Rattle.std.proofs.lemmas.Bool.Decides.{Decides-int_eq}
use Rattle.std.proofs.lemmas.Bool.{le-leb, lt-ltb}
use Rattle.ss_state.specs.declared.status.Status.TheVariants.{Ready}
use Rattle.ss_state.specs.State.{State}
use Rattle.ss_state.specs.Run.{Input, run}
use Rattle.ss_debug.specs.Move.{is_ready_at}
use Rattle.ss_trace.specs.Movements.{frames_at, is_met}
use Rattle.ss_trace.proofs.Changes.{same_turned}
use Rattle.ss_readings.specs.Value.{Value, number, truth, members, are_alike, is_same_value, is_same}
use Rattle.ss_readings.specs.Subject.{Subject}
use Rattle.ss_readings.specs.Seen.{holds_over, is_as_deep, is_open, frame_count, value_in_frame, seen, changes_in}
use Rattle.ss_readings.specs.Seen.{has_changed_in}

and_regroup : (a b c : Bool) → ((a && b) && c) ≡ (a && (b && c))
and_regroup true b c = refl
and_regroup false b c = refl

and_turned : (a b : Bool) → (a && b) ≡ (b && a)
and_turned true true = refl
and_turned true false = refl
and_turned false true = refl
and_turned false false = refl

-- a test that holds at some positions holds at the first of them and at the others
holds_front : (t : ℕ → Bool) (a k : ℕ) → holds_over t a (suc k) ≡ (t a && holds_over t (a + 1) k)
unfolding holds_over
holds_front t a zero = let e : a + 1 ≡ a + suc zero = omega arith in ap (λ (n : ℕ). t a && t n) (sym e)
holds_front t a (suc k) =
    let e : a + suc (suc k) ≡ (a + 1) + suc k = omega arith in
    ap (λ (b : Bool). b && t (a + suc (suc k))) (holds_front t a k)
    ∙ ap (λ (n : ℕ). (t a && holds_over t (a + 1) k) && t n) e
    ∙ and_regroup (t a) (holds_over t (a + 1) k) (t ((a + 1) + suc k))

-- a frame is open in the state in which it is the last
pub open_here : (t : Input) (p : ℕ) → true ≡ is_open t p p
unfolding is_open holds_over
open_here t p =
    let low : min p p ≡ p = omega arith in
    let none : max p p - p ≡ 0 = omega arith in
    rw (low, none) (sym (le-leb (frames_at t p) (frames_at t p) (omega arith)))

-- in the next state if it is open before, and there are as many frames
pub open_on : (t : Input) (p q : ℕ) → p ≤ q → is_open t p (q + 1) ≡ (is_open t p q && is_as_deep t p (q + 1))
unfolding is_open holds_over
open_on t p q h =
    let low : min p q ≡ p = omega (arith, h) in
    let low' : min p (q + 1) ≡ p = omega (arith, h) in
    let few : max p q - p ≡ q - p = omega (arith, h) in
    let more : max p (q + 1) - p ≡ suc (q - p) = omega (arith, h) in
    let last : p + suc (q - p) ≡ q + 1 = omega (arith, h) in
    rw (low, low', few, more) (ap (λ (n : ℕ). holds_over (is_as_deep t p) p (q - p) && is_as_deep t p n) last)

-- in the state before if it is open later, and there are as many frames
pub open_back : (t : Input) (p q : ℕ) → q < p → is_open t p q ≡ (is_open t p (q + 1) && is_as_deep t p q)
unfolding is_open holds_over
open_back t p q h =
    let low : min p q ≡ q = omega (arith, h) in
    let low' : min p (q + 1) ≡ q + 1 = omega (arith, h) in
    let few : max p (q + 1) - (q + 1) ≡ p - (q + 1) = omega (arith, h) in
    let more : max p q - q ≡ suc (p - (q + 1)) = omega (arith, h) in
    rw (low, low', few, more)
    (holds_front (is_as_deep t p) q (p - (q + 1)) ∙ and_turned (is_as_deep t p q) _)

-- the value that is read is the one that is seen
pub seen_there : (t : Input) (s : Subject) (p q n : ℕ) (opened : Bool) (state : State) (v : Option Value) →
    n ≡ frames_at t p → opened ≡ is_open t p q → state ≡ run t q → v ≡ value_in_frame s state n opened → v ≡ seen t s p q
unfolding seen
seen_there t s p q n opened state v e f g h = h ∙ (rw (e, f, g) refl)

-- a value changes between two states
pub changed_between : (t : Input) (s : Subject) (p q : ℕ) (before after : Option Value) (b : Bool) →
    before ≡ seen t s p q → after ≡ seen t s p (q + 1) → b ≡ not (is_same before after) → b ≡ changes_in t s p q
changed_between t s p q before after b e f h = h ∙ (rw (e, f) refl)

-- after a step it is met if the step changes the question
pub met_behind : (t : Input) (s : Subject) (p q r : ℕ) → p ≤ q → r ≡ q + 1 →
    is_met (has_changed_in t s p) p r ≡ changes_in t s p q
met_behind t s p q r h e =
    let later : nat_lt p r ≡ true = lt-ltb p r (omega (arith, h, e)) in
    let some : nat_lt 0 r ≡ true = lt-ltb 0 r (omega (arith, e)) in
    let before : r - 1 ≡ q = omega (arith, e) in
    rw (later, some, before) refl

-- the state of a run from which a step was made is ready
pub ready_there : (t : Input) (q : ℕ) (state : State) → state ≡ run t q → state.status ≡ Ready → is_ready_at t q ≡ true
ready_there t q state e h = rw (sym e, h) refl

same_numbers : (x y : ℤ) → int_eq x y ≡ int_eq y x
same_numbers x y =
    let d = Decides-int_eq y x in
    one_answer {P = x ≡ y} (int_eq x y) (int_eq y x) (Decides-int_eq x y) (λ h. sym (d.0 h), λ e. d.1 (sym e))

alike_turned : (a b : Bool) → are_alike a b ≡ are_alike b a
alike_turned true true = refl
alike_turned true false = refl
alike_turned false true = refl
alike_turned false false = refl

value_turned : (v w : Value) → is_same_value v w ≡ is_same_value w v
value_turned (number x) (number y) = same_numbers x y
value_turned (truth a) (truth b) = alike_turned a b
value_turned (members ks) (members ls) = same_turned ks ls
value_turned (number x) (truth b) = refl
value_turned (number x) (members ls) = refl
value_turned (truth a) (number y) = refl
value_turned (truth a) (members ls) = refl
value_turned (members ks) (number y) = refl
value_turned (members ks) (truth b) = refl

same_value_turned : (v w : Option Value) → is_same v w ≡ is_same w v
same_value_turned None None = refl
same_value_turned None (Some w) = refl
same_value_turned (Some v) None = refl
same_value_turned (Some v) (Some w) = value_turned v w

-- a value changes between two states, the later of which is seen first
pub changed_back : (t : Input) (s : Subject) (p q : ℕ) (after before : Option Value) (b : Bool) →
    after ≡ seen t s p (q + 1) → before ≡ seen t s p q → b ≡ not (is_same after before) → b ≡ changes_in t s p q
changed_back t s p q after before b e f h =
    h ∙ ap not (same_value_turned after before) ∙ (rw (e, f) refl)
