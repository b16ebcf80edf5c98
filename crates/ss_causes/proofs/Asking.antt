-- What brought the last frame about, by what the search for it finds.
use Rattle.std.proofs.Common.{◌≡◌, ◌≢◌, ℕ, ◌+◌, ◌<◌, ◌≤◌, length, Bool, true, false, Option, Some, None, refl, sym, ap, ◌∙◌}
use Rattle.std.proofs.Common.{arith, subst, nat_lt}
use Rattle.std.specs.Prelude.{nat_eq}
use Rattle.std.proofs.lemmas.Bool.{eq-eqb, lt-ltb}
use Rattle.std.proofs.lemmas.Bool.Decides.{nat_tests}
use Rattle.ss_events.specs.Agenda.{least}
use Rattle.ss_events.specs.Rules.{rules_of}
use Rattle.ss_events.specs.State.{AgendaState}
use Rattle.ss_machine.specs.Moment.{Moment, position}
use Rattle.ss_state.specs.Run.{Input, run}
use Rattle.ss_state.specs.State.{State}
use Rattle.ss_debug.specs.Move.{runs_event}
use Rattle.ss_trace.specs.Movements.{frames_at, is_outside}
use Rattle.ss_causes.specs.declared.cause.Cause.TheVariants.{Start, Called, NotKept}
use Rattle.ss_causes.specs.Causes.{newest_where, is_in_main, opening, notice_started, cause_of_event, cause_at}

-- ---- frames

-- the number of a machine's frames is that of its state of the run
pub frames_are : (t : Input) (m : Moment) (n : ℕ) → m.input ≡ t → m.state ≡ run m.input (position m) →
    n ≡ 1 + length m.state.below → n ≡ frames_at t (position m)
frames_are t m n i e k =
    let state : m.state ≡ run t (position m) = subst (λ (x : Input). m.state ≡ run x (position m)) i e in
    k ∙ ap (λ (s : State). 1 + length s.below) state

-- it is less than a number
pub is_less : (t : Input) (n frames q : ℕ) → n ≡ frames_at t q → n < frames → is_outside t frames q ≡ true
is_less t n frames q e l = subst (λ (k : ℕ). (nat_lt k frames) ≡ true) e (lt-ltb n frames l)

no_less : (n frames : ℕ) → frames ≤ n → nat_lt n frames ≡ false
no_less n frames l = grind (arith, nat_tests)

-- it is not
pub is_no_less : (t : Input) (n frames q : ℕ) → n ≡ frames_at t q → frames ≤ n → is_outside t frames q ≡ false
is_no_less t n frames q e l = subst (λ (k : ℕ). (nat_lt k frames) ≡ false) e (no_less n frames l)

-- it is one
pub is_main : (t : Input) (n p : ℕ) → n ≡ frames_at t p → n ≡ 1 → is_in_main t p ≡ true
is_main t n p e h = eq-eqb (frames_at t p) 1 (sym e ∙ h)

more_than_one : (n : ℕ) → n ≢ 1 → nat_eq n 1 ≡ false
more_than_one n h = grind (arith, nat_tests)

-- it is not
pub is_no_main : (t : Input) (n p : ℕ) → n ≡ frames_at t p → n ≢ 1 → is_in_main t p ≡ false
is_no_main t n p e h = subst (λ (k : ℕ). nat_eq k 1 ≡ false) e (more_than_one n h)

-- the step that opened the last frame, by the number of frames
pub opening_is : (t : Input) (low p n : ℕ) (o : Option ℕ) → n ≡ frames_at t p → o ≡ newest_where (is_outside t n) low p →
    opening t low p ≡ o
opening_is t low p n o e h = sym (subst (λ (k : ℕ). o ≡ newest_where (is_outside t k) low p) e h)

-- whether the last frame is an event's
pub kind_is : (t : Input) (m : Moment) (b c : Bool) → m.input ≡ t → m.state ≡ run m.input (position m) →
    b ≡ runs_event m.input m.state → b ≡ c → runs_event t (run t (position m)) ≡ c
kind_is t m b c i e h k =
    let state : m.state ≡ run t (position m) = subst (λ (x : Input). m.state ≡ run x (position m)) i e in
    let kind : b ≡ runs_event t m.state = subst (λ (x : Input). b ≡ runs_event x m.state) i h in
    sym (ap (λ (s : State). runs_event t s) state) ∙ sym kind ∙ k

-- ---- causes

-- in MAIN it is the start
pub of_main : (t : Input) (low p : ℕ) → is_in_main t p ≡ true → cause_at t low p ≡ Start
unfolding cause_at
of_main t low p h = rw h refl

-- a step that is not kept
pub of_none : (t : Input) (low p : ℕ) → is_in_main t p ≡ false → opening t low p ≡ None → cause_at t low p ≡ NotKept
unfolding cause_at
of_none t low p h e = rw (h, e) refl

-- of a routine the step that opened its frame
pub of_routine : (t : Input) (low p q : ℕ) → is_in_main t p ≡ false → opening t low p ≡ Some q →
    runs_event t (run t p) ≡ false → cause_at t low p ≡ Called q
unfolding cause_at
of_routine t low p q h e f = rw (h, e, f) refl

-- of an event that of its notice
pub of_event : (t : Input) (low p q : ℕ) → is_in_main t p ≡ false → opening t low p ≡ Some q →
    runs_event t (run t p) ≡ true → cause_at t low p ≡ cause_of_event t low q (notice_started t q)
unfolding cause_at
of_event t low p q h e f = rw (h, e, f) refl

-- ---- the notice whose event starts

-- it is the least of a machine's agenda
pub started_is : (m : Moment) (a : AgendaState) → m.state ≡ run m.input (position m) → a.agenda ≡ m.state.agenda →
    a.rules ≡ rules_of m.input.program → notice_started m.input (position m) ≡ least a.rules a.agenda.pending
started_is m a e f g = rw (g, f, e) refl
