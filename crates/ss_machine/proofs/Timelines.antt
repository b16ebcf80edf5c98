-- a machine's steps are those of a run
use Rattle.std.proofs.Common.{◌≡◌, ◌≢◌, ◌≤◌, ℕ, zero, suc, ◌+◌, ◌-◌, ◌<◌, ◌⊎◌, List, [], ◌∷◌, length, Bool, true, false}
use Rattle.std.proofs.Common.{refl, ap, sym, subst, arith, ◌∙◌, inl, inr}
use Rattle.std.specs.Prelude.{take, ◌&&◌, nat_lt}
use Rattle.std.proofs.lemmas.Bool.Decides.{nat_tests}
use Rattle.ss_state.specs.declared.limits.TheConstants.{LAST_POSITION}
use Rattle.ss_state.specs.declared.status.Status.{Status}
use Rattle.ss_state.specs.declared.status.Status.TheVariants.{Ready, Stopped, Finished, Faulted}
use Rattle.ss_state.specs.declared.stepped.Stepped.{Stepped}
use Rattle.ss_state.specs.declared.stepped.Stepped.TheVariants.{Moved, AtEnd}
use Rattle.ss_state.specs.State.{State, is_ready}
use Rattle.ss_state.specs.Change.{Change}
use Rattle.ss_state.specs.Run.{Input, run}
use Rattle.ss_timeline.specs.Moment.{goes_on, with_newest}
use Rattle.ss_timeline.specs.Moment as timelines
use Rattle.ss_machine.specs.Moment.{Moment, moment_of, position, steps_kept, Steps, GoesBack, HasForgotten}

-- the same run, and the same numbers
same : (i j : Input) (a b k l : ℕ) → i ≡ j → a ≡ b → k ≡ l →
    ◌≡◌ {A = timelines.Moment} (record { input = i; low = a; kept = k }) (record { input = j; low = b; kept = l })
same i j a b k l e f g = rw (e, f, g) refl

-- a run goes on from a ready state before the last position
goes_by : (s : Status) (p : ℕ) → s ≡ Ready → p < LAST_POSITION → (is_ready s && nat_lt p LAST_POSITION) ≡ true
goes_by s p e h = rw e (grind (arith, nat_tests))

-- and from no other
ends_by : (s : Status) (p : ℕ) → (s ≢ Ready) ⊎ (p ≡ LAST_POSITION) → (is_ready s && nat_lt p LAST_POSITION) ≡ false
ends_by Ready p (inl n) = absurd (n refl)
ends_by Stopped p (inl n) = refl
ends_by Finished p (inl n) = refl
ends_by (Faulted f) p (inl n) = refl
ends_by s p (inr e) = at_last (is_ready s) p e
  where
    at_last : (b : Bool) (p : ℕ) → p ≡ LAST_POSITION → (b && nat_lt p LAST_POSITION) ≡ false
    at_last true p e = grind (arith, nat_tests)
    at_last false p e = refl

-- a step of a machine is one of its run
pub steps_on : (s : Stepped) (old new : Moment) → old.state ≡ run old.input (position old) → Steps s old new →
    timelines.Steps s (moment_of old) (moment_of new)
steps_on Moved old new here m = record {
  goes = subst (λ (t : State). (is_ready t.status && nat_lt (position old) LAST_POSITION) ≡ true) here
      (goes_by old.state.status (position old) m.ready m.before_last);
  moved = same new.input old.input new.forgotten old.forgotten (steps_kept new) (steps_kept old + 1) m.input m.forgotten
      (omega (arith, m.position, m.forgotten));
}
steps_on AtEnd old new here m = (
  subst (λ (t : State). (is_ready t.status && nat_lt (position old) LAST_POSITION) ≡ false) here
      (ends_by old.state.status (position old) m.0),
  ap moment_of m.1,
)

-- if a run does not go on, the state is not ready or the position is the last
pub ends_on : {A : Type 0} (old : Moment) → old.state ≡ run old.input (position old) → position old ≤ LAST_POSITION →
    (old.state.status ≢ Ready → A) → (position old ≡ LAST_POSITION → A) →
    goes_on (moment_of old).input (timelines.position (moment_of old)) ≡ false → A
ends_on {A = A} old here within f g h =
    chosen old.state.status (position old) within f g
    (subst (λ (t : State). (is_ready t.status && nat_lt (position old) LAST_POSITION) ≡ false) (sym here) h)
  where
    last : (p : ℕ) → p ≤ LAST_POSITION → (true && nat_lt p LAST_POSITION) ≡ false → p ≡ LAST_POSITION
    last p w h = grind (arith, nat_tests)

    chosen : (s : Status) (p : ℕ) → p ≤ LAST_POSITION → (s ≢ Ready → A) → (p ≡ LAST_POSITION → A) →
        (is_ready s && nat_lt p LAST_POSITION) ≡ false → A
    chosen Ready p w f g h = g (last p w h)
    chosen Stopped p w f g h = f (λ e. cc)
    chosen Finished p w f g h = f (λ e. cc)
    chosen (Faulted x) p w f g h = f (λ e. cc)

-- so is a step back
pub goes_back : (b : Bool) (old new : Moment) → position old ≤ LAST_POSITION →
    new.state ≡ run new.input (position new) → GoesBack b old new →
    timelines.GoesBack b (moment_of old) (moment_of new)
goes_back true old new within here m = record {
  some = omega (arith, m.position, m.forgotten);
  moved = same new.input old.input new.forgotten old.forgotten (steps_kept new) (steps_kept old - 1) m.input m.forgotten
      (omega (arith, m.position, m.forgotten));
  goes = subst (λ (t : State). (is_ready t.status && nat_lt (position new) LAST_POSITION) ≡ true) here
      (goes_by new.state.status (position new) m.ready (omega (arith, m.position, within)));
}
goes_back false old new within here m = (ap length m.0, ap moment_of m.1)

-- how many the newest n are
count : (n : ℕ) (steps : List (List Change)) → length (take n steps) ≡ length steps - (length steps - n)
count zero [] = omega arith
count (suc n) [] = omega arith
count zero (step ∷ earlier) = omega arith
count (suc n) (step ∷ earlier) = omega (arith, count n earlier)

-- and the steps forgotten are those that the run has before its earliest position
pub forgets : (n : ℕ) (old new : Moment) → HasForgotten n old new → moment_of new ≡ with_newest n (moment_of old)
forgets n old new m =
    let kept : steps_kept new ≡ steps_kept old - (steps_kept old - n) = ap length m.steps ∙ count n old.steps in
    same new.input old.input new.forgotten (old.forgotten + (steps_kept old - n)) (steps_kept new)
    (steps_kept old - (steps_kept old - n)) m.input (omega (arith, m.position, kept)) kept
