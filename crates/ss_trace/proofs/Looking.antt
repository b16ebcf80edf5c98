-- A debugger that looks back over steps that were made.
use Rattle.std.proofs.Common.{◌≡◌, ℕ, ◌+◌, ◌<◌, ◌≤◌, Bool, true, false, refl, ◌∙◌, arith, nat_lt}
use borrow.Author.Tests.{ltb-true, ltb-false}
use Rattle.ss_machine.specs.Moment.{position, HasGoneBack}
use Rattle.ss_state.specs.Run.{Input}
use Rattle.ss_debug.specs.Move.{is_ready_at}
use Rattle.ss_debug.specs.View.{DebuggerView}
use Rattle.ss_trace.specs.View.{HasLookedBack, IsAt}

-- it did not go
pub looked_nowhere : (d : DebuggerView) → HasLookedBack d d
looked_nowhere d = record {
  input = refl;
  forgotten = refl;
  breaks = refl;
  no_later = omega arith;
  ready = λ j a b. absurd (omega (arith, a, b));
}

ready_by : (b : Bool) (t : Input) (q r p j : ℕ) → nat_lt q j ≡ b → r ≡ q + 1 → is_ready_at t q ≡ true →
    ((i : ℕ) → r ≤ i → i < p → is_ready_at t i ≡ true) → q ≤ j → j < p → is_ready_at t j ≡ true
ready_by true t q r p j e f here later a b = later j (omega (arith, ltb-true _ _ e, f)) b
ready_by false t q r p j e f here later a b =
    let same : j ≡ q = omega (arith, ltb-false _ _ e, a) in rw same here

-- it went one step further
pub looked_further : (old l new : DebuggerView) → HasLookedBack old l → HasGoneBack l.machine new.machine →
    new.breaks ≡ l.breaks → is_ready_at new.machine.input (position new.machine) ≡ true → HasLookedBack old new
looked_further old l new h gone breaks ready =
    let here : is_ready_at old.machine.input (position new.machine) ≡ true = rw (gone.input, h.input) at ready in
    record {
      input = gone.input ∙ h.input;
      forgotten = gone.forgotten ∙ h.forgotten;
      breaks = breaks ∙ h.breaks;
      no_later = omega (arith, h.no_later, gone.position);
      ready = λ j a b.
          ready_by (nat_lt (position new.machine) j) old.machine.input (position new.machine) (position l.machine)
          (position old.machine) j refl gone.position here h.ready a b;
    }

-- one look after another
pub looked_on : (old l new : DebuggerView) → HasLookedBack old l → HasLookedBack l new → HasLookedBack old new
looked_on old l new h k = record {
  input = k.input ∙ h.input;
  forgotten = k.forgotten ∙ h.forgotten;
  breaks = k.breaks ∙ h.breaks;
  no_later = omega (arith, h.no_later, k.no_later);
  ready = λ j a b. on_by (nat_lt j (position l.machine)) j refl a b;
}
  where
    on_by : (c : Bool) (j : ℕ) → nat_lt j (position l.machine) ≡ c → position new.machine ≤ j →
        j < position old.machine → is_ready_at old.machine.input j ≡ true
    on_by true j e a b = rw h.input at (k.ready j a (omega (arith, ltb-true _ _ e)))
    on_by false j e a b = h.ready j (omega (arith, ltb-false _ _ e)) b

-- a look, and then a step there and back
pub looked_same : (old l new : DebuggerView) → HasLookedBack old l → IsAt l (position l.machine) new →
    HasLookedBack old new
looked_same old l new h k = record {
  input = k.input ∙ h.input;
  forgotten = k.forgotten ∙ h.forgotten;
  breaks = k.breaks ∙ h.breaks;
  no_later = omega (arith, h.no_later, k.position);
  ready = λ j a b. h.ready j (omega (arith, a, k.position)) b;
}
