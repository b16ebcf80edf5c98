-- The search for the newest step at which a test holds, step by step back.
use Rattle.std.proofs.Common.{◌≡◌, ℕ, ◌+◌, ◌≤◌, ◌&&◌, Bool, true, false, Some, None, sym, ap, ◌∙◌, subst}
use Rattle.std.specs.Prelude.{not}
use Rattle.ss_events.specs.Agenda.{is_pending}
use Rattle.ss_machine.specs.Moment.{Moment, HasGoneBack, position}
use Rattle.ss_state.specs.Run.{Input, run}
use Rattle.ss_state.specs.State.{State, is_ready}
use Rattle.ss_debug.specs.Move.{is_ready_at}
use Rattle.ss_debug.specs.View.{DebuggerView}
use Rattle.ss_trace.specs.History.{newest, positions_where}
use Rattle.ss_trace.specs.View.{HasLookedBack}
use Rattle.ss_trace.proofs.Histories.{none_before, passed, found}
use Rattle.ss_trace.proofs.Looking.{looked_further}
use Rattle.ss_causes.specs.Causes.{newest_where, makes_pending}

-- the state to which a machine went back is ready
ready_there : (old new : Moment) → HasGoneBack old new → new.state ≡ run new.input (position new) →
    is_ready_at new.input (position new) ≡ true
ready_there old new gone e = subst (λ (s : State). is_ready s.status ≡ true) e (ap is_ready gone.ready)

-- a debugger that looks back went one step further
pub looked_on_back : (old l new : DebuggerView) → HasLookedBack old l → HasGoneBack l.machine new.machine →
    new.breaks ≡ l.breaks → new.machine.state ≡ run new.machine.input (position new.machine) → HasLookedBack old new
looked_on_back old l new h gone breaks state =
    looked_further old l new h gone breaks (ready_there l.machine new.machine gone state)

-- a step at which the test fails is passed
pub went_on : (test : ℕ → Bool) (low p l u : ℕ) → positions_where test low p ≡ positions_where test low l → l ≡ u + 1 →
    low ≤ u → test u ≡ false → positions_where test low p ≡ positions_where test low u
went_on test low p l u h e k f = h ∙ passed test low l u e k f

-- one at which it holds is the newest
pub is_newest : (test : ℕ → Bool) (low p l u : ℕ) → positions_where test low p ≡ positions_where test low l →
    l ≡ u + 1 → low ≤ u → test u ≡ true → Some u ≡ newest_where test low p
is_newest test low p l u h e k f = sym (ap newest (h ∙ found test low l u e k f))

-- if no step is left there is none
pub is_none : (test : ℕ → Bool) (low p l : ℕ) → positions_where test low p ≡ positions_where test low l → l ≤ low →
    None ≡ newest_where test low p
is_none test low p l h k = sym (ap newest (h ∙ none_before test low l k))

-- whether a notice is pending in a machine is that of its state of the run
pub pending_there : (t : Input) (m : Moment) (k : ℕ) (b : Bool) → m.input ≡ t → m.state ≡ run m.input (position m) →
    b ≡ is_pending m.state.agenda k → b ≡ is_pending (run t (position m)).agenda k
pending_there t m k b i e h =
    let state : m.state ≡ run t (position m) = subst (λ (x : Input). m.state ≡ run x (position m)) i e in
    h ∙ ap (λ (s : State). is_pending s.agenda k) state

-- whether a step makes a notice pending, by the states before and after it
pub makes_by : (t : Input) (k p q : ℕ) (before after made : Bool) → p ≡ q + 1 →
    before ≡ is_pending (run t q).agenda k → after ≡ is_pending (run t p).agenda k → made ≡ (not before && after) →
    makes_pending t k q ≡ made
makes_by t k p q before after made e f h i =
    let next : after ≡ is_pending (run t (q + 1)).agenda k =
    subst (λ (r : ℕ). after ≡ is_pending (run t r).agenda k) e h in
    rw (← f, ← next) (sym i)
