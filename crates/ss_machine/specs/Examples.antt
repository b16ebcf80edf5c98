-- A small run, and machines on it.
use Rattle.std.specs.Prelude.{ℕ, zero, suc, ◌-◌, pos, List, [], ◌∷◌}
use Rattle.ss_journal.specs.Log.{newest}
use Rattle.ss_state.specs.Change.{Change, Local as WasLocal, Place as WasPlace}
use Rattle.ss_state.specs.Held.{Beside}
use Rattle.ss_state.specs.Run.{run}
use Rattle.ss_state.specs.Examples.{counting_up}
use Rattle.ss_machine.specs.Moment.{Moment}

-- the changes of its first k steps, the newest first: in state number k X is k
abbrev pub steps_counting_up : ℕ → List (List Change)
steps_counting_up zero = []
steps_counting_up (suc k) = (WasPlace k ∷ WasLocal 0 (pos k) ∷ []) ∷ steps_counting_up k

-- a machine on that run at position p, of whose steps the oldest a are forgotten
abbrev pub counting_at : Beside → ℕ → ℕ → Moment
counting_at beside a p = record {
  input = counting_up;
  state = run counting_up p;
  beside = beside;
  forgotten = a;
  steps = newest (p - a) (steps_counting_up p);
}
