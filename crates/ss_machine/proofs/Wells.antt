-- the state of a machine is well-formed
use Rattle.std.proofs.Common.{ℕ, ◌+◌, length, sym, subst}
use Rattle.ss_journal.specs.Log.{Log}
use Rattle.ss_state.specs.Change.{Change}
use Rattle.ss_state.specs.State.{State}
use Rattle.ss_state.specs.Held.{Held}
use Rattle.ss_state.specs.Run.{Input}
use Rattle.ss_state.specs.Well.{IsInBounds, IsWell}
use Rattle.ss_machine.specs.Stands.{Stands}
use Rattle.ss_state.proofs.Wells.{well_run}

pub stands_well : (i : Input) (a : ℕ) (g : Held) (j : Log Change) → Stands i a g j → IsWell i.program g.state
stands_well i a g j h =
    subst (λ (t : State). IsWell i.program t) (sym h.here) (well_run i (a + length j.steps) h.sound h.items)

pub stands_in_bounds : (i : Input) (a : ℕ) (g : Held) (j : Log Change) → Stands i a g j → IsInBounds i.program g.state
stands_in_bounds i a g j h = (stands_well i a g j h).bounds
