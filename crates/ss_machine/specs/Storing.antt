-- Private: the effect of a change of the store or of the agenda on the held parts.
use Rattle.std.specs.Prelude.{◌≡◌, ℕ, Result, Ok, Err}
use Rattle.ss_words.specs.declared.fault.RunFault.{RunFault}
use Rattle.ss_words.specs.declared.fault.StepFault.{StepFault}
use Rattle.ss_words.specs.declared.fault.StepFault.TheVariants.{Fault, Memory}
use Rattle.ss_store.specs.Store.{Store, last_reference}
use Rattle.ss_events.specs.Agenda.{Agenda}
use Rattle.ss_machine.specs.declared.state.change.Change.{Change}
use Rattle.ss_machine.specs.ChangeView.{as_change}
use Rattle.ss_state.specs.Held.{Held}
use Rattle.ss_state.specs.Change.{unapply, Fits}
use Rattle.ss_state.specs.State.{State}
use Rattle.ss_state.specs.Statements.{state_with_store}
use Rattle.ss_state.specs.Statements.Timing.{state_with_agenda}

-- a change of the store was made
pub record LeavesStore (change : Change) (store : Store) (old new : Held) : Type 0 where
  -- only the store is another one
  pub state : new.state ≡ state_with_store old.state store
  -- the tables are the same
  pub tables : new.beside.tables ≡ old.beside.tables
  -- so are the rules
  pub rules : new.beside.rules ≡ old.beside.rules
  -- the change fits
  pub fits : Fits (as_change change) new
  -- and leads back
  pub back : unapply (as_change change) new ≡ old

-- a call that may fault; a fault changes nothing
abbrev pub IsStoring : Result Change RunFault → Result Store RunFault → Held → Held → Type 0
IsStoring (Ok c) (Ok st) old new = LeavesStore c st old new
IsStoring (Err e) (Err f) old new = (e ≡ f) × (new ≡ old)
IsStoring (Ok c) (Err f) old new = ⊥
IsStoring (Err e) (Ok st) old new = ⊥

-- one that gives the number of a member too
abbrev pub IsRemoving : Result (ℕ × Change) RunFault → Result (ℕ × Store) RunFault → Held → Held → Type 0
IsRemoving (Ok r) (Ok s) old new = (r.0 ≡ s.0) × LeavesStore r.1 s.1 old new
IsRemoving (Err e) (Err f) old new = (e ≡ f) × (new ≡ old)
IsRemoving (Ok r) (Err f) old new = ⊥
IsRemoving (Err e) (Ok s) old new = ⊥

-- a refusal changes nothing; memory is refused only if there is no fault
abbrev pub IsRefused : StepFault → Result Store RunFault → Held → Held → Type 0
IsRefused (Fault e) (Err f) old new = (e ≡ f) × (new ≡ old)
IsRefused Memory (Ok s) old new = new ≡ old
IsRefused (Fault e) (Ok s) old new = ⊥
IsRefused Memory (Err f) old new = ⊥

-- an entity was made, which has the last reference, or not
abbrev pub IsCreating : Result (ℕ × Change) StepFault → Result Store RunFault → Held → Held → Type 0
IsCreating (Ok r) (Ok st) old new = (r.0 ≡ last_reference st) × LeavesStore r.1 st old new
IsCreating (Err e) r old new = IsRefused e r old new
IsCreating (Ok r) (Err f) old new = ⊥

-- the entities of a class were made, or not
abbrev pub IsMakingAll : Result Change StepFault → Result Store RunFault → Held → Held → Type 0
IsMakingAll (Ok c) (Ok st) old new = LeavesStore c st old new
IsMakingAll (Err e) r old new = IsRefused e r old new
IsMakingAll (Ok c) (Err f) old new = ⊥

-- a change was made
pub record LeavesState (change : Change) (s : State) (old new : Held) : Type 0 where
  -- the state is this one
  pub state : new.state ≡ s
  -- the tables are the same
  pub tables : new.beside.tables ≡ old.beside.tables
  -- so are the rules
  pub rules : new.beside.rules ≡ old.beside.rules
  -- the change fits
  pub fits : Fits (as_change change) new
  -- and leads back
  pub back : unapply (as_change change) new ≡ old

-- a notice was scheduled, or not; a refusal changes nothing; memory is refused only without a fault
abbrev pub IsScheduling : Result Change StepFault → Result State RunFault → Held → Held → Type 0
IsScheduling (Ok c) (Ok s) old new = LeavesState c s old new
IsScheduling (Err (Fault e)) (Err f) old new = (e ≡ f) × (new ≡ old)
IsScheduling (Err Memory) (Ok s) old new = new ≡ old
IsScheduling (Ok c) (Err f) old new = ⊥
IsScheduling (Err (Fault e)) (Ok s) old new = ⊥
IsScheduling (Err Memory) (Err f) old new = ⊥

-- a notice was taken off, or not
abbrev pub IsCancelling : Result Change RunFault → Result Agenda RunFault → Held → Held → Type 0
IsCancelling (Ok c) (Ok a) old new = LeavesState c (state_with_agenda old.state a) old new
IsCancelling (Err e) (Err f) old new = (e ≡ f) × (new ≡ old)
IsCancelling (Ok c) (Err f) old new = ⊥
IsCancelling (Err e) (Ok a) old new = ⊥
