-- The laws of the findings that an entity is missing, and of the pieces of the data.
use Rattle.std.specs.Prelude.{ℕ, ℤ, ◌≡◌, ◌⊎◌, false, Ok, List, map}
use Rattle.ss_words.specs.declared.fault.RunFault.{RunFault}
use Rattle.ss_program.specs.declared.branch.Branch.TheVariants.{If}
use Rattle.ss_program.specs.declared.branch.Question.TheVariants.{Whether}
use Rattle.ss_program.specs.declared.place.Place.{Place}
use Rattle.ss_program.specs.declared.place.Place.TheVariants as places
use Rattle.ss_program.specs.declared.ways.Ways.{Ways}
use Rattle.ss_program.specs.Program.{ProgramTable}
use Rattle.ss_data.specs.Pieces.{pieces}
use Rattle.ss_store.specs.Store.{number_of, exists}
use Rattle.ss_store.specs.Tables.{tables_of}
use Rattle.ss_values.specs.Conditions.{holds}
use Rattle.ss_state.specs.declared.status.Status.TheVariants.{Faulted}
use Rattle.ss_state.specs.Readings.{readings}
use Rattle.ss_state.specs.State.{State}
use Rattle.ss_state.specs.Step.{step_at}
use Rattle.ss_faults.specs.declared.told.Told.TheVariants.{Missing}
use Rattle.ss_faults.specs.Missing.{place_told}
use Rattle.ss_faults.specs.DataPieces.{PlacedPiece, data_pieces}

-- the entity that is missing by the finding about a statement in a state does not exist there
abbrev pub WhatIsMissingIsNotThere : Type 0
WhatIsMissingIsNotThere =
    (program : ProgramTable) (state : State) (place : Place) (c : ℕ) (x : ℤ) →
    place_told program state place ≡ Missing c x → exists state.store c (number_of x) ≡ false

-- a run that has ended with a fault
abbrev pub IsFaulted : State → Type 0
IsFaulted state = (fault : RunFault) × (state.status ≡ Faulted fault)

-- an IF whose condition does not hold
abbrev pub IsDenied : ProgramTable → State → Place → Type 0
IsDenied program state (places.Branch (If (Whether c))) = holds (readings (tables_of program) state) c ≡ Ok false
IsDenied program state place = ⊥

-- a statement whose finding is a missing entity faults in that state, except an IF that has an
-- earlier relation which does not hold
abbrev pub WhatIsMissingFaults : Type 0
WhatIsMissingFaults =
    (program : ProgramTable) (state : State) (ways : Ways) (place : Place) (c : ℕ) (x : ℤ) →
    place_told program state place ≡ Missing c x →
    IsFaulted (step_at program state ways place) ⊎ IsDenied program state place

-- the pieces of a text, without their lines, are the pieces that a run takes, in order
abbrev pub LinesLeaveThePieces : Type 0
LinesLeaveThePieces = (text : List ℕ) → map (λ (p : PlacedPiece). p.bytes) (data_pieces text) ≡ pieces text
