-- The positions of a debugger that looks at the states before and after its own.
use Rattle.std.specs.Prelude.{ℕ, suc, ◌≡◌, ◌+◌, ◌-◌, ◌≤◌, List, [], ◌∷◌, ◌++◌, length, slice_index_or, if◌then◌else◌}
use Rattle.ss_program.specs.declared.kinds.Owner.{Owner}
use Rattle.ss_program.specs.declared.kinds.Owner.TheVariants.{System, OwnedBy}
use Rattle.ss_program.specs.Program.{ProgramTable, set_of}
use Rattle.ss_state.specs.State.{State}
use Rattle.ss_machine.specs.Moment.{position}
use Rattle.ss_state.specs.Run.{run}
use Rattle.ss_debug.specs.View.{DebuggerView}
use Rattle.ss_inspect.specs.Living.{living_numbers}
use Rattle.ss_changes.specs.declared.part.Part.{Part}
use Rattle.ss_changes.specs.declared.part.Part.TheVariants.{Taken, Entry, Clock, Report}
use Rattle.ss_changes.specs.declared.change.Change.{Change}
use Rattle.ss_changes.specs.declared.value.PartValue.{PartValue}
use Rattle.ss_changes.specs.Values.{value_in, is_told}
use Rattle.ss_changes.specs.Parts.{below_of, each_of, local_names, attributes_of, entity_part, list_part}

-- a debugger is at position q of the run, and all else is as it was
pub record IsAt (old : DebuggerView) (q : ℕ) (new : DebuggerView) : Type 0 where
  -- its run is the same one
  pub input : new.machine.input ≡ old.machine.input
  -- the number of forgotten steps is the same
  pub forgotten : new.machine.forgotten ≡ old.machine.forgotten
  -- its break lines are the same
  pub breaks : new.breaks ≡ old.breaks
  -- its position
  pub position : position new.machine ≡ q

-- it is between two positions, and all else is as it was
pub record IsBetween (old : DebuggerView) (p q : ℕ) (new : DebuggerView) : Type 0 where
  -- its run is the same one
  pub input : new.machine.input ≡ old.machine.input
  -- the number of forgotten steps is the same
  pub forgotten : new.machine.forgotten ≡ old.machine.forgotten
  -- its break lines are the same
  pub breaks : new.breaks ≡ old.breaks
  -- not before the first
  pub no_earlier : p ≤ position new.machine
  -- not after the second
  pub no_later : position new.machine ≤ q

-- it is at its old position
abbrev pub HasReturned : DebuggerView → DebuggerView → Type 0
HasReturned old new = IsAt old (position old.machine) new

-- it is at its old position, or one step before
abbrev pub IsBehind : DebuggerView → DebuggerView → Type 0
IsBehind old new = IsBetween old (position old.machine - 1) (position old.machine) new

-- it is at its old position, or one step further
abbrev pub IsAhead : DebuggerView → DebuggerView → Type 0
IsAhead old new = IsBetween old (position old.machine) (position old.machine + 1) new

-- ---- the states that it reads

-- its program
abbrev pub program_of : DebuggerView → ProgramTable
program_of debugger = debugger.machine.input.program

-- the state at its position
abbrev pub state_of : DebuggerView → State
state_of debugger = run debugger.machine.input (position debugger.machine)

-- the state before
abbrev pub state_before : DebuggerView → State
state_before debugger = run debugger.machine.input (position debugger.machine - 1)

-- ---- how the code comes to it

-- how many locals each frame of a state has, MAIN's first
abbrev pub local_counts : ProgramTable → State → List ℕ
local_counts program u = below_of (λ n. length (local_names program u n) ∷ []) (suc (length u.below))

-- the entities of each class that live in a state
abbrev pub living_in : ProgramTable → State → List (List ℕ)
living_in program u = below_of (λ c. living_numbers u.store c ∷ []) (length program.classes)

-- the owners of lists among some entities of each class: the system, or those of a class
abbrev pub owners_among : List (List ℕ) → Owner → List ℕ
owners_among living System = 0 ∷ []
owners_among living (OwnedBy c) = slice_index_or living c []

-- a part with its values before and after, if it is shown
abbrev pub told_if : Part → PartValue → PartValue → List Change
told_if part before after =
    if is_told part before after then record { part = part; before = before; after = after } ∷ [] else []

-- those of some parts that are shown, with these values before and their values in a state
abbrev pub told_against : ProgramTable → State → List Part → List PartValue → List Change
told_against program u [] values = []
told_against program u (x ∷ xs) [] = []
told_against program u (x ∷ xs) (v ∷ vs) = told_if x v (value_in program u x) ++ told_against program u xs vs

-- the attributes of some entities of each class
abbrev pub attributes_among : ProgramTable → List (List ℕ) → List Part
attributes_among program living =
    below_of (λ c. each_of (attributes_of program c) (slice_index_or living c [])) (length living)

-- some entities of each class, then others
abbrev pub entities_among : List (List ℕ) → List (List ℕ) → List Part
entities_among lived living =
    below_of (λ c. each_of (entity_part c) (slice_index_or lived c [])
    ++ each_of (entity_part c) (slice_index_or living c [])) (length living)

-- the lists of each set, for the system or for some entities of each class
abbrev pub lists_among : ProgramTable → List (List ℕ) → List Part
lists_among program living =
    below_of (λ n. each_of (list_part n) (owners_among living (set_of program n).owner)) (length program.sets)

-- the parts of which there is one
abbrev pub single_parts : List Part
single_parts = Taken ∷ Entry ∷ Clock ∷ Report ∷ []
