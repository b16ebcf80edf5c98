-- The parts that differ between two states, and those that a step changed.
use Rattle.std.specs.Prelude.{ℕ, ◌+◌, nat_lt, Bool, if◌then◌else◌, List, [], map}
use Rattle.std.specs.List.{filter}
use Rattle.ss_program.specs.Program.{ProgramTable}
use Rattle.ss_state.specs.State.{State}
use Rattle.ss_state.specs.Run.{Input, run}
use Rattle.ss_changes.specs.declared.part.Part.{Part}
use Rattle.ss_changes.specs.declared.change.Change.{Change}
use Rattle.ss_changes.specs.Values.{value_in, is_told}
use Rattle.ss_changes.specs.Parts.{parts_of, shared_parts}

-- whether a part is shown as changed between two states
abbrev pub is_changed : ProgramTable → State → State → Part → Bool
is_changed program state u part = is_told part (value_in program state part) (value_in program u part)

-- a part with its values in two states
abbrev pub told_of : ProgramTable → State → State → Part → Change
told_of program state u part =
    record { part = part; before = value_in program state part; after = value_in program u part }

-- those of some parts that are shown, with both values
abbrev pub changes_among : ProgramTable → State → State → List Part → List Change
changes_among program state u xs = map (told_of program state u) (filter (is_changed program state u) xs)

-- the changes between two states, in order
abbrev pub changes_between : ProgramTable → State → State → List Change
changes_between program state u = changes_among program state u (parts_of program state u)

-- the changes between two states that are perhaps many steps apart, in order
abbrev pub changes_across : ProgramTable → State → State → List Change
changes_across program state u = changes_among program state u (shared_parts program state u)

-- a change with its values exchanged
abbrev pub turned : Change → Change
turned change = record { part = change.part; before = change.after; after = change.before }

-- the changes of step p
unfoldable pub changed_at : Input → ℕ → List Change
changed_at input p = changes_between input.program (run input p) (run input (p + 1))

-- what a movement from state p to state q changed; if it went back, what will change on the way to
-- state p again; nothing if no step was made
unfoldable pub movement_changes : Input → ℕ → ℕ → List Change
movement_changes input p q =
    if nat_lt p q then changes_across input.program (run input p) (run input q) else
    if nat_lt q p then map turned (changes_across input.program (run input p) (run input q)) else []
