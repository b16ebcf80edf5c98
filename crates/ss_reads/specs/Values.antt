-- The value of a part in a state.
use Rattle.std.specs.Prelude.{ℕ, nat_lt, Bool, true, false, length, Option, Some, None, Result, Ok, Err, if◌then◌else◌}
use Rattle.std.specs.Prelude.{ℤ, pos, List, slice_index_or}
use Rattle.std.specs.Option.{option_map}
use Rattle.ss_words.specs.declared.fault.RunFault.{RunFault}
use Rattle.ss_program.specs.declared.variable.Variable.{Variable as AVariable}
use Rattle.ss_program.specs.declared.variable.Variable.TheVariants.{Global, Local, Clock}
use Rattle.ss_program.specs.Program.{ProgramTable}
use Rattle.ss_store.specs.declared.shape.SetShape.{SetShape}
use Rattle.ss_store.specs.Tables.{tables_of, set_of}
use Rattle.ss_store.specs.Store.{Store, number_of, attribute_of, members_of, is_owner}
use Rattle.ss_values.specs.Values.{owner_kept_value, member_kept_value}
use Rattle.ss_state.specs.State.{State}
use Rattle.ss_state.specs.Frames.{frame_local}
use Rattle.ss_state.specs.Readings.{readings}
use Rattle.ss_readings.specs.Value.{Value, number, members}
use Rattle.ss_readings.specs.Subject.{Subject}
use Rattle.ss_reads.specs.declared.part.Item.{Item}
use Rattle.ss_reads.specs.declared.part.Item.TheVariants as items
use Rattle.ss_reads.specs.declared.part.Part.{Part}
use Rattle.ss_reads.specs.declared.part.Part.TheVariants.{Variable, Of}

-- a number that was read; none after a fault
abbrev pub number_if : Result ℤ RunFault → Option Value
number_if (Ok x) = Some (number x)
number_if (Err fault) = None

-- the members of the list of a set for owner number k; none if there is no such owner
abbrev pub members_seen : SetShape → Store → ℕ → Option (List ℕ)
members_seen shape store k = if is_owner shape store k then Some (members_of shape store k) else None

-- a program has the set of an item
abbrev pub has_item : ProgramTable → Item → Bool
has_item program (items.Attribute c a) = true
has_item program (items.OwnerKept kept s) = nat_lt s (length program.sets)
has_item program (items.MemberKept kept s) = nat_lt s (length program.sets)
has_item program (items.Members s) = nat_lt s (length program.sets)

-- an item of the entity that x names; none if that does not exist
abbrev pub item_there : ProgramTable → State → Item → ℤ → Option Value
item_there program state (items.Attribute c a) x = number_if (attribute_of state.store c a (number_of x))
item_there program state (items.OwnerKept kept s) x =
    number_if (owner_kept_value (readings (tables_of program) state) kept s x)
item_there program state (items.MemberKept kept s) x =
    number_if (member_kept_value (readings (tables_of program) state) kept s x)
item_there program state (items.Members s) x =
    option_map (λ ks. members ks) (members_seen (set_of (tables_of program) s) state.store (number_of x))

-- what the entity that x names has
abbrev pub item_value : ProgramTable → State → Item → ℤ → Option Value
item_value program state item x = if has_item program item then item_there program state item x else None

-- the value of a variable, of a local one in the frame with `depth` others above it
abbrev pub variable_value : State → ℕ → AVariable → Option Value
variable_value state depth (Global i) = Some (number (slice_index_or state.variables i (pos 0)))
variable_value state depth (Local i) = option_map (λ x. number x) (frame_local state depth i)
variable_value state depth Clock = Some (number state.clock)

-- the value of a part
abbrev pub part_value : ProgramTable → Part → State → ℕ → Option Value
part_value program (Variable x) state depth = variable_value state depth x
part_value program (Of item x) state depth = item_value program state item x

-- whether it is a local variable
abbrev pub is_local : Part → Bool
is_local (Variable (Local i)) = true
is_local _ = false

-- a part as what a question is about
abbrev pub part_subject : Part → ProgramTable → Subject
part_subject part program = record { local = is_local part; value = part_value program part }
