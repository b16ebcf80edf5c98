-- The values of the parts of a state.
use Rattle.std.specs.Prelude.{ℕ, ◌-◌, ℤ, Bool, true, false, not, ◌&&◌, ◌||◌, nat_eq, nat_lt, bytes_eq, List, length}
use Rattle.std.specs.Prelude.{if◌then◌else◌}
use Rattle.std.specs.Prelude.{Option, Some, None, Result, Ok, Err, slice_get}
use Rattle.std.specs.Ordering.{int_eq}
use Rattle.ss_words.specs.declared.fault.RunFault.{RunFault}
use Rattle.ss_program.specs.Program.{ProgramTable}
use Rattle.ss_store.specs.declared.shape.SetShape.{SetShape}
use Rattle.ss_store.specs.Store.{Store, exists, attribute_of, list_by}
use Rattle.ss_events.specs.Agenda.{Pending, pending_at}
use Rattle.ss_state.specs.declared.entry.Entry.{Entry}
use Rattle.ss_state.specs.declared.entry.Entry.TheVariants as entries
use Rattle.ss_state.specs.State.{State}
use Rattle.ss_state.specs.Frames.{frame_local}
use Rattle.ss_debug.specs.Entities.{shape_of}
use Rattle.ss_changes.specs.declared.part.Part.{Part}
use Rattle.ss_changes.specs.declared.part.Part.TheVariants as parts
use Rattle.ss_changes.specs.declared.value.PartValue.{PartValue}
use Rattle.ss_changes.specs.declared.value.PartValue.TheVariants.{Absent, Number, Count, Lives, Listed, Entered, Bytes}

-- ---- the same

-- whether two entries are the same
abbrev pub is_same_entry : Entry → Entry → Bool
is_same_entry entries.Absent entries.Absent = true
is_same_entry (entries.Waiting c k) (entries.Waiting d j) = nat_eq c d && nat_eq k j
is_same_entry (entries.Running c k) (entries.Running d j) = nat_eq c d && nat_eq k j
is_same_entry _ _ = false

-- whether two values are the same
abbrev pub is_same : PartValue → PartValue → Bool
is_same Absent Absent = true
is_same (Number x) (Number y) = int_eq x y
is_same (Count n) (Count m) = nat_eq n m
is_same Lives Lives = true
is_same (Listed ks) (Listed js) = bytes_eq ks js
is_same (Entered x) (Entered y) = is_same_entry x y
is_same (Bytes n) (Bytes m) = nat_eq n m
is_same _ _ = false

-- ---- the value of a part in a state

-- a number, if there is one
abbrev pub number_if : Option ℤ → PartValue
number_if (Some x) = Number x
number_if None = Absent

-- a number that is read, if there is one
abbrev pub number_read : Result ℤ RunFault → PartValue
number_read (Ok x) = Number x
number_read (Err f) = Absent

-- whether an entity lives
abbrev pub life_of : Bool → PartValue
life_of true = Lives
life_of false = Absent

-- when a notice is due, if it is pending
abbrev pub time_of : Option Pending → PartValue
time_of (Some n) = Number n.time
time_of None = Absent

-- the members of a list, if its owner is there
abbrev pub members_if : Option (List ℕ) → PartValue
members_if (Some ks) = Listed ks
members_if None = Absent

-- the list of a set, as the store has that, for owner k
abbrev pub listed_in : SetShape → Store → ℕ → PartValue
listed_in shape store k = members_if (list_by shape.owner shape.list store k)

-- the value of a part in a state; the report only grows, so its length shows whether it changed
abbrev pub value_in : ProgramTable → State → Part → PartValue
value_in program state (parts.Global i) = number_if (slice_get state.variables i)
value_in program state (parts.Local n i) = number_if (frame_local state (length state.below - n) i)
value_in program state (parts.Attribute c k a) = number_read (attribute_of state.store c a k)
value_in program state (parts.Entity c k) = life_of (exists state.store c k)
value_in program state (parts.List n k) =
    if nat_lt n (length program.sets) then listed_in (shape_of program n) state.store k else Absent
value_in program state (parts.Notice c k) = time_of (pending_at state.agenda.pending k)
value_in program state parts.Taken = Count state.feed.taken
value_in program state parts.Entry = Entered state.entry
value_in program state parts.Clock = Number state.clock
value_in program state parts.Report = Bytes (length state.report)

-- ---- the parts that are shown

-- whether a part is there
abbrev pub is_there : PartValue → Bool
is_there Absent = false
is_there _ = true

-- whether a part is shown only if both states have it: not so an entity or a notice, made or ended
abbrev pub needs_both : Part → Bool
needs_both (parts.Entity c k) = false
needs_both (parts.Notice c k) = false
needs_both _ = true

-- whether a part with these values before and after is shown
abbrev pub is_told : Part → PartValue → PartValue → Bool
is_told part before after =
    not (is_same before after) && (not (needs_both part) || (is_there before && is_there after))
