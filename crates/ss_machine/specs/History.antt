-- Private: how changes are read from numbers, and from the parts that are kept in addition.
pub mod Kinds
pub mod Numbers
use Rattle.std.specs.Prelude.{◌≡◌, ℕ, ℤ, pos, negsuc, ◌-◌, ◌/◌, ◌%◌, ◌^◌, ◌≤◌, ◌+◌, ◌==◌, not, min, zero, suc, Bool}
use Rattle.std.specs.Prelude.{List, [], ◌∷◌, ◌++◌, drop, take, slice_index, Some, None, if◌then◌else◌}
use Rattle.std.specs.declared.vec.Vec.{Vec}
use Rattle.std.specs.Global.{Global}
use Rattle.ss_journal.specs.Log.{Log}
use Rattle.ss_program.specs.declared.kinds.Owner.{Owner}
use Rattle.ss_program.specs.declared.kinds.Owner.TheVariants as owners
use Rattle.ss_store.specs.declared.change.StoreChange.{StoreChange}
use Rattle.ss_store.specs.declared.change.StoreChange.TheVariants as stores
use Rattle.ss_events.specs.declared.agenda.AgendaChange.TheVariants as notices
use Rattle.ss_state.specs.declared.entry.Entry.{Entry}
use Rattle.ss_state.specs.declared.entry.Entry.TheVariants as entry
use Rattle.ss_events.specs.declared.pending_notice.PendingNotice.{PendingNotice}
use Rattle.ss_machine.specs.declared.history.tape.Tape.{Tape}
use Rattle.ss_state.specs.Change.{Change}
use Rattle.ss_state.specs.State.{FrameState, no_statistics}
use Rattle.ss_state.specs.Change as changes
use Rattle.ss_machine.specs.declared.history.tape.Owned.{Owned}
use Rattle.ss_machine.specs.declared.history.tape.Owned.TheVariants as owned
use Rattle.ss_machine.specs.declared.history.kinds.ChangeKind.{ChangeKind}
use Rattle.ss_machine.specs.declared.history.kinds.ChangeKind.TheVariants as kinds
use Rattle.ss_machine.specs.declared.history.kinds.ValueChangeKind.{ValueChangeKind}
use Rattle.ss_machine.specs.declared.history.kinds.ValueChangeKind.TheVariants as values
use Rattle.ss_machine.specs.declared.history.kinds.ControlChangeKind.{ControlChangeKind}
use Rattle.ss_machine.specs.declared.history.kinds.ControlChangeKind.TheVariants as controls
use Rattle.ss_machine.specs.declared.history.kinds.LoopChangeKind.{LoopChangeKind}
use Rattle.ss_machine.specs.declared.history.kinds.LoopChangeKind.TheVariants as loops
use Rattle.ss_machine.specs.declared.history.kinds.EntityChangeKind.{EntityChangeKind}
use Rattle.ss_machine.specs.declared.history.kinds.EntityChangeKind.TheVariants as entities
use Rattle.ss_machine.specs.declared.history.kinds.SetChangeKind.{SetChangeKind}
use Rattle.ss_machine.specs.declared.history.kinds.SetChangeKind.TheVariants as sets
use Rattle.ss_machine.specs.declared.history.kinds.TimeChangeKind.{TimeChangeKind}
use Rattle.ss_machine.specs.declared.history.kinds.TimeChangeKind.TheVariants as times
use Rattle.ss_machine.specs.declared.history.kinds.EntryChangeKind.{EntryChangeKind}
use Rattle.ss_machine.specs.declared.history.kinds.EntryChangeKind.TheVariants as entries
use Rattle.ss_machine.specs.declared.history.kinds.TextChangeKind.{TextChangeKind}
use Rattle.ss_machine.specs.declared.history.kinds.TextChangeKind.TheVariants as texts
use Rattle.ss_machine.specs.History.Kinds.{kind_of}

-- the numbers 0, 1, 2, 3, 4 represent 0, -1, 1, -2, 2
abbrev pub signed_number : ℕ → ℤ
signed_number n = if n % 2 == 0 then pos (n / 2) else negsuc (n / 2)

-- the number, or the greatest one of 32 bits if it is greater
abbrev pub narrow_number : ℕ → ℕ
narrow_number n = min n (2 ^ 32 - 1)

-- any number but 0 represents true
abbrev pub is_set : ℕ → Bool
is_set n = not (n == 0)

-- the owner that two numbers give: whether it is a class, and which
abbrev pub owner_of : ℕ → ℕ → Owner
owner_of owned class = if owned == 0 then owners.System else owners.OwnedBy class

-- the list after its first k items
abbrev pub behind : {A : Type 0} → ℕ → List A → List A
behind zero xs = xs
behind (suc k) xs = behind k (drop 1 xs)

-- the number after the first k, 0 if there is none
abbrev pub at : ℕ → List ℕ → ℕ
at k ns = slice_index (behind k ns) 0

-- k numbers were taken off the open step, and nothing else changed
pub record IsTaken (k : ℕ) (old new : Log ℕ) : Type 0 where
  -- the closed steps stay
  pub steps : new.steps ≡ old.steps
  -- the newest k are off
  pub current : new.current ≡ behind k old.current
  -- no room is lost
  pub notes : old.notes ≤ new.notes
  -- nor room for a close
  pub closes : new.closes ≡ old.closes

-- ---- the changes of each sort, from the numbers after the kind, and from the kept parts

-- of variables, FIND and COMPUTE
abbrev pub value_change : ValueChangeKind → List ℕ → Change
value_change values.Variable ns = changes.Variable (at 0 ns) (signed_number (at 1 ns))
value_change values.Local ns = changes.Local (at 0 ns) (signed_number (at 1 ns))
value_change values.Found ns = changes.Found (is_set (at 0 ns))
value_change values.Statistics ns =
    changes.Statistics (record {
      number = signed_number (at 0 ns);
      sum = signed_number (at 1 ns);
      greatest = signed_number (at 2 ns);
      least = signed_number (at 3 ns);
    })

-- how many numbers give such a change, in addition to that of its kind
abbrev pub value_numbers : ValueChangeKind → ℕ
value_numbers values.Variable = 2
value_numbers values.Local = 2
value_numbers values.Found = 1
value_numbers values.Statistics = 4

-- of entries
abbrev pub entry_of : EntryChangeKind → List ℕ → Entry
entry_of entries.Absent ns = entry.Absent
entry_of entries.Waiting ns = entry.Waiting (at 0 ns) (narrow_number (at 1 ns))
entry_of entries.Running ns = entry.Running (at 0 ns) (narrow_number (at 1 ns))

-- how many numbers give such an entry
abbrev pub entry_numbers : EntryChangeKind → ℕ
entry_numbers entries.Absent = 0
entry_numbers entries.Waiting = 2
entry_numbers entries.Running = 2

-- of sets
abbrev pub set_change : SetChangeKind → List ℕ → StoreChange
set_change sets.Filed ns =
    stores.Filed (at 0 ns) (owner_of (at 1 ns) (at 2 ns)) (narrow_number (at 3 ns)) (at 4 ns) (at 5 ns)
set_change sets.FirstRemoved ns =
    stores.Removed (at 0 ns) (owner_of (at 1 ns) (at 2 ns)) (narrow_number (at 3 ns)) (at 4 ns) (at 5 ns) None
set_change sets.Removed ns =
    stores.Removed (at 0 ns) (owner_of (at 1 ns) (at 2 ns)) (narrow_number (at 3 ns)) (at 4 ns) (at 5 ns)
    (Some (narrow_number (at 6 ns)))

-- how many numbers give such a change
abbrev pub set_numbers : SetChangeKind → ℕ
set_numbers sets.Filed = 6
set_numbers sets.FirstRemoved = 6
set_numbers sets.Removed = 7

-- of data and report
abbrev pub text_change : TextChangeKind → List ℕ → Change
text_change texts.Taken ns = changes.Taken (at 0 ns)
text_change texts.Report ns = changes.Report (at 0 ns)

-- a small frame, from its section, its place, how many locals it has, whether FIND found a case, and its values
abbrev pub small_frame_of : List ℕ → List ℤ → FrameState
small_frame_of ns values = record {
  section = at 0 ns;
  place = at 1 ns;
  locals = take (at 2 ns) values;
  loops = [];
  found = is_set (at 3 ns);
  statistics = no_statistics;
}

-- of the place, the frames and the status of the run
abbrev pub control_change : ControlChangeKind → List ℕ → List Owned → Change
control_change controls.Place ns os = changes.Place (at 0 ns)
control_change controls.FrameDropped ns (owned.Frame frame ∷ os) = changes.FrameDropped frame
control_change controls.Status ns (owned.Status status ∷ os) = changes.Status status
control_change controls.SmallFrameDropped ns (owned.Locals values ∷ os) =
    changes.FrameDropped (small_frame_of ns values)
control_change other ns os = changes.FrameOpened

-- how many numbers give such a change
abbrev pub control_numbers : ControlChangeKind → ℕ
control_numbers controls.Place = 1
control_numbers controls.SmallFrameDropped = 4
control_numbers other = 0

-- and how much of it is kept as it is
abbrev pub control_kept : ControlChangeKind → ℕ
control_kept controls.FrameDropped = 1
control_kept controls.Status = 1
control_kept controls.SmallFrameDropped = 1
control_kept other = 0

-- of open loops
abbrev pub loop_change : LoopChangeKind → List ℕ → List Owned → Change
loop_change loops.Moved ns os = changes.LoopMoved (Some (signed_number (at 0 ns)))
loop_change loops.MovedFromNone ns os = changes.LoopMoved None
loop_change loops.Closed ns (owned.Loop closed ∷ os) = changes.LoopClosed closed
loop_change other ns os = changes.LoopOpened

-- how many numbers give such a change
abbrev pub loop_numbers : LoopChangeKind → ℕ
loop_numbers loops.Moved = 1
loop_numbers other = 0

-- and how much of it is kept as it is
abbrev pub loop_kept : LoopChangeKind → ℕ
loop_kept loops.Closed = 1
loop_kept other = 0

-- of entities
abbrev pub entity_change : EntityChangeKind → List ℕ → List Owned → StoreChange
entity_change entities.Created ns os =
    stores.Created (at 0 ns) (at 1 ns) (narrow_number (at 2 ns)) (narrow_number (at 3 ns))
entity_change entities.ClassCreated ns os =
    stores.ClassCreated (at 0 ns) (at 1 ns) (narrow_number (at 2 ns)) (narrow_number (at 3 ns))
entity_change entities.Ended ns (owned.Values values ∷ os) =
    stores.Ended (at 0 ns) (at 1 ns) (narrow_number (at 2 ns)) values
entity_change other ns os = stores.AttributeSet (at 0 ns) (at 1 ns) (at 2 ns) (signed_number (at 3 ns))

-- how many numbers give such a change
abbrev pub entity_numbers : EntityChangeKind → ℕ
entity_numbers entities.Ended = 3
entity_numbers other = 4

-- and how much of it is kept as it is
abbrev pub entity_kept : EntityChangeKind → ℕ
entity_kept entities.Ended = 1
entity_kept other = 0

-- of a notice that was taken off
abbrev pub notice_of : List ℕ → Vec ℤ Global → PendingNotice
notice_of ns keys = record { time = signed_number (at 1 ns); class = at 2 ns; keys = keys; filing = at 3 ns }

-- of the clock and the event list
abbrev pub time_change : TimeChangeKind → List ℕ → List Owned → Change
time_change times.Scheduled ns os = changes.Agenda (notices.Scheduled (narrow_number (at 0 ns)) (is_set (at 1 ns)))
time_change times.FirstTakenOff ns (owned.Values keys ∷ os) =
    changes.Agenda (notices.TakenOff (narrow_number (at 0 ns)) (notice_of ns keys) None)
time_change times.TakenOff ns (owned.Values keys ∷ os) =
    changes.Agenda (notices.TakenOff (narrow_number (at 0 ns)) (notice_of ns keys) (Some (narrow_number (at 4 ns))))
time_change other ns os = changes.Clock (signed_number (at 0 ns))

-- how many numbers give such a change
abbrev pub time_numbers : TimeChangeKind → ℕ
time_numbers times.Clock = 1
time_numbers times.Scheduled = 2
time_numbers times.FirstTakenOff = 4
time_numbers times.TakenOff = 5

-- and how much of it is kept as it is
abbrev pub time_kept : TimeChangeKind → ℕ
time_kept times.FirstTakenOff = 1
time_kept times.TakenOff = 1
time_kept other = 0

-- ---- the changes of all sorts

-- the change of a kind
abbrev pub change_of : ChangeKind → List ℕ → List Owned → Change
change_of (kinds.Value kind) ns os = value_change kind ns
change_of (kinds.Control kind) ns os = control_change kind ns os
change_of (kinds.Loop kind) ns os = loop_change kind ns os
change_of (kinds.Entity kind) ns os = changes.Store (entity_change kind ns os)
change_of (kinds.Set kind) ns os = changes.Store (set_change kind ns)
change_of (kinds.Time kind) ns os = time_change kind ns os
change_of (kinds.Entry kind) ns os = changes.Entry (entry_of kind ns)
change_of (kinds.Text kind) ns os = text_change kind ns

-- how many numbers come after a kind
abbrev pub number_count : ChangeKind → ℕ
number_count (kinds.Value kind) = value_numbers kind
number_count (kinds.Control kind) = control_numbers kind
number_count (kinds.Loop kind) = loop_numbers kind
number_count (kinds.Entity kind) = entity_numbers kind
number_count (kinds.Set kind) = set_numbers kind
number_count (kinds.Time kind) = time_numbers kind
number_count (kinds.Entry kind) = entry_numbers kind
number_count (kinds.Text kind) = 1

-- and how many kept parts it has
abbrev pub kept_count : ChangeKind → ℕ
kept_count (kinds.Control kind) = control_kept kind
kept_count (kinds.Loop kind) = loop_kept kind
kept_count (kinds.Entity kind) = entity_kept kind
kept_count (kinds.Time kind) = time_kept kind
kept_count other = 0

-- the changes of a step, from its numbers and kept parts; the first k numbers are of one before
abbrev pub changes_behind : ℕ → List ℕ → List Owned → List Change
changes_behind zero (n ∷ ns) os =
    change_of (kind_of n) ns os ∷ changes_behind (number_count (kind_of n)) ns (behind (kept_count (kind_of n)) os)
changes_behind (suc k) (n ∷ ns) os = changes_behind k ns os
changes_behind k [] os = []

-- the changes of a step
abbrev pub changes_of : List ℕ → List Owned → List Change
changes_of ns os = changes_behind 0 ns os

-- ---- the kept parts are those that the kinds require

-- the first one kept is a frame
abbrev pub IsFrame : List Owned → Type 0
IsFrame (owned.Frame frame ∷ os) = Unit {0}
IsFrame other = ⊥

-- the first one kept is the locals of a small frame
abbrev pub AreLocals : List Owned → Type 0
AreLocals (owned.Locals values ∷ os) = Unit {0}
AreLocals other = ⊥

-- the first one kept is a status
abbrev pub IsStatus : List Owned → Type 0
IsStatus (owned.Status status ∷ os) = Unit {0}
IsStatus other = ⊥

-- the first one kept is a loop
abbrev pub IsLoop : List Owned → Type 0
IsLoop (owned.Loop closed ∷ os) = Unit {0}
IsLoop other = ⊥

-- the first one kept is values
abbrev pub AreValues : List Owned → Type 0
AreValues (owned.Values values ∷ os) = Unit {0}
AreValues other = ⊥

-- the first kept part is the one that the kind requires
abbrev pub HasKept : ChangeKind → List Owned → Type 0
HasKept (kinds.Control controls.FrameDropped) os = IsFrame os
HasKept (kinds.Control controls.Status) os = IsStatus os
HasKept (kinds.Control controls.SmallFrameDropped) os = AreLocals os
HasKept (kinds.Loop loops.Closed) os = IsLoop os
HasKept (kinds.Entity entities.Ended) os = AreValues os
HasKept (kinds.Time times.FirstTakenOff) os = AreValues os
HasKept (kinds.Time times.TakenOff) os = AreValues os
HasKept other os = Unit {0}

-- a kind of which a change is read; that a small frame was dropped is taken back at once
abbrev pub IsOfChange : ChangeKind → Type 0
IsOfChange (kinds.Control controls.SmallFrameDropped) = ⊥
IsOfChange other = Unit {0}

-- it is so of each change, and nothing else is kept
abbrev pub IsWritten : ℕ → List ℕ → List Owned → Type 0
IsWritten zero (n ∷ ns) os =
    HasKept (kind_of n) os × IsWritten (number_count (kind_of n)) ns (behind (kept_count (kind_of n)) os)
IsWritten (suc k) (n ∷ ns) os = IsWritten k ns os
IsWritten k [] os = os ≡ []

-- a change was noted, and nothing else changed but the room
pub record IsNoted (change : Change) (old new : Tape) : Type 0 where
  -- the change is the newest
  pub changes : changes_of new.numbers.current new.kept.current
      ≡ change ∷ changes_of old.numbers.current old.kept.current
  -- the open step is of whole changes, if it was
  pub written : IsWritten 0 old.numbers.current old.kept.current → IsWritten 0 new.numbers.current new.kept.current
  -- the closed steps stay
  pub number_steps : new.numbers.steps ≡ old.numbers.steps
  -- and their kept parts
  pub kept_steps : new.kept.steps ≡ old.kept.steps
  -- no room for a close is lost
  pub number_closes : new.numbers.closes ≡ old.numbers.closes
  -- nor room for a close of the kept parts
  pub kept_closes : new.kept.closes ≡ old.kept.closes
  -- at most 8 numbers were put
  pub numbers : old.numbers.notes ≤ new.numbers.notes + 8
  -- at most one is kept more
  pub kept : old.kept.notes ≤ new.kept.notes + 1

-- a change of a kind was taken off, and nothing else changed but the room
pub record IsRead (kind : ChangeKind) (change : Change) (old new : Tape) : Type 0 where
  -- the change is the one that these give
  pub value : change ≡ change_of kind old.numbers.current old.kept.current
  -- its numbers are taken off
  pub numbers_left : new.numbers.current ≡ behind (number_count kind) old.numbers.current
  -- and its kept parts
  pub kept_left : new.kept.current ≡ behind (kept_count kind) old.kept.current
  -- the closed steps stay
  pub number_steps : new.numbers.steps ≡ old.numbers.steps
  -- and their kept parts
  pub kept_steps : new.kept.steps ≡ old.kept.steps
  -- no room for a close is lost
  pub number_closes : new.numbers.closes ≡ old.numbers.closes
  -- nor room for a close of the kept parts
  pub kept_closes : new.kept.closes ≡ old.kept.closes
  -- no room for numbers is lost
  pub numbers : old.numbers.notes ≤ new.numbers.notes
  -- nor for kept parts
  pub kept : old.kept.notes ≤ new.kept.notes

-- a notice was taken off: its time, class and filing number, and its keys from the kept parts
pub record IsNoticeRead (notice : PendingNotice) (old new : Tape) : Type 0 where
  -- its time is the first number
  pub time : notice.time ≡ signed_number (at 0 old.numbers.current)
  -- its class the second
  pub class : notice.class ≡ at 1 old.numbers.current
  -- its filing number the third
  pub filing : notice.filing ≡ at 2 old.numbers.current
  -- its keys are kept
  pub keys : old.kept.current ≡ owned.Values notice.keys ∷ new.kept.current
  -- three numbers are taken
  pub numbers : IsTaken 3 old.numbers new.numbers
  -- and their kept parts
  pub kept_steps : new.kept.steps ≡ old.kept.steps
  -- nor room for a close of the kept parts
  pub kept_closes : new.kept.closes ≡ old.kept.closes
  -- nor for kept parts
  pub kept : old.kept.notes ≤ new.kept.notes

-- numbers were put in front of others, and before them that of a kind
pub record IsHeaded (kind : ChangeKind) (fields others all : List ℕ) : Type 0 where
  -- the number of the kind
  pub number : ℕ
  -- it gives the kind
  pub tells : kind_of number ≡ kind
  -- the number, and the others after it
  pub current : all ≡ number ∷ (fields ++ others)

-- ---- steps

-- the changes of each step
abbrev pub steps_of : List (List ℕ) → List (List Owned) → List (List Change)
steps_of (numbers ∷ steps) (kept ∷ rest) = changes_of numbers kept ∷ steps_of steps rest
steps_of steps rest = []

-- each step is written
abbrev pub AreWritten : List (List ℕ) → List (List Owned) → Type 0
AreWritten [] [] = Unit {0}
AreWritten (numbers ∷ steps) (kept ∷ rest) = IsWritten 0 numbers kept × AreWritten steps rest
AreWritten [] (kept ∷ rest) = ⊥
AreWritten (numbers ∷ steps) [] = ⊥

-- for how many changes n numbers give room, or as many as can be asked for, if n is greater
abbrev pub change_room : ℕ → ℕ
change_room numbers = min numbers (2 ^ 64 - 1) / 8
