-- Private: the kinds of changes, and the numbers that give them.
use Rattle.std.specs.Prelude.{ℕ, ◌/◌, ◌%◌, ◌==◌, if◌then◌else◌}
use Rattle.ss_machine.specs.declared.history.kinds.ChangeKind.{ChangeKind}
use Rattle.ss_machine.specs.declared.history.kinds.ChangeKind.TheVariants.{Value, Control, Loop, Entity}
use Rattle.ss_machine.specs.declared.history.kinds.ChangeKind.TheVariants.{Set, Time, Entry, Text}
use Rattle.ss_machine.specs.declared.history.kinds.ValueChangeKind.{ValueChangeKind}
use Rattle.ss_machine.specs.declared.history.kinds.ValueChangeKind.TheVariants as values
use Rattle.ss_machine.specs.declared.history.kinds.ControlChangeKind.{ControlChangeKind}
use Rattle.ss_machine.specs.declared.history.kinds.ControlChangeKind.TheVariants as controls
use Rattle.ss_machine.specs.declared.history.kinds.LoopChangeKind.{LoopChangeKind}
use Rattle.ss_machine.specs.declared.history.kinds.LoopChangeKind.TheVariants as loops
use Rattle.ss_machine.specs.declared.history.kinds.EntityChangeKind.{EntityChangeKind}
use Rattle.ss_machine.specs.declared.history.kinds.EntityChangeKind.TheVariants as entities
use Rattle.ss_machine.specs.declared.history.kinds.SetChangeKind.{SetChangeKind}
use Rattle.ss_machine.specs.declared.history.kinds.SetChangeKind.TheVariants as sets
use Rattle.ss_machine.specs.declared.history.kinds.TimeChangeKind.{TimeChangeKind}
use Rattle.ss_machine.specs.declared.history.kinds.TimeChangeKind.TheVariants as times
use Rattle.ss_machine.specs.declared.history.kinds.EntryChangeKind.{EntryChangeKind}
use Rattle.ss_machine.specs.declared.history.kinds.EntryChangeKind.TheVariants as entries
use Rattle.ss_machine.specs.declared.history.kinds.TextChangeKind.{TextChangeKind}
use Rattle.ss_machine.specs.declared.history.kinds.TextChangeKind.TheVariants as texts

-- the kind of a change of a variable, of FIND's or COMPUTE's values, by its number among these
abbrev pub value_kind_of : ℕ → ValueChangeKind
value_kind_of n =
    if n == 0 then values.Variable
    else (if n == 1 then values.Local else (if n == 2 then values.Found else values.Statistics))

-- the kind of a change of the run's place, frames or status, by its number among these
abbrev pub control_kind_of : ℕ → ControlChangeKind
control_kind_of n =
    if n == 0 then controls.Place
    else (if n == 1 then controls.FrameOpened
    else (if n == 2 then controls.FrameDropped
    else (if n == 3 then controls.Status else controls.SmallFrameDropped)))

-- the kind of a change of an open loop, by its number among these
abbrev pub loop_kind_of : ℕ → LoopChangeKind
loop_kind_of n =
    if n == 0 then loops.Opened
    else (if n == 1 then loops.Moved else (if n == 2 then loops.MovedFromNone else loops.Closed))

-- the kind of a change of entities, by its number among these
abbrev pub entity_kind_of : ℕ → EntityChangeKind
entity_kind_of n =
    if n == 0 then entities.Created
    else (if n == 1 then entities.ClassCreated else (if n == 2 then entities.AttributeSet else entities.Ended))

-- the kind of a change of sets, by its number among these
abbrev pub set_kind_of : ℕ → SetChangeKind
set_kind_of n = if n == 0 then sets.Filed else (if n == 1 then sets.FirstRemoved else sets.Removed)

-- the kind of a change of the clock or the event list, by its number among these
abbrev pub time_kind_of : ℕ → TimeChangeKind
time_kind_of n =
    if n == 0 then times.Clock
    else (if n == 1 then times.Scheduled else (if n == 2 then times.FirstTakenOff else times.TakenOff))

-- the kind of a change of the entry of an external event, by its number among these
abbrev pub entry_kind_of : ℕ → EntryChangeKind
entry_kind_of n = if n == 0 then entries.Absent else (if n == 1 then entries.Waiting else entries.Running)

-- the kind of a change of data or report, by its number among these
abbrev pub text_kind_of : ℕ → TextChangeKind
text_kind_of n = if n == 0 then texts.Taken else texts.Report

-- the kind of this number among those of a sort
abbrev pub kind_by : ℕ → ℕ → ChangeKind
kind_by sort which =
    if sort == 0 then Value (value_kind_of which)
    else (if sort == 1 then Control (control_kind_of which)
    else (if sort == 2 then Loop (loop_kind_of which)
    else (if sort == 3 then Entity (entity_kind_of which)
    else (if sort == 4 then Set (set_kind_of which)
    else (if sort == 5 then Time (time_kind_of which)
    else (if sort == 6 then Entry (entry_kind_of which)
    else Text (text_kind_of which)))))))

-- the kind that a number gives
abbrev pub kind_of : ℕ → ChangeKind
kind_of n = kind_by (n / 8) (n % 8)
