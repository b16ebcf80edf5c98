-- Private: the change of the state that a note of the code represents.
use Rattle.ss_machine.specs.declared.state.change.Change.{Change as CodeChange}
use Rattle.ss_machine.specs.declared.state.change.Change.TheVariants as code
use Rattle.ss_state.specs.Change.{Change, Variable, Local, Place, Clock, Store, Agenda, Taken, Report, Entry, Status}
use Rattle.ss_state.specs.Change.{LoopOpened, LoopMoved, LoopClosed, FrameOpened, FrameDropped, Found, Statistics}

-- the change that the code notes
abbrev pub as_change : CodeChange → Change
as_change (code.Variable number old) = Variable number old
as_change (code.Local number old) = Local number old
as_change (code.Place old) = Place old
as_change (code.Clock old) = Clock old
as_change (code.Store change) = Store change
as_change (code.Agenda change) = Agenda change
as_change (code.Taken old) = Taken old
as_change (code.Report old_len) = Report old_len
as_change (code.Entry old) = Entry old
as_change (code.Status old) = Status old
as_change code.LoopOpened = LoopOpened
as_change (code.LoopMoved old) = LoopMoved old
as_change (code.LoopClosed closed) = LoopClosed closed
as_change code.FrameOpened = FrameOpened
as_change (code.FrameDropped dropped) = FrameDropped dropped
as_change (code.Found old) = Found old
as_change (code.Statistics number sum greatest least) =
    Statistics (record { number = number; sum = sum; greatest = greatest; least = least })
