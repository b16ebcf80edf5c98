-- The faults that end a session before its end.
use Rattle.std.specs.Prelude.{Option, Some, Result, Ok, Err}
use Rattle.ss_messages.specs.declared.frame.FrameFault.{FrameFault}
use Rattle.ss_messages.specs.declared.frame.FrameFault.TheVariants as frame
use Rattle.ss_messages.specs.declared.request.RequestFault.{RequestFault}
use Rattle.ss_messages.specs.declared.request.RequestFault.TheVariants as request
use Rattle.ss_serve.specs.declared.channel.Side.{Side}
use Rattle.ss_serve.specs.declared.channel.Side.TheVariants.{Input, Output}
use Rattle.ss_serve.specs.declared.fault.SessionFault.{SessionFault}
use Rattle.ss_serve.specs.declared.fault.SessionFault.TheVariants.{NoRequest, CannotRead, CannotWrite, Memory, Count}

-- the fault of a session, by the fault of its stream
abbrev pub fault_of_frame : FrameFault → SessionFault
fault_of_frame frame.Malformed = NoRequest
fault_of_frame frame.Read = CannotRead
fault_of_frame frame.Memory = Memory

-- the fault of a session, by the fault of a body
abbrev pub fault_of_request : RequestFault → SessionFault
fault_of_request request.NoRequest = NoRequest
fault_of_request request.Memory = Memory

-- the side that is broken after a session: the one on which the call failed that ended it
abbrev pub broken_after : {T : Type 0} → Result T SessionFault → Option Side → Option Side
broken_after (Ok done) side = side
broken_after (Err NoRequest) side = side
broken_after (Err CannotRead) side = Some Input
broken_after (Err CannotWrite) side = Some Output
broken_after (Err Memory) side = side
broken_after (Err Count) side = side
