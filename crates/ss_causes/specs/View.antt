-- The debugger at a cause.
use Rattle.std.specs.Prelude.{◌≡◌}
use Rattle.ss_machine.specs.Moment.{position}
use Rattle.ss_debug.specs.View.{DebuggerView}
use Rattle.ss_causes.specs.declared.cause.Cause.{Cause}
use Rattle.ss_causes.specs.declared.cause.Cause.TheVariants.{Start, Called, Scheduled, NotKept}

-- the debugger is at the step of a cause, if it has one
abbrev pub IsAtCause : Cause → DebuggerView → Type 0
IsAtCause Start debugger = Unit {0}
IsAtCause (Called q) debugger = position debugger.machine ≡ q
IsAtCause (Scheduled q k slot) debugger = position debugger.machine ≡ q
IsAtCause NotKept debugger = Unit {0}
