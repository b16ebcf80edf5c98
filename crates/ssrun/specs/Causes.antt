-- Why no run is made, and the exit status for that.
use Rattle.std.specs.Prelude.{ℕ}
use Rattle.ss_host.specs.Stops.{stop_status}
use Rattle.ssrun.specs.declared.cause.Cause.{Cause}
use Rattle.ssrun.specs.declared.cause.Cause.TheVariants.{Stop, NoQuestion, Unnamed}

-- the status of the stop that stops a program; 1 for words that are no question, or name nothing
abbrev pub cause_status : Cause → ℕ
cause_status (Stop stop) = stop_status stop
cause_status (NoQuestion text) = 1
cause_status (Unnamed lines) = 1
