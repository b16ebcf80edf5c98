-- Which call cut a dialogue short.
use Rattle.std.specs.Prelude.{Result, Ok, Err}
use Rattle.ss_console.specs.Faults.{Faults, one_more_read, one_more_put}
use Rattle.ss_console.specs.declared.cut.Cut.{Cut}
use Rattle.ss_console.specs.declared.cut.Cut.TheVariants.{Read, Write, Count}

-- exactly that call is counted as failed
abbrev pub faults_after : Result (Unit {0}) Cut → Faults → Faults
faults_after (Ok done) faults = faults
faults_after (Err Read) faults = one_more_read faults
faults_after (Err Write) faults = one_more_put faults
faults_after (Err Count) faults = faults
