-- Which call of a console failed, by how a dialogue or a list of words ended.
use Rattle.std.specs.Prelude.{Result, Ok, Err}
use Rattle.ss_console.specs.Faults.{Faults}
use Rattle.ss_console.specs.Cut.{faults_after}
use Rattle.ssdb.specs.declared.end.PromptFault.{PromptFault}
use Rattle.ssdb.specs.declared.end.PromptFault.TheVariants.{Refused, Cut, Memory}

-- the failures after a fault: the call that cut it short is one more, and nothing else is
abbrev pub faults_after_fault : PromptFault → Faults → Faults
faults_after_fault (Cut cut) faults = faults_after (Err cut) faults
faults_after_fault Refused faults = faults
faults_after_fault Memory faults = faults

-- the failures after an end: no further one if all was written
abbrev pub faults_after_end : {T : Type 0} → Result T PromptFault → Faults → Faults
faults_after_end (Ok end) faults = faults
faults_after_end (Err fault) faults = faults_after_fault fault faults
