-- The agenda that a refused scheduling leaves.
use Rattle.std.proofs.Common.{◌≡◌, Result, Ok, Err}
use Rattle.ss_words.specs.declared.fault.RunFault.{RunFault}
use Rattle.ss_words.specs.declared.fault.StepFault.{StepFault}
use Rattle.ss_words.specs.declared.fault.StepFault.TheVariants.{Fault, Memory}
use Rattle.ss_events.specs.State.{AgendaState}
use Rattle.ss_events.specs.Changes.{IsScheduled}

pub refused-same : (e : StepFault) (r : Result (Unit {0}) RunFault) (s old new : AgendaState) →
    IsScheduled (Err e) r s old new → new ≡ old
refused-same (Fault f) (Ok u) s old new h = absurd h
refused-same (Fault f) (Err k) s old new h = h.1
refused-same Memory (Ok u) s old new h = h
refused-same Memory (Err k) s old new h = absurd h
