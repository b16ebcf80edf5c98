use Rattle.ss_state.specs.declared.stepped.Stepped.TheVariants.{Moved}
use Rattle.ss_run.specs.Advance.{HasAdvanced}
use Rattle.ss_run.proofs.whole_run.advance.Given as goal

abbrev pub invariant-loop-k : goal.invariant-loop-k
invariant-loop-k g l = record { advanced : HasAdvanced Moved l._k l.initial.machine l.machine }
