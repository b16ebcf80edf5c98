use Rattle.std.proofs.Common.{◌-◌}
use Rattle.ss_state.specs.declared.limits.TheConstants.{LAST_POSITION}
use Rattle.ss_state.specs.declared.stepped.Stepped.TheVariants.{Moved}
use Rattle.ss_machine.specs.Moment.{position}
use Rattle.ss_run.specs.Advance.{HasAdvanced}
use Rattle.ss_run.proofs.whole_run.run_to_end.Given as goal

abbrev pub invariant-loop-progress : goal.invariant-loop-progress
invariant-loop-progress g l = record { advanced : HasAdvanced Moved (position l.machine) l.initial.machine l.machine }

abbrev pub decreases-loop-progress : goal.decreases-loop-progress
decreases-loop-progress g l = LAST_POSITION - position l.machine
