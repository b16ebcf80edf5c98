use Rattle.std.proofs.Common.{◌≡◌}
use Rattle.ss_machine.specs.Moment.{position}
use Rattle.ss_trace.specs.History.{positions_where}
use Rattle.ss_trace.specs.Movements.{is_outside}
use Rattle.ss_trace.specs.View.{HasLookedBack}
use Rattle.ss_causes.proofs.search.back_to_opening.Given as goal

abbrev pub invariant-loop-debugger : goal.invariant-loop-debugger
invariant-loop-debugger g l = record {
  gone : HasLookedBack l.initial.debugger l.debugger;
  left : positions_where (is_outside l.initial.debugger.machine.input l.frames) l.initial.debugger.machine.forgotten
      (position l.initial.debugger.machine)
      ≡ positions_where (is_outside l.initial.debugger.machine.input l.frames) l.initial.debugger.machine.forgotten
      (position l.debugger.machine);
}

abbrev pub decreases-loop-debugger : goal.decreases-loop-debugger
decreases-loop-debugger g l = position l.debugger.machine
