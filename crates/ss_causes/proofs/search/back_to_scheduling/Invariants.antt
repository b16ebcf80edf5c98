use Rattle.std.proofs.Common.{◌≡◌}
use Rattle.ss_machine.specs.Moment.{position}
use Rattle.ss_events.specs.Agenda.{is_pending}
use Rattle.ss_state.specs.Run.{run}
use Rattle.ss_trace.specs.History.{positions_where}
use Rattle.ss_trace.specs.View.{HasLookedBack}
use Rattle.ss_causes.specs.Causes.{makes_pending}
use Rattle.ss_causes.proofs.search.back_to_scheduling.Given as goal

abbrev pub invariant-loop-debugger : goal.invariant-loop-debugger
invariant-loop-debugger g l = record {
  gone : HasLookedBack l.initial.debugger l.debugger;
  left : positions_where (makes_pending l.initial.debugger.machine.input l.notice)
      l.initial.debugger.machine.forgotten (position l.initial.debugger.machine)
      ≡ positions_where (makes_pending l.initial.debugger.machine.input l.notice)
      l.initial.debugger.machine.forgotten (position l.debugger.machine);
  pending : l.after
      ≡ is_pending (run l.initial.debugger.machine.input (position l.debugger.machine)).agenda l.notice;
}

abbrev pub decreases-loop-debugger : goal.decreases-loop-debugger
decreases-loop-debugger g l = position l.debugger.machine
