use Rattle.std.proofs.Common.{◌-◌, map}
use Rattle.ss_state.specs.declared.limits.TheConstants.{LAST_POSITION}
use Rattle.ss_state.specs.declared.stepped.Stepped.TheVariants.{Moved}
use Rattle.ss_machine.specs.Moment.{position}
use Rattle.ss_run.specs.Advance.{HasAdvanced}
use Rattle.ss_run.specs.Tracing.{AreKept, HasTraced}
use Rattle.ss_run.specs.WatchedView.{watched_view}
use Rattle.ss_run.proofs.traced.trace_to_end.Given as goal

abbrev pub invariant-loop-kept : goal.invariant-loop-kept
invariant-loop-kept g l = record {
  advanced : HasAdvanced Moved (position l.debugger.machine) l.initial.debugger.machine l.debugger.machine;
  kept : AreKept l.initial.debugger.machine.input l.watched (position l.debugger.machine) l.kept.items;
  traced : HasTraced l.initial.debugger.machine.input (map watched_view l.watched) 0 (position l.debugger.machine)
      (record { taken = g.T.Outlet.taken l.initial.trace; failures = g.T.Outlet.failures l.initial.trace })
      (record { taken = g.T.Outlet.taken l.trace; failures = g.T.Outlet.failures l.trace });
}

abbrev pub decreases-loop-kept : goal.decreases-loop-kept
decreases-loop-kept g l = LAST_POSITION - position l.debugger.machine
