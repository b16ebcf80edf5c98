use Rattle.std.proofs.Common.{◌≡◌, Err, rules, map}
use Rattle.ss_state.specs.declared.stepped.Stepped.TheVariants.{Moved}
use Rattle.ss_session.specs.Texts.{OutletState}
use Rattle.ss_run.specs.declared.whole_run.RunCut.TheVariants.{Memory}
use Rattle.ss_run.specs.Advance.{HasAdvanced}
use Rattle.ss_run.specs.Tracing.{TracesSoFar}
use Rattle.ss_run.specs.WatchedView.{watched_view}
use Rattle.ss_run.proofs.Traces.{cut_at_start, tracing_same, tracing_on, tracing_ended, tracing_cut, tracing_stopped}
use Rattle.ss_run.proofs.traced.trace_to_end.Goals as goal

pub returns-in_err-kept-clause-cut : goal.returns-in_err-kept-clause-cut
returns-in_err-kept-clause-cut g c =
    let o : OutletState =
    record { taken = g.T.Outlet.taken c.args.trace.now; failures = g.T.Outlet.failures c.args.trace.now } in
    let e : c.from_residual.result ≡ Err Memory = search rules in
    rw e (cut_at_start c.args.debugger.now.machine.input (map watched_view c.args.watched.now) o)

pub returns-in_err-forget_many-clause-cut : goal.returns-in_err-forget_many-clause-cut
returns-in_err-forget_many-clause-cut g c =
    let a = c.args.debugger.now.machine in
    let b = c.loop-kept.debugger.machine in
    let xs = c.args.watched.now in
    let fs = c.loop-kept.kept.items in
    let o : OutletState =
    record { taken = g.T.Outlet.taken c.args.trace.now; failures = g.T.Outlet.failures c.args.trace.now } in
    let n : OutletState =
    record { taken = g.T.Outlet.taken c.loop-kept.trace; failures = g.T.Outlet.failures c.loop-kept.trace } in
    let i = c.loop-kept.invariant in
    let so : TracesSoFar a b xs fs o n = record { advanced = i.advanced; kept = i.kept; traced = i.traced } in
    let e : c.from_residual-in_err-forget_many.result ≡ Err Memory = search rules in
    rw e (tracing_stopped a b xs fs o n c.requires.start so)

pub returns-in_err-trace_step-clause-cut : goal.returns-in_err-trace_step-clause-cut
returns-in_err-trace_step-clause-cut g c =
    let a = c.args.debugger.now.machine in
    let b = c.loop-kept.debugger.machine in
    let k = c.forget_many.new.debugger.machine in
    let xs = c.args.watched.now in
    let fs = c.loop-kept.kept.items in
    let o : OutletState =
    record { taken = g.T.Outlet.taken c.args.trace.now; failures = g.T.Outlet.failures c.args.trace.now } in
    let n : OutletState =
    record { taken = g.T.Outlet.taken c.loop-kept.trace; failures = g.T.Outlet.failures c.loop-kept.trace } in
    let m : OutletState =
    record { taken = g.T.Outlet.taken c.trace_step.new.trace; failures = g.T.Outlet.failures c.trace_step.new.trace } in
    let i = c.loop-kept.invariant in
    let so : TracesSoFar a b xs fs o n = record { advanced = i.advanced; kept = i.kept; traced = i.traced } in
    let here = tracing_same a b k xs fs o n so c.in_ok-forget_many.ensures.input c.in_ok-forget_many.ensures.position in
    let cut = c.in_err-trace_step.field-0.0 in
    let e : c.from_residual-in_err-trace_step.result ≡ Err cut = search rules in
    rw e (tracing_cut cut a k xs fs o n m c.requires.start here c.in_err-trace_step.ensures.cut)

pub loop-kept-preserved : goal.loop-kept-preserved
loop-kept-preserved g c =
    let a = c.args.debugger.now.machine in
    let b = c.loop-kept.debugger.machine in
    let k = c.forget_many.new.debugger.machine in
    let d = c.trace_step.new.debugger.machine in
    let xs = c.args.watched.now in
    let fs = c.loop-kept.kept.items in
    let o : OutletState =
    record { taken = g.T.Outlet.taken c.args.trace.now; failures = g.T.Outlet.failures c.args.trace.now } in
    let n : OutletState =
    record { taken = g.T.Outlet.taken c.loop-kept.trace; failures = g.T.Outlet.failures c.loop-kept.trace } in
    let m : OutletState =
    record { taken = g.T.Outlet.taken c.trace_step.new.trace; failures = g.T.Outlet.failures c.trace_step.new.trace } in
    let i = c.loop-kept.invariant in
    let so : TracesSoFar a b xs fs o n = record { advanced = i.advanced; kept = i.kept; traced = i.traced } in
    let here = tracing_same a b k xs fs o n so c.in_ok-forget_many.ensures.input c.in_ok-forget_many.ensures.position in
    let step : HasAdvanced Moved 1 k d = rw c.in-Moved.is at c.in_ok-trace_step.ensures.step in
    let on = tracing_on a k d xs fs c.trace_step.new.kept.items o n m c.requires.start here step
    c.in_ok-trace_step.ensures.kept c.in_ok-trace_step.ensures.rows in
    record { advanced = on.advanced; kept = on.kept; traced = on.traced }

pub returns-in-AtEnd-clause-rows : goal.returns-in-AtEnd-clause-rows
returns-in-AtEnd-clause-rows g c =
    let a = c.args.debugger.now.machine in
    let b = c.loop-kept.debugger.machine in
    let k = c.forget_many.new.debugger.machine in
    let d = c.trace_step.new.debugger.machine in
    let xs = c.args.watched.now in
    let fs = c.loop-kept.kept.items in
    let o : OutletState =
    record { taken = g.T.Outlet.taken c.args.trace.now; failures = g.T.Outlet.failures c.args.trace.now } in
    let n : OutletState =
    record { taken = g.T.Outlet.taken c.loop-kept.trace; failures = g.T.Outlet.failures c.loop-kept.trace } in
    let m : OutletState =
    record { taken = g.T.Outlet.taken c.trace_step.new.trace; failures = g.T.Outlet.failures c.trace_step.new.trace } in
    let i = c.loop-kept.invariant in
    let so : TracesSoFar a b xs fs o n = record { advanced = i.advanced; kept = i.kept; traced = i.traced } in
    let here = tracing_same a b k xs fs o n so c.in_ok-forget_many.ensures.input c.in_ok-forget_many.ensures.position in
    tracing_ended a k d xs fs o n m here c.in_ok-trace_step.ensures.rows
