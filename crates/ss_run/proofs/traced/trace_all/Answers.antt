use Rattle.std.proofs.Common.{◌≡◌, Err, refl, rules, map}
use Rattle.ss_machine.specs.Moment.{position}
use Rattle.ss_session.specs.Texts.{OutletState}
use Rattle.ss_session.proofs.Pieces.{appends_none}
use Rattle.ss_run.specs.declared.whole_run.RunCut.TheVariants.{Memory}
use Rattle.ss_run.specs.WatchedView.{watched_view}
use Rattle.ss_run.proofs.Traces.{head_in_part, nothing_traced, traced_if_ok, cut_if_err}
use Rattle.ss_run.proofs.traced.trace_all.Goals as goal

pub returns-in_err-head-clause-cut : goal.returns-in_err-head-clause-cut
returns-in_err-head-clause-cut g c =
    let a : OutletState =
    record { taken = g.T.Outlet.taken c.args.trace.now; failures = g.T.Outlet.failures c.args.trace.now } in
    let e : c.from_residual.result ≡ Err Memory = search rules in
    rw e (nothing_traced c.args.debugger.now.machine.input (map watched_view c.args.watched.now) a a (appends_none _, refl))

pub returns-in_err-put_text-clause-cut : goal.returns-in_err-put_text-clause-cut
returns-in_err-put_text-clause-cut g c =
    let a : OutletState =
    record { taken = g.T.Outlet.taken c.args.trace.now; failures = g.T.Outlet.failures c.args.trace.now } in
    let b : OutletState =
    record { taken = g.T.Outlet.taken c.put_text.new.trace; failures = g.T.Outlet.failures c.put_text.new.trace } in
    let cut = c.in_err-put_text.field-0.0 in
    let h = rw (c.deref.ensures.value, c.in_ok-head.ensures) at c.in_err-put_text.ensures.err in
    let e : c.from_residual-in_err-put_text.result ≡ Err cut = search rules in
    rw e (head_in_part cut c.args.debugger.now.machine.input (map watched_view c.args.watched.now) a b h)

pub returns-clause-ok : goal.returns-clause-ok
returns-clause-ok g c =
    let a : OutletState =
    record { taken = g.T.Outlet.taken c.args.trace.now; failures = g.T.Outlet.failures c.args.trace.now } in
    let b : OutletState =
    record { taken = g.T.Outlet.taken c.put_text.new.trace; failures = g.T.Outlet.failures c.put_text.new.trace } in
    let d : OutletState =
    record { taken = g.T.Outlet.taken c.trace_to_end.new.trace; failures = g.T.Outlet.failures c.trace_to_end.new.trace } in
    let h = rw (c.deref.ensures.value, c.in_ok-head.ensures) at c.in_ok-put_text.ensures.ok in
    traced_if_ok c.trace_to_end.result c.args.debugger.now.machine.input (map watched_view c.args.watched.now)
    (position c.trace_to_end.new.debugger.machine) a b d h.0 h.1 c.trace_to_end.ensures.end c.trace_to_end.ensures.rows

pub returns-clause-cut : goal.returns-clause-cut
returns-clause-cut g c =
    let a : OutletState =
    record { taken = g.T.Outlet.taken c.args.trace.now; failures = g.T.Outlet.failures c.args.trace.now } in
    let b : OutletState =
    record { taken = g.T.Outlet.taken c.put_text.new.trace; failures = g.T.Outlet.failures c.put_text.new.trace } in
    let d : OutletState =
    record { taken = g.T.Outlet.taken c.trace_to_end.new.trace; failures = g.T.Outlet.failures c.trace_to_end.new.trace } in
    let h = rw (c.deref.ensures.value, c.in_ok-head.ensures) at c.in_ok-put_text.ensures.ok in
    cut_if_err c.trace_to_end.result c.args.debugger.now.machine.input (map watched_view c.args.watched.now) a b d h.0 h.1
    c.trace_to_end.ensures.cut
