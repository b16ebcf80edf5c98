use Rattle.std.proofs.Common.{◌≡◌, Err, refl, inl, inr, rules}
use Rattle.ss_session.specs.Texts.{OutletState}
use Rattle.ss_session.proofs.Pieces.{appends_none}
use Rattle.ss_run.specs.declared.whole_run.RunCut.TheVariants.{Memory}
use Rattle.ss_run.specs.Tracing.{MakesTrace}
use Rattle.ss_run.specs.Watched.{watched_all}
use Rattle.ss_run.proofs.Traces.{nothing_traced}
use Rattle.ss_run.proofs.traced.trace_report.Goals as goal

pub returns-in_err-watched : goal.returns-in_err-watched
unfolding MakesTrace
returns-in_err-watched g c =
    let a : OutletState =
    record {
      taken = g.T.Outlet.taken c.args.outlets.now.trace;
      failures = g.T.Outlet.failures c.args.outlets.now.trace;
    } in
    let t = c.args.debugger.now.machine.input in
    let xs = watched_all c.args.asked.symbols.now t.program c.args.asked.watched.now in
    let e : c.from_residual.result ≡ Err Memory = search rules in
    rw e (inr (Memory, refl, (appends_none _, refl), nothing_traced t xs a a (appends_none _, refl)))

pub returns-in_err-trace_all : goal.returns-in_err-trace_all
unfolding MakesTrace
returns-in_err-trace_all g c =
    let cut = c.in_err-trace_all.field-0.0 in
    let e : c.from_residual-in_err-trace_all.result ≡ Err cut = search rules in
    let said = rw (c.deref.ensures.value, c.in_ok-watched.ensures.watched) at c.in_err-trace_all.ensures.cut in
    rw e (inr (cut, refl, (appends_none _, refl), said))

pub returns : goal.returns
unfolding MakesTrace
returns g c =
    let said = rw (c.deref.ensures.value, c.in_ok-watched.ensures.watched) at c.in_ok-trace_all.ensures.ok in
    inl (rw c.in_ok-trace_all.ensures.input at c.write_report.ensures, said)
