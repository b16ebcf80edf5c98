use Rattle.std.proofs.Common.{refl, inr}
use Rattle.ss_state.specs.Run.{input_with}
use Rattle.ss_session.specs.Texts.{OutletState}
use Rattle.ss_session.proofs.Pieces.{appends_none}
use Rattle.ss_run.specs.declared.whole_run.RunCut.TheVariants.{Memory}
use Rattle.ss_run.specs.Tracing.{MakesTrace}
use Rattle.ss_run.specs.Watched.{watched_all}
use Rattle.ss_run.proofs.Traces.{nothing_traced}
use Rattle.ss_run.proofs.traced.trace_program.Goals as goal

pub returns-in-Err : goal.returns-in-Err
unfolding MakesTrace
returns-in-Err g c =
    let a : OutletState =
    record {
      taken = g.T.Outlet.taken c.args.outlets.now.trace;
      failures = g.T.Outlet.failures c.args.outlets.now.trace;
    } in
    let t = input_with c.args.program c.args.asked.data_text.now in
    let xs = watched_all c.args.asked.symbols.now t.program c.args.asked.watched.now in
    inr (Memory, refl, (appends_none _, refl), nothing_traced t xs a a (appends_none _, refl))
