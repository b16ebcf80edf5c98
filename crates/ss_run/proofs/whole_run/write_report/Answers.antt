use Rattle.std.proofs.Common.{◌≡◌, Err, refl, rules}
use Rattle.ss_machine.specs.Moment.{position}
use Rattle.ss_run.specs.declared.whole_run.RunCut.TheVariants.{Memory}
use Rattle.ss_run.specs.Report.{RunEnds}
use Rattle.ss_run.specs.Advance.{MakesRun}
use Rattle.ss_session.proofs.Pieces.{appends_none}
use Rattle.ss_run.proofs.whole_run.write_report.Goals as goal

pub returns-in_err-whole : goal.returns-in_err-whole
unfolding MakesRun RunEnds
returns-in_err-whole g c =
    let e : c.from_residual.result ≡ Err Memory = search rules in
    rw e (appends_none _, refl)

pub returns-in-Ok : goal.returns-in-Ok
unfolding MakesRun
returns-in-Ok g c =
    let k = rw c.machine-machine.ensures at c.known.ensures.state in
    let r = rw (c.in_ok-whole.ensures.position, c.in_ok-whole.ensures.input) at k in
    let o = rw (c.report.ensures, c.machine-machine.ensures, r) at c.in-Ok.ensures.ok in
    (position c.args.debugger.now.machine, c.requires.end, c.in_ok-whole.ensures.end, c.in_ok-whole.ensures.beside, o.0, o.1)

pub returns-in-Err : goal.returns-in-Err
unfolding MakesRun RunEnds
returns-in-Err g c =
    let k = rw c.machine-machine.ensures at c.known.ensures.state in
    let r = rw (c.in_ok-whole.ensures.position, c.in_ok-whole.ensures.input) at k in
    let o = rw (c.report.ensures, c.machine-machine.ensures, r) at c.in-Err.ensures.err in
    (position c.args.debugger.now.machine, c.requires.end, o.0, o.1)
