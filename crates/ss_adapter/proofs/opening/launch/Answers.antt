use Rattle.ss_adapter.proofs.Launches.{launched}
use Rattle.ss_adapter.proofs.opening.launch.Goals as goal

pub returns-in_ok-begin-in-Ok : goal.returns-in_ok-begin-in-Ok
returns-in_ok-begin-in-Ok c = record {
  run = (
    launched c.args.model.now c.args.text.now c.args.opening.source.path.now c.args.opening.source.counting
        c.args.opening.stops c.in-Ok.opened.symbols c.in-Ok.opened.debugger _ c.in_ok-begin-in-Ok.ensures.run
        c.in-Ok.ensures.symbols c.in-Ok.ensures.input c.in-Ok.ensures.start,
    c.in_ok-begin-in-Ok.ensures.sent,
  );
}
