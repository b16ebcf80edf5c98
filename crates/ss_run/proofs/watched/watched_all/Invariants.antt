use Rattle.std.proofs.Common.{◌≡◌, map, take}
use Rattle.ss_run.specs.Watched.{watched_of}
use Rattle.ss_run.specs.WatchedView.{watched_view, AreSound}
use Rattle.ss_run.proofs.watched.watched_all.Given as goal

abbrev pub invariant-loop-measure : goal.invariant-loop-measure
invariant-loop-measure g l = record {
  watched : map watched_view l.watched.items
      ≡ map (watched_of l.symbols l.debugger.machine.input.program) (take l.measure-index l.measures);
  sound : AreSound l.debugger.machine.input.program l.watched.items;
}
