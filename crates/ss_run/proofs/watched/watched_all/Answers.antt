use Rattle.std.proofs.Common.{◌<◌, length, arith}
use Rattle.ss_run.specs.Watched.{watched_of}
use Rattle.ss_run.specs.WatchedView.{watched_view}
use Rattle.ss_run.proofs.Keeping.{sound_more, more_made}
use Rattle.ss_run.proofs.watched.watched_all.Goals as goal

pub loop-measure-preserved : goal.loop-measure-preserved
loop-measure-preserved g c =
    let program = c.args.debugger.now.machine.input.program in
    let ms = c.args.measures.now in
    let done = c.loop-measure.watched.items in
    let within : c.loop-measure.measure-index < length ms = omega arith in
    record {
      watched = more_made (watched_of c.args.symbols.now program) watched_view ms done c.push.new.self.items
          c.loop-measure.measure-index c.measure-item.result c.in_ok-one.one within c.measure-item.is
          c.loop-measure.invariant.watched c.in_ok-one.ensures.watched c.in_ok-push.ensures.items;
      sound = rw c.in_ok-push.ensures.items
          (sound_more program done c.in_ok-one.one c.loop-measure.invariant.sound c.in_ok-one.ensures.sound);
    }
