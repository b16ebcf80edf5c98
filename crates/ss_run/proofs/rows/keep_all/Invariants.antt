use Rattle.std.proofs.Common.{◌≡◌, map, take}
use Rattle.ss_run.specs.Kept.{kept_in, kept_at}
use Rattle.ss_run.specs.WatchedView.{watched_view}
use Rattle.ss_run.proofs.rows.keep_all.Given as goal

abbrev pub invariant-loop-one : goal.invariant-loop-one
invariant-loop-one g l =
    map kept_in l.kept.items
    ≡ map (λ x. kept_at l.debugger.machine.input (watched_view x) 0) (take l.one-index l.watched)
