use Rattle.std.proofs.Common.{◌≡◌, ◌+◌, ◌++◌, map, take, drop}
use Rattle.std.specs.List.{flat_map}
use Rattle.ss_run.specs.Kept.{kept_in, kept_at}
use Rattle.ss_run.specs.Trace.{change_row}
use Rattle.ss_run.specs.WatchedView.{watched_view}
use Rattle.ss_run.proofs.rows.push_changes.Given as goal

abbrev pub invariant-loop-k : goal.invariant-loop-k
invariant-loop-k g l = record {
  kept : map kept_in l.kept
      ≡ map (λ x. kept_at l.debugger.machine.input (watched_view x) (l.here.position + 1)) (take l.k l.watched)
      ++ map (λ x. kept_at l.debugger.machine.input (watched_view x) l.here.position) (drop l.k l.watched);
  rows : l.rows.items ≡ l.initial.rows.items
      ++ flat_map (λ x. change_row l.debugger.machine.input l.here.position (watched_view x)) (take l.k l.watched);
}
