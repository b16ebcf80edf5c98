use Rattle.std.proofs.Common.{◌≡◌, ◌-◌, ◌≤◌}
use Rattle.ss_timeline.specs.Moment.{with_kept}
use Rattle.ss_debug.proofs.movement.back.Given as goal

abbrev pub invariant-loop-k : goal.invariant-loop-k
invariant-loop-k g l =
    let start = g.T.Timeline.moment l.initial.timeline in
    let here = g.T.Timeline.moment l.timeline in
    record { same : here ≡ with_kept start (start.kept - l._k); some : l._k ≤ start.kept }
