use Rattle.std.proofs.Common.{◌≡◌, ◌<◌}
use Rattle.ss_debug.specs.Move.{step_condition}
use Rattle.ss_debug.specs.Position.{frames_before}
use Rattle.ss_debug.proofs.Timelines.{HasPassed}
use Rattle.ss_debug.proofs.movement.forward_on.Given as goal

abbrev pub invariant-loop-k : goal.invariant-loop-k
invariant-loop-k g l =
    let start = g.T.Timeline.moment l.initial.timeline in
    let here = g.T.Timeline.moment l.timeline in
    record {
      passed : HasPassed start step_condition l._k here;
      before : 0 < l._k → l.before ≡ frames_before here;
    }
