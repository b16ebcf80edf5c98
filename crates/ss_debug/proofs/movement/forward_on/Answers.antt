use Rattle.std.proofs.Common.{◌≡◌, true, arith, rules}
use Rattle.ss_debug.specs.Move.{stops, step_condition}
use Rattle.ss_debug.proofs.Refusals.{on_err}
use Rattle.ss_debug.proofs.Timelines.{step_stops_here, ends_here, refused_here}
use Rattle.ss_timeline.specs.Moment.{position}
use Rattle.ss_debug.proofs.movement.forward_on.Goals as goal

pub returns-then-not-is_ready_now-clause-ok : goal.returns-then-not-is_ready_now-clause-ok
returns-then-not-is_ready_now-clause-ok g c =
    let start = g.T.Timeline.moment c.args.timeline.now in
    let here = g.T.Timeline.moment c.loop-k.timeline in
    let held = c.loop-k.invariant.passed in
    let seen = step_stops_here start here c.loop-k._k _ held.same c.is_ready_now.ensures in
    let found : stops start.input step_condition (position start) c.loop-k._k ≡ true = search rules in
    ends_here start here step_condition c.args.bound c.loop-k._k held (omega arith) (λ h m. found)

pub returns-in_err-before-clause-memory : goal.returns-in_err-before-clause-memory
returns-in_err-before-clause-memory g c =
    let start = g.T.Timeline.moment c.args.timeline.now in
    let here = g.T.Timeline.moment c.loop-k.timeline in
    on_err c.from_residual.result (rw c.in_err-before.ensures.err
    (refused_here start here step_condition c.args.bound c.loop-k._k c.loop-k.invariant.passed (omega arith)))
