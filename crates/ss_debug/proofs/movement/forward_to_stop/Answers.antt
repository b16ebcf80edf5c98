use Rattle.std.proofs.Common.{true, false, arith}
use Rattle.ss_debug.specs.View.{condition_of}
use Rattle.ss_debug.proofs.Refusals.{on_err}
use Rattle.ss_debug.proofs.Timelines.{stops_seen, one_passed, ends_here, refused_here}
use Rattle.ss_debug.proofs.movement.forward_to_stop.Goals as goal

pub returns-then-is_at_stop-clause-ok : goal.returns-then-is_at_stop-clause-ok
returns-then-is_at_stop-clause-ok g c =
    let start = g.T.Timeline.moment c.args.timeline.now in
    let here = g.T.Timeline.moment c.loop-k.timeline in
    let held = c.loop-k.invariant.passed in
    ends_here start here (condition_of start.input c.args.breaks.now c.args.condition) c.args.bound c.loop-k._k held
    (omega arith) (λ h m.
    stops_seen start here c.args.breaks.now c.args.condition c.loop-k._k c.position-from.result true held.same
    c.position-from.ensures.place c.if-is_at_stop.ensures)

pub returns-in_err-before-clause-memory : goal.returns-in_err-before-clause-memory
returns-in_err-before-clause-memory g c =
    let start = g.T.Timeline.moment c.args.timeline.now in
    let here = g.T.Timeline.moment c.loop-k.timeline in
    on_err c.from_residual.result (rw c.in_err-before.ensures.err
    (refused_here start here (condition_of start.input c.args.breaks.now c.args.condition) c.args.bound c.loop-k._k
    c.loop-k.invariant.passed (omega arith)))

pub loop-k-preserved : goal.loop-k-preserved
loop-k-preserved g c =
    let start = g.T.Timeline.moment c.args.timeline.now in
    let here = g.T.Timeline.moment c.loop-k.timeline in
    let next = g.T.Timeline.moment c.step_once.new.timeline in
    let held = c.loop-k.invariant.passed in
    let begun = c.position-from.ensures.place in
    record {
      passed =
          one_passed start here next (condition_of start.input c.args.breaks.now c.args.condition) c.loop-k._k held
          (stops_seen start here c.args.breaks.now c.args.condition c.loop-k._k c.position-from.result false held.same
          begun c.if-is_at_stop.ensures) (omega (arith, begun)) c.in_ok-before.ensures.moved;
      before = λ h. c.in_ok-before.ensures.before;
    }
