use Rattle.std.proofs.Common.{true, arith}
use Rattle.ss_debug.specs.Move.{is_on_break}
use Rattle.ss_debug.proofs.Timelines.{search_ends_here, break_here}
use Rattle.ss_debug.proofs.movement.back_break.Goals as goal

pub returns-then-is_at_back_stop : goal.returns-then-is_at_back_stop
returns-then-is_at_back_stop g c =
    let start = g.T.Timeline.moment c.args.timeline.now in
    let here = g.T.Timeline.moment c.loop-k.timeline in
    let held = c.loop-k.invariant.searched in
    search_ends_here (is_on_break start.input c.args.breaks.now) start here c.args.bound c.loop-k.k held (omega arith)
    (λ h m. break_here start here c.args.breaks.now c.loop-k.k true held c.if-is_at_back_stop.ensures)

pub returns-then-not-back : goal.returns-then-not-back
returns-then-not-back g c =
    let start = g.T.Timeline.moment c.args.timeline.now in
    let here = g.T.Timeline.moment c.loop-k.timeline in
    let none = c.if-not-back.ensures.0 in
    rw c.if-not-back.ensures.1
    (search_ends_here (is_on_break start.input c.args.breaks.now) start here c.args.bound c.loop-k.k
    c.loop-k.invariant.searched (omega arith) (λ h m. absurd (omega (arith, none, m))))

pub returns : goal.returns
returns g c =
    let start = g.T.Timeline.moment c.args.timeline.now in
    let here = g.T.Timeline.moment c.loop-k.timeline in
    search_ends_here (is_on_break start.input c.args.breaks.now) start here c.args.bound c.loop-k.k
    c.loop-k.invariant.searched (omega arith) (λ h m. absurd (omega (arith, h)))
