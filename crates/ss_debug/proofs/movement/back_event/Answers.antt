use Rattle.std.proofs.Common.{sym, ◌∙◌, arith}
use Rattle.ss_timeline.specs.Moment.{position}
use Rattle.ss_debug.specs.Move.{starts_event}
use Rattle.ss_debug.proofs.Starts.{told_back}
use Rattle.ss_debug.proofs.Timelines.{search_ends_here, position_back}
use Rattle.ss_debug.proofs.movement.back_event.Goals as goal

pub returns-then-started-clause-place : goal.returns-then-started-clause-place
returns-then-started-clause-place g c =
    let start = g.T.Timeline.moment c.args.timeline.now in
    let here = g.T.Timeline.moment c.loop-k.timeline in
    search_ends_here (starts_event start.input) start here c.args.bound c.loop-k._k c.loop-k.invariant.searched
    (omega arith) (λ h m. sym c.loop-k.invariant.started ∙ c.if-started.true)

pub returns-in-None-clause-place : goal.returns-in-None-clause-place
returns-in-None-clause-place g c =
    let start = g.T.Timeline.moment c.args.timeline.now in
    let here = g.T.Timeline.moment c.loop-k.timeline in
    let none = c.in-None.ensures.0 in
    rw c.in-None.ensures.1
    (search_ends_here (starts_event start.input) start here c.args.bound c.loop-k._k c.loop-k.invariant.searched
    (omega arith) (λ h m. absurd (omega (arith, none, m))))

pub returns-in-None-clause-met : goal.returns-in-None-clause-met
returns-in-None-clause-met g c =
    let start = g.T.Timeline.moment c.args.timeline.now in
    let here = g.T.Timeline.moment c.loop-k.timeline in
    let held = c.loop-k.invariant.searched in
    rw c.in-None.ensures.1
    (sym c.if-started.false
    ∙ told_back start.input (position start) (position here) c.loop-k._k c.loop-k.started
    (position_back start here c.loop-k._k held.same held.some) c.loop-k.invariant.started)

pub returns-clause-place : goal.returns-clause-place
returns-clause-place g c =
    let start = g.T.Timeline.moment c.args.timeline.now in
    let here = g.T.Timeline.moment c.loop-k.timeline in
    search_ends_here (starts_event start.input) start here c.args.bound c.loop-k._k c.loop-k.invariant.searched
    (omega arith) (λ h m. absurd (omega (arith, h)))

pub returns-clause-met : goal.returns-clause-met
returns-clause-met g c =
    let start = g.T.Timeline.moment c.args.timeline.now in
    let here = g.T.Timeline.moment c.loop-k.timeline in
    let held = c.loop-k.invariant.searched in
    told_back start.input (position start) (position here) c.loop-k._k c.loop-k.started
    (position_back start here c.loop-k._k held.same held.some) c.loop-k.invariant.started
