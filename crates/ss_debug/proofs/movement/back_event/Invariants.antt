use Rattle.std.proofs.Common.{◌≡◌}
use Rattle.ss_timeline.specs.Moment.{position}
use Rattle.ss_debug.specs.Move.{starts_event, stops_back}
use Rattle.ss_debug.proofs.Timelines.{HasSearched}
use Rattle.ss_debug.proofs.movement.back_event.Given as goal

abbrev pub invariant-loop-k : goal.invariant-loop-k
invariant-loop-k g l =
    let start = g.T.Timeline.moment l.initial.timeline in
    let here = g.T.Timeline.moment l.timeline in
    record {
      searched : HasSearched (starts_event start.input) start l._k here;
      started : l.started ≡ stops_back (starts_event start.input) (position start) l._k;
    }
