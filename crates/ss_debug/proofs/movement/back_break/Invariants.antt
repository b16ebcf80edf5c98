use Rattle.ss_debug.specs.Move.{is_on_break}
use Rattle.ss_debug.proofs.Timelines.{HasSearched}
use Rattle.ss_debug.proofs.movement.back_break.Given as goal

abbrev pub invariant-loop-k : goal.invariant-loop-k
invariant-loop-k g l =
    let start = g.T.Timeline.moment l.initial.timeline in
    let here = g.T.Timeline.moment l.timeline in
    record { searched : HasSearched (is_on_break start.input l.breaks) start l.k here }
