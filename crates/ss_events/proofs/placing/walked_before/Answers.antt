use Rattle.std.proofs.Common.{arith, sym, ◌∙◌}
use Rattle.ss_events.proofs.Walks.{walked-none, walked-has, listed-below, walked-more, walked-to, walked-out, walked-all}
use Rattle.ss_events.proofs.placing.walked_before.Goals as goal

pub loop-init : goal.loop-init
loop-init g c = walked-none _ _ _ c.last-before.ensures.value c.requires.divided

pub returns-in_err-seat : goal.returns-in_err-seat
returns-in_err-seat g c = c.from_residual.ensures ∙ walked-out _ _ _ _ c.loop.invariant c.in_err-seat.was

pub is_behind-requires : goal.is_behind-requires
is_behind-requires g c = c.requires.known c.in_ok-seat.seat (walked-has _ _ _ _ _ c.loop.invariant c.in_ok-seat.was)

pub returns-then-not-is_behind : goal.returns-then-not-is_behind
returns-then-not-is_behind g c =
    walked-to _ _ _ c.in_ok-seat.seat _ c.loop.invariant c.in_ok-seat.was (sym c.is_behind.ensures ∙ c.if-not-is_behind.true)

pub prev-before-requires : goal.prev-before-requires
prev-before-requires g c = listed-below _ c.args.head _ c.last-before.ensures.sound (walked-has _ _ _ _ _ c.loop.invariant
    c.in_ok-seat.was)

pub loop-preserved : goal.loop-preserved
loop-preserved g c = walked-more _ _ _ _ c.in_ok-seat.seat _ _ c.last-before.ensures.sound c.loop.invariant c.in_ok-seat.was
    (sym c.is_behind.ensures ∙ c.if-not-is_behind.false) c.prev-before.ensures.value

pub returns : goal.returns
returns g c = walked-all _ _ _ _ c.loop.invariant (omega (arith, c.len-end.ensures.value, c.loop-test.false))
