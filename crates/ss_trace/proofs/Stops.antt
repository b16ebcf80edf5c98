-- The states at which a movement stops, seen from the debugger at that position.
use Rattle.std.proofs.Common.{◌≡◌, ℕ, ◌+◌, ◌-◌, List, ◌&&◌, nat_lt, refl, arith}
use Rattle.ss_state.specs.Run.{Input}
use Rattle.ss_debug.specs.BreakLines.{BreakPoint}
use Rattle.ss_debug.specs.Move.{is_stop, stops, stops_back}
use Rattle.ss_trace.specs.declared.sought.Sought.{Sought}
use Rattle.ss_trace.specs.Movements.{ahead_condition}
use Rattle.ss_trace.specs.View.{sought_test}

-- whether a movement forward stops at q, k positions on
pub stops_here : (t u : Input) (bs cs : List BreakPoint) (s : Sought) (p q k from : ℕ) → u ≡ t → cs ≡ bs → q ≡ p + k →
    from ≡ p →
    stops t (ahead_condition t bs (sought_test t s)) p k ≡ is_stop u (ahead_condition u cs (sought_test u s)) from q
stops_here t u bs cs s p q k from e f h i = rw (e, f, h, i) refl

-- whether a movement back stops at q, k positions back
pub stops_back_here : (t u : Input) (s : Sought) (p q k : ℕ) → u ≡ t → p ≡ q + k →
    stops_back (sought_test t s) p k ≡ (nat_lt 0 k && sought_test u s q)
stops_back_here t u s p q k e f = let g : p - k ≡ q = omega (arith, f) in rw (e, g) refl
