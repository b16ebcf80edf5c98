-- The stop of a search for a line, seen from the debugger that is there; the search ends at the
-- nearest.
use Rattle.std.proofs.Common.{◌≡◌, ℕ, ◌+◌, ◌-◌, ◌&&◌, nat_lt, refl, arith}
use Rattle.ss_state.specs.Run.{Input}
use Rattle.ss_debug.specs.declared.limits.TheConstants.{GREATEST_BOUND}
use Rattle.ss_debug.specs.Move.{is_stop, stops, stops_back}
use Rattle.ss_debug.proofs.Moves.{forward_ends, search_back_ends}
use Rattle.ss_adapter.specs.Laws.{SearchesEndNearest}
use Rattle.ss_adapter.specs.Targets.{is_on_line, line_condition}

-- the stop of a search forward at q, k positions on
pub stops_here : (t u : Input) (line p q k from : ℕ) → u ≡ t → q ≡ p + k → from ≡ p →
    stops t (line_condition t line) p k ≡ is_stop u (line_condition u line) from q
stops_here t u line p q k from e f g = rw (e, f, g) refl

-- the stop of a search back at q, k positions back
pub stops_back_here : (t u : Input) (line p q k : ℕ) → u ≡ t → p ≡ q + k →
    stops_back (is_on_line t line) p k ≡ (nat_lt 0 k && is_on_line u line q)
stops_back_here t u line p q k e f = let g : p - k ≡ q = omega (arith, f) in rw (e, g) refl

-- a search ends at the nearest
pub ends_nearest : SearchesEndNearest
ends_nearest = record {
  forward = λ t d line h. forward_ends t (line_condition t line) d.position GREATEST_BOUND h;
  back = λ t d line h. search_back_ends (is_on_line t line) d.earliest d.position GREATEST_BOUND h;
}
