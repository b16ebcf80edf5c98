-- The state of a debugger that looked at a state next to its own.
use Rattle.std.proofs.Common.{◌≡◌, ◌+◌, ◌≤◌, refl, arith}
use Rattle.ss_machine.specs.Moment.{position}
use Rattle.ss_debug.specs.Turn.{debugger_state_at}
use Rattle.ss_debug.specs.View.{DebuggerView, debugger_state_of}
use Rattle.ss_changes.specs.View.{IsBehind, IsAhead}

-- it is in the same run, at most one step away
pub record StandsBeside (old new : DebuggerView) : Type 0 where
  pub input : new.machine.input ≡ old.machine.input
  pub state : debugger_state_of new ≡ debugger_state_at (debugger_state_of old) (position new.machine)
  pub no_earlier : position old.machine ≤ position new.machine + 1
  pub no_later : position new.machine ≤ position old.machine + 1

same_state : (old new : DebuggerView) → new.machine.forgotten ≡ old.machine.forgotten → new.breaks ≡ old.breaks →
    debugger_state_of new ≡ debugger_state_at (debugger_state_of old) (position new.machine)
same_state old new f b = rw (f, b) refl

-- one step before, at most
pub behind : (old new : DebuggerView) → IsBehind old new → StandsBeside old new
behind old new h = record {
  input = h.input;
  state = same_state old new h.forgotten h.breaks;
  no_earlier = omega (arith, h.no_earlier);
  no_later = omega (arith, h.no_later);
}

-- one step further, at most
pub ahead : (old new : DebuggerView) → IsAhead old new → StandsBeside old new
ahead old new h = record {
  input = h.input;
  state = same_state old new h.forgotten h.breaks;
  no_earlier = omega (arith, h.no_earlier);
  no_later = omega (arith, h.no_later);
}

-- one or the other
pub ruleset beside = (behind, ahead)
