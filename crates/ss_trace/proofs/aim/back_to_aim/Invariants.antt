use Rattle.std.proofs.Common.{◌≡◌, ℕ, ◌+◌, ◌<◌, false}
use Rattle.ss_machine.specs.Moment.{position}
use Rattle.ss_debug.specs.Move.{stops_back}
use Rattle.ss_trace.proofs.aim.back_to_aim.Given as goal

abbrev pub invariant-loop-k : goal.invariant-loop-k
invariant-loop-k g l = record {
  input : l.debugger.machine.input ≡ l.initial.debugger.machine.input;
  forgotten : l.debugger.machine.forgotten ≡ l.initial.debugger.machine.forgotten;
  breaks : l.debugger.breaks ≡ l.initial.debugger.breaks;
  stepped : position l.initial.debugger.machine ≡ position l.debugger.machine + l._k;
  went_on : (j : ℕ) → j < l._k + 1 →
      stops_back (g.A.Aim.test l.aim l.initial.debugger.machine.input) (position l.initial.debugger.machine) j ≡ false;
}
