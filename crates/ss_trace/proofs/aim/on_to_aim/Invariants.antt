use Rattle.std.proofs.Common.{◌≡◌, ℕ, ◌+◌, ◌<◌, false}
use Rattle.ss_machine.specs.Moment.{position}
use Rattle.ss_trace.specs.Until.{is_first_stop}
use Rattle.ss_trace.proofs.aim.on_to_aim.Given as goal

abbrev pub invariant-loop-k : goal.invariant-loop-k
invariant-loop-k g l = record {
  input : l.debugger.machine.input ≡ l.initial.debugger.machine.input;
  forgotten : l.debugger.machine.forgotten ≡ l.initial.debugger.machine.forgotten;
  breaks : l.debugger.breaks ≡ l.initial.debugger.breaks;
  stepped : position l.debugger.machine ≡ position l.initial.debugger.machine + l._k;
  went_on : (j : ℕ) → j < l._k →
      is_first_stop l.initial.debugger.machine.input (g.A.Aim.test l.aim l.initial.debugger.machine.input)
      (position l.initial.debugger.machine + j) ≡ false;
}
