use Rattle.std.proofs.Common.{◌≡◌, ℕ, ◌+◌, ◌<◌, false}
use Rattle.ss_machine.specs.Moment.{position}
use Rattle.ss_debug.specs.Move.{stops}
use Rattle.ss_adapter.specs.Targets.{line_condition}
use Rattle.ss_adapter.proofs.targets.ahead_to_line.Given as goal

abbrev pub invariant-loop-k : goal.invariant-loop-k
invariant-loop-k g l = record {
  input : l.debugger.machine.input ≡ l.initial.debugger.machine.input;
  forgotten : l.debugger.machine.forgotten ≡ l.initial.debugger.machine.forgotten;
  breaks : l.debugger.breaks ≡ l.initial.debugger.breaks;
  stepped : position l.debugger.machine ≡ position l.initial.debugger.machine + l._k;
  went_on : (j : ℕ) → j < l._k →
      stops l.initial.debugger.machine.input (line_condition l.initial.debugger.machine.input l.line)
      (position l.initial.debugger.machine) j ≡ false;
}
