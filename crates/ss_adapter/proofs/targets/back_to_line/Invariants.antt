use Rattle.std.proofs.Common.{◌≡◌, ℕ, ◌+◌, ◌<◌, false}
use Rattle.ss_machine.specs.Moment.{position}
use Rattle.ss_debug.specs.Move.{stops_back}
use Rattle.ss_adapter.specs.Targets.{is_on_line}
use Rattle.ss_adapter.proofs.targets.back_to_line.Given as goal

abbrev pub invariant-loop-k : goal.invariant-loop-k
invariant-loop-k g l = record {
  input : l.debugger.machine.input ≡ l.initial.debugger.machine.input;
  forgotten : l.debugger.machine.forgotten ≡ l.initial.debugger.machine.forgotten;
  breaks : l.debugger.breaks ≡ l.initial.debugger.breaks;
  stepped : position l.initial.debugger.machine ≡ position l.debugger.machine + l.k;
  went_on : (j : ℕ) → j < l.k →
      stops_back (is_on_line l.initial.debugger.machine.input l.line) (position l.initial.debugger.machine) j
      ≡ false;
}
