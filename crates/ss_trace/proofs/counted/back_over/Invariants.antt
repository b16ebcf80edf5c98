use Rattle.std.proofs.Common.{◌≡◌, ◌-◌}
use Rattle.ss_machine.specs.Moment.{position}
use Rattle.ss_debug.specs.declared.limits.TheConstants.{GREATEST_BOUND}
use Rattle.ss_trace.specs.Movements.{back_over}
use Rattle.ss_trace.proofs.counted.back_over.Given as goal

abbrev pub invariant-loop-k : goal.invariant-loop-k
invariant-loop-k g l = record {
  input : l.debugger.machine.input ≡ l.initial.debugger.machine.input;
  forgotten : l.debugger.machine.forgotten ≡ l.initial.debugger.machine.forgotten;
  breaks : l.debugger.breaks ≡ l.initial.debugger.breaks;
  rest : back_over l.initial.debugger.machine.input l.initial.debugger.machine.forgotten l.count
      (position l.initial.debugger.machine) GREATEST_BOUND
      ≡ back_over l.initial.debugger.machine.input l.initial.debugger.machine.forgotten (l.count - l.k)
      (position l.debugger.machine) l.bound;
}
