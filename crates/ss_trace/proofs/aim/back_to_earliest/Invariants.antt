use Rattle.std.proofs.Common.{◌≡◌}
use Rattle.ss_machine.specs.Moment.{position}
use Rattle.ss_trace.proofs.aim.back_to_earliest.Given as goal

abbrev pub invariant-loop : goal.invariant-loop
invariant-loop g l = record {
  input : l.debugger.machine.input ≡ l.initial.debugger.machine.input;
  forgotten : l.debugger.machine.forgotten ≡ l.initial.debugger.machine.forgotten;
  breaks : l.debugger.breaks ≡ l.initial.debugger.breaks;
}

abbrev pub decreases-loop : goal.decreases-loop
decreases-loop g l = position l.debugger.machine
