use Rattle.std.proofs.Common.{◌≡◌, ℕ, ◌+◌, ◌<◌, false}
use Rattle.ss_machine.specs.Moment.{position}
use Rattle.ss_debug.specs.Move.{stops}
use Rattle.ss_trace.specs.Movements.{ahead_condition, has_changed, is_met}
use Rattle.ss_trace.specs.Reading.{IsReadAt}
use Rattle.ss_trace.proofs.change_search.ahead_to_change.Given as goal

abbrev pub invariant-loop-k : goal.invariant-loop-k
invariant-loop-k g l = record {
  input : l.debugger.machine.input ≡ l.initial.debugger.machine.input;
  forgotten : l.debugger.machine.forgotten ≡ l.initial.debugger.machine.forgotten;
  breaks : l.debugger.breaks ≡ l.initial.debugger.breaks;
  stepped : position l.debugger.machine ≡ position l.initial.debugger.machine + l._k;
  reading : IsReadAt l.initial.debugger.machine.input l.question (position l.debugger.machine) l.reading;
  met : l.met ≡ is_met (has_changed l.initial.debugger.machine.input l.question)
      (position l.initial.debugger.machine) (position l.debugger.machine);
  went_on : (j : ℕ) → j < l._k →
      stops l.initial.debugger.machine.input (ahead_condition l.initial.debugger.machine.input
      l.initial.debugger.breaks (has_changed l.initial.debugger.machine.input l.question))
      (position l.initial.debugger.machine) j ≡ false;
}
