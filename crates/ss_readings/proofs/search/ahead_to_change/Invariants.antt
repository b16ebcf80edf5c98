use Rattle.std.proofs.Common.{◌≡◌, ℕ, ◌+◌, ◌<◌, false}
use Rattle.ss_machine.specs.Moment.{position}
use Rattle.ss_debug.specs.Move.{stops}
use Rattle.ss_trace.specs.Movements.{ahead_condition, is_met}
use Rattle.ss_readings.specs.Seen.{has_changed_in}
use Rattle.ss_readings.specs.Followed.{IsFollowed}
use Rattle.ss_readings.proofs.search.ahead_to_change.Given as goal

abbrev pub invariant-loop-k : goal.invariant-loop-k
invariant-loop-k g l = record {
  input : l.debugger.machine.input ≡ l.initial.debugger.machine.input;
  forgotten : l.debugger.machine.forgotten ≡ l.initial.debugger.machine.forgotten;
  breaks : l.debugger.breaks ≡ l.initial.debugger.breaks;
  stepped : position l.debugger.machine ≡ position l.initial.debugger.machine + l._k;
  asked : l.followed.asked ≡ position l.initial.debugger.machine;
  followed : IsFollowed l.initial.debugger.machine.input
      (g.R.Reading.subject l.reading l.initial.debugger.machine.input.program)
      (position l.debugger.machine) l.followed;
  met : l.met ≡ is_met (has_changed_in l.initial.debugger.machine.input
      (g.R.Reading.subject l.reading l.initial.debugger.machine.input.program)
      (position l.initial.debugger.machine)) (position l.initial.debugger.machine) (position l.debugger.machine);
  went_on : (j : ℕ) → j < l._k →
      stops l.initial.debugger.machine.input (ahead_condition l.initial.debugger.machine.input
      l.initial.debugger.breaks (has_changed_in l.initial.debugger.machine.input
      (g.R.Reading.subject l.reading l.initial.debugger.machine.input.program)
      (position l.initial.debugger.machine))) (position l.initial.debugger.machine) j ≡ false;
}
