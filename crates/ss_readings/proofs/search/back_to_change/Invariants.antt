use Rattle.std.proofs.Common.{◌≡◌, ℕ, ◌+◌, ◌<◌, false}
use Rattle.ss_machine.specs.Moment.{position}
use Rattle.ss_debug.specs.Move.{stops_back}
use Rattle.ss_readings.specs.Seen.{changes_in}
use Rattle.ss_readings.specs.Followed.{IsFollowed}
use Rattle.ss_readings.proofs.search.back_to_change.Given as goal

abbrev pub invariant-loop-k : goal.invariant-loop-k
invariant-loop-k g l = record {
  input : l.debugger.machine.input ≡ l.initial.debugger.machine.input;
  forgotten : l.debugger.machine.forgotten ≡ l.initial.debugger.machine.forgotten;
  breaks : l.debugger.breaks ≡ l.initial.debugger.breaks;
  stepped : position l.initial.debugger.machine ≡ position l.debugger.machine + l._k;
  asked : l.followed.asked ≡ position l.initial.debugger.machine;
  followed : IsFollowed l.initial.debugger.machine.input
      (g.R.Reading.subject l.reading l.initial.debugger.machine.input.program)
      (position l.debugger.machine) l.followed;
  went_on : (j : ℕ) → j < l._k + 1 →
      stops_back (changes_in l.initial.debugger.machine.input
      (g.R.Reading.subject l.reading l.initial.debugger.machine.input.program)
      (position l.initial.debugger.machine)) (position l.initial.debugger.machine) j ≡ false;
}
