use Rattle.std.proofs.Common.{◌≡◌, ◌+◌, ◌-◌, ◌≤◌, ◌++◌, take, length}
use Rattle.ss_machine.specs.Moment.{position}
use Rattle.ss_trace.specs.View.{HasLookedBack}
use Rattle.ss_readings.specs.Seen.{changes_until}
use Rattle.ss_readings.specs.History.{step_rows}
use Rattle.ss_readings.specs.Followed.{IsFollowed}
use Rattle.ss_readings.proofs.history.push_rows.Given as goal

abbrev pub invariant-loop-count : goal.invariant-loop-count
invariant-loop-count g l = record {
  gone : HasLookedBack l.initial.debugger l.debugger;
  few : l.count ≤ l.most;
  asked : l.followed.asked ≡ position l.initial.debugger.machine;
  followed : IsFollowed l.initial.debugger.machine.input
      (g.R.Reading.subject l.reading l.initial.debugger.machine.input.program)
      (position l.debugger.machine) l.followed;
  rows : l.bytes.items
      ++ step_rows l.initial.debugger.machine.input
      (g.R.Reading.subject l.reading l.initial.debugger.machine.input.program) (position l.initial.debugger.machine)
      (take (l.most - l.count) (changes_until l.initial.debugger.machine.input
      (g.R.Reading.subject l.reading l.initial.debugger.machine.input.program) (position l.initial.debugger.machine)
      l.initial.debugger.machine.forgotten (position l.debugger.machine)))
      ≡ l.initial.bytes.items
      ++ step_rows l.initial.debugger.machine.input
      (g.R.Reading.subject l.reading l.initial.debugger.machine.input.program) (position l.initial.debugger.machine)
      (take l.most (changes_until l.initial.debugger.machine.input
      (g.R.Reading.subject l.reading l.initial.debugger.machine.input.program) (position l.initial.debugger.machine)
      l.initial.debugger.machine.forgotten (position l.initial.debugger.machine)));
  counted : l.count + length (take (l.most - l.count) (changes_until l.initial.debugger.machine.input
      (g.R.Reading.subject l.reading l.initial.debugger.machine.input.program) (position l.initial.debugger.machine)
      l.initial.debugger.machine.forgotten (position l.debugger.machine)))
      ≡ length (take l.most (changes_until l.initial.debugger.machine.input
      (g.R.Reading.subject l.reading l.initial.debugger.machine.input.program) (position l.initial.debugger.machine)
      l.initial.debugger.machine.forgotten (position l.initial.debugger.machine)));
}

abbrev pub decreases-loop-count : goal.decreases-loop-count
decreases-loop-count g l = l.most - l.count
