use Rattle.std.proofs.Common.{◌≡◌}
use Rattle.ss_machine.specs.Moment.{position}
use Rattle.ss_trace.specs.View.{HasLookedBack}
use Rattle.ss_readings.specs.Seen.{changes_until}
use Rattle.ss_readings.specs.Followed.{IsFollowed}
use Rattle.ss_readings.proofs.history.back_to_newest.Given as goal

abbrev pub invariant-loop-debugger : goal.invariant-loop-debugger
invariant-loop-debugger g l = record {
  gone : HasLookedBack l.initial.debugger l.debugger;
  asked : l.followed.asked ≡ l.initial.followed.asked;
  followed : IsFollowed l.initial.debugger.machine.input
      (g.R.Reading.subject l.reading l.initial.debugger.machine.input.program)
      (position l.debugger.machine) l.followed;
  left : changes_until l.initial.debugger.machine.input
      (g.R.Reading.subject l.reading l.initial.debugger.machine.input.program) l.initial.followed.asked
      l.initial.debugger.machine.forgotten (position l.initial.debugger.machine)
      ≡ changes_until l.initial.debugger.machine.input
      (g.R.Reading.subject l.reading l.initial.debugger.machine.input.program) l.initial.followed.asked
      l.initial.debugger.machine.forgotten (position l.debugger.machine);
}

abbrev pub decreases-loop-debugger : goal.decreases-loop-debugger
decreases-loop-debugger g l = position l.debugger.machine
