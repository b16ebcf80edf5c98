use Rattle.std.proofs.Common.{◌≡◌}
use Rattle.ss_machine.specs.Moment.{position}
use Rattle.ss_trace.specs.History.{history}
use Rattle.ss_trace.specs.View.{HasLookedBack}
use Rattle.ss_trace.specs.Reading.{IsReadAt}
use Rattle.ss_trace.proofs.history.back_to_newest.Given as goal

abbrev pub invariant-loop-debugger : goal.invariant-loop-debugger
invariant-loop-debugger g l = record {
  gone : HasLookedBack l.initial.debugger l.debugger;
  reading : IsReadAt l.initial.debugger.machine.input l.question (position l.debugger.machine) l.reading;
  left : history l.initial.debugger.machine.input l.question l.initial.debugger.machine.forgotten
      (position l.initial.debugger.machine)
      ≡ history l.initial.debugger.machine.input l.question l.initial.debugger.machine.forgotten
      (position l.debugger.machine);
}

abbrev pub decreases-loop-debugger : goal.decreases-loop-debugger
decreases-loop-debugger g l = position l.debugger.machine
