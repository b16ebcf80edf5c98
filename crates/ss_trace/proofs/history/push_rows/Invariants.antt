use Rattle.std.proofs.Common.{◌≡◌, ◌+◌, ◌-◌, ◌≤◌, ◌++◌, take, length}
use Rattle.ss_machine.specs.Moment.{position}
use Rattle.ss_state.specs.declared.limits.TheConstants.{LAST_POSITION}
use Rattle.ss_trace.specs.History.{history, step_rows}
use Rattle.ss_trace.specs.View.{HasLookedBack}
use Rattle.ss_trace.specs.Reading.{IsReadAt}
use Rattle.ss_trace.proofs.history.push_rows.Given as goal

abbrev pub invariant-loop-count : goal.invariant-loop-count
invariant-loop-count g l = record {
  gone : HasLookedBack l.initial.debugger l.debugger;
  few : l.count ≤ l.most;
  last : position l.initial.debugger.machine ≤ LAST_POSITION;
  reading : IsReadAt l.initial.debugger.machine.input l.question (position l.debugger.machine) l.reading;
  rows : l.bytes.items
      ++ step_rows l.initial.debugger.machine.input l.question
      (take (l.most - l.count) (history l.initial.debugger.machine.input l.question
      l.initial.debugger.machine.forgotten (position l.debugger.machine)))
      ≡ l.initial.bytes.items
      ++ step_rows l.initial.debugger.machine.input l.question
      (take l.most (history l.initial.debugger.machine.input l.question
      l.initial.debugger.machine.forgotten (position l.initial.debugger.machine)));
  counted : l.count + length (take (l.most - l.count) (history l.initial.debugger.machine.input l.question
      l.initial.debugger.machine.forgotten (position l.debugger.machine)))
      ≡ length (take l.most (history l.initial.debugger.machine.input l.question
      l.initial.debugger.machine.forgotten (position l.initial.debugger.machine)));
}

abbrev pub decreases-loop-count : goal.decreases-loop-count
decreases-loop-count g l = l.most - l.count
