use Rattle.std.proofs.Common.{◌≡◌, ◌++◌, [], take, drop}
use Rattle.ss_machine.specs.Moment.{position}
use Rattle.ss_debug.specs.View.{debugger_state_of}
use Rattle.ss_reads.specs.Answers.{read_lines}
use Rattle.ss_reads.specs.Reads.{first_ones}
use Rattle.ss_reads.proofs.answer.push_lines.Given as goal

-- the lines of those that are left are missing; the debugger is as it was
abbrev pub invariant-loop-i : goal.invariant-loop-i
invariant-loop-i g l = record {
  input : l.debugger.machine.input ≡ l.initial.debugger.machine.input;
  place : debugger_state_of l.debugger ≡ debugger_state_of l.initial.debugger;
  text : l.text.items ++ read_lines l.initial.debugger.machine.input l.initial.debugger.machine.forgotten
      (position l.initial.debugger.machine) (first_ones (take l.i l.reads) (drop l.i l.reads))
      ≡ l.initial.text.items ++ read_lines l.initial.debugger.machine.input l.initial.debugger.machine.forgotten
      (position l.initial.debugger.machine) (first_ones [] l.reads);
}
