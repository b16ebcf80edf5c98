use Rattle.std.proofs.Common.{◌≡◌, ◌<◌}
use Rattle.std.specs.Vec.{vec_capacity}
use Rattle.ss_console.specs.declared.lines.TheConstants.{LONGEST_LINE}
use Rattle.ss_console.proofs.Turns.{AreDone}
use Rattle.ss_console.proofs.dialogue.converse.Given as goal

abbrev pub invariant-loop : goal.invariant-loop
invariant-loop g l = record {
  done : AreDone g.A.Answerer.meaning (g.C.Console.terminal l.initial.console)
      (g.A.Answerer.state l.initial.answerer) (g.A.Answerer.state l.answerer) (g.C.Console.left l.initial.console)
      (g.C.Console.left l.console) (g.C.Console.log l.initial.console) (g.C.Console.log l.console) l.counter;
  terminal : g.C.Console.terminal l.console ≡ g.C.Console.terminal l.initial.console;
  faults : g.C.Console.faults l.console ≡ g.C.Console.faults l.initial.console;
  room : LONGEST_LINE < vec_capacity l.line;
}
