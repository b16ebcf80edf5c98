use Rattle.std.proofs.Common.{◌≡◌, drop, map}
use Rattle.ss_debug.specs.View.{debugger_state_of}
use Rattle.ss_adapter.specs.Looking.{question_of}
use Rattle.ss_adapter.specs.Reach.{reach_of, reaches, nearest_from, nearest}
use Rattle.ss_adapter.proofs.reach.nearest.Given as goal

-- the texts that are left bring the nearest so far to that of all
abbrev pub invariant-loop-text : goal.invariant-loop-text
invariant-loop-text g l = record {
  input : l.debugger.machine.input ≡ l.fn.debugger.machine.input;
  state : debugger_state_of l.debugger ≡ debugger_state_of l.fn.debugger;
  place : l.place ≡ l.text-index;
  found : nearest_from l.found l.place
      (map (λ text. reach_of l.fn.debugger.machine.input (debugger_state_of l.fn.debugger) l.way
      (question_of l.fn.debugger.machine.input.program text)) (drop l.text-index l.texts))
      ≡ nearest (reaches l.fn.debugger.machine.input (debugger_state_of l.fn.debugger) l.way l.texts);
}
