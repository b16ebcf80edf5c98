use Rattle.std.proofs.Common.{◌≡◌, drop, fold}
use Rattle.ss_debug.specs.View.{debugger_state_of}
use Rattle.ss_debug.specs.Turn.{debugger_state_with}
use Rattle.ss_adapter.specs.Places.{unless_kept}
use Rattle.ss_adapter.proofs.breaks.clear.Given as goal

-- the lines that are left bring the break lines to those without all that are not kept
abbrev pub invariant-loop-line : goal.invariant-loop-line
invariant-loop-line g l = record {
  input : l.debugger.machine.input ≡ l.fn.debugger.machine.input;
  state : debugger_state_of l.debugger ≡ debugger_state_with (debugger_state_of l.fn.debugger) l.debugger.breaks;
  breaks : fold (unless_kept l.kept) l.debugger.breaks (drop l.line-index l.set)
      ≡ fold (unless_kept l.kept) l.fn.debugger.breaks l.set;
}
