use Rattle.std.proofs.Common.{◌≡◌, drop, fold}
use Rattle.ss_debug.specs.View.{debugger_state_of}
use Rattle.ss_debug.specs.Turn.{debugger_state_with}
use Rattle.ss_adapter.specs.Places.{setting_of, with_point}
use Rattle.ss_adapter.proofs.breaks.set_lines.Given as goal

-- the setting so far, with the points that are left, is the setting of all points
abbrev pub invariant-loop-point : goal.invariant-loop-point
invariant-loop-point g l = record {
  input : l.debugger.machine.input ≡ l.fn.debugger.machine.input;
  state : debugger_state_of l.debugger ≡ debugger_state_with (debugger_state_of l.fn.debugger) l.debugger.breaks;
  setting : fold (with_point l.fn.debugger.machine.input.program l.desk.symbols l.pen.counting) (record {
    breaks = l.debugger.breaks;
    set = l.set.lines.items;
    text = l.set.text.items;
  }) (drop l.point-index l.points)
      ≡ setting_of l.fn.debugger.machine.input.program l.desk.symbols l.pen.counting l.fn.debugger.breaks l.desk.set
      l.desk.sections l.points;
}
