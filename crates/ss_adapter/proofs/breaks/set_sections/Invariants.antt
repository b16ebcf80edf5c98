use Rattle.std.proofs.Common.{◌≡◌, drop, fold}
use Rattle.ss_debug.specs.View.{debugger_state_of}
use Rattle.ss_debug.specs.Turn.{debugger_state_with}
use Rattle.ss_adapter.specs.Places.{section_setting_of, with_named}
use Rattle.ss_adapter.proofs.breaks.set_sections.Given as goal

-- the setting so far, with the names that are left, is the setting of all names
abbrev pub invariant-loop-name : goal.invariant-loop-name
invariant-loop-name g l = record {
  input : l.debugger.machine.input ≡ l.fn.debugger.machine.input;
  state : debugger_state_of l.debugger ≡ debugger_state_with (debugger_state_of l.fn.debugger) l.debugger.breaks;
  setting : fold (with_named l.fn.debugger.machine.input.program l.pen.counting) (record {
    breaks = l.debugger.breaks;
    set = l.set.lines.items;
    text = l.set.text.items;
  }) (drop l.name-index l.names)
      ≡ section_setting_of l.fn.debugger.machine.input.program l.pen.counting l.fn.debugger.breaks l.desk.sections
      l.desk.set l.names;
}
