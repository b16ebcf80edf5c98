use Rattle.std.proofs.Common.{◌≡◌, ◌++◌}
use Rattle.ss_debug.specs.Entities.{lines_below}
use Rattle.ss_inspect.specs.Tables.{class_line}
use Rattle.ss_inspect.proofs.tables.push_all_classes.Given as goal

abbrev pub invariant-loop-class : goal.invariant-loop-class
invariant-loop-class g l = l.text.items ≡ l.initial.text.items ++ lines_below (class_line l.machine.input.program l.machine.state.store) l.class
