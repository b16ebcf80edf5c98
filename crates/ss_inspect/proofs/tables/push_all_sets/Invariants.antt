use Rattle.std.proofs.Common.{◌≡◌, ◌++◌}
use Rattle.ss_debug.specs.Entities.{lines_below}
use Rattle.ss_inspect.specs.Tables.{set_line}
use Rattle.ss_inspect.proofs.tables.push_all_sets.Given as goal

abbrev pub invariant-loop-set : goal.invariant-loop-set
invariant-loop-set l = l.text.items ≡ l.initial.text.items ++ lines_below (set_line l.program) l.set
