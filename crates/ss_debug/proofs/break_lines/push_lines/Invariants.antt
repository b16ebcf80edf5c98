use Rattle.std.proofs.Common.{◌≡◌, ◌++◌, drop}
use Rattle.ss_debug.specs.LineTable.{lines_from, lines_of}
use Rattle.ss_debug.proofs.break_lines.push_lines.Given as goal

abbrev pub invariant-loop-line : goal.invariant-loop-line
invariant-loop-line l =
    l.lines.items ++ lines_from l.line (drop l.line l.is_set) ≡ l.initial.lines.items ++ lines_of l.is_set
