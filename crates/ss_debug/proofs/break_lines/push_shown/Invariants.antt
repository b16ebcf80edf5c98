use Rattle.std.proofs.Common.{◌≡◌, ◌++◌, drop, map}
use Rattle.ss_debug.specs.BreakTable.{breaks_of, shown_break}
use Rattle.ss_debug.proofs.break_lines.push_shown.Given as goal

abbrev pub invariant-loop-line : goal.invariant-loop-line
invariant-loop-line l =
    l.shown.items ++ map shown_break (breaks_of l.conditions (drop l.line-index l.lines))
    ≡ l.initial.shown.items ++ map shown_break (breaks_of l.conditions l.lines)
