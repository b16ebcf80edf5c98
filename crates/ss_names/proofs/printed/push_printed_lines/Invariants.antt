use Rattle.std.proofs.Common.{◌≡◌, ◌++◌, map, drop}
use Rattle.ss_names.specs.Printed.{printed_lines}
use Rattle.ss_names.proofs.printed.push_printed_lines.Given as goal

abbrev pub invariant-loop-number : goal.invariant-loop-number
invariant-loop-number l =
    l.text.items ++ printed_lines l.first l.number (map (λ line. line.items) (drop l.number l.lines))
    ≡ l.initial.text.items ++ printed_lines l.first 0 (map (λ line. line.items) l.lines)
