use Rattle.std.proofs.Common.{◌≡◌, ◌++◌, length}
use Rattle.ss_names.specs.Roles.{lines_text}
use Rattle.ss_names.proofs.roles.push_lines.Given as goal

abbrev pub invariant-loop-rest : goal.invariant-loop-rest
invariant-loop-rest l = l.text.items ++ lines_text l.rest ≡ l.fn.text.items ++ lines_text l.lines

abbrev pub decreases-loop-rest : goal.decreases-loop-rest
decreases-loop-rest l = length l.rest
