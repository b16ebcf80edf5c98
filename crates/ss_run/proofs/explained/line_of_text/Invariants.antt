use Rattle.std.proofs.Common.{◌≡◌}
use Rattle.ss_run.specs.Explained.{behind_lines}
use Rattle.ss_run.proofs.explained.line_of_text.Given as goal

abbrev pub invariant-loop-k : goal.invariant-loop-k
invariant-loop-k l = l.rest ≡ behind_lines l._k l.text
