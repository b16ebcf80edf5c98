use Rattle.std.proofs.Common.{◌≡◌, ◌++◌, length}
use Rattle.ss_prompt.specs.Completions.{set_lines}
use Rattle.ss_prompt.proofs.completions.push_sets.Given as goal

abbrev pub invariant-loop-sets : goal.invariant-loop-sets
invariant-loop-sets l = l.text.items ++ set_lines l.sets ≡ l.initial.text.items ++ set_lines l.initial.sets

abbrev pub decreases-loop-sets : goal.decreases-loop-sets
decreases-loop-sets l = length l.sets
