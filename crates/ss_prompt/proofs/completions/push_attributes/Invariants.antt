use Rattle.std.proofs.Common.{◌≡◌, ◌++◌, length}
use Rattle.ss_prompt.specs.Completions.{attribute_lines}
use Rattle.ss_prompt.proofs.completions.push_attributes.Given as goal

abbrev pub invariant-loop-classes : goal.invariant-loop-classes
invariant-loop-classes l =
    l.text.items ++ attribute_lines l.classes ≡ l.initial.text.items ++ attribute_lines l.initial.classes

abbrev pub decreases-loop-classes : goal.decreases-loop-classes
decreases-loop-classes l = length l.classes
