use Rattle.std.proofs.Common.{◌≡◌, ◌++◌, drop}
use Rattle.ss_debug.specs.Entities.{further_members}
use Rattle.ss_changes.proofs.texts.push_further.Given as goal

abbrev pub invariant-loop-number : goal.invariant-loop-number
invariant-loop-number l =
    l.text.items ++ further_members (drop l.number-index l.numbers)
    ≡ l.initial.text.items ++ further_members l.numbers
