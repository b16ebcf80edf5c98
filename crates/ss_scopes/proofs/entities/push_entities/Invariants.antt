use Rattle.std.proofs.Common.{◌≡◌, ◌++◌, drop}
use Rattle.ss_scopes.specs.Entities.{entity_items}
use Rattle.ss_scopes.proofs.entities.push_entities.Given as goal

abbrev pub invariant-loop-number : goal.invariant-loop-number
invariant-loop-number l =
    l.out.items ++ entity_items l.program l.class (drop l.number-index l.numbers)
    ≡ l.fn.out.items ++ entity_items l.program l.class l.numbers
