use Rattle.std.proofs.Common.{◌≡◌, drop}
use Rattle.std.specs.List.{find}
use Rattle.ss_check.specs.ItemRules.{name_breaks}
use Rattle.ss_check.proofs.rules.named.first_named.Given as goal

-- no name so far breaks the rule
abbrev pub invariant-loop-name : goal.invariant-loop-name
invariant-loop-name l =
    find (name_breaks l.whole l.rule) (drop l.name-index l.names) ≡ find (name_breaks l.whole l.rule) l.names
