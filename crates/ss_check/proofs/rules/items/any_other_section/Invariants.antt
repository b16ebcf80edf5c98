use Rattle.std.proofs.Common.{◌≡◌, ◌&&◌, drop, not}
use Rattle.std.specs.List.{list_any}
use Rattle.ss_check.specs.Facts.{is_among}
use Rattle.ss_check.specs.ItemRules.{is_without_section}
use Rattle.ss_check.proofs.rules.items.any_other_section.Given as goal

-- no name so far is one
abbrev pub invariant-loop-name : goal.invariant-loop-name
invariant-loop-name l =
    list_any (λ n. not (is_among n l.classes) && is_without_section l.whole n) (drop l.name-index l.names)
    ≡ list_any (λ n. not (is_among n l.classes) && is_without_section l.whole n) l.names
