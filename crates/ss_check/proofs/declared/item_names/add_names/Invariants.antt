use Rattle.std.proofs.Common.{◌≡◌, ◌++◌, drop}
use Rattle.std.specs.Prelude.{map}
use Rattle.ss_words.specs.Lists.{all_of, several_view}
use Rattle.ss_check.proofs.declared.item_names.add_names.Given as goal

-- the names that are left bring the list to all
abbrev pub invariant-loop-name : goal.invariant-loop-name
invariant-loop-name l =
    l.list ++ map (λ n. n) (drop l.name-index l.name-items)
    ≡ l.fn.list ++ all_of (several_view (λ n. n) l.fn.names)
