use Rattle.std.proofs.Common.{◌≡◌, ◌++◌, drop}
use Rattle.std.specs.Prelude.{map, option_map}
use Rattle.std.specs.List.{flat_map}
use Rattle.ss_words.specs.Lists.{all_of, several_view}
use Rattle.ss_preamble.specs.View.{clause_view}
use Rattle.ss_check.specs.Declarations.{owned_in}
use Rattle.ss_check.specs.Facts.{fact}
use Rattle.ss_check.proofs.declared.set_facts.add_all_owned.Given as goal

-- the clauses that are left bring the owners to all
abbrev pub invariant-loop-clause : goal.invariant-loop-clause
invariant-loop-clause l =
    l.owners ++ map (λ s. fact s (option_map (λ c. c.now) l.class))
    (flat_map owned_in (map clause_view (drop l.clause-index l.clause-items)))
    ≡ l.fn.owners ++ map (λ s. fact s (option_map (λ c. c.now) l.class))
    (flat_map owned_in (all_of (several_view clause_view l.fn.clauses)))
