use Rattle.std.proofs.Common.{◌≡◌, ◌++◌, drop}
use Rattle.std.specs.Prelude.{map, option_map}
use Rattle.std.specs.List.{flat_map}
use Rattle.ss_words.specs.Lists.{all_of, several_view}
use Rattle.ss_preamble.specs.View.{clause_view}
use Rattle.ss_check.specs.Declarations.{clause_facts}
use Rattle.ss_check.proofs.resolved.declarations.add_clauses.Given as goal

-- the clauses that are left bring the declarations to all
abbrev pub invariant-loop-clause : goal.invariant-loop-clause
invariant-loop-clause l =
    l.kinds ++ flat_map (clause_facts (option_map (λ c. c.now) l.class))
    (map clause_view (drop l.clause-index l.clause-items))
    ≡ l.fn.kinds ++ flat_map (clause_facts (option_map (λ c. c.now) l.class))
    (all_of (several_view clause_view l.fn.clauses))
