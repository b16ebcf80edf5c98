use Rattle.std.proofs.Common.{◌≡◌, ◌&&◌, drop, not}
use Rattle.std.specs.List.{list_any}
use Rattle.ss_preamble.specs.View.{clause_view}
use Rattle.ss_check.specs.Declarations.{sets_of}
use Rattle.ss_check.specs.Facts.{fact_of, is_among, names_of}
use Rattle.ss_check.specs.NameKinds.{names_set}
use Rattle.ss_check.proofs.rules.items.any_clause_names_new.Given as goal

-- no clause so far names one
abbrev pub invariant-loop-clause : goal.invariant-loop-clause
invariant-loop-clause g l =
    list_any (λ c. list_any (λ s. not (names_set (fact_of l.kinds s)) && not (is_among s (names_of l.facts)))
    (sets_of (clause_view c))) (drop l.clause-index l.clauses)
    ≡ list_any (λ c. list_any (λ s. not (names_set (fact_of l.kinds s)) && not (is_among s (names_of l.facts)))
    (sets_of (clause_view c))) l.clauses
