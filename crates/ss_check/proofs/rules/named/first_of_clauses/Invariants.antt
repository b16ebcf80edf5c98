use Rattle.std.proofs.Common.{◌≡◌, drop}
use Rattle.std.specs.Prelude.{map}
use Rattle.std.specs.List.{find, flat_map}
use Rattle.ss_preamble.specs.View.{clause_view}
use Rattle.ss_check.specs.Declarations.{sets_of}
use Rattle.ss_check.specs.ItemRules.{name_breaks}
use Rattle.ss_check.proofs.rules.named.first_of_clauses.Given as goal

-- no set of a clause so far breaks the rule
abbrev pub invariant-loop-clause : goal.invariant-loop-clause
invariant-loop-clause l =
    find (name_breaks l.whole l.rule) (flat_map sets_of (map clause_view (drop l.clause-index l.clauses)))
    ≡ find (name_breaks l.whole l.rule) (flat_map sets_of (map clause_view l.clauses))
