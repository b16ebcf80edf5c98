use Rattle.std.proofs.Common.{◌≡◌, drop}
use Rattle.std.specs.Prelude.{map}
use Rattle.std.specs.List.{flat_map}
use Rattle.ss_preamble.specs.View.{clause_view}
use Rattle.ss_check.specs.Declarations.{joined_in}
use Rattle.ss_check.specs.Facts.{first_of}
use Rattle.ss_check.proofs.rules.wrong_items.first_joined.Given as goal

-- no clause so far is BELONGS TO
abbrev pub invariant-loop-clause : goal.invariant-loop-clause
invariant-loop-clause l =
    first_of (flat_map joined_in (map clause_view (drop l.clause-index l.clauses)))
    ≡ first_of (flat_map joined_in (map clause_view l.clauses))
