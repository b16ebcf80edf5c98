use Rattle.std.proofs.Common.{◌≡◌, ◌++◌, drop}
use Rattle.std.specs.Prelude.{map}
use Rattle.ss_preamble.specs.View.{clause_view}
use Rattle.ss_check.specs.Declarations.{joined_in}
use Rattle.ss_check.specs.Facts.{fact}
use Rattle.ss_check.proofs.declared.set_facts.add_joined.Given as goal

-- the sets that are left bring the members to all
abbrev pub invariant-loop-set : goal.invariant-loop-set
invariant-loop-set l =
    l.members ++ map (λ s. fact s l.class) (map (λ n. n) (drop l.set-index l.set-items))
    ≡ l.fn.members ++ map (λ s. fact s l.class) (joined_in (clause_view l.fn.clause))
