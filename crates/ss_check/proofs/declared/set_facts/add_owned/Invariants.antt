use Rattle.std.proofs.Common.{◌≡◌, ◌++◌, drop}
use Rattle.std.specs.Prelude.{map, option_map}
use Rattle.ss_preamble.specs.View.{clause_view}
use Rattle.ss_check.specs.Declarations.{owned_in}
use Rattle.ss_check.specs.Facts.{fact}
use Rattle.ss_check.proofs.declared.set_facts.add_owned.Given as goal

-- the sets that are left bring the owners to all
abbrev pub invariant-loop-set : goal.invariant-loop-set
invariant-loop-set l =
    l.owners ++ map (λ s. fact s (option_map (λ c. c.now) l.class)) (map (λ n. n) (drop l.set-index l.set-items))
    ≡ l.fn.owners ++ map (λ s. fact s (option_map (λ c. c.now) l.class)) (owned_in (clause_view l.fn.clause))
