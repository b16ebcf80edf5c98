use Rattle.std.proofs.Common.{◌≡◌, ◌++◌, drop}
use Rattle.std.specs.Prelude.{map}
use Rattle.ss_routines.specs.Condition.{alternatives_of, additions_of}
use Rattle.ss_routines.specs.View.{condition_view, conjunction_view, relation_view}
use Rattle.ss_check.specs.Uses.{uses_condition, uses_alternatives, uses_conjunction, uses_additions}
use Rattle.ss_check.proofs.uses.conditions.+uses.Given as goal

abbrev pub decreases-add_condition : goal.decreases-add_condition
decreases-add_condition l = goal.size-add_condition l

abbrev pub decreases-add_conjunction : goal.decreases-add_conjunction
decreases-add_conjunction l = goal.size-add_conjunction l

abbrev pub decreases-add_relation : goal.decreases-add_relation
decreases-add_relation l = goal.size-add_relation l

-- the conjunctions that are left bring the uses to all
abbrev pub invariant-add_condition-loop-further : goal.invariant-add_condition-loop-further
invariant-add_condition-loop-further l =
    l.uses ++ uses_alternatives (alternatives_of (map conjunction_view (drop l.further-index l.further-items)))
    ≡ l.fn.uses ++ uses_condition (condition_view l.fn.c)

-- the relations that are left do
abbrev pub invariant-add_conjunction-loop-further : goal.invariant-add_conjunction-loop-further
invariant-add_conjunction-loop-further l =
    l.uses ++ uses_additions (additions_of (map relation_view (drop l.further-index l.further-items)))
    ≡ l.fn.uses ++ uses_conjunction (conjunction_view l.fn.c)
