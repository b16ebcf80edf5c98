use Rattle.std.proofs.Common.{◌≡◌, take}
use Rattle.std.specs.Prelude.{map}
use Rattle.ss_routines.specs.View.{conjunction_view, relation_view}
use Rattle.ss_program.specs.ProgramCondition.{conjunction_of, relation_of}
use Rattle.ss_check.specs.Resolved.{resolved_conjunction, resolved_relation}
use Rattle.ss_check.specs.Scope.{in_scope}
use Rattle.ss_check.proofs.resolved.conditions.+resolve.Given as goal

abbrev pub decreases-resolve_disjunction : goal.decreases-resolve_disjunction
decreases-resolve_disjunction l = goal.size-resolve_disjunction l

abbrev pub decreases-resolve_conjunction : goal.decreases-resolve_conjunction
decreases-resolve_conjunction l = goal.size-resolve_conjunction l

abbrev pub decreases-resolve_relation : goal.decreases-resolve_relation
decreases-resolve_relation l = goal.size-resolve_relation l

-- the conjunctions so far
abbrev pub invariant-resolve_disjunction-loop-further : goal.invariant-resolve_disjunction-loop-further
invariant-resolve_disjunction-loop-further l =
    map conjunction_of l.more.items
    ≡ map (λ c. in_scope l.scope resolved_conjunction (conjunction_view c)) (take l.further-index l.further-items)

-- the relations so far
abbrev pub invariant-resolve_conjunction-loop-further : goal.invariant-resolve_conjunction-loop-further
invariant-resolve_conjunction-loop-further l =
    map relation_of l.more.items
    ≡ map (λ r. in_scope l.scope resolved_relation (relation_view r)) (take l.further-index l.further-items)
