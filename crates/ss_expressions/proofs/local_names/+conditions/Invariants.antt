use Rattle.std.proofs.Common.{◌≡◌, drop}
use Rattle.std.specs.Prelude.{map}
use Rattle.ss_program.specs.ProgramCondition.{condition_of, conjunction_of, relation_of, conjunctions_of, relations_of}
use Rattle.ss_expressions.specs.LocalNames.{names_local, conjunctions_name_local, conjunction_names_local}
use Rattle.ss_expressions.specs.LocalNames.{relations_name_local}
use Rattle.ss_expressions.proofs.local_names.+conditions.Given as goal

abbrev pub decreases-any_names_local : goal.decreases-any_names_local
decreases-any_names_local l = goal.size-any_names_local l

abbrev pub decreases-all_name_local : goal.decreases-all_name_local
decreases-all_name_local l = goal.size-all_name_local l

abbrev pub decreases-relation_names_local : goal.decreases-relation_names_local
decreases-relation_names_local l = goal.size-relation_names_local l

-- the conjunctions that are left decide
abbrev pub invariant-any_names_local-loop-further : goal.invariant-any_names_local-loop-further
invariant-any_names_local-loop-further l =
    conjunctions_name_local (conjunctions_of (map conjunction_of (drop l.further-index l.further-items)))
    ≡ names_local (condition_of l.fn.c)

-- the relations that are left decide
abbrev pub invariant-all_name_local-loop-further : goal.invariant-all_name_local-loop-further
invariant-all_name_local-loop-further l =
    relations_name_local (relations_of (map relation_of (drop l.further-index l.further-items)))
    ≡ conjunction_names_local (conjunction_of l.fn.c)
