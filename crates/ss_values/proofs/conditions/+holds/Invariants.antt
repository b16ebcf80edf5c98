use Rattle.std.proofs.Common.{◌≡◌, drop}
use Rattle.std.specs.Prelude.{map}
use Rattle.ss_program.specs.ProgramCondition.{condition_of, conjunction_of, relation_of, conjunctions_of, relations_of}
use Rattle.ss_program.specs.ProgramSound.{AreSoundConjunctions, AreSoundRelations}
use Rattle.ss_values.specs.Conditions.{holds, any_holds, conjunction_holds, all_hold}
use Rattle.ss_values.specs.Seen.{view_readings, InView}
use Rattle.ss_values.proofs.conditions.+holds.Given as goal

abbrev pub decreases-any_holds : goal.decreases-any_holds
decreases-any_holds g l = goal.size-any_holds g l

abbrev pub decreases-all_hold : goal.decreases-all_hold
decreases-all_hold g l = goal.size-all_hold g l

abbrev pub decreases-relation_holds : goal.decreases-relation_holds
decreases-relation_holds g l = goal.size-relation_holds g l

-- the conjunctions that are left, after this truth, decide
abbrev pub invariant-any_holds-loop-further : goal.invariant-any_holds-loop-further
invariant-any_holds-loop-further g l = record {
  sound : InView l.view AreSoundConjunctions
      (conjunctions_of (map conjunction_of (drop l.further-index l.further-items)));
  truth : any_holds (view_readings l.view) l.truth
      (conjunctions_of (map conjunction_of (drop l.further-index l.further-items)))
      ≡ holds (view_readings l.view) (condition_of l.fn.c);
}

-- the relations that are left, after this truth, decide
abbrev pub invariant-all_hold-loop-further : goal.invariant-all_hold-loop-further
invariant-all_hold-loop-further g l = record {
  sound : InView l.view AreSoundRelations (relations_of (map relation_of (drop l.further-index l.further-items)));
  truth : all_hold (view_readings l.view) l.truth
      (relations_of (map relation_of (drop l.further-index l.further-items)))
      ≡ conjunction_holds (view_readings l.view) (conjunction_of l.fn.c);
}
