use Rattle.ss_check.proofs.program.classes_and_sets.Goals as goal

pub returns-clause-classes : goal.returns-clause-classes
returns-clause-classes c =
    rw (rw c.deref.ensures.value at c.in_ok-rankings.ensures) at c.ranked_classes_and_sets-made.ensures.classes

pub returns-clause-sets : goal.returns-clause-sets
returns-clause-sets c =
    rw (rw c.deref.ensures.value at c.in_ok-rankings.ensures) at c.ranked_classes_and_sets-made.ensures.sets
