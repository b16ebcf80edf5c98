use Rattle.std.proofs.Common.{refl}
use Rattle.std.specs.Fmt.{digits}
use Rattle.ss_debug.proofs.laws.members_are_shown_first_to_last.Goals as goal

pub returns-clause-owner : goal.returns-clause-owner
unfolding digits
returns-clause-owner c = refl

pub returns-clause-variable : goal.returns-clause-variable
unfolding digits
returns-clause-variable c = refl

pub returns-clause-empty : goal.returns-clause-empty
unfolding digits
returns-clause-empty c = refl

pub returns-clause-system : goal.returns-clause-system
unfolding digits
returns-clause-system c = refl

pub returns-clause-none : goal.returns-clause-none
unfolding digits
returns-clause-none c = refl

pub returns-clause-system_owner : goal.returns-clause-system_owner
unfolding digits
returns-clause-system_owner c = refl

pub returns-clause-class : goal.returns-clause-class
unfolding digits
returns-clause-class c = refl
