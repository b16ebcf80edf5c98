use Rattle.std.proofs.Common.{refl}
use Rattle.std.specs.Fmt.{digits}
use Rattle.ss_debug.proofs.laws.entities_are_shown_in_order_of_declaration.Goals as goal

pub returns-clause-member : goal.returns-clause-member
unfolding digits
returns-clause-member c = refl

pub returns-clause-owner : goal.returns-clause-owner
unfolding digits
returns-clause-owner c = refl

pub returns-clause-empty : goal.returns-clause-empty
unfolding digits
returns-clause-empty c = refl

pub returns-clause-ended : goal.returns-clause-ended
unfolding digits
returns-clause-ended c = refl

pub returns-clause-none : goal.returns-clause-none
unfolding digits
returns-clause-none c = refl

pub returns-clause-set : goal.returns-clause-set
unfolding digits
returns-clause-set c = refl

pub returns-clause-clock : goal.returns-clause-clock
unfolding digits
returns-clause-clock c = refl
