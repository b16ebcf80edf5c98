use Rattle.std.proofs.Common.{refl}
use Rattle.std.specs.Fmt.{digits}
use Rattle.ss_debug.proofs.laws.events_are_shown_in_order.Goals as goal

pub returns-clause-some : goal.returns-clause-some
unfolding digits
returns-clause-some c = refl
