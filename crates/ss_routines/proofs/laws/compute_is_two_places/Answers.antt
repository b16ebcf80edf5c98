use Rattle.ss_routines.proofs.Examples.{compute_is_two_places}
use Rattle.ss_routines.proofs.laws.compute_is_two_places.Goals as goal

pub returns : goal.returns
returns c = compute_is_two_places
