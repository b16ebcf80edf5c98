use Rattle.ss_check.proofs.OwnPlaces.{own_places}
use Rattle.ss_check.proofs.laws.own_places_have_no_fault.Goals as goal

pub returns : goal.returns
returns c = own_places
