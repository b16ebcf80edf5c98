use Rattle.ss_check.proofs.WrongNames.{places_named}
use Rattle.ss_check.proofs.laws.places_name_their_use.Goals as goal

pub returns : goal.returns
returns c = places_named
