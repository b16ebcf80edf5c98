use Rattle.ss_routines.proofs.Examples.{and_binds_more_tightly}
use Rattle.ss_routines.proofs.laws.and_binds_more_tightly.Goals as goal

pub returns : goal.returns
returns c = and_binds_more_tightly
