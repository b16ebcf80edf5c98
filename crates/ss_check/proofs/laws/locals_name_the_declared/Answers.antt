use Rattle.ss_check.proofs.WrongNames.{locals_named}
use Rattle.ss_check.proofs.laws.locals_name_the_declared.Goals as goal

pub returns : goal.returns
returns c = locals_named
