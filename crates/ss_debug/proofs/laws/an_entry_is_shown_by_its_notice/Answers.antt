use Rattle.std.proofs.Common.{refl}
use Rattle.std.specs.Fmt.{digits}
use Rattle.ss_debug.proofs.laws.an_entry_is_shown_by_its_notice.Goals as goal

pub returns-clause-waits : goal.returns-clause-waits
unfolding digits
returns-clause-waits c = refl

pub returns-clause-runs : goal.returns-clause-runs
unfolding digits
returns-clause-runs c = refl
