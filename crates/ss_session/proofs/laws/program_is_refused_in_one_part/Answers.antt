use Rattle.ss_session.proofs.Refusals.{refused_in_part}
use Rattle.ss_session.proofs.laws.program_is_refused_in_one_part.Goals as goal

pub returns : goal.returns
returns c = refused_in_part
