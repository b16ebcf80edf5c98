use Rattle.ss_session.proofs.Spellings.{one_program}
use Rattle.ss_session.proofs.laws.program_spelling_is_unique.Goals as goal

pub returns : goal.returns
returns c = one_program
