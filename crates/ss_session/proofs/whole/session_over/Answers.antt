use Rattle.ss_session.proofs.Ends.{session_says}
use Rattle.ss_session.proofs.whole.session_over.Goals as goal

pub returns : goal.returns
returns g c = session_says _ _ _ _ _ _ c.session_by_cases.ensures
