use Rattle.ss_events.proofs.Stands.{kept}
use Rattle.ss_events.proofs.WellLaws.{well-kept}
use Rattle.ss_events.proofs.agenda.Agenda.known.Goals as goal

pub returns : goal.returns
returns g c = well-kept _ _ _ (kept _ _ _ _ c.self.view_is c.self.invariant.0)
