use Rattle.std.proofs.Common.{ap, Some, ◌∙◌}
use Rattle.ss_events.proofs.Listings.{least-notice}
use Rattle.ss_events.proofs.agenda.Agenda.next.Goals as goal

pub returns : goal.returns
returns g c =
    ap Some c.notice.ensures
    ∙ least-notice c.args.self.now c.in_ok-seat.seat _ c.in_ok-seat.ensures.taken c.in_ok-seat.ensures.notice
