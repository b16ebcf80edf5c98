use Rattle.std.proofs.Common.{subst}
use Rattle.ss_events.specs.declared.agenda.AgendaChange.{AgendaChange}
use Rattle.ss_events.specs.Changes.{Fits}
use Rattle.ss_events.proofs.Schedule.{NoneNoted-without, newest-free}
use Rattle.ss_events.proofs.scheduling.AgendaUndo.undo.Goals as goal

pub take_seat-requires-clause-idle : goal.take_seat-requires-clause-idle
take_seat-requires-clause-idle g c = rw (
  c.unfile.ensures,
  c.take_out-taken.ensures.state,
) (NoneNoted-without c.in-Scheduled.notice c.args.self.now.agenda.pending)

pub unfile-requires-clause-any : goal.unfile-requires-clause-any
unfile-requires-clause-any g c =
    let f = subst (λ (d : AgendaChange). Fits d c.args.self.now) c.in-Scheduled.is c.requires in
    (newest-free _ _ _ c.take_out-taken.ensures.state f.1).0

pub unfile-requires-clause-free : goal.unfile-requires-clause-free
unfile-requires-clause-free g c =
    let f = subst (λ (d : AgendaChange). Fits d c.args.self.now) c.in-Scheduled.is c.requires in
    (newest-free _ _ _ c.take_out-taken.ensures.state f.1).1
