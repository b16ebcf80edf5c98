use Rattle.std.proofs.Common.{ap, Some}
use Rattle.std.specs.Option.{IsSome}
use Rattle.ss_events.specs.Agenda.{pending_at}
use Rattle.ss_events.specs.State.{AgendaState}
use Rattle.ss_events.proofs.RowLaws.{pending_of_row}
use Rattle.ss_events.proofs.Stands.{kept, notice_on-above, on-index, is-some-map}
use Rattle.ss_events.proofs.agenda.Agenda.entry_on.Goals as goal

pub entry_of-requires : goal.entry_of-requires
entry_of-requires g c =
    let k = kept _ _ _ _ c.self.view_is c.self.invariant.0 in
    rw (on-index _ _ _ _ (ap (λ (s : AgendaState). s.notices) c.self.view_is) c.requires.made c.index.ensures)
    (notice_on-above _ _ _ _ k c.requires.made)

pub unwrap-requires : goal.unwrap-requires
unwrap-requires g c =
    let k = kept _ _ _ _ c.self.view_is c.self.invariant.0 in
    let on = on-index _ _ _ _ (ap (λ (s : AgendaState). s.notices) c.self.view_is) c.requires.made c.index.ensures in
    let row = pending_of_row _ _ _ _ c.args.self.now.agenda.pending (rw on (notice_on-above _ _ _ _ k
    c.requires.made)) (ap (λ (s : AgendaState). s.agenda.pending) c.self.view_is) c.deref.ensures.value
    c.entry_of.ensures in
    let there : IsSome (pending_at c.args.self.now.agenda.pending c.index.result.now) = rw on c.requires.pending in
    is-some-map _ c.entry_of.result (is-some-map _ _ (rw row at there))

pub returns : goal.returns
returns g c =
    let k = kept _ _ _ _ c.self.view_is c.self.invariant.0 in
    let on = on-index _ _ _ _ (ap (λ (s : AgendaState). s.notices) c.self.view_is) c.requires.made c.index.ensures in
    let row = pending_of_row _ _ _ (Some c.unwrap.result.now) c.args.self.now.agenda.pending (rw on (notice_on-above
    _ _ _ _ k c.requires.made)) (ap (λ (s : AgendaState). s.agenda.pending) c.self.view_is) c.deref.ensures.value
    (rw c.unwrap.ensures at c.entry_of.ensures) in
    rw on at row
