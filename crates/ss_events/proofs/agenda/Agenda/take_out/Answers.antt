use Rattle.std.proofs.Common.{sym, ap, ◌∙◌, arith, subst, refl, map, Some}
use Rattle.std.specs.Option.{IsSome, option_map}
use Rattle.ss_events.specs.Views.{notice_of}
use Rattle.ss_events.specs.Rows.{notices_from}
use Rattle.ss_events.specs.Agenda.{without_notice}
use Rattle.ss_events.specs.Agenda.{pending_at}
use Rattle.ss_events.specs.State.{AgendaState}
use Rattle.ss_events.proofs.Stands.{is-some-map}
use Rattle.ss_events.proofs.RowLaws.{pending_of_row}
use Rattle.ss_events.proofs.PutAndTakeOut.{pending-row, read-seat, taken-linked, taken-entry, take_out-closed}
use Rattle.ss_events.proofs.PutAndTakeOut.{take_out-read, view-with, seat-read}
use Rattle.ss_events.proofs.Predecessors.{predecessor-taken, predecessor-read}
use Rattle.ss_events.proofs.IndexLaws.{take_out-ranked, headed-within, index-kept, index-taken}
use Rattle.ss_events.proofs.Due.{due-same, due-fewer, none-set}
use Rattle.ss_events.proofs.agenda.Agenda.take_out.Goals as goal

pub index-requires : goal.index-requires
index-requires g c =
    let p = subst (λ (s : AgendaState). IsSome (pending_at s.agenda.pending c.args.notice)) (sym c.self.view_is)
    c.requires.pending in
    let row = (pending-row _ _ _ _ c.self.invariant.0 p).row in
    omega (arith, row, c.self.inside.rows.ok)

pub unwrap-seat-requires : goal.unwrap-seat-requires
unwrap-seat-requires g c =
    let p = subst (λ (s : AgendaState). IsSome (pending_at s.agenda.pending c.args.notice)) (sym c.self.view_is)
    c.requires.pending in
    rw (read-seat _ _ _ _ _ c.self.invariant.0 (pending-row _ _ _ _ c.self.invariant.0 p).seat c.index.ensures) refl

pub place-requires : goal.place-requires
place-requires g c =
    let p = subst (λ (s : AgendaState). IsSome (pending_at s.agenda.pending c.args.notice)) (sym c.self.view_is)
    c.requires.pending in
    (taken-linked _ _ _ _ _ _ c.self.invariant.0 p c.index.ensures c.unwrap-seat.ensures).0

pub unwrap-head-requires : goal.unwrap-head-requires
unwrap-head-requires g c =
    let p = subst (λ (s : AgendaState). IsSome (pending_at s.agenda.pending c.args.notice)) (sym c.self.view_is)
    c.requires.pending in
    rw c.place.ensures.value (taken-linked _ _ _ _ _ _ c.self.invariant.0 p c.index.ensures c.unwrap-seat.ensures).1

pub unwrap-entry-requires : goal.unwrap-entry-requires
unwrap-entry-requires g c =
    let p = subst (λ (s : AgendaState). IsSome (pending_at s.agenda.pending c.args.notice)) (sym c.self.view_is)
    c.requires.pending in
    let row = pending_of_row _ _ _ _ _ c.requires.number refl c.deref.ensures.value c.entry_of.ensures in
    is-some-map _ c.entry_of.result (is-some-map _ _ (rw row at p))

pub index_mut-list-requires : goal.index_mut-list-requires
index_mut-list-requires g c =
    let there = pending_of_row _ _ _ (Some c.unwrap-entry.result.now) _ c.requires.number refl c.deref.ensures.value (rw
    c.unwrap-entry.ensures at c.entry_of.ensures) in
    let head = sym c.place.ensures.value ∙ c.unwrap-head.ensures in
    let within = headed-within _ _ _ c.args.notice _ _ _ c.unwrap-entry.result.now c.self.invariant.0 there
    c.index.ensures c.unwrap-seat.ensures head in
    omega (arith, within, c.self.invariant.1.count, c.self.inside.indexes.ok)

pub take_from-requires-clause-known : goal.take_from-requires-clause-known
take_from-requires-clause-known g c =
    let there = pending_of_row _ _ _ (Some c.unwrap-entry.result.now) _ c.requires.number refl c.deref.ensures.value (rw
    c.unwrap-entry.ensures at c.entry_of.ensures) in
    let head = sym c.place.ensures.value ∙ c.unwrap-head.ensures in
    let within = headed-within _ _ _ c.args.notice _ _ _ c.unwrap-entry.result.now c.self.invariant.0 there
    c.index.ensures c.unwrap-seat.ensures head in
    let kept = index-kept _ _ _ _ c.self.invariant.1 within c.index_mut-list.ensures.value in
    let r = take_out-ranked _ _ _ c.args.notice _ _ _ c.unwrap-entry.result.now _ _ _ c.self.invariant.0 there
    c.index.ensures c.unwrap-seat.ensures head (ap (map _) c.deref-2.ensures.value) (ap (notices_from 1)
    c.deref-3.ensures.value) c.deref-4.ensures.value in
    let due = due-same _ _ _ _ _ _ c.self.invariant.2 c.deref-5.ensures.value c.deref-4.ensures.value
    c.deref-3.ensures.value in
    λ l e. rw (kept l e) (λ y h. (r.known y h, due))

pub take_from-requires-clause-divided : goal.take_from-requires-clause-divided
take_from-requires-clause-divided g c =
    let there = pending_of_row _ _ _ (Some c.unwrap-entry.result.now) _ c.requires.number refl c.deref.ensures.value (rw
    c.unwrap-entry.ensures at c.entry_of.ensures) in
    let head = sym c.place.ensures.value ∙ c.unwrap-head.ensures in
    let within = headed-within _ _ _ c.args.notice _ _ _ c.unwrap-entry.result.now c.self.invariant.0 there
    c.index.ensures c.unwrap-seat.ensures head in
    let kept = index-kept _ _ _ _ c.self.invariant.1 within c.index_mut-list.ensures.value in
    let r = take_out-ranked _ _ _ c.args.notice _ _ _ c.unwrap-entry.result.now _ _ _ c.self.invariant.0 there
    c.index.ensures c.unwrap-seat.ensures head (ap (map _) c.deref-2.ensures.value) (ap (notices_from 1)
    c.deref-3.ensures.value) c.deref-4.ensures.value in
    λ l e. rw (kept l e) r.divided

pub take_from-requires-clause-placed : goal.take_from-requires-clause-placed
take_from-requires-clause-placed g c =
    let there = pending_of_row _ _ _ (Some c.unwrap-entry.result.now) _ c.requires.number refl c.deref.ensures.value (rw
    c.unwrap-entry.ensures at c.entry_of.ensures) in
    let head = sym c.place.ensures.value ∙ c.unwrap-head.ensures in
    let within = headed-within _ _ _ c.args.notice _ _ _ c.unwrap-entry.result.now c.self.invariant.0 there
    c.index.ensures c.unwrap-seat.ensures head in
    let kept = index-kept _ _ _ _ c.self.invariant.1 within c.index_mut-list.ensures.value in
    let r = take_out-ranked _ _ _ c.args.notice _ _ _ c.unwrap-entry.result.now _ _ _ c.self.invariant.0 there
    c.index.ensures c.unwrap-seat.ensures head (ap (map _) c.deref-2.ensures.value) (ap (notices_from 1)
    c.deref-3.ensures.value) c.deref-4.ensures.value in
    λ l e. rw (kept l e) r.placed

pub unlink-place-requires-clause-is_seat : goal.unlink-place-requires-clause-is_seat
unlink-place-requires-clause-is_seat g c =
    let p = subst (λ (s : AgendaState). IsSome (pending_at s.agenda.pending c.args.notice)) (sym c.self.view_is)
    c.requires.pending in
    (taken-linked _ _ _ _ _ _ c.self.invariant.0 p c.index.ensures c.unwrap-seat.ensures).0

pub notice_if-predecessor-requires : goal.notice_if-predecessor-requires
notice_if-predecessor-requires g c =
    let p = subst (λ (s : AgendaState). IsSome (pending_at s.agenda.pending c.args.notice)) (sym c.self.view_is)
    c.requires.pending in
    let r = pending-row _ _ _ _ c.self.invariant.0 p in
    let row = taken-entry _ _ _ _ _ c.self.invariant.0 c.requires.number p c.index_mut-row.ensures.value in
    let there = row ∙ ap (option_map (notice_of c.args.notice)) (sym c.take.ensures.value ∙ c.unwrap-entry-2.ensures) in
    let seat = seat-read _ _ _ _ _ _ c.self.invariant.0 r.seat c.index.ensures c.unwrap-seat.ensures in
    rw c.deref-6.ensures.value (predecessor-taken _ _ _ c.args.notice c.unwrap-entry-2.result _ _ c.self.invariant.0 there
    seat c.unlink-place.ensures.before).made

pub invariant_of-self : goal.invariant_of-self
invariant_of-self g c =
    let p = subst (λ (s : AgendaState). IsSome (pending_at s.agenda.pending c.args.notice)) (sym c.self.view_is)
    c.requires.pending in
    let there = pending_of_row _ _ _ (Some c.unwrap-entry.result.now) _ c.requires.number refl c.deref.ensures.value (rw
    c.unwrap-entry.ensures at c.entry_of.ensures) in
    let head = sym c.place.ensures.value ∙ c.unwrap-head.ensures in
    let within = headed-within _ _ _ c.args.notice _ _ _ c.unwrap-entry.result.now c.self.invariant.0 there
    c.index.ensures c.unwrap-seat.ensures head in (
      take_out-closed _ _ _ _ _ _ _ _ _ c.self.invariant.0 p c.index.ensures c.unwrap-seat.ensures
          c.unlink-place.ensures.board c.unlink-place.ensures.sound.1 c.index_mut-row.ensures.value c.take.ensures.after,
      index-taken _ _ _ _ _ _ _ c.self.invariant.1 c.self.invariant.0.sound within c.index_mut-list.ensures.value head
          c.unlink-place.ensures.board c.take_from.ensures,
      due-fewer _ _ _ _ c.self.invariant.2 (none-set _ _ _ c.take.ensures.after),
    )

pub returns-clause-entry : goal.returns-clause-entry
returns-clause-entry g c =
    let p = subst (λ (s : AgendaState). IsSome (pending_at s.agenda.pending c.args.notice)) (sym c.self.view_is)
    c.requires.pending in
    let row = taken-entry _ _ _ _ _ c.self.invariant.0 c.requires.number p c.index_mut-row.ensures.value in
    ap (λ (s : AgendaState). pending_at s.agenda.pending c.args.notice) (sym c.self.view_is) ∙ (row ∙
    ap (option_map (notice_of c.args.notice)) (sym c.take.ensures.value ∙ c.unwrap-entry-2.ensures))

pub returns-clause-state : goal.returns-clause-state
returns-clause-state g c =
    let p = subst (λ (s : AgendaState). IsSome (pending_at s.agenda.pending c.args.notice)) (sym c.self.view_is)
    c.requires.pending in
    view-with _ _ _ (without_notice c.args.notice) c.self.view_is (take_out-read _ _ _ _ (record {
      seat =
          c.index_mut-row.result.now.seat;
      pending = c.take.new.self;
    }) c.self.invariant.0 (pending-row _ _ _ _
    c.self.invariant.0 p).seat c.take.ensures.after)

pub returns-clause-predecessor : goal.returns-clause-predecessor
returns-clause-predecessor g c =
    let p = subst (λ (s : AgendaState). IsSome (pending_at s.agenda.pending c.args.notice)) (sym c.self.view_is)
    c.requires.pending in
    let r = pending-row _ _ _ _ c.self.invariant.0 p in
    let row = taken-entry _ _ _ _ _ c.self.invariant.0 c.requires.number p c.index_mut-row.ensures.value in
    let there = row ∙ ap (option_map (notice_of c.args.notice)) (sym c.take.ensures.value ∙ c.unwrap-entry-2.ensures) in
    let seat = seat-read _ _ _ _ _ _ c.self.invariant.0 r.seat c.index.ensures c.unwrap-seat.ensures in
    let read = take_out-read _ _ _ _ (record {
      seat = c.index_mut-row.result.now.seat;
      pending = c.take.new.self;
    }) c.self.invariant.0 r.seat c.take.ensures.after in
    let told = rw c.deref-6.ensures.value at c.notice_if-predecessor.ensures in
    told ∙ predecessor-read _ _ c.unwrap-entry-2.result _ _ (predecessor-taken _ _ _ c.args.notice
    c.unwrap-entry-2.result _ _ c.self.invariant.0 there seat c.unlink-place.ensures.before) read
