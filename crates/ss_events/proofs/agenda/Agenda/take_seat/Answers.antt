use Rattle.std.proofs.Common.{refl, ◌-◌, ◌≡◌, sym, ap, ◌∙◌, arith, subst, ℕ, length, take}
use Rattle.ss_links.specs.Board.{Board}
use Rattle.ss_events.specs.State.{AgendaState, NoneNoted}
use Rattle.ss_events.specs.Changes.{IsLastSeat}
use Rattle.ss_events.proofs.GiveSeat.{unseated-free, last-row, unseat-closed, unseat-view}
use Rattle.ss_events.proofs.IndexLaws.{index-same}
use Rattle.ss_events.proofs.Due.{due-unseat}
use Rattle.ss_events.proofs.agenda.Agenda.take_seat.Goals as goal

pub take_last_seat-requires-clause-free : goal.take_last_seat-requires-clause-free
take_last_seat-requires-clause-free g c =
    let l = subst (λ (s : AgendaState). IsLastSeat s c.args.notice) (sym c.self.view_is) c.requires.last in
    let i = subst (λ (s : AgendaState). NoneNoted c.args.notice s.agenda.pending) (sym c.self.view_is)
    c.requires.idle in
    unseated-free _ _ _ _ c.self.invariant.0 l i

pub overflow_sub-notice : goal.overflow_sub-notice
overflow_sub-notice g c =
    let l = subst (λ (s : AgendaState). IsLastSeat s c.args.notice) (sym c.self.view_is) c.requires.last in
    (last-row _ _ _ _ c.self.invariant.0 l).0

pub index_mut-row-requires : goal.index_mut-row-requires
index_mut-row-requires g c =
    let l = subst (λ (s : AgendaState). IsLastSeat s c.args.notice) (sym c.self.view_is) c.requires.last in
    let r = last-row _ _ _ _ c.self.invariant.0 l in
    omega (arith, r.0, r.1, c.self.inside.rows.ok)

pub invariant_of-self : goal.invariant_of-self
invariant_of-self g c =
    let l = subst (λ (s : AgendaState). IsLastSeat s c.args.notice) (sym c.self.view_is) c.requires.last in
    let i = subst (λ (s : AgendaState). NoneNoted c.args.notice s.agenda.pending) (sym c.self.view_is)
    c.requires.idle in
    let same : c.len.result ≡ length c.self.inside.notices.items = omega (
      arith,
      c.len.ensures,
      c.self.inside.notices.ok,
    ) in
    let r = last-row _ _ _ _ c.self.invariant.0 l in
    let count : c.len-2.result - 1 ≡ c.len.result - 1 = omega (
      arith,
      c.len-2.ensures,
      c.len.ensures,
      c.self.inside.notices.ok,
      c.self.inside.times.ok,
      c.self.invariant.2.count,
    ) in (
      unseat-closed _ _ _ _ _ _ _ (c.truncate.ensures.items ∙
          ap (λ (k : ℕ). take (k - 1) c.self.inside.notices.items) same) c.self.invariant.0 l i
          c.take_last_seat.ensures.board c.take_last_seat.ensures.sound.1 c.index_mut-row.ensures.value,
      index-same _ _ _ c.self.invariant.1 (ap (λ (d : Board). d.lists) c.take_last_seat.ensures.board),
      due-unseat _ _ _ _ _ c.args.notice _ _ _ _ c.self.invariant.2 (omega (arith, r.0, r.1))
          c.index_mut-row.ensures.value refl count c.truncate-2.ensures.items c.truncate.ensures.items,
    )

pub returns : goal.returns
returns g c =
    let l = subst (λ (s : AgendaState). IsLastSeat s c.args.notice) (sym c.self.view_is) c.requires.last in
    let same : c.len.result ≡ length c.self.inside.notices.items = omega (
      arith,
      c.len.ensures,
      c.self.inside.notices.ok,
    ) in
    unseat-view _ _ _ _ _ _ _ (c.truncate.ensures.items ∙
    ap (λ (k : ℕ). take (k - 1) c.self.inside.notices.items) same) c.self.view_is c.self.invariant.0 l
    c.index_mut-row.ensures.value
