use Rattle.std.proofs.lemmas.Int.{to_z-of_z}
use Rattle.std.proofs.Math.ListN.{set}
use Rattle.std.proofs.Common.{ℤ, w64, SFits, rules, arith, sym, ap, ◌∙◌, subst, Some, refl, map}
use Rattle.ss_events.specs.Agenda.{with_notice}
use Rattle.ss_events.specs.State.{AgendaState}
use Rattle.ss_events.specs.Views.{notice_of}
use Rattle.ss_events.specs.Changes.{CanPend}
use Rattle.ss_events.proofs.IndexLaws.{put_in-ranked, class-head, head-within, index-kept, place-is, index-put}
use Rattle.ss_events.proofs.PutAndTakeOut.{put_in-relink, put_in-closed, put_in-read, view-with, seat-read}
use Rattle.ss_events.proofs.StateLaws.{seat_in-below}
use Rattle.ss_events.proofs.Due.{due-same, due-put}
use Rattle.ss_events.proofs.agenda.Agenda.link.Goals as goal

pub index_mut-list-requires : goal.index_mut-list-requires
index_mut-list-requires g c =
    let within = head-within _ _ _ _ _ c.self.view_is c.self.invariant.0 (class-head _ c.args.notice _ c.args.entry
    c.requires.can c.requires.head) in
    omega (arith, within, c.self.invariant.1.count, c.self.inside.indexes.ok)

pub filed_before-before-requires-clause-head : goal.filed_before-before-requires-clause-head
filed_before-before-requires-clause-head g c = head-within _ _ _ _ _ c.self.view_is c.self.invariant.0 (class-head _
    c.args.notice _ c.args.entry c.requires.can c.requires.head)

pub filed_before-before-requires-clause-index : goal.filed_before-before-requires-clause-index
filed_before-before-requires-clause-index g c =
    let within = head-within _ _ _ _ _ c.self.view_is c.self.invariant.0 (class-head _ c.args.notice _ c.args.entry
    c.requires.can c.requires.head) in
    index-kept _ _ _ _ c.self.invariant.1 within c.index_mut-list.ensures.value

pub filed_before-before-requires-clause-known : goal.filed_before-before-requires-clause-known
filed_before-before-requires-clause-known g c = λ y h. (
  (put_in-ranked _ _ _ _ _ c.args.notice _ c.args.entry _ _ c.self.view_is c.self.invariant.0 c.requires.can
      c.deref-2.ensures.value c.requires.head (ap (map _) c.deref.ensures.value) c.deref-3.ensures.value).known y h,
  due-same _ _ _ _ _ _ c.self.invariant.2 c.deref-4.ensures.value c.deref-3.ensures.value c.deref-2.ensures.value,
)

pub filed_before-before-requires-clause-divided : goal.filed_before-before-requires-clause-divided
filed_before-before-requires-clause-divided g c = (put_in-ranked _ _ _ _ _ c.args.notice _ c.args.entry _ _
    c.self.view_is c.self.invariant.0 c.requires.can c.deref-2.ensures.value c.requires.head (ap (map _)
    c.deref.ensures.value) c.deref-3.ensures.value).divided

pub index_mut-requires : goal.index_mut-requires
index_mut-requires g c =
    let p = subst (λ (s : AgendaState). CanPend s (notice_of c.args.notice c.args.entry)) (sym c.self.view_is)
    c.requires.can in
    let seat = seat-read _ _ _ _ _ _ c.self.invariant.0 p.kept.seat c.index.ensures c.unwrap-seat.ensures in
    let below = seat_in-below c.self.inside.notices.items c.args.notice p.kept.seat in
    omega (arith, seat, below, c.self.invariant.2.count, c.self.inside.times.ok)

pub relink-requires : goal.relink-requires
relink-requires g c =
    let p = subst (λ (s : AgendaState). CanPend s (notice_of c.args.notice c.args.entry)) (sym c.self.view_is)
    c.requires.can in
    let r = put_in-ranked _ _ _ _ _ c.args.notice _ c.args.entry _ _ c.self.view_is c.self.invariant.0 c.requires.can
    c.deref-2.ensures.value c.requires.head (ap (map _) c.deref.ensures.value) c.deref-3.ensures.value in
    put_in-relink _ _ _ _ c.args.entry _ _ _ c.self.invariant.0 p c.index.ensures c.unwrap-seat.ensures (place-is _ _
    (notice_of 0 c.args.entry) _ _ c.self.view_is c.requires.head (c.filed_before-before.ensures.before ∙ r.before))

pub invariant_of-self : goal.invariant_of-self
invariant_of-self g c =
    let p = subst (λ (s : AgendaState). CanPend s (notice_of c.args.notice c.args.entry)) (sym c.self.view_is)
    c.requires.can in
    let r = put_in-ranked _ _ _ _ _ c.args.notice _ c.args.entry _ _ c.self.view_is c.self.invariant.0 c.requires.can
    c.deref-2.ensures.value c.requires.head (ap (map _) c.deref.ensures.value) c.deref-3.ensures.value in
    let within = head-within _ _ _ _ _ c.self.view_is c.self.invariant.0 (class-head _ c.args.notice _ c.args.entry
    c.requires.can c.requires.head) in
    let fits : SFits w64 c.args.entry.time = search rules in
    let times = ap (λ (z : ℤ). set c.self.inside.times.items c.unwrap-seat.result z) (to_z-of_z w64 c.args.entry.time
    fits) in (
      put_in-closed _ _ _ _ _ c.args.entry _ _ _ _ c.self.invariant.0 p c.index.ensures c.unwrap-seat.ensures
          (place-is _ _ (notice_of 0 c.args.entry) _ _ c.self.view_is c.requires.head
          (c.filed_before-before.ensures.before ∙ r.before)) c.relink.ensures.board c.relink.ensures.sound.1
          c.index_mut-2.ensures.value,
      index-put _ _ _ _ _ _ _ _ _ c.self.invariant.1 c.self.invariant.0.sound within c.filed_before-before.ensures.before
          c.relink.ensures.board c.filed_before-before.ensures.index c.node_for-node.ensures,
      due-put _ _ _ _ _ c.args.notice _ c.args.entry _ c.self.invariant.0 c.self.invariant.2 p.kept.seat (seat-read _ _ _
          _ _ _ c.self.invariant.0 p.kept.seat c.index.ensures c.unwrap-seat.ensures) times refl,
    )

pub returns : goal.returns
returns g c =
    let p = subst (λ (s : AgendaState). CanPend s (notice_of c.args.notice c.args.entry)) (sym c.self.view_is)
    c.requires.can in
    view-with _ _ _ (with_notice (notice_of c.args.notice c.args.entry)) c.self.view_is (put_in-read _ _ _ _
    c.args.entry (record { seat = c.index_mut-2.result.now.seat; pending = Some c.args.entry }) c.self.invariant.0 p refl)
