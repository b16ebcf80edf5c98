use Rattle.std.proofs.Common.{◌≡◌, Some, None, rules, refl, sym, ◌∙◌}
use Rattle.std.specs.Option.{option_map}
use Rattle.ss_events.specs.Agenda.{pending_at, least}
use Rattle.ss_events.specs.Slots.{slot_of}
use Rattle.ss_state.proofs.Dues.{least_number, least_has_slot, least_told}
use Rattle.ss_reads.proofs.Notices.{due_by}
use Rattle.ss_reads.proofs.places.next_notice.Goals as goal

pub slot-requires : goal.slot-requires
slot-requires g c =
    let a = c.agenda-agenda.result.now in
    let e : Some c.in_ok-notice.notice ≡ option_map (λ x. x.notice) (least a.rules a.agenda.pending) = search rules in
    least_number a.rules a.agenda.pending c.in_ok-notice.notice c.known.ensures.references e

pub returns-in_err-slot : goal.returns-in_err-slot
returns-in_err-slot g c =
    let a = c.agenda-agenda.result.now in
    let e : Some c.in_ok-notice.notice ≡ option_map (λ x. x.notice) (least a.rules a.agenda.pending) = search rules in
    let f : None ≡ option_map slot_of (pending_at a.agenda.pending c.in_ok-notice.notice) = search rules in
    absurd (least_has_slot a.rules a.agenda.pending c.in_ok-notice.notice c.known.ensures.references e f)

pub returns : goal.returns
returns g c =
    let a = c.agenda-agenda.result.now in
    let e : Some c.in_ok-notice.notice ≡ option_map (λ x. x.notice) (least a.rules a.agenda.pending) = search rules in
    let f : Some c.in_ok-slot.slot ≡ option_map slot_of (pending_at a.agenda.pending c.in_ok-notice.notice) =
    search rules in
    rw (← c.agenda-agenda.ensures.rules, ← c.agenda-agenda.ensures.state)
    (due_by (least a.rules a.agenda.pending) c.in_ok-notice.notice c.in_ok-slot.slot
    (least_told a.rules a.agenda.pending c.in_ok-notice.notice c.in_ok-slot.slot c.known.ensures.references e f))
