use Rattle.std.proofs.Common.{◌≡◌, Some, None, rules}
use Rattle.std.specs.Option.{option_map}
use Rattle.ss_machine.specs.Moment.{position}
use Rattle.ss_events.specs.Agenda.{pending_at, least}
use Rattle.ss_events.specs.Rules.{rules_of}
use Rattle.ss_events.specs.Slots.{slot_of}
use Rattle.ss_state.specs.Run.{run}
use Rattle.ss_state.proofs.Dues.{least_number, least_has_slot, least_told}
use Rattle.ss_causes.proofs.Asking.{started_is}
use Rattle.ss_causes.proofs.search.notice_started.Goals as goal

pub slot-requires : goal.slot-requires
slot-requires g c =
    let a = c.agenda-agenda.result.now in
    let e : Some c.in_ok-notice.notice ≡ option_map (λ x. x.notice) (least a.rules a.agenda.pending) = search rules in
    least_number a.rules a.agenda.pending c.in_ok-notice.notice c.known-2.ensures.references e

pub returns-in_err-slot-clause-notice : goal.returns-in_err-slot-clause-notice
returns-in_err-slot-clause-notice g c =
    let a = c.agenda-agenda.result.now in
    let e : Some c.in_ok-notice.notice ≡ option_map (λ x. x.notice) (least a.rules a.agenda.pending) = search rules in
    let f : None ≡ option_map slot_of (pending_at a.agenda.pending c.in_ok-notice.notice) = search rules in
    absurd (least_has_slot a.rules a.agenda.pending c.in_ok-notice.notice c.known-2.ensures.references e f)

pub returns-clause-notice : goal.returns-clause-notice
returns-clause-notice g c =
    let m = c.args.debugger.now.machine in
    let a = c.agenda-agenda.result.now in
    let state : m.state ≡ run m.input (position m) = rw c.machine-machine.ensures at c.known.ensures.state in
    let agenda : a.agenda ≡ m.state.agenda = rw c.machine-machine.ensures at c.agenda-agenda.ensures.state in
    let ranks : a.rules ≡ rules_of m.input.program = rw c.machine-machine.ensures at c.agenda-agenda.ensures.rules in
    let e : Some c.in_ok-notice.notice ≡ option_map (λ x. x.notice) (least a.rules a.agenda.pending) = search rules in
    let f : Some c.in_ok-slot.slot ≡ option_map slot_of (pending_at a.agenda.pending c.in_ok-notice.notice) =
    search rules in
    rw (started_is m a state agenda ranks) (least_told a.rules a.agenda.pending c.in_ok-notice.notice c.in_ok-slot.slot
    c.known-2.ensures.references e f)

pub returns-clause-number : goal.returns-clause-number
returns-clause-number g c =
    let a = c.agenda-agenda.result.now in
    let e : Some c.in_ok-notice.notice ≡ option_map (λ x. x.notice) (least a.rules a.agenda.pending) = search rules in
    least_number a.rules a.agenda.pending c.in_ok-notice.notice c.known-2.ensures.references e
