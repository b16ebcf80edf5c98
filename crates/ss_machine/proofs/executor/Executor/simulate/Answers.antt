use Rattle.std.proofs.Common.{◌≡◌, ℕ, Option, Some, rules, sym, subst}
use Rattle.std.specs.Option.{option_map}
use Rattle.ss_program.specs.ProgramSound.{IsEventClass}
use Rattle.ss_events.specs.Rules.{rules_of}
use Rattle.ss_events.specs.Agenda.{least}
use Rattle.ss_events.specs.Slots.{slot_of}
use Rattle.ss_events.specs.declared.agenda.Slot.{Slot}
use Rattle.ss_state.proofs.Starts.{least_is, least_event, least_positive, least_pending}
use Rattle.ss_state.proofs.Wells.Simulating.{main_alone}
use Rattle.ss_machine.proofs.executor.Executor.simulate.Goals as goal

pub start_event-requires-clause-event : goal.start_event-requires-clause-event
start_event-requires-clause-event g c =
    let p = c.args.program.now in
    let s = c.args.self.now.held.state in
    let e : ◌≡◌ {A = Option (ℕ × Slot)} (Some (c.in-Some.notice, c.in-Some.slot))
    (option_map (λ n. (n.notice, slot_of n)) (least (rules_of p) s.agenda.pending)) =
    search rules in
    let n = least_is (least (rules_of p) s.agenda.pending) c.in-Some.notice c.in-Some.slot e in
    subst (λ (x : Slot). IsEventClass p x.class 0) (sym n.3) (least_event p s n.0 c.requires.well n.1)

pub start_event-requires-clause-number : goal.start_event-requires-clause-number
start_event-requires-clause-number g c =
    let p = c.args.program.now in
    let s = c.args.self.now.held.state in
    let e : ◌≡◌ {A = Option (ℕ × Slot)} (Some (c.in-Some.notice, c.in-Some.slot))
    (option_map (λ n. (n.notice, slot_of n)) (least (rules_of p) s.agenda.pending)) =
    search rules in
    let n = least_is (least (rules_of p) s.agenda.pending) c.in-Some.notice c.in-Some.slot e in
    rw n.2 (least_positive p s n.0 c.requires.well n.1)

pub start_event-requires-clause-pending : goal.start_event-requires-clause-pending
start_event-requires-clause-pending g c =
    let p = c.args.program.now in
    let s = c.args.self.now.held.state in
    let e : ◌≡◌ {A = Option (ℕ × Slot)} (Some (c.in-Some.notice, c.in-Some.slot))
    (option_map (λ n. (n.notice, slot_of n)) (least (rules_of p) s.agenda.pending)) =
    search rules in
    let n = least_is (least (rules_of p) s.agenda.pending) c.in-Some.notice c.in-Some.slot e in
    rw n.2 (least_pending (rules_of p) s.agenda.pending n.0 n.1)

pub start_event-requires-clause-below : goal.start_event-requires-clause-below
start_event-requires-clause-below g c = main_alone c.args.program.now _ _ c.requires.main c.requires.well.stack
