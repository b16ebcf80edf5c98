use Rattle.std.proofs.Common.{◌≡◌, ◌≤◌, ◌+◌, ap, arith, length, Ok, Err, rules, ◌∙◌, w64, FitsSigned, to_z, of_z}
use Rattle.std.specs.Prelude.{map}
use Rattle.std.proofs.lemmas.Int.{to_z-of_z}
use Rattle.ss_words.specs.declared.fault.StepFault.{StepFault}
use Rattle.ss_program.specs.Program.{event_of}
use Rattle.ss_values.specs.Values.{FaultIs}
use Rattle.ss_state.specs.Held.{Held}
use Rattle.ss_state.specs.Statements.Timing.{attributes_now, tie_attributes}
use Rattle.ss_machine.proofs.Starts.{noted_same, not_scheduled}
use Rattle.ss_state.proofs.Starts.{class_shaped, event_ruled, keys_count}
use Rattle.ss_machine.proofs.Executing.{scheduling_refused, scheduling_is, keys_fail, notice_fails, notice_ends}
use Rattle.ss_machine.proofs.executor.Executor.schedule_notice.Goals as goal

pub set_attributes-requires-clause-class : goal.set_attributes-requires-clause-class
set_attributes-requires-clause-class g c =
    rw c.requires.tables (class_shaped c.args.program.now c.args.class c.requires.event.class)

pub schedule-requires-clause-class : goal.schedule-requires-clause-class
schedule-requires-clause-class g c =
    rw (c.set_attributes.ensures.rules, c.requires.rules) (event_ruled c.args.program.now c.args.class 0
    c.requires.event)

pub schedule-requires-clause-keys : goal.schedule-requires-clause-keys
schedule-requires-clause-keys g c =
    let st = c.set_attributes.new.self.held.state.store in
    let p = c.args.program.now in
    let e : attributes_now st c.args.class c.args.notice (map (λ key. key.attribute) (event_of p c.args.class).ties)
    ≡ Ok c.keys.new.values.items = search rules in
    rw (c.as_slice.ensures.value, c.set_attributes.ensures.rules, c.requires.rules)
    (keys_count p st c.args.class c.args.notice 0 c.keys.new.values.items c.requires.event e)

pub returns-in_err-change-clause-tables : goal.returns-in_err-change-clause-tables
returns-in_err-change-clause-tables g c =
    ap (λ (h : Held). h.beside.tables) (not_scheduled c.in_err-change.field-0.0 _ _ c.schedule.new.self
    c.in_err-change.ensures)
    ∙ c.set_attributes.ensures.tables

pub returns-in_err-change-clause-notes : goal.returns-in_err-change-clause-notes
returns-in_err-change-clause-notes g c =
    let n = length c.args.self.now.values.items in
    let few : n ≤ 1 + n = omega arith in
    noted_same n (1 + n) _ c.set_attributes.new.self.held _ _ _
    (not_scheduled c.in_err-change.field-0.0 _ c.set_attributes.new.self.held c.schedule.new.self
    c.in_err-change.ensures) few
    c.set_attributes.ensures.notes

pub returns-in_err-keys-clause-outcome : goal.returns-in_err-keys-clause-outcome
returns-in_err-keys-clause-outcome g c =
    let p = c.args.program.now in
    let h = c.args.self.now.held in
    let e : StepFault = c.in_err-keys.field-0.0 in
    let m = c.set_attributes.new.self.held.state in
    let f : FaultIs e (attributes_now m.store c.args.class c.args.notice (tie_attributes p c.args.class)) =
    search rules in
    let r : c.from_residual-in_err-keys.result ≡ Err e = search rules in
    rw r (keys_fail p h.state m c.args.class c.args.notice c.args.time c.args.self.now.values.items e
    c.in_ok-set_attributes.ensures.outcome f)

pub returns-in_err-change-clause-outcome : goal.returns-in_err-change-clause-outcome
returns-in_err-change-clause-outcome g c =
    let p = c.args.program.now in
    let h = c.args.self.now.held in
    let e : StepFault = c.in_err-change.field-0.0 in
    let m = c.set_attributes.new.self.held in
    let f : attributes_now m.state.store c.args.class c.args.notice (tie_attributes p c.args.class)
    ≡ Ok c.keys.new.values.items = search rules in
    let long : FitsSigned w64 c.args.time = search rules in
    let y : to_z w64 (of_z w64 c.args.time) ≡ c.args.time = to_z-of_z w64 _ long in
    let r : c.from_residual-in_err-change.result ≡ Err e = search rules in
    rw r (notice_fails p h.state m.state c.args.class c.args.notice c.args.time c.args.self.now.values.items
    c.keys.new.values.items e c.in_ok-set_attributes.ensures.outcome f
    (scheduling_refused e _ m c.schedule.new.self (rw (y, c.as_slice.ensures.value) at c.in_err-change.ensures)))

pub returns-clause-outcome : goal.returns-clause-outcome
returns-clause-outcome g c =
    let p = c.args.program.now in
    let h = c.args.self.now.held in
    let m = c.set_attributes.new.self.held in
    let f : attributes_now m.state.store c.args.class c.args.notice (tie_attributes p c.args.class)
    ≡ Ok c.keys.new.values.items = search rules in
    let long : FitsSigned w64 c.args.time = search rules in
    let y : to_z w64 (of_z w64 c.args.time) ≡ c.args.time = to_z-of_z w64 _ long in
    notice_ends p h.state m.state c.schedule.new.self.state c.args.class c.args.notice c.args.time
    c.args.self.now.values.items c.keys.new.values.items c.in_ok-set_attributes.ensures.outcome f
    (scheduling_is c.in_ok-change.change _ m c.schedule.new.self
    (rw (y, c.as_slice.ensures.value) at c.in_ok-change.ensures))
