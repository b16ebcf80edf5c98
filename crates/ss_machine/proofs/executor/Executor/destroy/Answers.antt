use Rattle.std.proofs.Common.{◌≡◌, rules, sym, w64, FitsSigned, to_z, of_z, false, Ok, Err}
use Rattle.std.proofs.lemmas.Int.{to_z-of_z}
use Rattle.ss_words.specs.declared.fault.RunFault.{RunFault}
use Rattle.ss_values.specs.Values.{value_of}
use Rattle.ss_events.specs.Agenda.{is_pending}
use Rattle.ss_state.specs.Readings.{readings}
use Rattle.ss_state.specs.Statements.{entity_named}
use Rattle.ss_machine.proofs.Notings.{notes_none}
use Rattle.ss_machine.proofs.Storings.{refusal_is, storing_is}
use Rattle.ss_machine.proofs.Executing.{destroy_fails, destroy_ends}
use Rattle.ss_machine.proofs.executor.Executor.destroy.Goals as goal

pub returns-in_err-change-clause-outcome : goal.returns-in_err-change-clause-outcome
returns-in_err-change-clause-outcome g c =
    let e : RunFault = c.in_err-change.field-0.0 in
    let h = c.args.self.now.held in
    let x = c.in_ok-x.x in
    let k = c.in_ok-number.number in
    let fits : FitsSigned w64 x = search rules in
    let a : to_z w64 (of_z w64 x) ≡ x = to_z-of_z w64 _ fits in
    let o : value_of (readings h.beside.tables h.state) c.args.entity.now ≡ Ok x = search rules in
    let i : entity_named h.state.store c.args.class x ≡ Ok k = sym (rw a at c.in_ok-number.ensures.number) in
    let p : is_pending h.state.agenda k ≡ false = search rules in
    let r : c.from_residual-in_err-change.result ≡ Err e = search rules in
    rw r (destroy_fails h.beside.tables h.state c.args.class k c.args.entity.now x e o i p
    (refusal_is e _ h c.destroy.new.self (rw a at c.in_err-change.ensures)).0)

pub returns-in_err-change-clause-notes : goal.returns-in_err-change-clause-notes
returns-in_err-change-clause-notes g c =
    notes_none 1 c.args.self.now.held c.destroy.new.self c.args.self.now.journal
    (refusal_is c.in_err-change.field-0.0 _ c.args.self.now.held c.destroy.new.self c.in_err-change.ensures).1

pub returns-clause-outcome : goal.returns-clause-outcome
returns-clause-outcome g c =
    let h = c.args.self.now.held in
    let x = c.in_ok-x.x in
    let k = c.in_ok-number.number in
    let fits : FitsSigned w64 x = search rules in
    let a : to_z w64 (of_z w64 x) ≡ x = to_z-of_z w64 _ fits in
    let o : value_of (readings h.beside.tables h.state) c.args.entity.now ≡ Ok x = search rules in
    let i : entity_named h.state.store c.args.class x ≡ Ok k = sym (rw a at c.in_ok-number.ensures.number) in
    let p : is_pending h.state.agenda k ≡ false = search rules in
    let s = storing_is c.in_ok-change.change _ h c.destroy.new.self (rw a at c.in_ok-change.ensures) in
    destroy_ends h.beside.tables h.state c.destroy.new.self.state c.args.class k c.args.entity.now x s.0 o i p s.1
    s.2.state
