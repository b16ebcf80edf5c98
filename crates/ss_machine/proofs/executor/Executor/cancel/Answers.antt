use Rattle.std.proofs.Common.{◌≡◌, rules, sym, w64, FitsSigned, to_z, of_z, Ok, Err}
use Rattle.std.proofs.lemmas.Int.{to_z-of_z}
use Rattle.ss_words.specs.declared.fault.RunFault.{RunFault}
use Rattle.ss_values.specs.Values.{value_of}
use Rattle.ss_state.specs.Readings.{readings}
use Rattle.ss_state.specs.Statements.{entity_named}
use Rattle.ss_machine.proofs.Notings.{notes_none}
use Rattle.ss_machine.proofs.Executing.{cancel_refused, cancelling_is, cancel_fails, cancel_ends}
use Rattle.ss_machine.proofs.executor.Executor.cancel.Goals as goal

pub returns-in_err-change-clause-outcome : goal.returns-in_err-change-clause-outcome
returns-in_err-change-clause-outcome g c =
    let e : RunFault = c.in_err-change.field-0.0 in
    let h = c.args.self.now.held in
    let x = c.in_ok-x.x in
    let k = c.in_ok-number.number in
    let fits : FitsSigned w64 x = search rules in
    let a : to_z w64 (of_z w64 x) ≡ x = to_z-of_z w64 _ fits in
    let o : value_of (readings h.beside.tables h.state) c.args.notice.now ≡ Ok x = search rules in
    let i : entity_named h.state.store c.args.class x ≡ Ok k = sym (rw a at c.in_ok-number.ensures.number) in
    let r : c.from_residual-in_err-change.result ≡ Err e = search rules in
    rw r (cancel_fails h.beside.tables h.state c.args.class k c.args.notice.now x e o i
    (cancel_refused e _ h c.cancel.new.self c.in_err-change.ensures).0)

pub returns-in_err-change-clause-notes : goal.returns-in_err-change-clause-notes
returns-in_err-change-clause-notes g c =
    notes_none 1 c.args.self.now.held c.cancel.new.self c.args.self.now.journal
    (cancel_refused c.in_err-change.field-0.0 _ c.args.self.now.held c.cancel.new.self c.in_err-change.ensures).1

pub returns-clause-outcome : goal.returns-clause-outcome
returns-clause-outcome g c =
    let h = c.args.self.now.held in
    let x = c.in_ok-x.x in
    let k = c.in_ok-number.number in
    let fits : FitsSigned w64 x = search rules in
    let a : to_z w64 (of_z w64 x) ≡ x = to_z-of_z w64 _ fits in
    let o : value_of (readings h.beside.tables h.state) c.args.notice.now ≡ Ok x = search rules in
    let i : entity_named h.state.store c.args.class x ≡ Ok k = sym (rw a at c.in_ok-number.ensures.number) in
    let s = cancelling_is c.in_ok-change.change _ h c.cancel.new.self c.in_ok-change.ensures in
    cancel_ends h.beside.tables h.state c.cancel.new.self.state c.args.class k c.args.notice.now x s.0 o i s.1 s.2
