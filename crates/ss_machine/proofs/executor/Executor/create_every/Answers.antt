use Rattle.std.proofs.Common.{◌≡◌, rules, w64, FitsSigned, to_z, of_z, Ok, Err}
use Rattle.std.proofs.lemmas.Int.{to_z-of_z}
use Rattle.ss_words.specs.declared.fault.StepFault.{StepFault}
use Rattle.ss_state.specs.Readings.{readings}
use Rattle.ss_state.specs.Statements.Entities.{number_asked}
use Rattle.ss_machine.proofs.Notings.{notes_none}
use Rattle.ss_machine.proofs.Executing.{refused_is, making_all_is, create_every_fails, create_every_ends}
use Rattle.ss_machine.proofs.executor.Executor.create_every.Goals as goal

pub returns-in_err-change-clause-outcome : goal.returns-in_err-change-clause-outcome
returns-in_err-change-clause-outcome g c =
    let e : StepFault = c.in_err-change.field-0.0 in
    let h = c.args.self.now.held in
    let n = c.in_ok-asked.asked in
    let fits : FitsSigned w64 n = search rules in
    let a : to_z w64 (of_z w64 n) ≡ n = to_z-of_z w64 _ fits in
    let o : number_asked (readings h.beside.tables h.state) c.args.number.now c.args.count ≡ Ok n = search rules in
    let r : c.from_residual-in_err-change.result ≡ Err e = search rules in
    rw r (create_every_fails h.beside.tables h.state c.args.class c.args.count c.args.number.now n e o
    (refused_is e _ h c.create_all.new.self (rw a at c.in_err-change.ensures)).0)

pub returns-in_err-change-clause-notes : goal.returns-in_err-change-clause-notes
returns-in_err-change-clause-notes g c =
    notes_none 2 c.args.self.now.held c.create_all.new.self c.args.self.now.journal
    (refused_is c.in_err-change.field-0.0 _ c.args.self.now.held c.create_all.new.self c.in_err-change.ensures).1

pub returns-clause-outcome : goal.returns-clause-outcome
returns-clause-outcome g c =
    let h = c.args.self.now.held in
    let n = c.in_ok-asked.asked in
    let fits : FitsSigned w64 n = search rules in
    let a : to_z w64 (of_z w64 n) ≡ n = to_z-of_z w64 _ fits in
    let o : number_asked (readings h.beside.tables h.state) c.args.number.now c.args.count ≡ Ok n = search rules in
    let s = making_all_is c.in_ok-change.change _ h c.create_all.new.self (rw a at c.in_ok-change.ensures) in
    create_every_ends h.beside.tables h.state c.create_all.new.self.state c.assign.new.self.held.state c.args.class
    c.args.count c.args.number.now n s.0 o s.1 s.2.state (rw a at c.assign.ensures.state)
