use Rattle.std.proofs.Common.{◌≡◌, ◌<◌, ◌^◌, rules, w64, FitsSigned, to_z, of_z, Ok, Err}
use Rattle.std.proofs.lemmas.Int.{to_z-of_z}
use Rattle.ss_words.specs.declared.fault.RunFault.{RunFault}
use Rattle.ss_words.specs.declared.fault.StepFault.{StepFault}
use Rattle.ss_words.specs.declared.fault.StepFault.TheVariants.{Fault}
use Rattle.ss_machine.proofs.Notings.{notes_none}
use Rattle.ss_machine.proofs.Storings.{counted_small}
use Rattle.ss_machine.proofs.Executing.{refused_is, creating_is, create_refused, create_assigned}
use Rattle.ss_machine.proofs.executor.Executor.create.Goals as goal

pub returns-in_err-number-clause-outcome : goal.returns-in_err-number-clause-outcome
returns-in_err-number-clause-outcome g c =
    let e : StepFault = c.in_err-number.field-0.0 in
    let h = c.args.self.now.held in
    let r : c.from_residual.result ≡ Err e = search rules in
    rw r (create_refused h.beside.tables h.state c.args.class c.args.target.now e
    (refused_is e _ h c.create.new.self c.in_err-number.ensures).0)

pub returns-in_err-number-clause-notes : goal.returns-in_err-number-clause-notes
returns-in_err-number-clause-notes g c =
    notes_none 2 c.args.self.now.held c.create.new.self c.args.self.now.journal
    (refused_is c.in_err-number.field-0.0 _ c.args.self.now.held c.create.new.self c.in_err-number.ensures).1

pub returns-in_err-assign_target-clause-outcome : goal.returns-in_err-assign_target-clause-outcome
returns-in_err-assign_target-clause-outcome g c =
    let e : RunFault = c.in_err-assign_target.field-0.0 in
    let h = c.args.self.now.held in
    let k = c.in_ok-number.number in
    let r : c.from_residual-in_err-assign_target.result ≡ Err (Fault e) = search rules in
    let small : k < 2 ^ 32 = search rules in
    let whole : FitsSigned w64 c.from.result = search rules in
    let z : to_z w64 (of_z w64 c.from.result) ≡ c.from.result = to_z-of_z w64 _ whole in
    let s = creating_is k c.in_ok-number.change _ h c.create.new.self c.in_ok-number.ensures in
    rw r (create_assigned h.beside.tables c.create.new.self.beside.tables h.state c.create.new.self.state c.args.class k
    c.args.target.now c.from.result s.0 (Err e) s.1 s.2 s.3.state (counted_small k small) s.3.tables c.from.ensures
    (rw z at c.in_err-assign_target.ensures.outcome))

pub returns-clause-outcome : goal.returns-clause-outcome
returns-clause-outcome g c =
    let h = c.args.self.now.held in
    let k = c.in_ok-number.number in
    let small : k < 2 ^ 32 = search rules in
    let whole : FitsSigned w64 c.from.result = search rules in
    let z : to_z w64 (of_z w64 c.from.result) ≡ c.from.result = to_z-of_z w64 _ whole in
    let s = creating_is k c.in_ok-number.change _ h c.create.new.self c.in_ok-number.ensures in
    create_assigned h.beside.tables c.create.new.self.beside.tables h.state c.create.new.self.state c.args.class k
    c.args.target.now c.from.result s.0 (Ok c.assign_target.new.self.held.state) s.1 s.2 s.3.state
    (counted_small k small) s.3.tables c.from.ensures (rw z at c.in_ok-assign_target.ensures.outcome)
