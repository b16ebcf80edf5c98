use Rattle.std.proofs.Common.{◌≡◌, rules, w64, FitsSigned, to_z, of_z, Ok, Err}
use Rattle.std.proofs.lemmas.Int.{to_z-of_z}
use Rattle.ss_words.specs.declared.fault.RunFault.{RunFault}
use Rattle.ss_values.specs.Values.{subscript_value}
use Rattle.ss_state.specs.Readings.{readings}
use Rattle.ss_machine.proofs.Notings.{notes_none}
use Rattle.ss_machine.proofs.Storings.{removal_refused, remove_fails}
use Rattle.ss_machine.proofs.executor.Executor.remove.Goals as goal

pub returns-in_err-change-clause-outcome : goal.returns-in_err-change-clause-outcome
returns-in_err-change-clause-outcome g c =
    let e : RunFault = c.in_err-change.field-0.0 in
    let h = c.args.self.now.held in
    let fits : FitsSigned w64 c.in_ok-owner.owner = search rules in
    let small : FitsSigned w64 c.args.member = search rules in
    let a : to_z w64 (of_z w64 c.in_ok-owner.owner) ≡ c.in_ok-owner.owner = to_z-of_z w64 _ fits in
    let b : to_z w64 (of_z w64 c.args.member) ≡ c.args.member = to_z-of_z w64 _ small in
    let o : subscript_value (readings h.beside.tables h.state) c.args.set.now.owner ≡ Ok c.in_ok-owner.owner =
    search rules in
    let r : c.from_residual-in_err-change.result ≡ Err e = search rules in
    rw r (remove_fails h.beside.tables h.state c.args.set.now c.args.member c.in_ok-owner.owner e o
    (removal_refused e _ h c.remove.new.self (rw (a, b) at c.in_err-change.ensures)).0)

pub returns-in_err-change-clause-notes : goal.returns-in_err-change-clause-notes
returns-in_err-change-clause-notes g c =
    notes_none 1 c.args.self.now.held c.remove.new.self c.args.self.now.journal
    (removal_refused c.in_err-change.field-0.0 _ c.args.self.now.held c.remove.new.self c.in_err-change.ensures).1
