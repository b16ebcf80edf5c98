use Rattle.std.proofs.Common.{◌≡◌, ◌<◌, ◌^◌, rules, pos, w64, FitsSigned, to_z, of_z, Ok, Err}
use Rattle.std.proofs.lemmas.Int.{to_z-of_z}
use Rattle.ss_words.specs.declared.fault.RunFault.{RunFault}
use Rattle.ss_values.specs.Values.{subscript_value}
use Rattle.ss_state.specs.Readings.{readings}
use Rattle.ss_state.specs.Statements.Filing.{which_at}
use Rattle.ss_machine.proofs.Notings.{notes_none}
use Rattle.ss_machine.proofs.Storings.{removal_refused, removing_is, remove_end_fails, remove_end_then, counted_small}
use Rattle.ss_machine.proofs.executor.Executor.remove_end.Goals as goal

pub returns-in_err-number-clause-outcome : goal.returns-in_err-number-clause-outcome
returns-in_err-number-clause-outcome g c =
    let e : RunFault = c.in_err-number.field-0.0 in
    let h = c.args.self.now.held in
    let fits : FitsSigned w64 c.in_ok-owner.owner = search rules in
    let a : to_z w64 (of_z w64 c.in_ok-owner.owner) ≡ c.in_ok-owner.owner = to_z-of_z w64 _ fits in
    let o : subscript_value (readings h.beside.tables h.state) c.args.set.now.owner ≡ Ok c.in_ok-owner.owner =
    search rules in
    let w : c.which_at.result ≡ which_at c.args.end = search rules in
    let r : c.from_residual-in_err-number.result ≡ Err e = search rules in
    rw r (remove_end_fails h.beside.tables h.state c.args.set.now c.args.end c.args.target.now c.in_ok-owner.owner e o
    (removal_refused e _ h c.remove.new.self (rw (a, w) at c.in_err-number.ensures)).0)

pub returns-in_err-number-clause-notes : goal.returns-in_err-number-clause-notes
returns-in_err-number-clause-notes g c =
    notes_none 2 c.args.self.now.held c.remove.new.self c.args.self.now.journal
    (removal_refused c.in_err-number.field-0.0 _ c.args.self.now.held c.remove.new.self c.in_err-number.ensures).1

pub returns-clause-outcome : goal.returns-clause-outcome
returns-clause-outcome g c =
    let h = c.args.self.now.held in
    let n = c.in_ok-number.number in
    let fits : FitsSigned w64 c.in_ok-owner.owner = search rules in
    let a : to_z w64 (of_z w64 c.in_ok-owner.owner) ≡ c.in_ok-owner.owner = to_z-of_z w64 _ fits in
    let o : subscript_value (readings h.beside.tables h.state) c.args.set.now.owner ≡ Ok c.in_ok-owner.owner =
    search rules in
    let w : c.which_at.result ≡ which_at c.args.end = search rules in
    let small : n < 2 ^ 32 = search rules in
    let r = removing_is n c.in_ok-number.change _ h c.remove.new.self (rw (a, w) at c.in_ok-number.ensures) in
    let x : c.from.result ≡ pos n = c.from.ensures in
    let whole : FitsSigned w64 c.from.result = search rules in
    let b : to_z w64 (of_z w64 c.from.result) ≡ c.from.result = to_z-of_z w64 _ whole in
    remove_end_then h.beside.tables _ h.state _ c.args.set.now c.args.end c.args.target.now c.in_ok-owner.owner _ n r.0
    c.assign_target.result c.assign_target.new.self.held.state o r.1
    (counted_small n small) r.2.state r.2.tables x (rw b at c.assign_target.ensures.outcome)
