use Rattle.std.proofs.Common.{◌≡◌, rules, ap, sym, ◌∙◌, w64, FitsSigned, to_z, of_z, false, Ok, Err}
use Rattle.std.proofs.lemmas.Int.{to_z-of_z}
use Rattle.ss_words.specs.declared.fault.RunFault.{RunFault}
use Rattle.ss_state.specs.State.{State}
use Rattle.ss_state.specs.Held.{Held}
use Rattle.ss_machine.proofs.Notings.{notes_none}
use Rattle.ss_machine.proofs.Storings.{refusal_is, storing_is}
use Rattle.ss_machine.proofs.Executing.{unsaved, stored_alone}
use Rattle.ss_machine.proofs.executor.Executor.end_unless_saved.Goals as goal

pub returns-in_err-change-clause-outcome : goal.returns-in_err-change-clause-outcome
returns-in_err-change-clause-outcome g c =
    let e : RunFault = c.in_err-change.field-0.0 in
    let h = c.args.self.now.held in
    let b : c.args.saving ≡ false = search rules in
    let whole : FitsSigned w64 c.from.result = search rules in
    let z : to_z w64 (of_z w64 c.from.result) ≡ c.from.result = to_z-of_z w64 _ whole in
    let r : c.from_residual.result ≡ Err e = search rules in
    rw r (unsaved h.beside.tables h.state.store c.args.class c.args.notice c.from.result c.args.saving (Err e) b
    c.from.ensures (refusal_is e _ h c.destroy.new.self (rw z at c.in_err-change.ensures)).0)

pub returns-in_err-change-clause-notes : goal.returns-in_err-change-clause-notes
returns-in_err-change-clause-notes g c =
    notes_none 1 c.args.self.now.held c.destroy.new.self c.args.self.now.journal
    (refusal_is c.in_err-change.field-0.0 _ c.args.self.now.held c.destroy.new.self c.in_err-change.ensures).1

pub returns-in_err-change-clause-rest : goal.returns-in_err-change-clause-rest
returns-in_err-change-clause-rest g c =
    stored_alone c.args.self.now.held.state c.destroy.new.self.state c.args.self.now.held.state.store
    (ap (λ (h : Held). h.state) (refusal_is c.in_err-change.field-0.0 _ c.args.self.now.held c.destroy.new.self
    c.in_err-change.ensures).1)

pub returns-in_ok-change-clause-outcome : goal.returns-in_ok-change-clause-outcome
returns-in_ok-change-clause-outcome g c =
    let h = c.args.self.now.held in
    let b : c.args.saving ≡ false = search rules in
    let whole : FitsSigned w64 c.from.result = search rules in
    let z : to_z w64 (of_z w64 c.from.result) ≡ c.from.result = to_z-of_z w64 _ whole in
    let s = storing_is c.in_ok-change.change _ h c.destroy.new.self (rw z at c.in_ok-change.ensures) in
    unsaved h.beside.tables h.state.store c.args.class c.args.notice c.from.result c.args.saving
    (Ok c.destroy.new.self.state.store) b c.from.ensures (s.1 ∙ ap (λ (u : State). Ok u.store) (sym s.2.state))

pub returns-in_ok-change-clause-rest : goal.returns-in_ok-change-clause-rest
returns-in_ok-change-clause-rest g c =
    let h = c.args.self.now.held in
    let s = storing_is c.in_ok-change.change _ h c.destroy.new.self c.in_ok-change.ensures in
    stored_alone h.state c.destroy.new.self.state s.0 s.2.state
