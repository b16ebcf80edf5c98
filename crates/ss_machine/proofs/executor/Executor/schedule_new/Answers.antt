use Rattle.std.proofs.Common.{◌≡◌, ◌+◌, ◌<◌, ◌^◌, rules, length, ◌∙◌, w64, FitsSigned, to_z, of_z, false, Ok, Err}
use Rattle.std.specs.Prelude.{int_lt}
use Rattle.std.proofs.lemmas.Int.{to_z-of_z}
use Rattle.ss_words.specs.declared.fault.RunFault.{RunFault}
use Rattle.ss_words.specs.declared.fault.StepFault.{StepFault}
use Rattle.ss_words.specs.declared.fault.StepFault.TheVariants.{Fault}
use Rattle.ss_machine.proofs.Notings.{notes_none}
use Rattle.ss_machine.proofs.Storings.{counted_small}
use Rattle.ss_machine.proofs.Executing.{refused_is, creating_is, new_refused, new_unscheduled, new_assigned}
use Rattle.ss_machine.proofs.executor.Executor.schedule_new.Goals as goal

pub returns-in_err-notice-clause-outcome : goal.returns-in_err-notice-clause-outcome
returns-in_err-notice-clause-outcome g c =
    let e : StepFault = c.in_err-notice.field-0.0 in
    let h = c.args.self.now.held in
    let b : int_lt c.args.time h.state.clock ≡ false = search rules in
    let r : c.from_residual.result ≡ Err e = search rules in
    rw r (new_refused c.args.program.now h.beside.tables h.state c.args.class c.args.target.now c.args.time
    c.args.self.now.values.items e c.requires.tables b (refused_is e _ h c.create.new.self c.in_err-notice.ensures).0)

pub returns-in_err-notice-clause-notes : goal.returns-in_err-notice-clause-notes
returns-in_err-notice-clause-notes g c =
    notes_none (3 + length c.args.self.now.values.items) c.args.self.now.held c.create.new.self c.args.self.now.journal
    (refused_is c.in_err-notice.field-0.0 _ c.args.self.now.held c.create.new.self c.in_err-notice.ensures).1

pub returns-in_err-schedule_notice-clause-outcome : goal.returns-in_err-schedule_notice-clause-outcome
returns-in_err-schedule_notice-clause-outcome g c =
    let e : StepFault = c.in_err-schedule_notice.field-0.0 in
    let h = c.args.self.now.held in
    let k = c.in_ok-notice.notice in
    let b : int_lt c.args.time h.state.clock ≡ false = search rules in
    let r : c.from_residual-in_err-schedule_notice.result ≡ Err e = search rules in
    let long : FitsSigned w64 c.args.time = search rules in
    let y : to_z w64 (of_z w64 c.args.time) ≡ c.args.time = to_z-of_z w64 _ long in
    let s = creating_is k c.in_ok-notice.change _ h c.create.new.self c.in_ok-notice.ensures in
    rw r (new_unscheduled c.args.program.now h.beside.tables h.state c.create.new.self.state c.args.class k
    c.args.target.now c.args.time c.args.self.now.values.items s.0 e c.requires.tables b s.1 s.2 s.3.state
    (rw y at c.in_err-schedule_notice.ensures.outcome))

pub returns-clause-outcome : goal.returns-clause-outcome
returns-clause-outcome g c =
    let h = c.args.self.now.held in
    let k = c.in_ok-notice.notice in
    let b : int_lt c.args.time h.state.clock ≡ false = search rules in
    let long : FitsSigned w64 c.args.time = search rules in
    let y : to_z w64 (of_z w64 c.args.time) ≡ c.args.time = to_z-of_z w64 _ long in
    let small : k < 2 ^ 32 = search rules in
    let whole : FitsSigned w64 c.from.result = search rules in
    let z : to_z w64 (of_z w64 c.from.result) ≡ c.from.result = to_z-of_z w64 _ whole in
    let s = creating_is k c.in_ok-notice.change _ h c.create.new.self c.in_ok-notice.ensures in
    new_assigned c.args.program.now h.beside.tables c.schedule_notice.new.self.held.beside.tables h.state
    c.create.new.self.state c.schedule_notice.new.self.held.state c.args.class k c.args.target.now c.args.time
    c.from.result c.args.self.now.values.items s.0 (Ok c.assign_target.new.self.held.state) c.requires.tables b s.1
    s.2 s.3.state (rw y at c.in_ok-schedule_notice.ensures.outcome) (counted_small k small)
    (c.schedule_notice.ensures.tables ∙ s.3.tables) c.from.ensures (rw z at c.in_ok-assign_target.ensures.outcome)

pub returns-in_err-assign_target-clause-outcome : goal.returns-in_err-assign_target-clause-outcome
returns-in_err-assign_target-clause-outcome g c =
    let e : RunFault = c.in_err-assign_target.field-0.0 in
    let h = c.args.self.now.held in
    let k = c.in_ok-notice.notice in
    let b : int_lt c.args.time h.state.clock ≡ false = search rules in
    let r : c.from_residual-in_err-assign_target.result ≡ Err (Fault e) = search rules in
    let long : FitsSigned w64 c.args.time = search rules in
    let y : to_z w64 (of_z w64 c.args.time) ≡ c.args.time = to_z-of_z w64 _ long in
    let small : k < 2 ^ 32 = search rules in
    let whole : FitsSigned w64 c.from.result = search rules in
    let z : to_z w64 (of_z w64 c.from.result) ≡ c.from.result = to_z-of_z w64 _ whole in
    let s = creating_is k c.in_ok-notice.change _ h c.create.new.self c.in_ok-notice.ensures in
    rw r (new_assigned c.args.program.now h.beside.tables c.schedule_notice.new.self.held.beside.tables h.state
    c.create.new.self.state c.schedule_notice.new.self.held.state c.args.class k c.args.target.now c.args.time
    c.from.result c.args.self.now.values.items s.0 (Err e) c.requires.tables b s.1 s.2 s.3.state
    (rw y at c.in_ok-schedule_notice.ensures.outcome) (counted_small k small)
    (c.schedule_notice.ensures.tables ∙ s.3.tables) c.from.ensures (rw z at c.in_err-assign_target.ensures.outcome))
