use Rattle.std.proofs.Common.{◌≡◌, rules, [], w64, FitsSigned, to_z, of_z, false, Err}
use Rattle.std.specs.Prelude.{int_lt}
use Rattle.std.proofs.lemmas.Int.{to_z-of_z}
use Rattle.ss_words.specs.declared.fault.StepFault.{StepFault}
use Rattle.ss_machine.proofs.Notings.{notes_none}
use Rattle.ss_machine.proofs.Executing.{refused_is, creating_is, arrival_refused, arrival_unscheduled, arrival_ends}
use Rattle.ss_machine.proofs.executor.Executor.await_arrival.Goals as goal

pub returns-in_err-notice-clause-outcome : goal.returns-in_err-notice-clause-outcome
returns-in_err-notice-clause-outcome g c =
    let e : StepFault = c.in_err-notice.field-0.0 in
    let h = c.args.self.now.held in
    let b : int_lt c.args.time h.state.clock ≡ false = search rules in
    let r : c.from_residual.result ≡ Err e = search rules in
    rw r (arrival_refused c.args.program.now h.beside.tables h.state c.args.class c.args.time e c.requires.tables b
    (refused_is e _ h c.create.new.self c.in_err-notice.ensures).0)

pub returns-in_err-notice-clause-notes : goal.returns-in_err-notice-clause-notes
returns-in_err-notice-clause-notes g c =
    notes_none 3 c.args.self.now.held c.create.new.self c.args.self.now.journal
    (refused_is c.in_err-notice.field-0.0 _ c.args.self.now.held c.create.new.self c.in_err-notice.ensures).1

pub returns-in_err-schedule_notice-clause-outcome : goal.returns-in_err-schedule_notice-clause-outcome
returns-in_err-schedule_notice-clause-outcome g c =
    let e : StepFault = c.in_err-schedule_notice.field-0.0 in
    let h = c.args.self.now.held in
    let k = c.in_ok-notice.notice in
    let b : int_lt c.args.time h.state.clock ≡ false = search rules in
    let r : c.from_residual-in_err-schedule_notice.result ≡ Err e = search rules in
    let long : FitsSigned w64 c.args.time = search rules in
    let y : to_z w64 (of_z w64 c.args.time) ≡ c.args.time = to_z-of_z w64 _ long in
    let none : c.clear.new.self.items ≡ [] = search rules in
    let s = creating_is k c.in_ok-notice.change _ h c.create.new.self c.in_ok-notice.ensures in
    rw r (arrival_unscheduled c.args.program.now h.beside.tables h.state c.create.new.self.state c.args.class k
    c.args.time c.clear.new.self.items s.0 e none c.requires.tables b s.1 s.2 s.3.state
    (rw y at c.in_err-schedule_notice.ensures.outcome))

pub returns-clause-outcome : goal.returns-clause-outcome
returns-clause-outcome g c =
    let h = c.args.self.now.held in
    let k = c.in_ok-notice.notice in
    let b : int_lt c.args.time h.state.clock ≡ false = search rules in
    let long : FitsSigned w64 c.args.time = search rules in
    let y : to_z w64 (of_z w64 c.args.time) ≡ c.args.time = to_z-of_z w64 _ long in
    let none : c.clear.new.self.items ≡ [] = search rules in
    let s = creating_is k c.in_ok-notice.change _ h c.create.new.self c.in_ok-notice.ensures in
    arrival_ends c.args.program.now h.beside.tables h.state c.create.new.self.state
    c.schedule_notice.new.self.held.state c.set_entry-change.new.self.state c.args.class k c.args.time
    c.clear.new.self.items s.0 none c.requires.tables b s.1 s.2 s.3.state
    (rw y at c.in_ok-schedule_notice.ensures.outcome) c.set_entry-change.ensures.state
