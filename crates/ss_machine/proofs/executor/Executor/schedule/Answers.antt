use Rattle.std.proofs.Common.{◌≡◌, ◌+◌, ℤ, List, Result, arith, refl, length, Ok, Err, rules, w64, FitsSigned, to_z}
use Rattle.std.proofs.Common.{of_z}
use Rattle.std.proofs.lemmas.Int.{to_z-of_z}
use Rattle.ss_words.specs.declared.fault.RunFault.{RunFault}
use Rattle.ss_words.specs.declared.fault.StepFault.TheVariants.{Fault}
use Rattle.ss_values.specs.Seen.{view_readings}
use Rattle.ss_state.specs.Readings.{readings}
use Rattle.ss_state.specs.Statements.Timing.{arguments_asked, time_asked}
use Rattle.ss_machine.proofs.Starts.{noted_same}
use Rattle.ss_state.proofs.Starts.{arguments_count}
use Rattle.ss_machine.proofs.Executing.{schedule_goes_on, schedule_untimed}
use Rattle.ss_machine.proofs.executor.Executor.schedule.Goals as goal

pub schedule_said-requires-clause-room : goal.schedule_said-requires-clause-room
schedule_said-requires-clause-room g c =
    let x = c.args.schedule.now in
    omega (
      arith,
      c.requires.room,
      arguments_count (view_readings c.view.result) x.notice x.arguments x.listing c.in_ok-named.named
          c.arguments_asked.new.arguments.items
          c.in_ok-named.ensures,
    )

pub returns-clause-notes : goal.returns-clause-notes
returns-clause-notes g c =
    let x = c.args.schedule.now in
    let m = length c.arguments_asked.new.arguments.items in
    let n = length x.arguments in
    let e : m ≡ n =
    arguments_count (view_readings c.view.result) x.notice x.arguments x.listing c.in_ok-named.named
    c.arguments_asked.new.arguments.items
    c.in_ok-named.ensures in
    noted_same (3 + m) (3 + n) c.args.self.now.held c.schedule_said.new.self.held c.schedule_said.new.self.held
    c.args.self.now.journal
    c.schedule_said.new.self.journal refl (omega (arith, e)) c.schedule_said.ensures.notes

pub returns-in_err-time-clause-outcome : goal.returns-in_err-time-clause-outcome
returns-in_err-time-clause-outcome g c =
    let h = c.args.self.now.held in
    let x = c.args.schedule.now in
    let n = c.in_ok-named.named in
    let xs = c.arguments_asked.new.arguments.items in
    let e : RunFault = c.in_err-time.field-0.0 in
    let o : ◌≡◌ {A = Result (ℤ × List ℤ) RunFault}
    (arguments_asked (readings h.beside.tables h.state) x.notice x.arguments x.listing) (Ok (n, xs)) = search rules in
    let t : time_asked (readings h.beside.tables h.state) x.when ≡ Err e = search rules in
    let r : c.from_residual-in_err-time.result ≡ Err (Fault e) = search rules in
    rw r (schedule_untimed c.args.program.now h.beside.tables h.state x n xs e c.requires.tables o t)

pub returns-clause-outcome : goal.returns-clause-outcome
returns-clause-outcome g c =
    let h = c.args.self.now.held in
    let x = c.args.schedule.now in
    let n = c.in_ok-named.named in
    let xs = c.arguments_asked.new.arguments.items in
    let time = c.in_ok-time.time in
    let fits : FitsSigned w64 n = search rules in
    let a : to_z w64 (of_z w64 n) ≡ n = to_z-of_z w64 _ fits in
    let long : FitsSigned w64 time = search rules in
    let b : to_z w64 (of_z w64 time) ≡ time = to_z-of_z w64 _ long in
    let o : ◌≡◌ {A = Result (ℤ × List ℤ) RunFault}
    (arguments_asked (readings h.beside.tables h.state) x.notice x.arguments x.listing) (Ok (n, xs)) = search rules in
    let t : time_asked (readings h.beside.tables h.state) x.when ≡ Ok time = search rules in
    schedule_goes_on c.args.program.now h.beside.tables h.state c.schedule_said.new.self.held.state x n time xs
    c.schedule_said.result c.requires.tables o t (rw (a, b) at c.schedule_said.ensures.outcome)
