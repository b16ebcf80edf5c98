use Rattle.std.proofs.Common.{◌≡◌, true, false, length, ap, arith}
use Rattle.ss_machine.specs.Moment.{position}
use Rattle.ss_events.specs.Agenda.{is_pending}
use Rattle.ss_state.specs.Run.{run}
use Rattle.ss_causes.specs.Causes.{makes_pending}
use Rattle.ss_causes.proofs.Searching.{looked_on_back, went_on, is_newest, is_none, pending_there, makes_by}
use Rattle.ss_causes.proofs.search.back_to_scheduling.Goals as goal

pub returns-then-becomes_pending-clause-found : goal.returns-then-becomes_pending-clause-found
returns-then-becomes_pending-clause-found g c =
    let m = c.args.debugger.now.machine in
    let k = c.args.notice in
    let l = c.loop-debugger.debugger in
    let u = c.step_back.new.self in
    let held = c.loop-debugger.invariant in
    let gone = c.loop-debugger-test.ensures.back in
    let same : u.machine.input ≡ m.input = rw gone.input held.gone.input in
    let state : u.machine.state ≡ run u.machine.input (position u.machine) =
    rw c.machine-in-loop-debugger.ensures at c.known-in-loop-debugger.ensures.state in
    let before : c.is_pending-before.result ≡ is_pending (run m.input (position u.machine)).agenda k =
    pending_there m.input u.machine k c.is_pending-before.result same state c.is_pending-before.ensures in
    let place : c.position.result ≡ position u.machine =
    rw c.machine-then-becomes_pending.ensures at c.position.ensures in
    rw place (is_newest (makes_pending m.input k) m.forgotten (position m) (position l.machine)
    (position u.machine) held.left gone.position (omega (arith, gone.forgotten, held.gone.forgotten))
    (makes_by m.input k (position l.machine) (position u.machine) c.is_pending-before.result c.loop-debugger.after true
    gone.position before held.pending c.if-becomes_pending.ensures))

pub loop-debugger-preserved : goal.loop-debugger-preserved
loop-debugger-preserved g c =
    let m = c.args.debugger.now.machine in
    let k = c.args.notice in
    let l = c.loop-debugger.debugger in
    let u = c.step_back.new.self in
    let held = c.loop-debugger.invariant in
    let gone = c.loop-debugger-test.ensures.back in
    let same : u.machine.input ≡ m.input = rw gone.input held.gone.input in
    let state : u.machine.state ≡ run u.machine.input (position u.machine) =
    rw c.machine-in-loop-debugger.ensures at c.known-in-loop-debugger.ensures.state in
    let before : c.is_pending-before.result ≡ is_pending (run m.input (position u.machine)).agenda k =
    pending_there m.input u.machine k c.is_pending-before.result same state c.is_pending-before.ensures in
    record {
      gone = looked_on_back c.args.debugger.now l u held.gone gone c.loop-debugger-test.ensures.breaks state;
      left =
          went_on (makes_pending m.input k) m.forgotten (position m) (position l.machine) (position u.machine)
          held.left gone.position (omega (arith, gone.forgotten, held.gone.forgotten))
          (makes_by m.input k (position l.machine) (position u.machine) c.is_pending-before.result
          c.loop-debugger.after false gone.position before held.pending c.if-becomes_pending.ensures);
      pending = before;
    }

pub returns-clause-found : goal.returns-clause-found
returns-clause-found g c =
    let m = c.args.debugger.now.machine in
    let l = c.loop-debugger.debugger in
    let held = c.loop-debugger.invariant in
    let none : length l.machine.steps ≡ 0 = ap length c.loop-debugger-test.ensures.back.0 in
    is_none (makes_pending m.input c.args.notice) m.forgotten (position m) (position l.machine) held.left
    (omega (arith, none, held.gone.forgotten))
