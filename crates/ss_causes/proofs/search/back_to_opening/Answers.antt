use Rattle.std.proofs.Common.{◌≡◌, ◌+◌, ℕ, Bool, length, ap, arith}
use Rattle.ss_machine.specs.Moment.{position}
use Rattle.ss_state.specs.Run.{run}
use Rattle.ss_trace.specs.Movements.{frames_at, is_outside}
use Rattle.ss_causes.proofs.Searching.{looked_on_back, went_on, is_newest, is_none}
use Rattle.ss_causes.proofs.Asking.{frames_are, is_less, is_no_less}
use Rattle.ss_causes.proofs.search.back_to_opening.Goals as goal

pub returns-then-frames-clause-found : goal.returns-then-frames-clause-found
returns-then-frames-clause-found g c =
    let m = c.args.debugger.now.machine in
    let l = c.loop-debugger.debugger in
    let u = c.step_back.new.self in
    let held = c.loop-debugger.invariant in
    let gone = c.loop-debugger-test.ensures.back in
    let test : ℕ → Bool = is_outside m.input c.args.frames in
    let same : u.machine.input ≡ m.input = rw gone.input held.gone.input in
    let state : u.machine.state ≡ run u.machine.input (position u.machine) =
    rw c.machine-machine.ensures at c.known.ensures.state in
    let count : c.frames.result ≡ 1 + length u.machine.state.below =
    rw c.machine-machine.ensures at c.frames.ensures in
    let frames : c.frames.result ≡ frames_at m.input (position u.machine) =
    frames_are m.input u.machine c.frames.result same state count in
    let place : c.position.result ≡ position u.machine = rw c.machine-machine.ensures at c.position.ensures in
    rw place (is_newest test m.forgotten (position m) (position l.machine) (position u.machine) held.left
    gone.position (omega (arith, gone.forgotten, held.gone.forgotten))
    (is_less m.input c.frames.result c.args.frames (position u.machine) frames c.if-frames.true))

pub loop-debugger-preserved : goal.loop-debugger-preserved
loop-debugger-preserved g c =
    let m = c.args.debugger.now.machine in
    let l = c.loop-debugger.debugger in
    let u = c.step_back.new.self in
    let held = c.loop-debugger.invariant in
    let gone = c.loop-debugger-test.ensures.back in
    let test : ℕ → Bool = is_outside m.input c.args.frames in
    let same : u.machine.input ≡ m.input = rw gone.input held.gone.input in
    let state : u.machine.state ≡ run u.machine.input (position u.machine) =
    rw c.machine-machine.ensures at c.known.ensures.state in
    let count : c.frames.result ≡ 1 + length u.machine.state.below =
    rw c.machine-machine.ensures at c.frames.ensures in
    let frames : c.frames.result ≡ frames_at m.input (position u.machine) =
    frames_are m.input u.machine c.frames.result same state count in
    record {
      gone = looked_on_back c.args.debugger.now l u held.gone gone c.loop-debugger-test.ensures.breaks state;
      left =
          went_on test m.forgotten (position m) (position l.machine) (position u.machine) held.left gone.position
          (omega (arith, gone.forgotten, held.gone.forgotten))
          (is_no_less m.input c.frames.result c.args.frames (position u.machine) frames c.if-frames.false);
    }

pub returns-clause-found : goal.returns-clause-found
returns-clause-found g c =
    let m = c.args.debugger.now.machine in
    let l = c.loop-debugger.debugger in
    let held = c.loop-debugger.invariant in
    let none : length l.machine.steps ≡ 0 = ap length c.loop-debugger-test.ensures.back.0 in
    is_none (is_outside m.input c.args.frames) m.forgotten (position m) (position l.machine) held.left
    (omega (arith, none, held.gone.forgotten))
