use Rattle.std.proofs.Common.{◌≡◌, ◌-◌, ℕ, min, true, false, sym, arith}
use borrow.Author.Count.{below_more}
use Rattle.ss_state.specs.declared.limits.TheConstants.{LAST_POSITION}
use Rattle.ss_machine.specs.Moment.{position}
use Rattle.ss_debug.specs.Move.{StopCondition, stops}
use Rattle.ss_debug.proofs.Moves.{least_is}
use Rattle.ss_adapter.specs.Targets.{line_condition}
use Rattle.ss_adapter.proofs.LineStops.{stops_here}
use Rattle.ss_adapter.proofs.targets.ahead_to_line.Goals as goal

pub returns-then-is_at_stop-clause-ok : goal.returns-then-is_at_stop-clause-ok
returns-then-is_at_stop-clause-ok g c =
    let m = c.args.debugger.now.machine in
    let l = c.loop-k.debugger in
    let held = c.loop-k.invariant in
    let from : c.position-from.result ≡ position m = rw c.machine-2.ensures at c.position-from.ensures in
    let most : ℕ = min c.args.bound (LAST_POSITION - position m) in
    let condition : StopCondition = line_condition m.input c.args.line in
    let here =
    stops_here m.input l.machine.input c.args.line (position m) (position l.machine) c.loop-k._k
    c.position-from.result held.input held.stepped from in
    let found : stops m.input condition (position m) c.loop-k._k ≡ true = rw here (sym c.if-is_at_stop.ensures) in
    let e =
    least_is (stops m.input condition (position m)) most c.loop-k._k (omega (arith, from)) held.went_on (λ _. found) in
    record {
      input = held.input;
      forgotten = held.forgotten;
      breaks = held.breaks;
      position = rw e held.stepped;
    }

pub loop-k-preserved : goal.loop-k-preserved
loop-k-preserved g c =
    let m = c.args.debugger.now.machine in
    let l = c.loop-k.debugger in
    let held = c.loop-k.invariant in
    let from : c.position-from.result ≡ position m = rw c.machine-2.ensures at c.position-from.ensures in
    let condition : StopCondition = line_condition m.input c.args.line in
    let gone = c.in_ok-step_once.ensures.ok in
    let here =
    stops_here m.input l.machine.input c.args.line (position m) (position l.machine) c.loop-k._k
    c.position-from.result held.input held.stepped from in
    let at_k : stops m.input condition (position m) c.loop-k._k ≡ false = rw here (sym c.if-is_at_stop.ensures) in
    record {
      input = rw gone.input held.input;
      forgotten = rw gone.forgotten held.forgotten;
      breaks = rw gone.breaks held.breaks;
      stepped = omega (arith, held.stepped, gone.position);
      went_on = λ j h.
          below_more (λ i. stops m.input condition (position m) i ≡ false) c.loop-k._k
          (λ i g. held.went_on i g) at_k j (omega arith);
    }
