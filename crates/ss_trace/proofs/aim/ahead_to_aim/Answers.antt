use Rattle.std.proofs.Common.{◌≡◌, ◌+◌, ◌-◌, ℕ, min, Bool, true, false, sym, ◌∙◌, arith, rules}
use borrow.Author.Count.{below_more}
use Rattle.ss_state.specs.declared.limits.TheConstants.{LAST_POSITION}
use Rattle.ss_machine.specs.Moment.{position}
use Rattle.ss_debug.specs.Move.{StopCondition, stops}
use Rattle.ss_debug.proofs.Moves.{least_is, least_at_least}
use Rattle.ss_trace.specs.Movements.{ahead_condition}
use Rattle.ss_trace.proofs.Refusals.{on_err}
use Rattle.ss_trace.proofs.Changes.{stops_here, met_later}
use Rattle.ss_trace.proofs.aim.ahead_to_aim.Goals as goal

pub returns-then-is_at_stop-clause-ok : goal.returns-then-is_at_stop-clause-ok
returns-then-is_at_stop-clause-ok g c =
    let d = c.args.debugger.now in
    let m = d.machine in
    let l = c.loop-k.debugger in
    let held = c.loop-k.invariant in
    let from : c.position-from.result ≡ position m = rw c.machine-2.ensures at c.position-from.ensures in
    let most : ℕ = min c.args.bound (LAST_POSITION - position m) in
    let test : ℕ → Bool = g.A.Aim.test c.args.aim.now m.input in
    let condition : StopCondition = ahead_condition m.input d.breaks test in
    let found : stops m.input condition (position m) c.loop-k._k ≡ true =
    stops_here m.input l.machine.input d.breaks l.breaks test (position m) (position l.machine) c.loop-k._k
    c.position-from.result true held.input held.breaks held.stepped from
    (c.if-is_at_stop.ensures test (rw from held.met)) in
    let e =
    least_is (stops m.input condition (position m)) most c.loop-k._k (omega (arith, from)) held.went_on (λ _. found) in
    record {
      input = held.input;
      forgotten = held.forgotten;
      breaks = held.breaks;
      position = rw e held.stepped;
    }

pub returns-in_err-step_once-clause-memory : goal.returns-in_err-step_once-clause-memory
returns-in_err-step_once-clause-memory g c =
    let d = c.args.debugger.now in
    let m = d.machine in
    let held = c.loop-k.invariant in
    let from : c.position-from.result ≡ position m = rw c.machine-2.ensures at c.position-from.ensures in
    let most : ℕ = min c.args.bound (LAST_POSITION - position m) in
    let test : ℕ → Bool = g.A.Aim.test c.args.aim.now m.input in
    let condition : StopCondition = ahead_condition m.input d.breaks test in
    let low =
    least_at_least (stops m.input condition (position m)) most c.loop-k._k (omega (arith, from)) held.went_on in
    let same : c.step_once.new.debugger ≡ c.loop-k.debugger = search rules in
    rw (same)
    (on_err c.from_residual.result (record {
      input = held.input;
      forgotten = held.forgotten;
      breaks = held.breaks;
      no_earlier = omega (arith, held.stepped);
      no_later = omega (arith, held.stepped, low);
    }))

pub returns-in_err-met-clause-memory : goal.returns-in_err-met-clause-memory
returns-in_err-met-clause-memory g c =
    let d = c.args.debugger.now in
    let m = d.machine in
    let l = c.loop-k.debugger in
    let held = c.loop-k.invariant in
    let gone = c.in_ok-step_once.ensures.ok in
    let from : c.position-from.result ≡ position m = rw c.machine-2.ensures at c.position-from.ensures in
    let most : ℕ = min c.args.bound (LAST_POSITION - position m) in
    let test : ℕ → Bool = g.A.Aim.test c.args.aim.now m.input in
    let condition : StopCondition = ahead_condition m.input d.breaks test in
    let at_k : stops m.input condition (position m) c.loop-k._k ≡ false =
    stops_here m.input l.machine.input d.breaks l.breaks test (position m) (position l.machine) c.loop-k._k
    c.position-from.result false held.input held.breaks held.stepped from
    (c.if-is_at_stop.ensures test (rw from held.met)) in
    let low =
    least_at_least (stops m.input condition (position m)) most (c.loop-k._k + 1) (omega (arith, from)) (λ j h.
    below_more (λ i. stops m.input condition (position m) i ≡ false) c.loop-k._k
    (λ i g. held.went_on i g) at_k j (omega arith)) in
    on_err c.from_residual-in_err-met.result (record {
      input = rw gone.input held.input;
      forgotten = rw gone.forgotten held.forgotten;
      breaks = rw gone.breaks held.breaks;
      no_earlier = omega (arith, held.stepped, gone.position);
      no_later = omega (arith, held.stepped, gone.position, low);
    })

pub loop-k-preserved : goal.loop-k-preserved
loop-k-preserved g c =
    let d = c.args.debugger.now in
    let m = d.machine in
    let l = c.loop-k.debugger in
    let u = c.step_once.new.debugger.machine in
    let held = c.loop-k.invariant in
    let from : c.position-from.result ≡ position m = rw c.machine-2.ensures at c.position-from.ensures in
    let test : ℕ → Bool = g.A.Aim.test c.args.aim.now m.input in
    let condition : StopCondition = ahead_condition m.input d.breaks test in
    let gone = c.in_ok-step_once.ensures.ok in
    let at_k : stops m.input condition (position m) c.loop-k._k ≡ false =
    stops_here m.input l.machine.input d.breaks l.breaks test (position m) (position l.machine) c.loop-k._k
    c.position-from.result false held.input held.breaks held.stepped from
    (c.if-is_at_stop.ensures test (rw from held.met)) in
    let told : c.in_ok-met.met ≡ test (position u) = rw (gone.input, held.input) at c.in_ok-met.ensures in
    record {
      input = rw gone.input held.input;
      forgotten = rw gone.forgotten held.forgotten;
      breaks = rw gone.breaks held.breaks;
      stepped = omega (arith, held.stepped, gone.position);
      met =
          told
          ∙ sym (met_later test (position m) (position u) (omega (arith, held.stepped, gone.position)));
      went_on = λ j h.
          below_more (λ i. stops m.input condition (position m) i ≡ false) c.loop-k._k
          (λ i g. held.went_on i g) at_k j (omega arith);
    }

pub returns-clause-ok : goal.returns-clause-ok
returns-clause-ok g c =
    let d = c.args.debugger.now in
    let m = d.machine in
    let held = c.loop-k.invariant in
    let from : c.position-from.result ≡ position m = rw c.machine-2.ensures at c.position-from.ensures in
    let most : ℕ = min c.args.bound (LAST_POSITION - position m) in
    let test : ℕ → Bool = g.A.Aim.test c.args.aim.now m.input in
    let condition : StopCondition = ahead_condition m.input d.breaks test in
    let e =
    least_is (stops m.input condition (position m)) most c.loop-k._k (omega (arith, from)) held.went_on
    (λ h. absurd (omega (arith, from, h))) in
    record {
      input = held.input;
      forgotten = held.forgotten;
      breaks = held.breaks;
      position = rw e held.stepped;
    }
