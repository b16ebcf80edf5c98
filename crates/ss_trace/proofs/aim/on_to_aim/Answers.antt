use Rattle.std.proofs.Common.{◌≡◌, ℕ, Bool, true, false, sym, ◌∙◌, arith, rules}
use Rattle.ss_machine.specs.Moment.{position}
use Rattle.ss_debug.specs.Move.{is_ready_at}
use Rattle.ss_trace.proofs.Refusals.{on_err, on_any}
use Rattle.ss_trace.proofs.Firsts.{ends_first, ends_later, stops_unready, stops_met}
use Rattle.ss_trace.proofs.aim.on_to_aim.Goals as goal

pub returns-then-not-is_ready_now-clause-ok : goal.returns-then-not-is_ready_now-clause-ok
returns-then-not-is_ready_now-clause-ok g c =
    let m = c.args.debugger.now.machine in
    let l = c.loop-k.debugger.machine in
    let held = c.loop-k.invariant in
    let from : c.position-steps.result ≡ position m = rw c.machine-2.ensures at c.position-steps.ensures in
    let test : ℕ → Bool = g.A.Aim.test c.args.aim.now m.input in
    let unready : false ≡ is_ready_at m.input (position l) = rw held.input at c.if-not-is_ready_now.ensures in
    record {
      input = held.input;
      forgotten = held.forgotten;
      breaks = held.breaks;
      position = ends_first m.input test (position m) (position l) c.loop-k._k held.stepped (omega (arith, from))
          held.went_on (λ _. stops_unready m.input test (position l) unready);
    }

pub returns-in_err-is_met-clause-memory : goal.returns-in_err-is_met-clause-memory
returns-in_err-is_met-clause-memory g c =
    let m = c.args.debugger.now.machine in
    let l = c.loop-k.debugger.machine in
    let held = c.loop-k.invariant in
    let from : c.position-steps.result ≡ position m = rw c.machine-2.ensures at c.position-steps.ensures in
    let test : ℕ → Bool = g.A.Aim.test c.args.aim.now m.input in
    on_err c.from_residual.result (record {
      input = held.input;
      forgotten = held.forgotten;
      breaks = held.breaks;
      no_earlier = omega (arith, held.stepped);
      no_later = ends_later m.input test (position m) (position l) c.loop-k._k held.stepped (omega (arith, from))
          held.went_on;
    })

pub returns-then-branch-clause-ok : goal.returns-then-branch-clause-ok
returns-then-branch-clause-ok g c =
    let m = c.args.debugger.now.machine in
    let l = c.loop-k.debugger.machine in
    let held = c.loop-k.invariant in
    let from : c.position-steps.result ≡ position m = rw c.machine-2.ensures at c.position-steps.ensures in
    let test : ℕ → Bool = g.A.Aim.test c.args.aim.now m.input in
    let told : c.in_ok-is_met.field-0 ≡ test (position l) = rw held.input at c.in_ok-is_met.ensures in
    let yes : test (position l) ≡ true = sym told ∙ c.if-branch.true in
    record {
      input = held.input;
      forgotten = held.forgotten;
      breaks = held.breaks;
      position = ends_first m.input test (position m) (position l) c.loop-k._k held.stepped (omega (arith, from))
          held.went_on (λ _. stops_met m.input test (position l) yes);
    }

pub returns-in_err-step_once-clause-memory : goal.returns-in_err-step_once-clause-memory
returns-in_err-step_once-clause-memory g c =
    let m = c.args.debugger.now.machine in
    let l = c.loop-k.debugger.machine in
    let held = c.loop-k.invariant in
    let from : c.position-steps.result ≡ position m = rw c.machine-2.ensures at c.position-steps.ensures in
    let test : ℕ → Bool = g.A.Aim.test c.args.aim.now m.input in
    let same : c.step_once.new.debugger ≡ c.loop-k.debugger = search rules in
    rw (same)
    (on_err c.from_residual-in_err-step_once.result (record {
      input = held.input;
      forgotten = held.forgotten;
      breaks = held.breaks;
      no_earlier = omega (arith, held.stepped);
      no_later = ends_later m.input test (position m) (position l) c.loop-k._k held.stepped (omega (arith, from))
          held.went_on;
    }))

pub returns-then-not-is_ready_now-2-clause-ok : goal.returns-then-not-is_ready_now-2-clause-ok
returns-then-not-is_ready_now-2-clause-ok g c =
    let m = c.args.debugger.now.machine in
    let l = c.loop-k.debugger.machine in
    let held = c.loop-k.invariant in
    let from : c.position-steps.result ≡ position m = rw c.machine-2.ensures at c.position-steps.ensures in
    let test : ℕ → Bool = g.A.Aim.test c.args.aim.now m.input in
    record {
      input = held.input;
      forgotten = held.forgotten;
      breaks = held.breaks;
      position = ends_first m.input test (position m) (position l) c.loop-k._k held.stepped (omega (arith, from))
          held.went_on (λ h. absurd (omega (arith, from, h)));
    }

pub returns-clause-ok : goal.returns-clause-ok
returns-clause-ok g c =
    let m = c.args.debugger.now.machine in
    let l = c.loop-k.debugger.machine in
    let held = c.loop-k.invariant in
    let from : c.position-steps.result ≡ position m = rw c.machine-2.ensures at c.position-steps.ensures in
    let test : ℕ → Bool = g.A.Aim.test c.args.aim.now m.input in
    on_any c.is_met-2.result (record {
      input = held.input;
      forgotten = held.forgotten;
      breaks = held.breaks;
      position = ends_first m.input test (position m) (position l) c.loop-k._k held.stepped (omega (arith, from))
          held.went_on (λ h. absurd (omega (arith, from, h)));
    })

pub returns-clause-memory : goal.returns-clause-memory
returns-clause-memory g c =
    let m = c.args.debugger.now.machine in
    let l = c.loop-k.debugger.machine in
    let held = c.loop-k.invariant in
    let from : c.position-steps.result ≡ position m = rw c.machine-2.ensures at c.position-steps.ensures in
    let test : ℕ → Bool = g.A.Aim.test c.args.aim.now m.input in
    on_err c.is_met-2.result (record {
      input = held.input;
      forgotten = held.forgotten;
      breaks = held.breaks;
      no_earlier = omega (arith, held.stepped);
      no_later = ends_later m.input test (position m) (position l) c.loop-k._k held.stepped (omega (arith, from))
          held.went_on;
    })
