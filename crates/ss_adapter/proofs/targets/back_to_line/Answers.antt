use Rattle.std.proofs.Common.{◌≡◌, ◌+◌, ℕ, Bool, true, false, length, sym, ap, arith}
use borrow.Author.Count.{below_more}
use Rattle.ss_machine.specs.Moment.{position}
use Rattle.ss_debug.specs.Move.{stops_back}
use Rattle.ss_debug.proofs.Moves.{search_back_is}
use Rattle.ss_adapter.specs.Targets.{is_on_line}
use Rattle.ss_adapter.proofs.LineStops.{stops_back_here}
use Rattle.ss_adapter.proofs.targets.back_to_line.Goals as goal

pub returns-then-is_at_back_stop : goal.returns-then-is_at_back_stop
returns-then-is_at_back_stop g c =
    let m = c.args.debugger.now.machine in
    let l = c.loop-k.debugger.machine in
    let held = c.loop-k.invariant in
    let test : ℕ → Bool = is_on_line m.input c.args.line in
    let here =
    stops_back_here m.input l.input c.args.line (position m) (position l) c.loop-k.k held.input held.stepped in
    let found : stops_back test (position m) c.loop-k.k ≡ true = rw here (sym c.if-is_at_back_stop.ensures) in
    let ends =
    search_back_is test m.forgotten (position m) c.args.bound c.loop-k.k (position l) held.stepped (omega arith)
    (omega (arith, held.forgotten)) held.went_on (λ h g. found) in
    record { input = held.input; forgotten = held.forgotten; breaks = held.breaks; position = sym ends }

pub returns-then-not-step_back : goal.returns-then-not-step_back
returns-then-not-step_back g c =
    let m = c.args.debugger.now.machine in
    let l = c.loop-k.debugger.machine in
    let held = c.loop-k.invariant in
    let test : ℕ → Bool = is_on_line m.input c.args.line in
    let none : length l.steps ≡ 0 = ap length c.if-not-step_back.ensures.back.0 in
    let ends =
    search_back_is test m.forgotten (position m) c.args.bound c.loop-k.k (position l) held.stepped (omega arith)
    (omega (arith, held.forgotten)) held.went_on (λ h g. absurd (omega (arith, none, held.forgotten))) in
    rw (c.if-not-step_back.ensures.back.1, c.if-not-step_back.ensures.breaks)
    (record { input = held.input; forgotten = held.forgotten; breaks = held.breaks; position = sym ends })

pub loop-k-preserved : goal.loop-k-preserved
loop-k-preserved g c =
    let m = c.args.debugger.now.machine in
    let l = c.loop-k.debugger.machine in
    let held = c.loop-k.invariant in
    let test : ℕ → Bool = is_on_line m.input c.args.line in
    let gone = c.if-not-step_back.ensures.back in
    let here =
    stops_back_here m.input l.input c.args.line (position m) (position l) c.loop-k.k held.input held.stepped in
    let at_k : stops_back test (position m) c.loop-k.k ≡ false = rw here (sym c.if-is_at_back_stop.ensures) in
    let back : position l ≡ position c.step_back.new.self.machine + 1 = gone.position in
    record {
      input = rw gone.input held.input;
      forgotten = rw gone.forgotten held.forgotten;
      breaks = rw c.if-not-step_back.ensures.breaks held.breaks;
      stepped = omega (arith, held.stepped, back);
      went_on = λ j h.
          below_more (λ i. stops_back test (position m) i ≡ false) c.loop-k.k
          (λ i g. held.went_on i g) at_k j (omega arith);
    }

pub returns : goal.returns
returns g c =
    let m = c.args.debugger.now.machine in
    let l = c.loop-k.debugger.machine in
    let held = c.loop-k.invariant in
    let test : ℕ → Bool = is_on_line m.input c.args.line in
    let ends =
    search_back_is test m.forgotten (position m) c.args.bound c.loop-k.k (position l) held.stepped (omega arith)
    (omega (arith, held.forgotten)) held.went_on (λ h g. absurd (omega arith)) in
    record { input = held.input; forgotten = held.forgotten; breaks = held.breaks; position = sym ends }
