use Rattle.std.proofs.Common.{◌≡◌, ◌+◌, ◌-◌, ℕ, true, false, refl, sym, ap, ◌∙◌, arith}
use Rattle.ss_machine.specs.Moment.{position}
use Rattle.ss_trace.specs.Movements.{CountedEnd}
use Rattle.ss_trace.proofs.Parts.{IsBackOver, back_over_none, back_over_unmade, back_over_on}
use Rattle.ss_trace.proofs.counted.back_over.Goals as goal

pub returns-then-not-back_over_once-clause-place : goal.returns-then-not-back_over_once-clause-place
returns-then-not-back_over_once-clause-place g c =
    let d = c.args.debugger.now in
    let t = d.machine.input in
    let l = c.loop-k.debugger in
    let held = c.loop-k.invariant in
    let p : ℕ = position l.machine in
    let q : ℕ = position c.back_over_once.new.debugger.machine in
    let gone = c.if-not-back_over_once.ensures.place in
    let one : IsBackOver l.machine.input l.machine.forgotten p c.loop-k.bound q false =
    record { ended = gone.position; made = c.if-not-back_over_once.ensures.made } in
    let whole =
    held.rest ∙ back_over_unmade t l.machine.input d.machine.forgotten l.machine.forgotten (c.args.count - c.loop-k.k)
    p c.loop-k.bound q false held.input held.forgotten (omega arith) one refl in
    record {
      input = rw gone.input held.input;
      forgotten = rw gone.forgotten held.forgotten;
      breaks = rw gone.breaks held.breaks;
      position = sym (ap (λ (x : CountedEnd). x.position) whole);
    }

pub returns-then-not-back_over_once-clause-left : goal.returns-then-not-back_over_once-clause-left
returns-then-not-back_over_once-clause-left g c =
    let d = c.args.debugger.now in
    let t = d.machine.input in
    let l = c.loop-k.debugger in
    let held = c.loop-k.invariant in
    let p : ℕ = position l.machine in
    let q : ℕ = position c.back_over_once.new.debugger.machine in
    let gone = c.if-not-back_over_once.ensures.place in
    let one : IsBackOver l.machine.input l.machine.forgotten p c.loop-k.bound q false =
    record { ended = gone.position; made = c.if-not-back_over_once.ensures.made } in
    let whole =
    held.rest ∙ back_over_unmade t l.machine.input d.machine.forgotten l.machine.forgotten (c.args.count - c.loop-k.k)
    p c.loop-k.bound q false held.input held.forgotten (omega arith) one refl in
    sym (ap (λ (x : CountedEnd). x.left) whole)

pub loop-k-preserved : goal.loop-k-preserved
loop-k-preserved g c =
    let d = c.args.debugger.now in
    let t = d.machine.input in
    let l = c.loop-k.debugger in
    let held = c.loop-k.invariant in
    let p : ℕ = position l.machine in
    let q : ℕ = position c.back_over_once.new.debugger.machine in
    let gone = c.if-not-back_over_once.ensures.place in
    let one : IsBackOver l.machine.input l.machine.forgotten p c.loop-k.bound q true =
    record { ended = gone.position; made = c.if-not-back_over_once.ensures.made } in
    let from : c.position-from.result ≡ p = rw c.machine.ensures at c.position-from.ensures in
    let to : c.position.result ≡ q = rw c.machine-in-loop-k.ensures at c.position.ensures in
    let whole =
    held.rest ∙ back_over_on t l.machine.input d.machine.forgotten l.machine.forgotten
    (c.args.count - (c.loop-k.k + 1)) (c.args.count - c.loop-k.k) p c.loop-k.bound q true held.input held.forgotten
    (omega arith) one refl in
    record {
      input = rw gone.input held.input;
      forgotten = rw gone.forgotten held.forgotten;
      breaks = rw gone.breaks held.breaks;
      rest = rw (from, to) whole;
    }

pub returns-clause-place : goal.returns-clause-place
returns-clause-place g c =
    let d = c.args.debugger.now in
    let t = d.machine.input in
    let l = c.loop-k.debugger in
    let held = c.loop-k.invariant in
    let whole =
    held.rest ∙ back_over_none t d.machine.forgotten (c.args.count - c.loop-k.k) (position l.machine)
    c.loop-k.bound (omega arith) in
    record {
      input = held.input;
      forgotten = held.forgotten;
      breaks = held.breaks;
      position = sym (ap (λ (x : CountedEnd). x.position) whole);
    }

pub returns-clause-left : goal.returns-clause-left
returns-clause-left g c =
    let d = c.args.debugger.now in
    let t = d.machine.input in
    let l = c.loop-k.debugger in
    let held = c.loop-k.invariant in
    let whole =
    held.rest ∙ back_over_none t d.machine.forgotten (c.args.count - c.loop-k.k) (position l.machine)
    c.loop-k.bound (omega arith) in
    sym (ap (λ (x : CountedEnd). x.left) whole)
