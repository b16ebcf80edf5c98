use Rattle.std.proofs.Common.{◌≡◌, ◌+◌, ◌-◌, ℕ, sym, ap, ◌∙◌, arith}
use Rattle.ss_machine.specs.Moment.{position}
use Rattle.ss_trace.specs.Movements.{CountedEnd}
use Rattle.ss_trace.proofs.Parts.{IsOver, over_none, over_unmade, over_at_break, over_on, over_first}
use Rattle.ss_trace.proofs.Refusals.{on_err}
use Rattle.ss_trace.proofs.counted.over.Goals as goal

pub returns-then-not-made-clause-ok : goal.returns-then-not-made-clause-ok
returns-then-not-made-clause-ok g c =
    let d = c.args.debugger.now in
    let t = d.machine.input in
    let l = c.loop-k.debugger in
    let held = c.loop-k.invariant in
    let p : ℕ = position l.machine in
    let q : ℕ = position c.over_once.new.debugger.machine in
    let gone = c.in_ok-made.ensures.ok in
    let one : IsOver l.machine.input l.breaks p c.loop-k.bound q c.in_ok-made.made =
    record { ended = gone.position; made = c.in_ok-made.ensures.made } in
    let whole =
    held.rest ∙ over_unmade t l.machine.input d.breaks l.breaks (c.args.count - c.loop-k.k) p c.loop-k.bound q
    c.in_ok-made.made held.input held.breaks (omega arith) one c.if-not-made.true in
    record {
      input = rw gone.input held.input;
      forgotten = rw gone.forgotten held.forgotten;
      breaks = rw gone.breaks held.breaks;
      position = sym (ap (λ (x : CountedEnd). x.position) whole);
    }

pub returns-then-not-made-clause-left : goal.returns-then-not-made-clause-left
returns-then-not-made-clause-left g c =
    let d = c.args.debugger.now in
    let t = d.machine.input in
    let l = c.loop-k.debugger in
    let held = c.loop-k.invariant in
    let p : ℕ = position l.machine in
    let q : ℕ = position c.over_once.new.debugger.machine in
    let gone = c.in_ok-made.ensures.ok in
    let one : IsOver l.machine.input l.breaks p c.loop-k.bound q c.in_ok-made.made =
    record { ended = gone.position; made = c.in_ok-made.ensures.made } in
    let whole =
    held.rest ∙ over_unmade t l.machine.input d.breaks l.breaks (c.args.count - c.loop-k.k) p c.loop-k.bound q
    c.in_ok-made.made held.input held.breaks (omega arith) one c.if-not-made.true in
    sym (ap (λ (x : CountedEnd). x.left) whole)

pub returns-then-stands_on_break-clause-ok : goal.returns-then-stands_on_break-clause-ok
returns-then-stands_on_break-clause-ok g c =
    let d = c.args.debugger.now in
    let t = d.machine.input in
    let l = c.loop-k.debugger in
    let held = c.loop-k.invariant in
    let p : ℕ = position l.machine in
    let q : ℕ = position c.over_once.new.debugger.machine in
    let gone = c.in_ok-made.ensures.ok in
    let one : IsOver l.machine.input l.breaks p c.loop-k.bound q c.in_ok-made.made =
    record { ended = gone.position; made = c.in_ok-made.ensures.made } in
    let on_break = rw (gone.input, gone.breaks) at c.if-stands_on_break.ensures in
    let whole =
    held.rest ∙ over_at_break t l.machine.input d.breaks l.breaks (c.args.count - c.loop-k.k - 1)
    (c.args.count - c.loop-k.k) p c.loop-k.bound q c.in_ok-made.made held.input held.breaks (omega arith) one
    c.if-not-made.false (sym on_break) in
    record {
      input = rw gone.input held.input;
      forgotten = rw gone.forgotten held.forgotten;
      breaks = rw gone.breaks held.breaks;
      position = sym (ap (λ (x : CountedEnd). x.position) whole);
    }

pub returns-then-stands_on_break-clause-left : goal.returns-then-stands_on_break-clause-left
returns-then-stands_on_break-clause-left g c =
    let d = c.args.debugger.now in
    let t = d.machine.input in
    let l = c.loop-k.debugger in
    let held = c.loop-k.invariant in
    let p : ℕ = position l.machine in
    let q : ℕ = position c.over_once.new.debugger.machine in
    let gone = c.in_ok-made.ensures.ok in
    let one : IsOver l.machine.input l.breaks p c.loop-k.bound q c.in_ok-made.made =
    record { ended = gone.position; made = c.in_ok-made.ensures.made } in
    let on_break = rw (gone.input, gone.breaks) at c.if-stands_on_break.ensures in
    let whole =
    held.rest ∙ over_at_break t l.machine.input d.breaks l.breaks (c.args.count - c.loop-k.k - 1)
    (c.args.count - c.loop-k.k) p c.loop-k.bound q c.in_ok-made.made held.input held.breaks (omega arith) one
    c.if-not-made.false (sym on_break) in
    sym (ap (λ (x : CountedEnd). x.left) whole)

pub returns-in_err-made-clause-memory : goal.returns-in_err-made-clause-memory
returns-in_err-made-clause-memory g c =
    let d = c.args.debugger.now in
    let t = d.machine.input in
    let l = c.loop-k.debugger in
    let held = c.loop-k.invariant in
    let p : ℕ = position l.machine in
    let gone = c.in_err-made.ensures.memory in
    let late =
    over_first t l.machine.input d.breaks l.breaks (c.args.count - c.loop-k.k) p c.loop-k.bound
    (position c.over_once.new.debugger.machine) held.input held.breaks (omega arith) gone.no_later in
    let whole = ap (λ (x : CountedEnd). x.position) held.rest in
    on_err c.from_residual.result (record {
      input = rw gone.input held.input;
      forgotten = rw gone.forgotten held.forgotten;
      breaks = rw gone.breaks held.breaks;
      no_earlier = omega (arith, held.low, gone.no_earlier);
      no_later = omega (arith, late, whole);
    })

pub loop-k-preserved : goal.loop-k-preserved
loop-k-preserved g c =
    let d = c.args.debugger.now in
    let t = d.machine.input in
    let l = c.loop-k.debugger in
    let held = c.loop-k.invariant in
    let p : ℕ = position l.machine in
    let q : ℕ = position c.over_once.new.debugger.machine in
    let gone = c.in_ok-made.ensures.ok in
    let one : IsOver l.machine.input l.breaks p c.loop-k.bound q c.in_ok-made.made =
    record { ended = gone.position; made = c.in_ok-made.ensures.made } in
    let on_break = rw (gone.input, gone.breaks) at c.if-stands_on_break.ensures in
    let within = c.in_ok-made.ensures.within in
    let from : c.position-from.result ≡ p = rw c.machine.ensures at c.position-from.ensures in
    let to : c.position.result ≡ q = rw c.machine-in-loop-k.ensures at c.position.ensures in
    let whole =
    held.rest ∙ over_on t l.machine.input d.breaks l.breaks (c.args.count - (c.loop-k.k + 1))
    (c.args.count - c.loop-k.k) p c.loop-k.bound q c.in_ok-made.made held.input held.breaks (omega arith) one
    c.if-not-made.false (sym on_break) in
    record {
      input = rw gone.input held.input;
      forgotten = rw gone.forgotten held.forgotten;
      breaks = rw gone.breaks held.breaks;
      low = omega (arith, held.low, within.0);
      rest = rw (from, to) whole;
    }

pub returns-clause-ok : goal.returns-clause-ok
returns-clause-ok g c =
    let d = c.args.debugger.now in
    let t = d.machine.input in
    let l = c.loop-k.debugger in
    let held = c.loop-k.invariant in
    let whole =
    held.rest ∙ over_none t d.breaks (c.args.count - c.loop-k.k) (position l.machine) c.loop-k.bound (omega arith) in
    record {
      input = held.input;
      forgotten = held.forgotten;
      breaks = held.breaks;
      position = sym (ap (λ (x : CountedEnd). x.position) whole);
    }

pub returns-clause-left : goal.returns-clause-left
returns-clause-left g c =
    let d = c.args.debugger.now in
    let t = d.machine.input in
    let l = c.loop-k.debugger in
    let held = c.loop-k.invariant in
    let whole =
    held.rest ∙ over_none t d.breaks (c.args.count - c.loop-k.k) (position l.machine) c.loop-k.bound (omega arith) in
    sym (ap (λ (x : CountedEnd). x.left) whole)
