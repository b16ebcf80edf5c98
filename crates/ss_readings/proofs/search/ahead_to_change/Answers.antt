use Rattle.std.proofs.Common.{◌≡◌, ◌+◌, ◌-◌, ℕ, min, Bool, true, false, sym, ap, ◌∙◌, arith, rules}
use borrow.Author.Count.{below_more}
use Rattle.ss_state.specs.declared.limits.TheConstants.{LAST_POSITION}
use Rattle.ss_machine.specs.Moment.{position}
use Rattle.ss_debug.specs.Move.{StopCondition, stops}
use Rattle.ss_debug.proofs.Moves.{least_is, least_at_least}
use Rattle.ss_trace.specs.Movements.{ahead_condition}
use Rattle.ss_trace.proofs.Refusals.{on_err}
use Rattle.ss_trace.proofs.Changes.{stops_here, ready_here}
use Rattle.ss_readings.specs.Subject.{Subject}
use Rattle.ss_readings.specs.Seen.{changes_in, has_changed_in}
use Rattle.ss_readings.specs.Followed.{IsFollowed}
use Rattle.ss_readings.proofs.Seeing.{met_behind}
use Rattle.ss_readings.proofs.search.ahead_to_change.Goals as goal

pub returns-then-is_at_stop-clause-ok : goal.returns-then-is_at_stop-clause-ok
returns-then-is_at_stop-clause-ok g c =
    let d = c.args.debugger.now in
    let m = d.machine in
    let l = c.loop-k.debugger in
    let held = c.loop-k.invariant in
    let from : c.position-from.result ≡ position m = rw c.machine-2.ensures at c.position-from.ensures in
    let most : ℕ = min c.args.bound (LAST_POSITION - position m) in
    let s : Subject = g.R.Reading.subject c.args.reading.now m.input.program in
    let test : ℕ → Bool = has_changed_in m.input s (position m) in
    let condition : StopCondition = ahead_condition m.input d.breaks test in
    let found : stops m.input condition (position m) c.loop-k._k ≡ true =
    stops_here m.input l.machine.input d.breaks l.breaks test (position m) (position l.machine) c.loop-k._k
    c.position-from.result true held.input held.breaks held.stepped from
    (c.if-is_at_stop.ensures test (rw from held.met)) in
    let e =
    least_is (stops m.input condition (position m)) most c.loop-k._k (omega (arith, from)) held.went_on (λ _. found) in
    record {
      input = held.input;
      forgotten = held.forgotten;
      breaks = held.breaks;
      position = rw e held.stepped;
    }

pub step_once-requires-clause-ready : goal.step_once-requires-clause-ready
step_once-requires-clause-ready g c =
    let m = c.args.debugger.now.machine in
    let l = c.loop-k.debugger in
    let held = c.loop-k.invariant in
    let from : c.position-from.result ≡ position m = rw c.machine-2.ensures at c.position-from.ensures in
    let s : Subject = g.R.Reading.subject c.args.reading.now m.input.program in
    let test : ℕ → Bool = has_changed_in m.input s (position m) in
    ready_here l.machine.input l.breaks test c.position-from.result (position l.machine)
    (c.if-is_at_stop.ensures test (rw from held.met))

pub returns-in_err-step_once-clause-memory : goal.returns-in_err-step_once-clause-memory
returns-in_err-step_once-clause-memory g c =
    let d = c.args.debugger.now in
    let m = d.machine in
    let held = c.loop-k.invariant in
    let from : c.position-from.result ≡ position m = rw c.machine-2.ensures at c.position-from.ensures in
    let most : ℕ = min c.args.bound (LAST_POSITION - position m) in
    let s : Subject = g.R.Reading.subject c.args.reading.now m.input.program in
    let condition : StopCondition = ahead_condition m.input d.breaks (has_changed_in m.input s (position m)) in
    let low =
    least_at_least (stops m.input condition (position m)) most c.loop-k._k (omega (arith, from)) held.went_on in
    let same : c.step_once.new.debugger ≡ c.loop-k.debugger = search rules in
    rw (same)
    (on_err c.from_residual-in_err-step_once.result (record {
      input = held.input;
      forgotten = held.forgotten;
      breaks = held.breaks;
      no_earlier = omega (arith, held.stepped);
      no_later = omega (arith, held.stepped, low);
    }))

pub follow_on-requires-clause-suits : goal.follow_on-requires-clause-suits
follow_on-requires-clause-suits g c = rw (c.in_ok-step_once.ensures.ok.input, c.loop-k.invariant.input) c.requires

pub follow_on-requires-clause-later : goal.follow_on-requires-clause-later
follow_on-requires-clause-later g c =
    omega (arith, c.loop-k.invariant.asked, c.loop-k.invariant.stepped, c.in_ok-step_once.ensures.ok.position)

pub follow_on-requires-clause-followed : goal.follow_on-requires-clause-followed
follow_on-requires-clause-followed g c =
    let held = c.loop-k.invariant in
    let gone = c.in_ok-step_once.ensures.ok in
    let before : position c.step_once.new.debugger.machine - 1 ≡ position c.loop-k.debugger.machine =
    omega (arith, gone.position) in
    rw (gone.input, held.input, before) held.followed

pub returns-in_err-met-clause-memory : goal.returns-in_err-met-clause-memory
returns-in_err-met-clause-memory g c =
    let d = c.args.debugger.now in
    let m = d.machine in
    let l = c.loop-k.debugger in
    let held = c.loop-k.invariant in
    let gone = c.in_ok-step_once.ensures.ok in
    let from : c.position-from.result ≡ position m = rw c.machine-2.ensures at c.position-from.ensures in
    let most : ℕ = min c.args.bound (LAST_POSITION - position m) in
    let s : Subject = g.R.Reading.subject c.args.reading.now m.input.program in
    let test : ℕ → Bool = has_changed_in m.input s (position m) in
    let condition : StopCondition = ahead_condition m.input d.breaks test in
    let at_k : stops m.input condition (position m) c.loop-k._k ≡ false =
    stops_here m.input l.machine.input d.breaks l.breaks test (position m) (position l.machine) c.loop-k._k
    c.position-from.result false held.input held.breaks held.stepped from
    (c.if-is_at_stop.ensures test (rw from held.met)) in
    let low =
    least_at_least (stops m.input condition (position m)) most (c.loop-k._k + 1) (omega (arith, from)) (λ j h.
    below_more (λ i. stops m.input condition (position m) i ≡ false) c.loop-k._k
    (λ i g. held.went_on i g) at_k j (omega arith)) in
    on_err c.from_residual-in_err-met.result (record {
      input = rw gone.input held.input;
      forgotten = rw gone.forgotten held.forgotten;
      breaks = rw gone.breaks held.breaks;
      no_earlier = omega (arith, held.stepped, gone.position);
      no_later = omega (arith, held.stepped, gone.position, low);
    })

pub loop-k-preserved : goal.loop-k-preserved
loop-k-preserved g c =
    let d = c.args.debugger.now in
    let m = d.machine in
    let l = c.loop-k.debugger in
    let u = c.step_once.new.debugger.machine in
    let held = c.loop-k.invariant in
    let from : c.position-from.result ≡ position m = rw c.machine-2.ensures at c.position-from.ensures in
    let s : Subject = g.R.Reading.subject c.args.reading.now m.input.program in
    let test : ℕ → Bool = has_changed_in m.input s (position m) in
    let condition : StopCondition = ahead_condition m.input d.breaks test in
    let gone = c.in_ok-step_once.ensures.ok in
    let at_k : stops m.input condition (position m) c.loop-k._k ≡ false =
    stops_here m.input l.machine.input d.breaks l.breaks test (position m) (position l.machine) c.loop-k._k
    c.position-from.result false held.input held.breaks held.stepped from
    (c.if-is_at_stop.ensures test (rw from held.met)) in
    let before : position u - 1 ≡ position l.machine = omega (arith, gone.position) in
    let told : c.in_ok-met.met ≡ changes_in m.input s (position m) (position l.machine) =
    rw (gone.input, held.input, before, held.asked) at c.in_ok-met.ensures.changed in
    let followed : IsFollowed m.input s (position u) c.follow_on.new.self =
    rw (gone.input, held.input) at c.in_ok-met.ensures.followed in
    record {
      input = rw gone.input held.input;
      forgotten = rw gone.forgotten held.forgotten;
      breaks = rw gone.breaks held.breaks;
      stepped = omega (arith, held.stepped, gone.position);
      asked = c.follow_on.ensures.asked ∙ held.asked;
      followed = followed;
      met =
          told
          ∙ sym (met_behind m.input s (position m) (position l.machine) (position u) (omega (arith, held.stepped))
          gone.position);
      went_on = λ j h.
          below_more (λ i. stops m.input condition (position m) i ≡ false) c.loop-k._k
          (λ i g. held.went_on i g) at_k j (omega arith);
    }

pub returns-clause-ok : goal.returns-clause-ok
returns-clause-ok g c =
    let d = c.args.debugger.now in
    let m = d.machine in
    let held = c.loop-k.invariant in
    let from : c.position-from.result ≡ position m = rw c.machine-2.ensures at c.position-from.ensures in
    let most : ℕ = min c.args.bound (LAST_POSITION - position m) in
    let s : Subject = g.R.Reading.subject c.args.reading.now m.input.program in
    let condition : StopCondition = ahead_condition m.input d.breaks (has_changed_in m.input s (position m)) in
    let e =
    least_is (stops m.input condition (position m)) most c.loop-k._k (omega (arith, from)) held.went_on
    (λ h. absurd (omega (arith, from, h))) in
    record {
      input = held.input;
      forgotten = held.forgotten;
      breaks = held.breaks;
      position = rw e held.stepped;
    }
