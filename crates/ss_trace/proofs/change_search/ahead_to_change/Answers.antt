use Rattle.std.proofs.Common.{◌≡◌, ◌+◌, ◌-◌, ℕ, min, Bool, true, false, sym, ap, ◌∙◌, arith, rules}
use borrow.Author.Count.{below_more}
use Rattle.ss_state.specs.declared.limits.TheConstants.{LAST_POSITION}
use Rattle.ss_machine.specs.Moment.{position}
use Rattle.ss_debug.specs.Move.{StopCondition, stops}
use Rattle.ss_debug.proofs.Moves.{least_is, least_at_least}
use Rattle.ss_trace.specs.Question.{answer_at}
use Rattle.ss_trace.specs.Movements.{ahead_condition, has_changed}
use Rattle.ss_trace.specs.declared.touches.Touch.TheVariants.{Nothing}
use Rattle.ss_trace.specs.EntityNumbers.{is_counted, numbers_at}
use Rattle.ss_trace.specs.Told.{is_told_at}
use Rattle.ss_trace.specs.Sight.{sight_of, glance_at, is_same_glance}
use Rattle.ss_trace.specs.Touches.{touched_at, part_of}
use Rattle.ss_trace.specs.Reading.{IsReadAt}
use Rattle.ss_trace.proofs.Refusals.{on_err}
use Rattle.ss_trace.proofs.Changes.{stops_here, ready_here, met_behind, changes_between}
use Rattle.ss_trace.proofs.Glances.{same_is, unseen}
use Rattle.ss_trace.proofs.SameNumbers.{numbers_left, counted_left, entity_seen}
use Rattle.ss_trace.proofs.Telling.{told_on}
use Rattle.ss_trace.proofs.change_search.ahead_to_change.Goals as goal

pub follow-requires-clause-looks : goal.follow-requires-clause-looks
follow-requires-clause-looks g c =
    rw (c.in_ok-step_once.ensures.ok.input, c.loop-k.invariant.input)
    c.loop-k.invariant.reading.looks

pub follow-requires-clause-quiet : goal.follow-requires-clause-quiet
follow-requires-clause-quiet g c = λ e s.
    let m = c.args.debugger.now.machine in
    let l = c.loop-k.debugger in
    let held = c.loop-k.invariant in
    let x = c.args.question.now in
    let gone = c.in_ok-step_once.ensures.ok in
    let u = c.step_once.new.debugger.machine in
    let quiet : touched_at m.input (part_of x) (position l.machine) ≡ Nothing =
    sym (rw (held.input, held.reading.looks.part) at c.touched-touched.ensures) ∙ e in
    let same : is_same_glance c.loop-k.reading.glance (glance_at m.input x (position u)) ≡ true =
    rw (gone.input, held.input) at s in
    rw (gone.input, held.input)
    (held.reading.answer ∙ sym (unseen m.input x (position l.machine) (position u) gone.position quiet
    (sym (same_is _ _ same) ∙ held.reading.glance)))

pub follow-requires-clause-still : goal.follow-requires-clause-still
follow-requires-clause-still g c = λ e.
    let m = c.args.debugger.now.machine in
    let l = c.loop-k.debugger in
    let held = c.loop-k.invariant in
    let x = c.args.question.now in
    let u = c.step_once.new.debugger.machine in
    let gone = c.in_ok-step_once.ensures.ok in
    let quiet : touched_at m.input (part_of x) (position l.machine) ≡ Nothing =
    sym (rw (held.input, held.reading.looks.part) at c.touched-touched.ensures) ∙ e in
    rw (gone.input, held.input)
    (held.reading.numbers ∙ sym (numbers_left m.input x (position l.machine) (position u) gone.position quiet))

pub follow-requires-clause-told : goal.follow-requires-clause-told
follow-requires-clause-told g c = λ h.
    let m = c.args.debugger.now.machine in
    let l = c.loop-k.debugger in
    let held = c.loop-k.invariant in
    let x = c.args.question.now in
    let u = c.step_once.new.debugger.machine in
    let gone = c.in_ok-step_once.ensures.ok in
    let set = rw (held.input, held.reading.looks.part) at c.touched-touched.ensures in
    let told :
    is_told_at m.input x (numbers_at m.input x (position l.machine))
    (touched_at m.input (part_of x) (position l.machine)) (position u) ≡ true =
    rw (gone.input, held.input, held.reading.numbers, set) at h in
    rw (gone.input, held.input)
    (held.reading.numbers ∙ told_on m.input x (position l.machine) (position u) gone.position told)

pub follow-requires-clause-glance : goal.follow-requires-clause-glance
follow-requires-clause-glance g c = λ h.
    let m = c.args.debugger.now.machine in
    let l = c.loop-k.debugger in
    let held = c.loop-k.invariant in
    let x = c.args.question.now in
    let u = c.step_once.new.debugger.machine in
    let gone = c.in_ok-step_once.ensures.ok in
    let counted : is_counted (part_of x) (sight_of m.input.program x) ≡ true =
    rw (held.reading.looks.part, held.reading.looks.sight) at h in
    rw (gone.input, held.input)
    (held.reading.glance ∙ entity_seen m.input x (position u) (position l.machine) counted)

pub follow-requires-clause-counted : goal.follow-requires-clause-counted
follow-requires-clause-counted g c = λ h e.
    let m = c.args.debugger.now.machine in
    let l = c.loop-k.debugger in
    let held = c.loop-k.invariant in
    let x = c.args.question.now in
    let u = c.step_once.new.debugger.machine in
    let gone = c.in_ok-step_once.ensures.ok in
    let counted : is_counted (part_of x) (sight_of m.input.program x) ≡ true =
    rw (held.reading.looks.part, held.reading.looks.sight) at h in
    let same : c.loop-k.reading.numbers.items ≡ numbers_at m.input x (position u) =
    rw (gone.input, held.input) at e in
    rw (gone.input, held.input)
    (held.reading.answer ∙ sym (counted_left m.input x (position l.machine) (position u) counted
    (sym same ∙ held.reading.numbers)))

pub returns-then-is_at_stop-clause-ok : goal.returns-then-is_at_stop-clause-ok
returns-then-is_at_stop-clause-ok g c =
    let d = c.args.debugger.now in
    let m = d.machine in
    let l = c.loop-k.debugger in
    let held = c.loop-k.invariant in
    let from : c.position-from.result ≡ position m = rw c.machine-2.ensures at c.position-from.ensures in
    let most : ℕ = min c.args.bound (LAST_POSITION - position m) in
    let test : ℕ → Bool = has_changed m.input c.args.question.now in
    let condition : StopCondition = ahead_condition m.input d.breaks test in
    let found : stops m.input condition (position m) c.loop-k._k ≡ true =
    stops_here m.input l.machine.input d.breaks l.breaks test (position m) (position l.machine) c.loop-k._k
    c.position-from.result true held.input held.breaks held.stepped from
    (c.if-is_at_stop.ensures test (rw from held.met)) in
    let e =
    least_is (stops m.input condition (position m)) most c.loop-k._k (omega (arith, from)) held.went_on (λ _. found) in
    record {
      input = held.input;
      forgotten = held.forgotten;
      breaks = held.breaks;
      position = rw e held.stepped;
    }

pub step_once-requires-clause-ready : goal.step_once-requires-clause-ready
step_once-requires-clause-ready g c =
    let m = c.args.debugger.now.machine in
    let l = c.loop-k.debugger in
    let held = c.loop-k.invariant in
    let from : c.position-from.result ≡ position m = rw c.machine-2.ensures at c.position-from.ensures in
    let test : ℕ → Bool = has_changed m.input c.args.question.now in
    ready_here l.machine.input l.breaks test c.position-from.result (position l.machine)
    (c.if-is_at_stop.ensures test (rw from held.met))

pub returns-in_err-step_once-clause-memory : goal.returns-in_err-step_once-clause-memory
returns-in_err-step_once-clause-memory g c =
    let d = c.args.debugger.now in
    let m = d.machine in
    let held = c.loop-k.invariant in
    let from : c.position-from.result ≡ position m = rw c.machine-2.ensures at c.position-from.ensures in
    let most : ℕ = min c.args.bound (LAST_POSITION - position m) in
    let condition : StopCondition = ahead_condition m.input d.breaks (has_changed m.input c.args.question.now) in
    let low =
    least_at_least (stops m.input condition (position m)) most c.loop-k._k (omega (arith, from)) held.went_on in
    let same : c.step_once.new.debugger ≡ c.loop-k.debugger = search rules in
    rw (same)
    (on_err c.from_residual-in_err-step_once.result (record {
      input = held.input;
      forgotten = held.forgotten;
      breaks = held.breaks;
      no_earlier = omega (arith, held.stepped);
      no_later = omega (arith, held.stepped, low);
    }))

pub returns-in_err-follow-clause-memory : goal.returns-in_err-follow-clause-memory
returns-in_err-follow-clause-memory g c =
    let d = c.args.debugger.now in
    let m = d.machine in
    let l = c.loop-k.debugger in
    let held = c.loop-k.invariant in
    let gone = c.in_ok-step_once.ensures.ok in
    let from : c.position-from.result ≡ position m = rw c.machine-2.ensures at c.position-from.ensures in
    let most : ℕ = min c.args.bound (LAST_POSITION - position m) in
    let test : ℕ → Bool = has_changed m.input c.args.question.now in
    let condition : StopCondition = ahead_condition m.input d.breaks test in
    let at_k : stops m.input condition (position m) c.loop-k._k ≡ false =
    stops_here m.input l.machine.input d.breaks l.breaks test (position m) (position l.machine) c.loop-k._k
    c.position-from.result false held.input held.breaks held.stepped from
    (c.if-is_at_stop.ensures test (rw from held.met)) in
    let low =
    least_at_least (stops m.input condition (position m)) most (c.loop-k._k + 1) (omega (arith, from)) (λ j h.
    below_more (λ i. stops m.input condition (position m) i ≡ false) c.loop-k._k
    (λ i g. held.went_on i g) at_k j (omega arith)) in
    on_err c.from_residual-in_err-follow.result (record {
      input = rw gone.input held.input;
      forgotten = rw gone.forgotten held.forgotten;
      breaks = rw gone.breaks held.breaks;
      no_earlier = omega (arith, held.stepped, gone.position);
      no_later = omega (arith, held.stepped, gone.position, low);
    })

pub loop-k-preserved : goal.loop-k-preserved
loop-k-preserved g c =
    let d = c.args.debugger.now in
    let m = d.machine in
    let l = c.loop-k.debugger in
    let held = c.loop-k.invariant in
    let x = c.args.question.now in
    let from : c.position-from.result ≡ position m = rw c.machine-2.ensures at c.position-from.ensures in
    let test : ℕ → Bool = has_changed m.input x in
    let condition : StopCondition = ahead_condition m.input d.breaks test in
    let gone = c.in_ok-step_once.ensures.ok in
    let at_k : stops m.input condition (position m) c.loop-k._k ≡ false =
    stops_here m.input l.machine.input d.breaks l.breaks test (position m) (position l.machine) c.loop-k._k
    c.position-from.result false held.input held.breaks held.stepped from
    (c.if-is_at_stop.ensures test (rw from held.met)) in
    let followed : IsReadAt m.input x (position c.step_once.new.debugger.machine) c.follow.new.self =
    rw (gone.input, held.input) at c.in_ok-follow.ensures.ok in
    let behind : c.follow.new.self.answer.items ≡ answer_at m.input x (position l.machine + 1) =
    followed.answer ∙ ap (λ (q : ℕ). answer_at m.input x q) gone.position in
    record {
      input = rw gone.input held.input;
      forgotten = rw gone.forgotten held.forgotten;
      breaks = rw gone.breaks held.breaks;
      stepped = omega (arith, held.stepped, gone.position);
      reading = followed;
      met =
          c.is_some-met.ensures ∙ c.in_ok-follow.ensures.whether
          ∙ sym (changes_between m.input x (position l.machine) c.loop-k.reading.answer.items
          c.follow.new.self.answer.items held.reading.answer behind)
          ∙ sym (met_behind m.input x (position m) (position l.machine) (position c.step_once.new.debugger.machine)
          (omega (arith, held.stepped)) gone.position);
      went_on = λ j h.
          below_more (λ i. stops m.input condition (position m) i ≡ false) c.loop-k._k
          (λ i g. held.went_on i g) at_k j (omega arith);
    }

pub returns-clause-ok : goal.returns-clause-ok
returns-clause-ok g c =
    let d = c.args.debugger.now in
    let m = d.machine in
    let held = c.loop-k.invariant in
    let from : c.position-from.result ≡ position m = rw c.machine-2.ensures at c.position-from.ensures in
    let most : ℕ = min c.args.bound (LAST_POSITION - position m) in
    let condition : StopCondition = ahead_condition m.input d.breaks (has_changed m.input c.args.question.now) in
    let e =
    least_is (stops m.input condition (position m)) most c.loop-k._k (omega (arith, from)) held.went_on
    (λ h. absurd (omega (arith, from, h))) in
    record {
      input = held.input;
      forgotten = held.forgotten;
      breaks = held.breaks;
      position = rw e held.stepped;
    }
