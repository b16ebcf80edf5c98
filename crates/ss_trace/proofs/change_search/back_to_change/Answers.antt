use Rattle.std.proofs.Common.{◌≡◌, ◌+◌, ◌-◌, ℕ, min, Bool, true, false, length, sym, ap, ◌∙◌, arith}
use Rattle.std.specs.Prelude.{not}
use borrow.Author.Count.{below_more}
use Rattle.ss_machine.specs.Moment.{position}
use Rattle.ss_debug.specs.Move.{stops_back}
use Rattle.ss_debug.proofs.Moves.{search_back_is, least_at_least}
use Rattle.ss_trace.specs.Question.{answer_at, changes_at}
use Rattle.ss_trace.specs.declared.touches.Touch.TheVariants.{Nothing}
use Rattle.ss_trace.specs.EntityNumbers.{is_counted, numbers_at}
use Rattle.ss_trace.specs.Told.{is_told_at}
use Rattle.ss_trace.specs.Sight.{sight_of, glance_at, is_same_glance}
use Rattle.ss_trace.specs.Touches.{touched_at, part_of}
use Rattle.ss_trace.specs.Reading.{IsReadAt}
use Rattle.ss_trace.proofs.Refusals.{on_err}
use Rattle.ss_trace.proofs.Changes.{same_turned, stops_back_where, unmet_back, changes_between}
use Rattle.ss_trace.proofs.Glances.{same_is, unseen}
use Rattle.ss_trace.proofs.SameNumbers.{numbers_left, counted_left, entity_seen}
use Rattle.ss_trace.proofs.Telling.{told_back}
use Rattle.ss_trace.proofs.change_search.back_to_change.Goals as goal

pub follow-requires-clause-looks : goal.follow-requires-clause-looks
follow-requires-clause-looks g c =
    rw (c.if-not-step_back.ensures.back.input, c.loop-k.invariant.input)
    c.loop-k.invariant.reading.looks

pub follow-requires-clause-quiet : goal.follow-requires-clause-quiet
follow-requires-clause-quiet g c = λ e s.
    let m = c.args.debugger.now.machine in
    let l = c.loop-k.debugger in
    let held = c.loop-k.invariant in
    let x = c.args.question.now in
    let u = c.step_back.new.self.machine in
    let gone = c.if-not-step_back.ensures.back in
    let quiet : touched_at m.input (part_of x) (position u) ≡ Nothing =
    sym (rw (gone.input, held.input, held.reading.looks.part) at c.touched-touched.ensures) ∙ e in
    let same : is_same_glance c.loop-k.reading.glance (glance_at m.input x (position u)) ≡ true =
    rw (gone.input, held.input) at s in
    rw (gone.input, held.input)
    (held.reading.answer ∙ unseen m.input x (position u) (position l.machine) gone.position quiet
    (sym held.reading.glance ∙ same_is _ _ same))

pub follow-requires-clause-still : goal.follow-requires-clause-still
follow-requires-clause-still g c = λ e.
    let m = c.args.debugger.now.machine in
    let l = c.loop-k.debugger in
    let held = c.loop-k.invariant in
    let x = c.args.question.now in
    let u = c.step_back.new.self.machine in
    let gone = c.if-not-step_back.ensures.back in
    let quiet : touched_at m.input (part_of x) (position u) ≡ Nothing =
    sym (rw (gone.input, held.input, held.reading.looks.part) at c.touched-touched.ensures) ∙ e in
    rw (gone.input, held.input)
    (held.reading.numbers ∙ numbers_left m.input x (position u) (position l.machine) gone.position quiet)

pub follow-requires-clause-told : goal.follow-requires-clause-told
follow-requires-clause-told g c = λ h.
    let m = c.args.debugger.now.machine in
    let l = c.loop-k.debugger in
    let held = c.loop-k.invariant in
    let x = c.args.question.now in
    let u = c.step_back.new.self.machine in
    let gone = c.if-not-step_back.ensures.back in
    let set = rw (gone.input, held.input, held.reading.looks.part) at c.touched-touched.ensures in
    let told :
    is_told_at m.input x (numbers_at m.input x (position l.machine)) (touched_at m.input (part_of x) (position u))
    (position u) ≡ true = rw (gone.input, held.input, held.reading.numbers, set) at h in
    rw (gone.input, held.input)
    (held.reading.numbers ∙ told_back m.input x (position u) (position l.machine) gone.position told)

pub follow-requires-clause-glance : goal.follow-requires-clause-glance
follow-requires-clause-glance g c = λ h.
    let m = c.args.debugger.now.machine in
    let l = c.loop-k.debugger in
    let held = c.loop-k.invariant in
    let x = c.args.question.now in
    let u = c.step_back.new.self.machine in
    let gone = c.if-not-step_back.ensures.back in
    let counted : is_counted (part_of x) (sight_of m.input.program x) ≡ true =
    rw (held.reading.looks.part, held.reading.looks.sight) at h in
    rw (gone.input, held.input)
    (held.reading.glance ∙ entity_seen m.input x (position u) (position l.machine) counted)

pub follow-requires-clause-counted : goal.follow-requires-clause-counted
follow-requires-clause-counted g c = λ h e.
    let m = c.args.debugger.now.machine in
    let l = c.loop-k.debugger in
    let held = c.loop-k.invariant in
    let x = c.args.question.now in
    let u = c.step_back.new.self.machine in
    let gone = c.if-not-step_back.ensures.back in
    let counted : is_counted (part_of x) (sight_of m.input.program x) ≡ true =
    rw (held.reading.looks.part, held.reading.looks.sight) at h in
    let same : c.loop-k.reading.numbers.items ≡ numbers_at m.input x (position u) =
    rw (gone.input, held.input) at e in
    rw (gone.input, held.input)
    (held.reading.answer ∙ counted_left m.input x (position u) (position l.machine) counted
    (sym held.reading.numbers ∙ same))

pub returns-then-not-step_back-clause-ok : goal.returns-then-not-step_back-clause-ok
returns-then-not-step_back-clause-ok g c =
    let m = c.args.debugger.now.machine in
    let l = c.loop-k.debugger.machine in
    let held = c.loop-k.invariant in
    let test : ℕ → Bool = changes_at m.input c.args.question.now in
    let none : length l.steps ≡ 0 = ap length c.if-not-step_back.ensures.back.0 in
    let ends =
    search_back_is test m.forgotten (position m) c.args.bound c.loop-k._k (position l) held.stepped (omega arith)
    (omega (arith, held.forgotten)) (λ j h. held.went_on j (omega arith))
    (λ h g. absurd (omega (arith, none, held.forgotten))) in
    rw (c.if-not-step_back.ensures.back.1, c.if-not-step_back.ensures.breaks)
    (record { input = held.input; forgotten = held.forgotten; breaks = held.breaks; position = sym ends })

pub returns-then-not-step_back-clause-met : goal.returns-then-not-step_back-clause-met
returns-then-not-step_back-clause-met g c =
    let m = c.args.debugger.now.machine in
    let l = c.loop-k.debugger.machine in
    let held = c.loop-k.invariant in
    rw c.if-not-step_back.ensures.back.1
    (unmet_back (changes_at m.input c.args.question.now) (position m) (position l) c.loop-k._k held.stepped
    held.went_on)

pub returns-in_err-follow-clause-memory : goal.returns-in_err-follow-clause-memory
returns-in_err-follow-clause-memory g c =
    let m = c.args.debugger.now.machine in
    let l = c.loop-k.debugger.machine in
    let u = c.step_back.new.self.machine in
    let held = c.loop-k.invariant in
    let gone = c.if-not-step_back.ensures.back in
    let test : ℕ → Bool = changes_at m.input c.args.question.now in
    let back : position l ≡ position u + 1 = gone.position in
    let low =
    least_at_least (stops_back test (position m)) (min c.args.bound (position m - m.forgotten)) (c.loop-k._k + 1)
    (omega (arith, held.stepped, back, gone.forgotten, held.forgotten)) held.went_on in
    on_err c.from_residual-in_err-follow.result (record {
      input = rw gone.input held.input;
      forgotten = rw gone.forgotten held.forgotten;
      breaks = rw c.if-not-step_back.ensures.breaks held.breaks;
      no_earlier = omega (arith, held.stepped, back, low);
      no_later = omega (arith, held.stepped, back);
    })

pub returns-then-is_some-clause-ok : goal.returns-then-is_some-clause-ok
returns-then-is_some-clause-ok g c =
    let m = c.args.debugger.now.machine in
    let l = c.loop-k.debugger.machine in
    let u = c.step_back.new.self.machine in
    let held = c.loop-k.invariant in
    let x = c.args.question.now in
    let gone = c.if-not-step_back.ensures.back in
    let test : ℕ → Bool = changes_at m.input x in
    let back : position l ≡ position u + 1 = gone.position in
    let come : position m ≡ position u + (c.loop-k._k + 1) = omega (arith, held.stepped, back) in
    let followed : IsReadAt m.input x (position u) c.follow.new.self =
    rw (gone.input, held.input) at c.in_ok-follow.ensures.ok in
    let behind : c.loop-k.reading.answer.items ≡ answer_at m.input x (position u + 1) =
    held.reading.answer ∙ ap (λ (q : ℕ). answer_at m.input x q) back in
    let yes : test (position u) ≡ true =
    changes_between m.input x (position u) c.follow.new.self.answer.items c.loop-k.reading.answer.items followed.answer
    behind
    ∙ ap not (same_turned c.follow.new.self.answer.items c.loop-k.reading.answer.items)
    ∙ sym c.in_ok-follow.ensures.whether ∙ sym c.is_some.ensures ∙ c.if-is_some.true in
    let ends =
    search_back_is test m.forgotten (position m) c.args.bound (c.loop-k._k + 1) (position u) come (omega arith)
    (omega (arith, gone.forgotten, held.forgotten)) held.went_on
    (λ h g. stops_back_where test (position m) (position u) (c.loop-k._k + 1) come (omega arith) ∙ yes) in
    record {
      input = rw gone.input held.input;
      forgotten = rw gone.forgotten held.forgotten;
      breaks = rw c.if-not-step_back.ensures.breaks held.breaks;
      position = sym ends;
    }

pub loop-k-preserved : goal.loop-k-preserved
loop-k-preserved g c =
    let m = c.args.debugger.now.machine in
    let l = c.loop-k.debugger.machine in
    let u = c.step_back.new.self.machine in
    let held = c.loop-k.invariant in
    let x = c.args.question.now in
    let gone = c.if-not-step_back.ensures.back in
    let test : ℕ → Bool = changes_at m.input x in
    let back : position l ≡ position u + 1 = gone.position in
    let come : position m ≡ position u + (c.loop-k._k + 1) = omega (arith, held.stepped, back) in
    let followed : IsReadAt m.input x (position u) c.follow.new.self =
    rw (gone.input, held.input) at c.in_ok-follow.ensures.ok in
    let behind : c.loop-k.reading.answer.items ≡ answer_at m.input x (position u + 1) =
    held.reading.answer ∙ ap (λ (q : ℕ). answer_at m.input x q) back in
    let no : test (position u) ≡ false =
    changes_between m.input x (position u) c.follow.new.self.answer.items c.loop-k.reading.answer.items followed.answer
    behind
    ∙ ap not (same_turned c.follow.new.self.answer.items c.loop-k.reading.answer.items)
    ∙ sym c.in_ok-follow.ensures.whether ∙ sym c.is_some.ensures ∙ c.if-is_some.false in
    let passed : stops_back test (position m) (c.loop-k._k + 1) ≡ false =
    stops_back_where test (position m) (position u) (c.loop-k._k + 1) come (omega arith) ∙ no in
    record {
      input = rw gone.input held.input;
      forgotten = rw gone.forgotten held.forgotten;
      breaks = rw c.if-not-step_back.ensures.breaks held.breaks;
      stepped = come;
      reading = followed;
      went_on = λ j h.
          below_more (λ i. stops_back test (position m) i ≡ false) (c.loop-k._k + 1)
          (λ i g. held.went_on i g) passed j (omega arith);
    }

pub returns-clause-ok : goal.returns-clause-ok
returns-clause-ok g c =
    let m = c.args.debugger.now.machine in
    let l = c.loop-k.debugger.machine in
    let held = c.loop-k.invariant in
    let test : ℕ → Bool = changes_at m.input c.args.question.now in
    let ends =
    search_back_is test m.forgotten (position m) c.args.bound c.loop-k._k (position l) held.stepped (omega arith)
    (omega (arith, held.forgotten)) (λ j h. held.went_on j (omega arith)) (λ h g. absurd (omega arith)) in
    record { input = held.input; forgotten = held.forgotten; breaks = held.breaks; position = sym ends }

pub returns-clause-met : goal.returns-clause-met
returns-clause-met g c =
    let m = c.args.debugger.now.machine in
    let l = c.loop-k.debugger.machine in
    let held = c.loop-k.invariant in
    unmet_back (changes_at m.input c.args.question.now) (position m) (position l) c.loop-k._k held.stepped held.went_on
