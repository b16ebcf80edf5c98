use Rattle.std.proofs.Common.{◌≡◌, ◌+◌, ℕ, true, false, length, refl, sym, ap, ◌∙◌, arith}
use Rattle.std.specs.Prelude.{not}
use Rattle.ss_machine.specs.Moment.{position}
use Rattle.ss_trace.specs.Question.{answer_at, changes_at}
use Rattle.ss_trace.specs.declared.touches.Touch.TheVariants.{Nothing}
use Rattle.ss_trace.specs.EntityNumbers.{is_counted, numbers_at}
use Rattle.ss_trace.specs.Told.{is_told_at}
use Rattle.ss_trace.specs.Sight.{sight_of, glance_at, is_same_glance}
use Rattle.ss_trace.specs.Touches.{touched_at, part_of}
use Rattle.ss_trace.specs.Reading.{IsReadAt}
use Rattle.ss_trace.specs.View.{HasLookedBack}
use Rattle.ss_trace.proofs.Changes.{same_turned, changes_between}
use Rattle.ss_trace.proofs.Histories.{none_before, passed, found}
use Rattle.ss_trace.proofs.Looking.{looked_nowhere, looked_further}
use Rattle.ss_trace.proofs.Glances.{same_is, unseen}
use Rattle.ss_trace.proofs.SameNumbers.{numbers_left, counted_left, entity_seen}
use Rattle.ss_trace.proofs.Telling.{told_back}
use Rattle.ss_trace.proofs.history.back_to_newest.Goals as goal

pub loop-debugger-init : goal.loop-debugger-init
loop-debugger-init g c = record {
  gone = looked_nowhere c.args.debugger.now;
  reading = c.requires;
  left = refl;
}

pub follow-requires-clause-looks : goal.follow-requires-clause-looks
follow-requires-clause-looks g c =
    rw (c.loop-debugger-test.ensures.back.input, c.loop-debugger.invariant.gone.input)
    c.loop-debugger.invariant.reading.looks

pub follow-requires-clause-quiet : goal.follow-requires-clause-quiet
follow-requires-clause-quiet g c = λ e s.
    let m = c.args.debugger.now.machine in
    let l = c.loop-debugger.debugger in
    let held = c.loop-debugger.invariant in
    let x = c.args.question.now in
    let u = c.step_back.new.self.machine in
    let gone = c.loop-debugger-test.ensures.back in
    let quiet : touched_at m.input (part_of x) (position u) ≡ Nothing =
    sym (rw (gone.input, held.gone.input, held.reading.looks.part) at c.touched-touched.ensures) ∙ e in
    let same : is_same_glance c.loop-debugger.reading.glance (glance_at m.input x (position u)) ≡ true =
    rw (gone.input, held.gone.input) at s in
    rw (gone.input, held.gone.input)
    (held.reading.answer ∙ unseen m.input x (position u) (position l.machine) gone.position quiet
    (sym held.reading.glance ∙ same_is _ _ same))

pub follow-requires-clause-still : goal.follow-requires-clause-still
follow-requires-clause-still g c = λ e.
    let m = c.args.debugger.now.machine in
    let l = c.loop-debugger.debugger in
    let held = c.loop-debugger.invariant in
    let x = c.args.question.now in
    let u = c.step_back.new.self.machine in
    let gone = c.loop-debugger-test.ensures.back in
    let quiet : touched_at m.input (part_of x) (position u) ≡ Nothing =
    sym (rw (gone.input, held.gone.input, held.reading.looks.part) at c.touched-touched.ensures) ∙ e in
    rw (gone.input, held.gone.input)
    (held.reading.numbers ∙ numbers_left m.input x (position u) (position l.machine) gone.position quiet)

pub follow-requires-clause-told : goal.follow-requires-clause-told
follow-requires-clause-told g c = λ h.
    let m = c.args.debugger.now.machine in
    let l = c.loop-debugger.debugger in
    let held = c.loop-debugger.invariant in
    let x = c.args.question.now in
    let u = c.step_back.new.self.machine in
    let gone = c.loop-debugger-test.ensures.back in
    let set = rw (gone.input, held.gone.input, held.reading.looks.part) at c.touched-touched.ensures in
    let told :
    is_told_at m.input x (numbers_at m.input x (position l.machine)) (touched_at m.input (part_of x) (position u))
    (position u) ≡ true = rw (gone.input, held.gone.input, held.reading.numbers, set) at h in
    rw (gone.input, held.gone.input)
    (held.reading.numbers ∙ told_back m.input x (position u) (position l.machine) gone.position told)

pub follow-requires-clause-glance : goal.follow-requires-clause-glance
follow-requires-clause-glance g c = λ h.
    let m = c.args.debugger.now.machine in
    let l = c.loop-debugger.debugger in
    let held = c.loop-debugger.invariant in
    let x = c.args.question.now in
    let u = c.step_back.new.self.machine in
    let gone = c.loop-debugger-test.ensures.back in
    let counted : is_counted (part_of x) (sight_of m.input.program x) ≡ true =
    rw (held.reading.looks.part, held.reading.looks.sight) at h in
    rw (gone.input, held.gone.input)
    (held.reading.glance ∙ entity_seen m.input x (position u) (position l.machine) counted)

pub follow-requires-clause-counted : goal.follow-requires-clause-counted
follow-requires-clause-counted g c = λ h e.
    let m = c.args.debugger.now.machine in
    let l = c.loop-debugger.debugger in
    let held = c.loop-debugger.invariant in
    let x = c.args.question.now in
    let u = c.step_back.new.self.machine in
    let gone = c.loop-debugger-test.ensures.back in
    let counted : is_counted (part_of x) (sight_of m.input.program x) ≡ true =
    rw (held.reading.looks.part, held.reading.looks.sight) at h in
    let same : c.loop-debugger.reading.numbers.items ≡ numbers_at m.input x (position u) =
    rw (gone.input, held.gone.input) at e in
    rw (gone.input, held.gone.input)
    (held.reading.answer ∙ counted_left m.input x (position u) (position l.machine) counted
    (sym held.reading.numbers ∙ same))

pub loop-debugger-preserved : goal.loop-debugger-preserved
loop-debugger-preserved g c =
    let m = c.args.debugger.now.machine in
    let l = c.loop-debugger.debugger in
    let u = c.step_back.new.self in
    let held = c.loop-debugger.invariant in
    let x = c.args.question.now in
    let gone = c.loop-debugger-test.ensures.back in
    let back : position l.machine ≡ position u.machine + 1 = gone.position in
    let further : HasLookedBack c.args.debugger.now u =
    looked_further c.args.debugger.now l u held.gone gone c.loop-debugger-test.ensures.breaks
    (sym c.is_ready_now.ensures ∙ c.if-not-is_ready_now.false) in
    let followed : IsReadAt m.input x (position u.machine) c.follow.new.self =
    rw (gone.input, held.gone.input) at c.in_ok-follow.ensures.ok in
    let behind : c.loop-debugger.reading.answer.items ≡ answer_at m.input x (position u.machine + 1) =
    held.reading.answer ∙ ap (λ (q : ℕ). answer_at m.input x q) back in
    let no : changes_at m.input x (position u.machine) ≡ false =
    changes_between m.input x (position u.machine) c.follow.new.self.answer.items c.loop-debugger.reading.answer.items
    followed.answer behind
    ∙ ap not (same_turned c.follow.new.self.answer.items c.loop-debugger.reading.answer.items)
    ∙ sym c.in_ok-follow.ensures.whether ∙ sym c.is_some.ensures ∙ c.if-is_some.false in
    record {
      gone = further;
      reading = followed;
      left = held.left ∙ passed (changes_at m.input x) m.forgotten (position l.machine) (position u.machine) back
          (omega (arith, further.forgotten)) no;
    }

pub returns-then-is_some-clause-moved : goal.returns-then-is_some-clause-moved
returns-then-is_some-clause-moved g c = λ e.
    let back = c.loop-debugger-test.ensures.back.position in
    omega (arith, back, c.loop-debugger.invariant.gone.no_later)

pub returns-then-is_some-clause-found : goal.returns-then-is_some-clause-found
returns-then-is_some-clause-found g c = λ e.
    let m = c.args.debugger.now.machine in
    let l = c.loop-debugger.debugger in
    let u = c.step_back.new.self in
    let held = c.loop-debugger.invariant in
    let x = c.args.question.now in
    let gone = c.loop-debugger-test.ensures.back in
    let back : position l.machine ≡ position u.machine + 1 = gone.position in
    let followed : IsReadAt m.input x (position u.machine) c.follow.new.self =
    rw (gone.input, held.gone.input) at c.in_ok-follow.ensures.ok in
    let behind : c.loop-debugger.reading.answer.items ≡ answer_at m.input x (position u.machine + 1) =
    held.reading.answer ∙ ap (λ (q : ℕ). answer_at m.input x q) back in
    let yes : changes_at m.input x (position u.machine) ≡ true =
    changes_between m.input x (position u.machine) c.follow.new.self.answer.items c.loop-debugger.reading.answer.items
    followed.answer behind
    ∙ ap not (same_turned c.follow.new.self.answer.items c.loop-debugger.reading.answer.items)
    ∙ sym c.in_ok-follow.ensures.whether ∙ sym c.is_some.ensures ∙ c.if-is_some.true in
    held.left ∙ found (changes_at m.input x) m.forgotten (position l.machine) (position u.machine) back
    (omega (arith, gone.forgotten, held.gone.forgotten)) yes

pub returns-clause-none : goal.returns-clause-none
returns-clause-none g c = λ e.
    let m = c.args.debugger.now.machine in
    let l = c.loop-debugger.debugger in
    let held = c.loop-debugger.invariant in
    let none : length l.machine.steps ≡ 0 = ap length c.loop-debugger-test.ensures.back.0 in
    held.left ∙ none_before (changes_at m.input c.args.question.now) m.forgotten (position l.machine)
    (omega (arith, none, held.gone.forgotten))
