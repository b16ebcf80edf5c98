use Rattle.std.proofs.Common.{◌≡◌, ◌+◌, ℕ, Option, Bool, true, false, length, refl, sym, ap, ◌∙◌, arith}
use Rattle.ss_readings.specs.declared.value.Value.{Value}
use Rattle.ss_readings.specs.ValueView.{value_if}
use Rattle.ss_machine.specs.Moment.{position}
use Rattle.ss_trace.specs.View.{HasLookedBack}
use Rattle.ss_trace.proofs.Histories.{none_before, passed, found}
use Rattle.ss_trace.proofs.Looking.{looked_nowhere, looked_further}
use Rattle.ss_readings.specs.Subject.{Subject}
use Rattle.ss_readings.specs.Seen.{changes_in}
use Rattle.ss_readings.specs.Followed.{IsFollowed}
use Rattle.ss_readings.proofs.Seeing.{ready_there}
use Rattle.ss_readings.proofs.history.back_to_newest.Goals as goal

pub loop-debugger-init : goal.loop-debugger-init
loop-debugger-init g c = record {
  gone = looked_nowhere c.args.debugger.now;
  asked = refl;
  followed = c.requires.followed;
  left = refl;
}

pub follow_back-requires-clause-suits : goal.follow_back-requires-clause-suits
follow_back-requires-clause-suits g c =
    rw (c.loop-debugger-test.ensures.back.input, c.loop-debugger.invariant.gone.input) c.requires.suits

pub follow_back-requires-clause-earlier : goal.follow_back-requires-clause-earlier
follow_back-requires-clause-earlier g c =
    omega (
      arith,
      c.loop-debugger.invariant.asked,
      c.loop-debugger.invariant.gone.no_later,
      c.loop-debugger-test.ensures.back.position,
      c.requires.earlier,
    )

pub follow_back-requires-clause-followed : goal.follow_back-requires-clause-followed
follow_back-requires-clause-followed g c =
    let held = c.loop-debugger.invariant in
    let gone = c.loop-debugger-test.ensures.back in
    rw (gone.input, held.gone.input, ← gone.position) held.followed

pub returns-then-branch-clause-gone : goal.returns-then-branch-clause-gone
returns-then-branch-clause-gone g c =
    let held = c.loop-debugger.invariant in
    let gone = c.loop-debugger-test.ensures.back in
    let u = c.step_back.new.self in
    looked_further c.args.debugger.now c.loop-debugger.debugger u held.gone gone c.loop-debugger-test.ensures.breaks
    (ready_there u.machine.input (position u.machine) u.machine.state
    (rw c.machine.ensures at c.known.ensures.state) gone.ready)

pub returns-then-branch-clause-found : goal.returns-then-branch-clause-found
returns-then-branch-clause-found g c =
    let m = c.args.debugger.now.machine in
    let l = c.loop-debugger.debugger in
    let u = c.step_back.new.self in
    let held = c.loop-debugger.invariant in
    let gone = c.loop-debugger-test.ensures.back in
    let s : Subject = g.R.Reading.subject c.args.reading.now m.input.program in
    let p : ℕ = c.args.followed.now.asked in
    let back : position l.machine ≡ position u.machine + 1 = gone.position in
    let told : c.in_ok-follow_back.field-0 ≡ changes_in m.input s p (position u.machine) =
    rw (gone.input, held.gone.input, held.asked) at c.in_ok-follow_back.ensures.changed in
    let yes : changes_in m.input s p (position u.machine) ≡ true = sym told ∙ c.if-branch.true in (
      rw (held.asked, back) at (ap (λ (v : Option Value). value_if v) c.in_ok-follow_back.ensures.passed ∙ held.followed.value),
      held.left ∙ found (changes_in m.input s p) m.forgotten (position l.machine) (position u.machine) back
          (omega (arith, gone.forgotten, held.gone.forgotten)) yes,
    )

pub loop-debugger-preserved : goal.loop-debugger-preserved
loop-debugger-preserved g c =
    let m = c.args.debugger.now.machine in
    let l = c.loop-debugger.debugger in
    let u = c.step_back.new.self in
    let held = c.loop-debugger.invariant in
    let gone = c.loop-debugger-test.ensures.back in
    let s : Subject = g.R.Reading.subject c.args.reading.now m.input.program in
    let p : ℕ = c.args.followed.now.asked in
    let back : position l.machine ≡ position u.machine + 1 = gone.position in
    let further : HasLookedBack c.args.debugger.now u =
    looked_further c.args.debugger.now l u held.gone gone c.loop-debugger-test.ensures.breaks
    (ready_there u.machine.input (position u.machine) u.machine.state
    (rw c.machine.ensures at c.known.ensures.state) gone.ready) in
    let told : c.in_ok-follow_back.field-0 ≡ changes_in m.input s p (position u.machine) =
    rw (gone.input, held.gone.input, held.asked) at c.in_ok-follow_back.ensures.changed in
    let no : changes_in m.input s p (position u.machine) ≡ false = sym told ∙ c.if-branch.false in
    let followed : IsFollowed m.input s (position u.machine) c.follow_back.new.self =
    rw (gone.input, held.gone.input) at c.in_ok-follow_back.ensures.followed in
    record {
      gone = further;
      asked = c.follow_back.ensures.asked ∙ held.asked;
      followed = followed;
      left = held.left ∙ passed (changes_in m.input s p) m.forgotten (position l.machine) (position u.machine) back
          (omega (arith, further.forgotten)) no;
    }

pub returns-clause-found : goal.returns-clause-found
returns-clause-found g c =
    let m = c.args.debugger.now.machine in
    let l = c.loop-debugger.debugger in
    let held = c.loop-debugger.invariant in
    let s : Subject = g.R.Reading.subject c.args.reading.now m.input.program in
    let none : length l.machine.steps ≡ 0 = ap length c.loop-debugger-test.ensures.back.0 in
    held.left ∙ none_before (changes_in m.input s c.args.followed.now.asked) m.forgotten (position l.machine)
    (omega (arith, none, held.gone.forgotten))
