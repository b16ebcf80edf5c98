use Rattle.std.proofs.Common.{◌≡◌, ◌+◌, ◌-◌, ℕ, min, Bool, true, false, length, sym, ap, ◌∙◌, arith}
use borrow.Author.Count.{below_more}
use Rattle.ss_machine.specs.Moment.{position}
use Rattle.ss_debug.specs.Move.{stops_back}
use Rattle.ss_debug.proofs.Moves.{search_back_is, least_at_least}
use Rattle.ss_trace.proofs.Refusals.{on_err}
use Rattle.ss_trace.proofs.Changes.{stops_back_where, unmet_back, met_back_at}
use Rattle.ss_readings.specs.Subject.{Subject}
use Rattle.ss_readings.specs.Seen.{changes_in}
use Rattle.ss_readings.specs.Followed.{IsFollowed}
use Rattle.ss_readings.proofs.search.back_to_change.Goals as goal

pub returns-then-not-step_back-clause-ok : goal.returns-then-not-step_back-clause-ok
returns-then-not-step_back-clause-ok g c =
    let m = c.args.debugger.now.machine in
    let l = c.loop-k.debugger.machine in
    let held = c.loop-k.invariant in
    let test : ℕ → Bool = changes_in m.input (g.R.Reading.subject c.args.reading.now m.input.program) (position m) in
    let none : length l.steps ≡ 0 = ap length c.if-not-step_back.ensures.back.0 in
    let ends =
    search_back_is test m.forgotten (position m) c.args.bound c.loop-k._k (position l) held.stepped (omega arith)
    (omega (arith, held.forgotten)) (λ j h. held.went_on j (omega arith))
    (λ h g. absurd (omega (arith, none, held.forgotten))) in
    rw (c.if-not-step_back.ensures.back.1, c.if-not-step_back.ensures.breaks)
    (record { input = held.input; forgotten = held.forgotten; breaks = held.breaks; position = sym ends })

pub returns-then-not-step_back-clause-met : goal.returns-then-not-step_back-clause-met
returns-then-not-step_back-clause-met g c =
    let m = c.args.debugger.now.machine in
    let l = c.loop-k.debugger.machine in
    let held = c.loop-k.invariant in
    let test : ℕ → Bool = changes_in m.input (g.R.Reading.subject c.args.reading.now m.input.program) (position m) in
    rw c.if-not-step_back.ensures.back.1
    (unmet_back test (position m) (position l) c.loop-k._k held.stepped held.went_on)

pub follow_back-requires-clause-suits : goal.follow_back-requires-clause-suits
follow_back-requires-clause-suits g c =
    rw (c.if-not-step_back.ensures.back.input, c.loop-k.invariant.input) c.requires

pub follow_back-requires-clause-earlier : goal.follow_back-requires-clause-earlier
follow_back-requires-clause-earlier g c =
    omega (arith, c.loop-k.invariant.asked, c.loop-k.invariant.stepped, c.if-not-step_back.ensures.back.position)

pub follow_back-requires-clause-followed : goal.follow_back-requires-clause-followed
follow_back-requires-clause-followed g c =
    let held = c.loop-k.invariant in
    let gone = c.if-not-step_back.ensures.back in
    rw (gone.input, held.input, ← gone.position) held.followed

pub returns-in_err-follow_back-clause-memory : goal.returns-in_err-follow_back-clause-memory
returns-in_err-follow_back-clause-memory g c =
    let m = c.args.debugger.now.machine in
    let l = c.loop-k.debugger.machine in
    let u = c.step_back.new.self.machine in
    let held = c.loop-k.invariant in
    let gone = c.if-not-step_back.ensures.back in
    let test : ℕ → Bool = changes_in m.input (g.R.Reading.subject c.args.reading.now m.input.program) (position m) in
    let back : position l ≡ position u + 1 = gone.position in
    let low =
    least_at_least (stops_back test (position m)) (min c.args.bound (position m - m.forgotten)) (c.loop-k._k + 1)
    (omega (arith, held.stepped, back, gone.forgotten, held.forgotten)) held.went_on in
    on_err c.from_residual-in_err-follow_back.result (record {
      input = rw gone.input held.input;
      forgotten = rw gone.forgotten held.forgotten;
      breaks = rw c.if-not-step_back.ensures.breaks held.breaks;
      no_earlier = omega (arith, held.stepped, back, low);
      no_later = omega (arith, held.stepped, back);
    })

pub returns-then-branch-clause-ok : goal.returns-then-branch-clause-ok
returns-then-branch-clause-ok g c =
    let m = c.args.debugger.now.machine in
    let l = c.loop-k.debugger.machine in
    let u = c.step_back.new.self.machine in
    let held = c.loop-k.invariant in
    let gone = c.if-not-step_back.ensures.back in
    let test : ℕ → Bool = changes_in m.input (g.R.Reading.subject c.args.reading.now m.input.program) (position m) in
    let back : position l ≡ position u + 1 = gone.position in
    let come : position m ≡ position u + (c.loop-k._k + 1) = omega (arith, held.stepped, back) in
    let told : c.in_ok-follow_back.field-0 ≡ test (position u) =
    rw (gone.input, held.input, held.asked) at c.in_ok-follow_back.ensures.changed in
    let yes : test (position u) ≡ true = sym told ∙ c.if-branch.true in
    let ends =
    search_back_is test m.forgotten (position m) c.args.bound (c.loop-k._k + 1) (position u) come (omega arith)
    (omega (arith, gone.forgotten, held.forgotten)) held.went_on
    (λ h g. stops_back_where test (position m) (position u) (c.loop-k._k + 1) come (omega arith) ∙ yes) in
    record {
      input = rw gone.input held.input;
      forgotten = rw gone.forgotten held.forgotten;
      breaks = rw c.if-not-step_back.ensures.breaks held.breaks;
      position = sym ends;
    }

pub returns-then-branch-clause-met : goal.returns-then-branch-clause-met
returns-then-branch-clause-met g c =
    let m = c.args.debugger.now.machine in
    let l = c.loop-k.debugger.machine in
    let u = c.step_back.new.self.machine in
    let held = c.loop-k.invariant in
    let gone = c.if-not-step_back.ensures.back in
    let test : ℕ → Bool = changes_in m.input (g.R.Reading.subject c.args.reading.now m.input.program) (position m) in
    let back : position l ≡ position u + 1 = gone.position in
    let told : c.in_ok-follow_back.field-0 ≡ test (position u) =
    rw (gone.input, held.input, held.asked) at c.in_ok-follow_back.ensures.changed in
    sym (met_back_at test (position m) (position u) (omega (arith, held.stepped, back)) ∙ sym told ∙ c.if-branch.true)

pub loop-k-preserved : goal.loop-k-preserved
loop-k-preserved g c =
    let m = c.args.debugger.now.machine in
    let l = c.loop-k.debugger.machine in
    let u = c.step_back.new.self.machine in
    let held = c.loop-k.invariant in
    let gone = c.if-not-step_back.ensures.back in
    let s : Subject = g.R.Reading.subject c.args.reading.now m.input.program in
    let test : ℕ → Bool = changes_in m.input s (position m) in
    let back : position l ≡ position u + 1 = gone.position in
    let come : position m ≡ position u + (c.loop-k._k + 1) = omega (arith, held.stepped, back) in
    let told : c.in_ok-follow_back.field-0 ≡ test (position u) =
    rw (gone.input, held.input, held.asked) at c.in_ok-follow_back.ensures.changed in
    let no : test (position u) ≡ false = sym told ∙ c.if-branch.false in
    let passed : stops_back test (position m) (c.loop-k._k + 1) ≡ false =
    stops_back_where test (position m) (position u) (c.loop-k._k + 1) come (omega arith) ∙ no in
    let followed : IsFollowed m.input s (position u) c.follow_back.new.self =
    rw (gone.input, held.input) at c.in_ok-follow_back.ensures.followed in
    record {
      input = rw gone.input held.input;
      forgotten = rw gone.forgotten held.forgotten;
      breaks = rw c.if-not-step_back.ensures.breaks held.breaks;
      stepped = come;
      asked = c.follow_back.ensures.asked ∙ held.asked;
      followed = followed;
      went_on = λ j h.
          below_more (λ i. stops_back test (position m) i ≡ false) (c.loop-k._k + 1)
          (λ i g. held.went_on i g) passed j (omega arith);
    }

pub returns-clause-ok : goal.returns-clause-ok
returns-clause-ok g c =
    let m = c.args.debugger.now.machine in
    let l = c.loop-k.debugger.machine in
    let held = c.loop-k.invariant in
    let test : ℕ → Bool = changes_in m.input (g.R.Reading.subject c.args.reading.now m.input.program) (position m) in
    let ends =
    search_back_is test m.forgotten (position m) c.args.bound c.loop-k._k (position l) held.stepped (omega arith)
    (omega (arith, held.forgotten)) (λ j h. held.went_on j (omega arith)) (λ h g. absurd (omega arith)) in
    record { input = held.input; forgotten = held.forgotten; breaks = held.breaks; position = sym ends }

pub returns-clause-met : goal.returns-clause-met
returns-clause-met g c =
    let m = c.args.debugger.now.machine in
    let l = c.loop-k.debugger.machine in
    let held = c.loop-k.invariant in
    let test : ℕ → Bool = changes_in m.input (g.R.Reading.subject c.args.reading.now m.input.program) (position m) in
    unmet_back test (position m) (position l) c.loop-k._k held.stepped held.went_on
