use Rattle.std.proofs.Common.{◌≡◌, ◌++◌, ◌∷◌, ◌+◌, ◌-◌, ℕ, List, take, length, suc, ap, ◌∙◌, arith}
use Rattle.ss_machine.specs.Moment.{position}
use Rattle.ss_state.specs.Run.{Input, run}
use Rattle.ss_trace.proofs.Histories.{count_more, rows_on}
use Rattle.ss_trace.proofs.Looking.{looked_on}
use Rattle.ss_readings.specs.Subject.{Subject}
use Rattle.ss_readings.specs.Seen.{seen, changes_until}
use Rattle.ss_readings.specs.ValueView.{value_if}
use Rattle.ss_readings.specs.History.{step_row, step_rows}
use Rattle.ss_readings.proofs.Tables.{row_more, row_told, history_moved}
use Rattle.ss_readings.proofs.history.push_rows.Goals as goal

pub back_to_newest-requires-clause-suits : goal.back_to_newest-requires-clause-suits
back_to_newest-requires-clause-suits g c = rw c.loop-count.invariant.gone.input c.requires

pub back_to_newest-requires-clause-earlier : goal.back_to_newest-requires-clause-earlier
back_to_newest-requires-clause-earlier g c =
    omega (arith, c.loop-count.invariant.gone.no_later, c.loop-count.invariant.asked)

pub back_to_newest-requires-clause-followed : goal.back_to_newest-requires-clause-followed
back_to_newest-requires-clause-followed g c = rw c.loop-count.invariant.gone.input c.loop-count.invariant.followed

pub loop-count-preserved : goal.loop-count-preserved
loop-count-preserved g c =
    let d = c.args.debugger.now in
    let t = d.machine.input in
    let low : ℕ = d.machine.forgotten in
    let p : ℕ = position d.machine in
    let s : Subject = g.R.Reading.subject c.args.reading.now t.program in
    let l = c.loop-count.debugger in
    let u = c.back_to_newest.new.debugger in
    let held = c.loop-count.invariant in
    let gone = looked_on d l u held.gone c.in_ok-back_to_newest.ensures.gone in
    let n : ℕ = c.args.most - c.loop-count.count in
    let k : ℕ = c.args.most - (c.loop-count.count + 1) in
    let one : n ≡ k + 1 = omega (arith, c.loop-count-test.true) in
    let there = rw c.if-not-branch.false at c.in_ok-back_to_newest.ensures.found in
    let newest : changes_until t s p low (position l.machine)
    ≡ position u.machine ∷ changes_until t s p low (position u.machine) =
    history_moved t l.machine.input s (g.R.Reading.subject c.args.reading.now l.machine.input.program) p
    c.loop-count.followed.asked low l.machine.forgotten (position l.machine) (position u.machine) held.gone.input
    (ap (λ (x : Input). g.R.Reading.subject c.args.reading.now x.program) held.gone.input) held.asked
    held.gone.forgotten there.1 in
    let after : value_if c.back_to_newest.new.followed.passed ≡ seen t s p (position u.machine + 1) =
    rw (held.gone.input, held.asked) at there.0 in
    let state : u.machine.state ≡ run u.machine.input (position u.machine) =
    rw c.machine.ensures at c.known.ensures.state in
    let told : c.push_step_row.new.bytes.items
    ≡ c.loop-count.bytes.items ++ step_row t s p (position u.machine) =
    c.in_ok-push_step_row.ensures
    ∙ ap (λ (r : List ℕ). c.loop-count.bytes.items ++ r)
    (row_told t s p u.machine _ gone.input state after) in
    let rest : step_rows t s p (take n (changes_until t s p low (position l.machine)))
    ≡ step_row t s p (position u.machine) ++ step_rows t s p (take k (changes_until t s p low (position u.machine))) =
    ap (λ (qs : List ℕ). step_rows t s p (take n qs)) newest
    ∙ row_more t s p n k (position u.machine) (changes_until t s p low (position u.machine)) one in
    let more : length (take n (changes_until t s p low (position l.machine)))
    ≡ suc (length (take k (changes_until t s p low (position u.machine)))) =
    ap (λ (qs : List ℕ). length (take n qs)) newest
    ∙ count_more n k (position u.machine) (changes_until t s p low (position u.machine)) one in
    record {
      gone = gone;
      few = omega (arith, c.loop-count-test.true);
      asked = c.in_ok-back_to_newest.ensures.asked ∙ held.asked;
      followed = rw held.gone.input at c.in_ok-back_to_newest.ensures.followed;
      rows =
          rows_on c.loop-count.bytes.items (step_row t s p (position u.machine))
          (step_rows t s p (take k (changes_until t s p low (position u.machine))))
          (step_rows t s p (take n (changes_until t s p low (position l.machine)))) _ c.push_step_row.new.bytes.items
          told rest held.rows;
      counted = omega (arith, held.counted, more);
    }
