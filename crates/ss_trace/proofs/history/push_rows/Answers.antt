use Rattle.std.proofs.Common.{◌≡◌, ◌++◌, ◌∷◌, ◌+◌, ◌-◌, ℕ, List, take, length, suc, ap, ◌∙◌, arith}
use Rattle.ss_machine.specs.Moment.{position}
use Rattle.ss_trace.specs.History.{history, step_row, step_rows}
use Rattle.ss_trace.proofs.Histories.{row_more, count_more, rows_on, history_moved}
use Rattle.ss_trace.proofs.Looking.{looked_on, looked_same}
use Rattle.ss_trace.proofs.Refusals.{on_err}
use Rattle.ss_trace.proofs.history.push_rows.Goals as goal

pub back_to_newest-requires : goal.back_to_newest-requires
back_to_newest-requires g c = rw c.loop-count.invariant.gone.input c.loop-count.invariant.reading

pub push_step_row-requires-clause-ready : goal.push_step_row-requires-clause-ready
push_step_row-requires-clause-ready g c =
    let gone = c.in_ok-back_to_newest.ensures.gone in
    let moved = c.in_ok-back_to_newest.ensures.moved c.if-not-branch.false in
    rw gone.input (gone.ready _ (omega arith) moved)

pub push_step_row-requires-clause-before_last : goal.push_step_row-requires-clause-before_last
push_step_row-requires-clause-before_last g c =
    let moved = c.in_ok-back_to_newest.ensures.moved c.if-not-branch.false in
    omega (arith, moved, c.loop-count.invariant.gone.no_later, c.loop-count.invariant.last)

pub loop-count-preserved : goal.loop-count-preserved
loop-count-preserved g c =
    let d = c.args.debugger.now in
    let t = d.machine.input in
    let low : ℕ = d.machine.forgotten in
    let x = c.args.question.now in
    let l = c.loop-count.debugger in
    let u = c.back_to_newest.new.debugger in
    let v = c.push_step_row.new.debugger in
    let held = c.loop-count.invariant in
    let gone = looked_on d l u held.gone c.in_ok-back_to_newest.ensures.gone in
    let same = c.in_ok-push_step_row.ensures.back in
    let n : ℕ = c.args.most - c.loop-count.count in
    let k : ℕ = c.args.most - (c.loop-count.count + 1) in
    let one : n ≡ k + 1 = omega (arith, c.loop-count-test.true) in
    let newest : history t x low (position l.machine) ≡ position u.machine ∷ history t x low (position u.machine) =
    history_moved t l.machine.input x low l.machine.forgotten (position l.machine) (position u.machine) held.gone.input
    held.gone.forgotten (c.in_ok-back_to_newest.ensures.found c.if-not-branch.false) in
    let told : c.push_step_row.new.bytes.items ≡ c.loop-count.bytes.items ++ step_row t x (position u.machine) =
    rw gone.input at c.in_ok-push_step_row.ensures.said in
    let rest : step_rows t x (take n (history t x low (position l.machine)))
    ≡ step_row t x (position u.machine) ++ step_rows t x (take k (history t x low (position u.machine))) =
    ap (λ (qs : List ℕ). step_rows t x (take n qs)) newest
    ∙ row_more t x n k (position u.machine) (history t x low (position u.machine)) one in
    let more : length (take n (history t x low (position l.machine)))
    ≡ suc (length (take k (history t x low (position u.machine)))) =
    ap (λ (qs : List ℕ). length (take n qs)) newest
    ∙ count_more n k (position u.machine) (history t x low (position u.machine)) one in
    rw same.position
    (record {
      gone = looked_same d u v gone same;
      few = omega (arith, c.loop-count-test.true);
      last = held.last;
      reading = rw held.gone.input at c.in_ok-back_to_newest.ensures.reading;
      rows =
          rows_on c.loop-count.bytes.items (step_row t x (position u.machine))
          (step_rows t x (take k (history t x low (position u.machine))))
          (step_rows t x (take n (history t x low (position l.machine)))) _ c.push_step_row.new.bytes.items told rest
          held.rows;
      counted = omega (arith, held.counted, more);
    })

pub returns-in_err-push_step_row-clause-memory : goal.returns-in_err-push_step_row-clause-memory
returns-in_err-push_step_row-clause-memory g c =
    let held = c.loop-count.invariant in
    let gone = looked_on c.args.debugger.now c.loop-count.debugger c.back_to_newest.new.debugger held.gone
    c.in_ok-back_to_newest.ensures.gone in
    let moved = c.in_ok-back_to_newest.ensures.moved c.if-not-branch.false in
    let on = c.in_err-push_step_row.ensures.memory in
    on_err c.from_residual-in_err-push_step_row.result (record {
      input = on.input ∙ gone.input;
      forgotten = on.forgotten ∙ gone.forgotten;
      breaks = on.breaks ∙ gone.breaks;
      no_earlier = omega (arith, on.no_earlier, gone.forgotten);
      no_later = omega (arith, on.no_later, moved, held.gone.no_later);
    })
