use Rattle.std.proofs.Common.{◌≡◌, ◌≢◌, ◌++◌, ℕ, List, take, length, sym, ap, ◌∙◌}
use Rattle.ss_machine.specs.Moment.{position}
use Rattle.ss_trace.specs.History.{head_of}
use Rattle.ss_trace.proofs.Refusals.{on_ok}
use Rattle.ss_readings.specs.Subject.{Subject}
use Rattle.ss_readings.specs.Seen.{changes_before}
use Rattle.ss_readings.specs.History.{step_rows}
use Rattle.ss_readings.proofs.Tables.{told_some}
use Rattle.ss_readings.proofs.history.push_table.Goals as goal

pub returns-clause-said : goal.returns-clause-said
returns-clause-said g c =
    let m = c.args.debugger.now.machine in
    let s : Subject = g.R.Reading.subject c.args.reading.now m.input.program in
    let steps : List ℕ = take c.args.most (changes_before m.input s m.forgotten (position m)) in
    let rows : c.deref.result.now ≡ step_rows m.input s (position m) steps =
    c.deref.ensures.value ∙ (rw c.new-rows.ensures.items at c.in_ok-count.ensures.rows) in
    let some : length steps ≢ 0 = λ z. c.if-count-eq0.false (c.in_ok-count.ensures.count ∙ z) in
    on_ok c.push_with_head.result c.push_with_head.ensures (λ e.
    e ∙ ap (λ (ys : List ℕ). c.args.bytes.now.items ++ ys)
    (ap (λ (rs : List ℕ). head_of c.args.name.now ++ rs) rows
    ∙ sym (told_some m.input s c.args.name.now c.args.most m.forgotten (position m) some)))
