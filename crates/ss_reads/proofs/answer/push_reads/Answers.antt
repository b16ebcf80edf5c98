use Rattle.std.proofs.Common.{◌≡◌, ◌++◌, [], ℕ, List, ◌<◌, length, OnOk, arith, sym, subst, ◌∙◌, false-eqb}
use Rattle.ss_machine.specs.Moment.{position}
use Rattle.ss_state.specs.Run.{run}
use Rattle.ss_reads.specs.Answers.{read_lines, reads_text}
use Rattle.ss_reads.specs.Reads.{first_ones, written_reads}
use Rattle.ss_reads.proofs.Firsts.{answer_is}
use Rattle.ss_reads.proofs.answer.push_reads.Goals as goal

pub returns-clause-said : goal.returns-clause-said
returns-clause-said g c =
    let m = c.args.debugger.now.machine in
    let rs = c.in_ok-reads.reads.items in
    let state : m.state ≡ run m.input (position m) = rw c.machine.ensures at c.known.ensures.state in
    let read : rs ≡ written_reads m.input.program m.state = rw c.machine-2.ensures at c.in_ok-reads.ensures in
    let some : 0 < length rs = omega (arith, false-eqb _ 0 c.if-is_empty.ensures, c.in_ok-reads.reads.ok.0) in
    let same : rs ≡ c.deref.result.now = cc in
    let all = answer_is m.input m.forgotten (position m) m.state rs state read some in
    let lines : read_lines m.input m.forgotten (position m) (first_ones [] c.deref.result.now)
    ≡ reads_text m.input m.forgotten (position m) = rw same at (sym all) in
    subst (λ (l : List ℕ). OnOk c.push_lines.result (c.push_lines.new.text.items ≡ c.args.text.now.items ++ l)) lines
    c.push_lines.ensures.said
