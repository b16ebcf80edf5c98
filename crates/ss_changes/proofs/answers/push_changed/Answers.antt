use Rattle.std.proofs.Common.{◌≡◌, ◌<◌, sym, ◌∙◌, arith}
use Rattle.std.specs.Prelude.{codes}
use Rattle.ss_machine.specs.Moment.{position}
use Rattle.ss_changes.specs.Texts.{all_changes}
use Rattle.ss_changes.proofs.Orders.{behind}
use Rattle.ss_changes.proofs.Saying.{on_ok, said_first, said_later, said_there}
use Rattle.ss_changes.proofs.answers.push_changed.Goals as goal

pub returns-then-kept-eq0-clause-said : goal.returns-then-kept-eq0-clause-said
returns-then-kept-eq0-clause-said g c =
    let m = c.args.debugger.now.machine in
    let kept = rw c.machine.ensures at c.kept.ensures in
    let place = rw c.machine-then-kept-eq0.ensures at c.position.ensures in
    let first : position m ≡ m.forgotten = omega (arith, kept, c.if-kept-eq0.true) in
    on_ok c.push_earliest.result c.push_earliest.ensures
    (λ said. said_first m.input m.forgotten (position m) c.position.result c.args.bytes.now.items
    c.push_earliest.new.text.items place first said)

pub returns-clause-said : goal.returns-clause-said
returns-clause-said g c =
    let d = c.args.debugger.now in
    let kept = rw c.machine.ensures at c.kept.ensures in
    let some : d.machine.forgotten < position d.machine = omega (arith, kept, c.if-kept-eq0.false) in
    let here = rw c.machine-2.ensures at c.known.ensures.state in
    let said =
    said_there d c.last_changes.new.debugger c.machine-3.result.now c.deref.result.now (all_changes (codes "CHANGED"))
    c.in_ok-changes.ensures.stays c.machine-3.ensures here (c.deref.ensures.value ∙ c.in_ok-changes.ensures.changes) in
    on_ok c.push_all_changes.result c.push_all_changes.ensures
    (behind c.args.bytes.now.items c.push_all_changes.new.text.items _ _
    (said ∙ sym (said_later d.machine.input d.machine.forgotten (position d.machine) some)))
