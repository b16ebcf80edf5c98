use Rattle.std.proofs.Common.{◌≡◌, ◌<◌, sym, ◌∙◌, arith}
use Rattle.std.specs.Prelude.{codes}
use Rattle.std.proofs.lemmas.List.{append-nil}
use Rattle.ss_machine.specs.Moment.{position}
use Rattle.ss_changes.specs.Texts.{first_changes}
use Rattle.ss_changes.proofs.Orders.{behind}
use Rattle.ss_changes.proofs.Saying.{on_ok, stop_earliest, stop_later, said_there}
use Rattle.ss_changes.proofs.answers.push_stop_changes.Goals as goal

pub returns-then-kept-eq0-clause-said : goal.returns-then-kept-eq0-clause-said
returns-then-kept-eq0-clause-said g c =
    let m = c.args.debugger.now.machine in
    let kept = rw c.machine.ensures at c.kept.ensures in
    let first : position m ≡ m.forgotten = omega (arith, kept, c.if-kept-eq0.true) in
    rw (stop_earliest m.input m.forgotten (position m) first) (sym (append-nil c.args.bytes.now.items))

pub returns-clause-said : goal.returns-clause-said
returns-clause-said g c =
    let d = c.args.debugger.now in
    let kept = rw c.machine.ensures at c.kept.ensures in
    let some : d.machine.forgotten < position d.machine = omega (arith, kept, c.if-kept-eq0.false) in
    let here = rw c.machine-2.ensures at c.known.ensures.state in
    let said =
    said_there d c.last_changes.new.debugger c.machine-3.result.now c.deref.result.now
    (first_changes (codes "CHANGED")) c.in_ok-changes.ensures.stays c.machine-3.ensures here
    (c.deref.ensures.value ∙ c.in_ok-changes.ensures.changes) in
    on_ok c.push_first_changes.result c.push_first_changes.ensures
    (behind c.args.bytes.now.items c.push_first_changes.new.text.items _ _
    (said ∙ sym (stop_later d.machine.input d.machine.forgotten (position d.machine) some)))
