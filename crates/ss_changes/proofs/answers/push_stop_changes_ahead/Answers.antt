use Rattle.std.proofs.Common.{sym, ◌∙◌}
use Rattle.std.specs.Prelude.{codes}
use Rattle.std.proofs.lemmas.List.{append-nil}
use Rattle.ss_changes.specs.Texts.{first_changes}
use Rattle.ss_changes.proofs.Orders.{behind}
use Rattle.ss_changes.proofs.Saying.{ahead_nothing_at, ahead_told_at, said_there}
use Rattle.ss_changes.proofs.answers.push_stop_changes_ahead.Goals as goal

pub returns-in-AtEnd-clause-said : goal.returns-in-AtEnd-clause-said
returns-in-AtEnd-clause-said g c =
    let m = c.args.debugger.now.machine in
    let state = rw c.machine.ensures at c.known.ensures.state in
    let steps = rw c.in-AtEnd.is at c.in_ok-step_forward.ensures.ok in
    rw (ahead_nothing_at m state steps.0) (sym (append-nil c.args.bytes.now.items))

pub returns-clause-said : goal.returns-clause-said
returns-clause-said g c =
    let d = c.args.debugger.now in
    let e = c.step_forward.new.self in
    let state = rw c.machine.ensures at c.known.ensures.state in
    let moved = rw c.in-Moved.is at c.in_ok-step_forward.ensures.ok in
    let here = rw c.machine-2.ensures at c.known-2.ensures.state in
    let said =
    said_there e c.last_changes.new.debugger c.machine-3.result.now c.deref.result.now
    (first_changes (codes "WILL CHANGE")) c.in_ok-changes.ensures.stays c.machine-3.ensures here
    (c.deref.ensures.value ∙ c.in_ok-changes.ensures.changes) in
    behind c.args.bytes.now.items c.push_first_changes.new.text.items _ _
    (said ∙ sym (ahead_told_at d.machine e.machine state moved)) c.in_ok-push_first_changes.ensures
