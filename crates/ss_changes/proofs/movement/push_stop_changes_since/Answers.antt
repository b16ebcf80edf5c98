use Rattle.std.proofs.Common.{◌≡◌, ◌++◌, sym, ◌∙◌, rules, subst}
use Rattle.ss_machine.specs.Moment.{Moment, position}
use Rattle.ss_changes.specs.Snapshots.{IsTakenIn}
use Rattle.ss_changes.specs.Texts.{first_changes, stop_changes_since}
use Rattle.ss_changes.proofs.Saying.{on_ok, said_since}
use Rattle.ss_changes.proofs.movement.push_stop_changes_since.Goals as goal

pub movement_changes-requires : goal.movement_changes-requires
movement_changes-requires g c =
    subst (λ (x : Moment). IsTakenIn x.input c.args.left.now) (sym c.machine-machine.ensures) c.requires

pub returns : goal.returns
unfolding stop_changes_since
returns g c =
    let m = c.machine-machine.result.now in
    let p = c.args.left.now.position in
    let old = c.args.bytes.now.items in
    let new = c.push_first_changes.new.text.items in
    let at : c.left.inside.position ≡ p = search rules in
    on_ok c.push_first_changes.result c.push_first_changes.ensures
    (λ said. subst (λ (x : Moment). new ≡ old ++ stop_changes_since x.input p (position x)) c.machine-machine.ensures
    (said_since m p c.left.inside.position c.position.result c.movement_word-word.result.now c.deref.result.now
    first_changes old new c.known.ensures.state at c.position.ensures c.movement_word-word.ensures
    (c.deref.ensures.value ∙ c.in_ok-changes.ensures) said))
