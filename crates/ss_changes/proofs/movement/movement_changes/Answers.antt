use Rattle.std.proofs.Common.{◌≡◌, ◌<◌, map, sym, ap, ◌∙◌, arith, rules}
use Rattle.ss_machine.specs.Moment.{position}
use Rattle.ss_state.specs.Run.{run}
use Rattle.ss_state.specs.State.{State}
use Rattle.ss_changes.specs.Changes.{changes_across, turned}
use Rattle.ss_changes.proofs.Saying.{if_ok, moved_nowhere, moved_on, moved_back}
use Rattle.ss_changes.proofs.movement.movement_changes.Goals as goal

pub returns-then-left-position : goal.returns-then-left-position
returns-then-left-position g c =
    let m = c.args.machine.now in
    let p = c.args.left.now.position in
    let at : c.left.inside.position ≡ p = search rules in
    let same : p ≡ position m = omega (arith, at, c.position.ensures, c.if-left-position.true) in
    c.new.ensures.items ∙ sym (moved_nowhere m.input p (position m) same)

pub returns-then-left-position-2 : goal.returns-then-left-position-2
returns-then-left-position-2 g c =
    let m = c.args.machine.now in
    let p = c.args.left.now.position in
    let at : c.left.inside.position ≡ p = search rules in
    let later : p < position m = omega (arith, at, c.position-2.ensures, c.if-left-position-2.true) in
    c.in_ok-changes.ensures
    ∙ ap (λ (s : State). changes_across m.input.program (run m.input p) s) c.known.ensures.state
    ∙ sym (moved_on m.input p (position m) later)

pub returns : goal.returns
returns g c =
    let m = c.args.machine.now in
    let p = c.args.left.now.position in
    let at : c.left.inside.position ≡ p = search rules in
    let earlier : position m < p =
    omega (
      arith,
      at,
      c.position.ensures,
      c.position-2.ensures,
      c.if-left-position.false,
      c.if-left-position-2.false,
    ) in
    if_ok c.turned.result _ _ c.turned.ensures (λ v h. h
    ∙ ap (map turned) (c.in_ok-changes.ensures
    ∙ ap (λ (s : State). changes_across m.input.program (run m.input p) s) c.known.ensures.state)
    ∙ sym (moved_back m.input p (position m) earlier))
