use Rattle.std.proofs.Common.{◌≡◌, ◌++◌, [], List, sym, ap, ◌∙◌, rules, subst, length}
use Rattle.ss_program.specs.ProgramSound.{IsSound}
use Rattle.ss_state.specs.Run.{run}
use Rattle.ss_changes.specs.Snapshots.{SnapshotView, AreRising, snapshot_of, noted_against, frames_against}
use Rattle.ss_changes.specs.Parts.{notices_in}
use Rattle.ss_changes.specs.View.{living_in}
use Rattle.ss_changes.proofs.Across.{across_in_turn}
use Rattle.ss_changes.proofs.Comparing.{living_length}
use Rattle.ss_changes.proofs.Rising.{living_rise}
use Rattle.ss_changes.proofs.since.changes_since.Goals as goal

pub entities_noted-requires-clause-classes : goal.entities_noted-requires-clause-classes
entities_noted-requires-clause-classes g c =
    let m = c.args.machine.now in
    let p = m.input.program in
    let s = run m.input c.args.left.now.position in
    let here : c.deref.result.now ≡ c.args.left.now.living = search rules in
    ap length (here ∙ ap (λ (l : SnapshotView). l.living) c.requires) ∙ living_length p s

pub entities_noted-requires-clause-rising : goal.entities_noted-requires-clause-rising
entities_noted-requires-clause-rising g c =
    let m = c.args.machine.now in
    let p = m.input.program in
    let s = run m.input c.args.left.now.position in
    let here : c.deref.result.now ≡ c.args.left.now.living = search rules in
    subst AreRising (sym (here ∙ ap (λ (l : SnapshotView). l.living) c.requires)) (living_rise p s)

pub returns : goal.returns
returns g c =
    let m = c.args.machine.now in
    let p = m.input.program in
    let s = run m.input c.args.left.now.position in
    let u = m.state in
    let l = c.args.left.now in
    let sound : IsSound p = rw c.program.ensures at c.known.ensures in
    let e = c.in_ok-entities.entities in
    let w = c.in_ok-notices.notices in
    let one : c.push_noted.new.changes.items ≡ noted_against p u l.globals = search rules in
    let two : c.push_shared_locals.new.changes.items ≡ c.push_noted.new.changes.items ++ frames_against p u l.frames =
    search rules in
    let three : c.push_noted-2.new.changes.items
    ≡ c.push_shared_locals.new.changes.items ++ noted_against p u l.attributes = search rules in
    let four : c.push_noted-3.new.changes.items ≡ c.push_noted-2.new.changes.items ++ noted_against p u e =
    search rules in
    let five : c.push_noted-4.new.changes.items ≡ c.push_noted-3.new.changes.items ++ noted_against p u l.lists =
    search rules in
    let six : c.push_noted-5.new.changes.items ≡ c.push_noted-4.new.changes.items ++ noted_against p u l.notices =
    search rules in
    let seven : c.push_noted-6.new.changes.items ≡ c.push_noted-5.new.changes.items ++ noted_against p u w =
    search rules in
    let eight : c.push_noted-7.new.changes.items ≡ c.push_noted-6.new.changes.items ++ noted_against p u l.singles =
    search rules in
    let living : c.deref.result.now ≡ l.living = search rules in
    let notices : c.deref-2.result.now ≡ l.notices.parts = search rules in
    let lived : c.deref.result.now ≡ living_in p s = living ∙ ap (λ (v : SnapshotView). v.living) c.requires in
    let pending : c.deref-2.result.now ≡ notices_in p s =
    notices ∙ ap (λ (v : SnapshotView). v.notices.parts) c.requires in
    across_in_turn p s u sound l l.position c.requires e w one two three four five six seven eight
    (rw lived at c.in_ok-entities.ensures) (rw pending at c.in_ok-notices.ensures)
