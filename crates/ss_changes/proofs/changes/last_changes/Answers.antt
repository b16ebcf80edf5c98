use Rattle.std.proofs.Common.{◌≡◌, ◌-◌, ◌++◌, List, refl, sym, ap, ◌∙◌, map, subst}
use Rattle.ss_program.specs.Program.{ProgramTable}
use Rattle.ss_state.specs.State.{State}
use Rattle.ss_changes.specs.declared.part.Part.{Part}
use Rattle.ss_changes.specs.declared.change.Change.{Change}
use Rattle.ss_changes.specs.declared.value.PartValue.{PartValue}
use Rattle.ss_machine.specs.Moment.{position}
use Rattle.ss_changes.specs.Values.{value_in}
use Rattle.ss_changes.specs.Parts.{notices_in}
use Rattle.ss_changes.specs.Changes.{changes_among, changes_between}
use Rattle.ss_changes.specs.View.{HasReturned, program_of, state_of, state_before, local_counts, living_in, told_against}
use Rattle.ss_changes.proofs.Orders.{told_between}
use Rattle.ss_changes.proofs.Comparing.{living_length}
use Rattle.ss_changes.proofs.Saying.{there, returned}
use Rattle.ss_changes.proofs.changes.last_changes.Goals as goal

pub compared_parts-requires-clause-classes : goal.compared_parts-requires-clause-classes
compared_parts-requires-clause-classes g c =
    let d = c.args.debugger.now in
    rw (
      c.deref-2.ensures.value,
      c.in_ok-later.ensures,
      c.machine-6.ensures,
      c.machine-3.ensures,
      c.go_back.ensures.input,
    )
    (living_length (program_of d) d.machine.state)

pub returns-clause-changes : goal.returns-clause-changes
returns-clause-changes g c =
    let d = c.args.debugger.now in
    let p = program_of d in
    let s = state_before d in
    let u = state_of d in
    let here : d.machine.state ≡ u = rw c.machine.ensures at c.known.ensures.state in
    let still : HasReturned d d = record { input = refl; forgotten = refl; breaks = refl; position = refl } in
    let now = position d.machine in
    let one = there d d now c.machine-2.result.now still c.machine-2.ensures here in
    let two = there d d now c.machine-3.result.now still c.machine-3.ensures here in
    let three = there d d now c.machine-4.result.now still c.machine-4.ensures here in
    let counts : c.in_ok-counts.counts.items ≡ local_counts p u =
    c.in_ok-counts.ensures ∙ ap (λ (q : ProgramTable). local_counts q c.machine-2.result.now.state) one.0
    ∙ ap (λ (t : State). local_counts p t) one.1 in
    let living : c.in_ok-later.later.items ≡ living_in p u =
    c.in_ok-later.ensures ∙ ap (λ (q : ProgramTable). living_in q c.machine-3.result.now.state) two.0
    ∙ ap (λ (t : State). living_in p t) two.1 in
    let notices : c.in_ok-notices.notices.items ≡ notices_in p u =
    c.in_ok-notices.ensures ∙ ap (λ (q : ProgramTable). notices_in q c.machine-4.result.now.state) three.0
    ∙ ap (λ (t : State). notices_in p t) three.1 in
    let b = c.go_back.new.debugger in
    let before = rw c.machine-5.ensures at c.known-2.ensures.state in
    let m = c.machine-6.result.now in
    let n = c.machine-7.result.now in
    let listed = there d b (now - 1) m c.go_back.ensures c.machine-6.ensures before in
    let read = there d b (now - 1) n c.go_back.ensures c.machine-7.ensures before in
    let xs = c.in_ok-parts.parts.items in
    let parts : changes_among p s u xs ≡ changes_between p s u =
    subst (λ (q : ProgramTable). changes_among q s u xs ≡ changes_between q s u) listed.0
    (subst (λ (t : State). changes_among m.input.program t u xs ≡ changes_between m.input.program t u) listed.1
    (c.in_ok-parts.ensures u
    (c.deref.ensures.value ∙ counts ∙ ap (λ (q : ProgramTable). local_counts q u) (sym listed.0))
    (c.deref-2.ensures.value ∙ living ∙ ap (λ (q : ProgramTable). living_in q u) (sym listed.0))
    (c.deref-3.ensures.value ∙ notices ∙ ap (λ (q : ProgramTable). notices_in q u) (sym listed.0)))) in
    let values : c.in_ok-values.values.items ≡ map (value_in p s) xs =
    c.in_ok-values.ensures ∙ ap (λ (q : ProgramTable). map (value_in q n.state) c.deref-4.result.now) read.0
    ∙ ap (λ (t : State). map (value_in p t) c.deref-4.result.now) read.1
    ∙ ap (λ (l : List Part). map (value_in p s) l) c.deref-4.ensures.value in
    let e = c.go_on.new.debugger in
    let stays = returned d b e c.requires c.go_back.ensures c.in_ok-go_on.ensures.ok in
    let after = rw c.machine-8.ensures at c.known-3.ensures.state in
    let last = c.machine-9.result.now in
    let told = there d e now last stays c.machine-9.ensures after in
    let five = c.deref-5.result.now in
    let six = c.deref-6.result.now in
    c.in_ok-push_told.ensures
    ∙ ap (λ (l : List Change). l ++ told_against last.input.program last.state five six) c.new-changes.ensures.items
    ∙ ap (λ (q : ProgramTable). told_against q last.state five six) told.0
    ∙ ap (λ (t : State). told_against p t five six) told.1
    ∙ ap (λ (l : List Part). told_against p u l six) c.deref-5.ensures.value
    ∙ ap (λ (l : List PartValue). told_against p u xs l) (c.deref-6.ensures.value ∙ values)
    ∙ told_between p s u xs ∙ parts
