use Rattle.std.proofs.Common.{◌≡◌, ◌+◌, [], ◌∷◌, length, drop, arith, rules, refl, ap, sym, ◌∙◌, Ok, Err, w64}
use Rattle.std.proofs.Common.{FitsSigned, to_z, of_z}
use Rattle.std.proofs.lemmas.Int.{to_z-of_z}
use Rattle.ss_words.specs.declared.fault.RunFault.{RunFault}
use Rattle.ss_machine.specs.Seen.{scope_held}
use Rattle.ss_state.specs.Statements.{state_with_values}
use Rattle.ss_state.proofs.Parts.{drop_at, drop_past}
use Rattle.ss_machine.proofs.Notings.{notes_both, notes_within, notes_none}
use Rattle.ss_state.proofs.Repeats.{targets_sound, targets_first, targets_more, targets_fail}
use Rattle.ss_machine.proofs.executor.Executor.assign_kept.Goals as goal

pub loop-target-init : goal.loop-target-init
loop-target-init g c = record {
  sound = c.requires.sound;
  counted = omega arith;
  values = refl;
  tables = refl;
  state = refl;
  notes = notes_none 0 c.args.self.now.held c.args.self.now.held c.args.self.now.journal refl;
}

pub assign_target-requires-clause-target : goal.assign_target-requires-clause-target
assign_target-requires-clause-target g c =
    let xs = c.args.targets.now in
    let i = c.loop-target.target-index in
    let here : c.deref-target-items.result.now ≡ xs = search rules in
    targets_first (scope_held c.loop-target.self.held) xs i c.target-item.result
    (drop_at i xs c.deref-target-items.result.now c.target-item.result c.loop-target-test.true here c.target-item.is)
    c.loop-target.invariant.sound

pub assign_target-requires-clause-room : goal.assign_target-requires-clause-room
assign_target-requires-clause-room g c =
    let here : c.deref-target-items.result.now ≡ c.args.targets.now = search rules in
    omega (
      arith,
      ap length here,
      c.loop-target-test.true,
      c.loop-target.invariant.notes.room,
      c.requires.room,
    )

pub loop-target-preserved : goal.loop-target-preserved
loop-target-preserved g c =
    let xs = c.args.targets.now in
    let i = c.loop-target.target-index in
    let x = c.target-item.result in
    let here : c.deref-target-items.result.now ≡ xs = search rules in
    let d : drop i xs ≡ x ∷ drop (i + 1) xs =
    drop_at i xs c.deref-target-items.result.now x c.loop-target-test.true here c.target-item.is in
    let fits : FitsSigned w64 c.value_at-value.result = search rules in
    let a : to_z w64 (of_z w64 c.value_at-value.result) ≡ c.value_at-value.result = to_z-of_z w64 _ fits in
    let u = c.loop-target.invariant in
    record {
      sound =
          targets_sound (scope_held c.loop-target.self.held) (scope_held c.assign_target.new.self.held) xs i x d
          u.sound c.in_ok-assign_target.ensures.scope;
      counted = omega (arith, u.counted);
      values = c.assign_target.ensures.values ∙ u.values;
      tables = c.assign_target.ensures.tables ∙ u.tables;
      state =
          targets_more c.args.self.now.held.beside.tables c.loop-target.self.held.beside.tables
          c.args.self.now.values.items c.loop-target.self.held.state c.assign_target.new.self.held.state xs i
          c.loop-target.number x (to_z w64 (of_z w64 c.value_at-value.result))
          (state_with_values c.args.self.now.held.beside.tables c.args.self.now.values.items c.args.self.now.held.state
          c.args.first c.args.targets.now) d u.tables (a ∙ rw u.values at c.value_at-value.ensures)
          c.in_ok-assign_target.ensures.outcome u.state;
      notes =
          notes_both i 1 (i + 1) c.args.self.now c.loop-target.self c.assign_target.new.self u.notes
          c.assign_target.ensures.notes (omega arith);
    }

pub returns-in_err-assign_target-clause-outcome : goal.returns-in_err-assign_target-clause-outcome
returns-in_err-assign_target-clause-outcome g c =
    let e : RunFault = c.in_err-assign_target.field-0.0 in
    let xs = c.args.targets.now in
    let i = c.loop-target.target-index in
    let x = c.target-item.result in
    let here : c.deref-target-items.result.now ≡ xs = search rules in
    let d : drop i xs ≡ x ∷ drop (i + 1) xs =
    drop_at i xs c.deref-target-items.result.now x c.loop-target-test.true here c.target-item.is in
    let fits : FitsSigned w64 c.value_at-value.result = search rules in
    let a : to_z w64 (of_z w64 c.value_at-value.result) ≡ c.value_at-value.result = to_z-of_z w64 _ fits in
    let u = c.loop-target.invariant in
    let r : c.from_residual.result ≡ Err e = search rules in
    rw r
    (targets_fail c.args.self.now.held.beside.tables c.loop-target.self.held.beside.tables c.args.self.now.values.items
    c.loop-target.self.held.state xs i c.loop-target.number x (to_z w64 (of_z w64 c.value_at-value.result)) e
    (state_with_values c.args.self.now.held.beside.tables c.args.self.now.values.items c.args.self.now.held.state
    c.args.first c.args.targets.now) d u.tables
    (a ∙ rw u.values at c.value_at-value.ensures) c.in_err-assign_target.ensures.outcome u.state)

pub returns-in_err-assign_target-clause-notes : goal.returns-in_err-assign_target-clause-notes
returns-in_err-assign_target-clause-notes g c =
    let i = c.loop-target.target-index in
    let here : c.deref-target-items.result.now ≡ c.args.targets.now = search rules in
    notes_both i 1 (length c.args.targets.now) c.args.self.now c.loop-target.self c.assign_target.new.self
    c.loop-target.invariant.notes c.assign_target.ensures.notes (omega (arith, ap length here, c.loop-target-test.true))

pub returns-clause-outcome : goal.returns-clause-outcome
returns-clause-outcome g c =
    let xs = c.args.targets.now in
    let i = c.loop-target.target-index in
    let here : c.deref-target-items.result.now ≡ xs = search rules in
    let n : drop i xs ≡ [] = drop_past i xs (omega (arith, ap length here, c.loop-target-test.false)) in
    let s = c.loop-target.self.held.state in
    let done : state_with_values c.args.self.now.held.beside.tables c.args.self.now.values.items s c.loop-target.number
    (drop i xs) ≡ Ok s = rw n refl in
    sym c.loop-target.invariant.state ∙ done

pub returns-clause-notes : goal.returns-clause-notes
returns-clause-notes g c =
    let i = c.loop-target.target-index in
    let here : c.deref-target-items.result.now ≡ c.args.targets.now = search rules in
    notes_within i (length c.args.targets.now) c.args.self.now c.loop-target.self c.loop-target.invariant.notes
    (omega (arith, ap length here, c.loop-target.auto.target-index-end))
