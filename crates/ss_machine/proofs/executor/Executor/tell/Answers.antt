use Rattle.std.proofs.Common.{◌≡◌, ◌+◌, [], ◌∷◌, length, drop, arith, rules, refl, ap, sym, ◌∙◌, Ok, Err, w64}
use Rattle.std.proofs.Common.{FitsSigned, to_z, of_z}
use Rattle.std.proofs.lemmas.Int.{to_z-of_z}
use Rattle.ss_words.specs.declared.fault.RunFault.{RunFault}
use Rattle.ss_machine.specs.Seen.{scope_held}
use Rattle.ss_state.specs.Statements.Looping.{state_after_telling}
use Rattle.ss_state.proofs.Parts.{drop_at, drop_past}
use Rattle.ss_machine.proofs.Notings.{notes_both, notes_within, notes_none}
use Rattle.ss_state.proofs.Repeats.{telling_sound, telling_target, telling_more, telling_fails}
use Rattle.ss_machine.proofs.executor.Executor.tell.Goals as goal

pub loop-telling-init : goal.loop-telling-init
loop-telling-init g c = record {
  sound = c.requires.sound;
  tables = refl;
  state = refl;
  notes = notes_none 0 c.args.self.now.held c.args.self.now.held c.args.self.now.journal refl;
}

pub assign_target-requires-clause-target : goal.assign_target-requires-clause-target
assign_target-requires-clause-target g c =
    let xs = c.args.tellings.now in
    let i = c.loop-telling.telling-index in
    let here : c.deref-telling-items.result.now ≡ xs = search rules in
    telling_target (scope_held c.loop-telling.self.held) xs i c.telling-item.result
    (drop_at i xs c.deref-telling-items.result.now c.telling-item.result c.loop-telling-test.true here
    c.telling-item.is) c.loop-telling.invariant.sound

pub assign_target-requires-clause-room : goal.assign_target-requires-clause-room
assign_target-requires-clause-room g c =
    let here : c.deref-telling-items.result.now ≡ c.args.tellings.now = search rules in
    omega (
      arith,
      ap length here,
      c.loop-telling-test.true,
      c.loop-telling.invariant.notes.room,
      c.requires.room,
    )

pub loop-telling-preserved : goal.loop-telling-preserved
loop-telling-preserved g c =
    let xs = c.args.tellings.now in
    let i = c.loop-telling.telling-index in
    let x = c.telling-item.result in
    let here : c.deref-telling-items.result.now ≡ xs = search rules in
    let d : drop i xs ≡ x ∷ drop (i + 1) xs =
    drop_at i xs c.deref-telling-items.result.now x c.loop-telling-test.true here c.telling-item.is in
    let fits : FitsSigned w64 c.statistic_value.result = search rules in
    let a : to_z w64 (of_z w64 c.statistic_value.result) ≡ c.statistic_value.result = to_z-of_z w64 _ fits in
    let u = c.loop-telling.invariant in
    record {
      sound =
          telling_sound (scope_held c.loop-telling.self.held) (scope_held c.assign_target.new.self.held) xs i x d
          u.sound c.in_ok-assign_target.ensures.scope;
      tables = c.assign_target.ensures.tables ∙ u.tables;
      state =
          telling_more c.args.self.now.held.beside.tables c.loop-telling.self.held.beside.tables c.args.statistics
          c.loop-telling.self.held.state c.assign_target.new.self.held.state xs i x
          (to_z w64 (of_z w64 c.statistic_value.result))
          (state_after_telling c.args.self.now.held.beside.tables c.args.statistics c.args.self.now.held.state
          c.args.tellings.now) d u.tables
          (a ∙ c.statistic_value.ensures) c.in_ok-assign_target.ensures.outcome u.state;
      notes =
          notes_both i 1 (i + 1) c.args.self.now c.loop-telling.self c.assign_target.new.self u.notes
          c.assign_target.ensures.notes (omega arith);
    }

pub returns-in_err-assign_target-clause-outcome : goal.returns-in_err-assign_target-clause-outcome
returns-in_err-assign_target-clause-outcome g c =
    let e : RunFault = c.in_err-assign_target.field-0.0 in
    let xs = c.args.tellings.now in
    let i = c.loop-telling.telling-index in
    let x = c.telling-item.result in
    let here : c.deref-telling-items.result.now ≡ xs = search rules in
    let d : drop i xs ≡ x ∷ drop (i + 1) xs =
    drop_at i xs c.deref-telling-items.result.now x c.loop-telling-test.true here c.telling-item.is in
    let fits : FitsSigned w64 c.statistic_value.result = search rules in
    let a : to_z w64 (of_z w64 c.statistic_value.result) ≡ c.statistic_value.result = to_z-of_z w64 _ fits in
    let r : c.from_residual.result ≡ Err e = search rules in
    rw r
    (telling_fails c.args.self.now.held.beside.tables c.loop-telling.self.held.beside.tables c.args.statistics
    c.loop-telling.self.held.state xs i x (to_z w64 (of_z w64 c.statistic_value.result)) e
    (state_after_telling c.args.self.now.held.beside.tables c.args.statistics c.args.self.now.held.state
    c.args.tellings.now) d c.loop-telling.invariant.tables (a ∙ c.statistic_value.ensures)
    c.in_err-assign_target.ensures.outcome c.loop-telling.invariant.state)

pub returns-in_err-assign_target-clause-notes : goal.returns-in_err-assign_target-clause-notes
returns-in_err-assign_target-clause-notes g c =
    let i = c.loop-telling.telling-index in
    let here : c.deref-telling-items.result.now ≡ c.args.tellings.now = search rules in
    notes_both i 1 (length c.args.tellings.now) c.args.self.now c.loop-telling.self c.assign_target.new.self
    c.loop-telling.invariant.notes c.assign_target.ensures.notes
    (omega (arith, ap length here, c.loop-telling-test.true))

pub returns-clause-outcome : goal.returns-clause-outcome
returns-clause-outcome g c =
    let xs = c.args.tellings.now in
    let i = c.loop-telling.telling-index in
    let here : c.deref-telling-items.result.now ≡ xs = search rules in
    let n : drop i xs ≡ [] = drop_past i xs (omega (arith, ap length here, c.loop-telling-test.false)) in
    let s = c.loop-telling.self.held.state in
    let done : state_after_telling c.args.self.now.held.beside.tables c.args.statistics s (drop i xs) ≡ Ok s =
    rw n refl in
    sym c.loop-telling.invariant.state ∙ done

pub returns-clause-notes : goal.returns-clause-notes
returns-clause-notes g c =
    let i = c.loop-telling.telling-index in
    let here : c.deref-telling-items.result.now ≡ c.args.tellings.now = search rules in
    notes_within i (length c.args.tellings.now) c.args.self.now c.loop-telling.self c.loop-telling.invariant.notes
    (omega (arith, ap length here, c.loop-telling.auto.telling-index-end))
