use Rattle.std.proofs.Common.{◌≡◌, ◌<◌, ◌+◌, [], ◌∷◌, length, drop, get_or, arith, rules, refl, ap, sym, ◌∙◌, Ok, Err}
use Rattle.std.proofs.Common.{w64, FitsSigned, to_z, of_z}
use Rattle.std.proofs.lemmas.Int.{to_z-of_z}
use Rattle.ss_words.specs.declared.fault.RunFault.{RunFault}
use Rattle.ss_values.specs.Seen.{scope_of}
use Rattle.ss_state.specs.Held.{Held}
use Rattle.ss_machine.specs.ChangeView.{as_change}
use Rattle.ss_state.specs.Readings.{readings}
use Rattle.ss_machine.specs.Seen.{scope_held}
use Rattle.ss_state.specs.Statements.Timing.{state_with_attributes}
use Rattle.ss_state.proofs.Parts.{drop_at, drop_past}
use Rattle.ss_machine.proofs.Notings.{notes_none, notes_within, noted_one, noted_more}
use Rattle.ss_machine.proofs.Storings.{refusal_is, storing_is}
use Rattle.ss_machine.proofs.Starts.{noted_same}
use Rattle.ss_state.proofs.Repeats.{attribute_more, attribute_missing}
use Rattle.ss_machine.proofs.executor.Executor.set_attributes.Goals as goal

pub loop-number-init : goal.loop-number-init
loop-number-init g c = record {
  values = refl;
  tables = refl;
  rules = refl;
  scope = refl;
  state = refl;
  notes = notes_none 0 c.args.self.now.held c.args.self.now.held c.args.self.now.journal refl;
}

pub loop-number-preserved : goal.loop-number-preserved
loop-number-preserved g c =
    let h = c.loop-number.self.held in
    let k = c.set_attribute.new.self in
    let xs = c.args.self.now.values.items in
    let ys = c.loop-number.self.values.items in
    let n = c.loop-number.number in
    let x = c.index-value.result.now in
    let u = c.loop-number.invariant in
    let same : ys ≡ xs = search rules in
    let l : n < length ys = search rules in
    let at : x ≡ get_or ys n x = search rules in
    let d : drop n xs ≡ x ∷ drop (n + 1) xs = drop_at n xs ys x l same at in
    let fits : FitsSigned w64 c.from.result = search rules in
    let a : to_z w64 (of_z w64 c.from.result) ≡ c.from.result = to_z-of_z w64 _ fits in
    let long : FitsSigned w64 x = search rules in
    let b : to_z w64 (of_z w64 x) ≡ x = to_z-of_z w64 _ long in
    let s = storing_is c.in_ok-change.change _ h k (rw (a, c.from.ensures, b) at c.in_ok-change.ensures) in
    let scope : scope_held k ≡ scope_held h = λ j. scope_of (readings (s.2.tables j) (s.2.state j)) in
    record {
      values = u.values;
      tables = s.2.tables ∙ u.tables;
      rules = s.2.rules ∙ u.rules;
      scope = scope ∙ u.scope;
      state = attribute_more h.state k.state c.args.class c.args.entity n x s.0 xs _ d s.1 s.2.state u.state;
      notes =
          noted_more n c.args.self.now.held h k c.args.self.now.journal c.loop-number.self.journal c.note.new.self
          u.notes
          (noted_one (as_change c.in_ok-change.change) h k c.loop-number.self.journal c.note.new.self s.2.fits s.2.back
          c.note.ensures.steps c.note.ensures.current c.note.ensures.notes c.note.ensures.closes);
    }

pub returns-in_err-change-clause-outcome : goal.returns-in_err-change-clause-outcome
returns-in_err-change-clause-outcome g c =
    let e : RunFault = c.in_err-change.field-0.0 in
    let h = c.loop-number.self.held in
    let xs = c.args.self.now.values.items in
    let ys = c.loop-number.self.values.items in
    let n = c.loop-number.number in
    let x = c.index-value.result.now in
    let same : ys ≡ xs = search rules in
    let l : n < length ys = search rules in
    let at : x ≡ get_or ys n x = search rules in
    let d : drop n xs ≡ x ∷ drop (n + 1) xs = drop_at n xs ys x l same at in
    let fits : FitsSigned w64 c.from.result = search rules in
    let a : to_z w64 (of_z w64 c.from.result) ≡ c.from.result = to_z-of_z w64 _ fits in
    let long : FitsSigned w64 x = search rules in
    let b : to_z w64 (of_z w64 x) ≡ x = to_z-of_z w64 _ long in
    let r : c.from_residual.result ≡ Err e = search rules in
    rw r
    (attribute_missing h.state c.args.class c.args.entity n x e xs _ d
    (refusal_is e _ h c.set_attribute.new.self (rw (a, c.from.ensures, b) at c.in_err-change.ensures)).0
    c.loop-number.invariant.state)

pub returns-in_err-change-clause-tables : goal.returns-in_err-change-clause-tables
returns-in_err-change-clause-tables g c =
    ap (λ (h : Held). h.beside.tables)
    (refusal_is c.in_err-change.field-0.0 _ c.loop-number.self.held c.set_attribute.new.self c.in_err-change.ensures).1
    ∙ c.loop-number.invariant.tables

pub returns-in_err-change-clause-rules : goal.returns-in_err-change-clause-rules
returns-in_err-change-clause-rules g c =
    ap (λ (h : Held). h.beside.rules)
    (refusal_is c.in_err-change.field-0.0 _ c.loop-number.self.held c.set_attribute.new.self c.in_err-change.ensures).1
    ∙ c.loop-number.invariant.rules

pub returns-in_err-change-clause-scope : goal.returns-in_err-change-clause-scope
returns-in_err-change-clause-scope g c =
    ap scope_held
    (refusal_is c.in_err-change.field-0.0 _ c.loop-number.self.held c.set_attribute.new.self c.in_err-change.ensures).1
    ∙ c.loop-number.invariant.scope

pub returns-in_err-change-clause-notes : goal.returns-in_err-change-clause-notes
returns-in_err-change-clause-notes g c =
    noted_same c.loop-number.number (length c.args.self.now.values.items) c.args.self.now.held c.loop-number.self.held
    c.set_attribute.new.self _ _
    (refusal_is c.in_err-change.field-0.0 _ c.loop-number.self.held c.set_attribute.new.self c.in_err-change.ensures).1
    (omega (arith, c.loop-number.auto.number-end, c.len-number-end.ensures)) c.loop-number.invariant.notes

pub returns-clause-outcome : goal.returns-clause-outcome
returns-clause-outcome g c =
    let xs = c.args.self.now.values.items in
    let n = c.loop-number.number in
    let none : drop n xs ≡ [] =
    drop_past n xs (omega (arith, c.loop-number-test.false, c.len-number-end.ensures)) in
    let s = c.loop-number.self.held.state in
    let done : state_with_attributes s c.args.class c.args.entity n (drop n xs) ≡ Ok s = rw none refl in
    sym c.loop-number.invariant.state ∙ done

pub returns-clause-notes : goal.returns-clause-notes
returns-clause-notes g c =
    notes_within c.loop-number.number (length c.args.self.now.values.items) c.args.self.now c.loop-number.self
    c.loop-number.invariant.notes (omega (arith, c.loop-number.auto.number-end, c.len-number-end.ensures))
