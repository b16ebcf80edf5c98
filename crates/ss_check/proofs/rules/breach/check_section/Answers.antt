use Rattle.std.proofs.Common.{◌≡◌, false, sym, ◌∙◌, None}
use Rattle.std.proofs.lemmas.Result.{err_from_is_err_and}
use Rattle.ss_routines.specs.View.{section_view}
use Rattle.ss_check.specs.Increments.{IsOnce, places_refusal, section_refusal}
use Rattle.ss_check.specs.Declarations.{is_main}
use Rattle.ss_check.specs.Statements.{IsRefusal}
use Rattle.ss_check.proofs.ItemRules.{once_behind_head}
use Rattle.ss_check.proofs.Statements.{err_more, ok_anyway, ok_more, section_err, section_head, section_locals}
use Rattle.ss_check.proofs.Statements.{section_sound}
use Rattle.ss_check.proofs.Wrongs.{head_wrong_is}
use Rattle.ss_check.proofs.rules.breach.check_section.Goals as goal

pub returns-in-Some-clause-err : goal.returns-in-Some-clause-err
returns-in-Some-clause-err c =
    rw (
      c.in_ok-wrong.ensures,
      head_wrong_is c.args.whole.now c.args.before.now c.head_rule.new.before
          (section_view c.args.section.now).head c.in-Some.rule c.requires c.in_ok-rule.ensures.tables,
    )
    (section_head c.args.whole.now c.args.before.now (section_view c.args.section.now) c.in-Some.rule
    (sym c.in_ok-rule.ensures.rule ∙ c.in-Some.is))

pub returns-in_err-check_locals-clause-err : goal.returns-in_err-check_locals-clause-err
returns-in_err-check_locals-clause-err c =
    let none = sym c.in_ok-rule.ensures.rule ∙ c.in_default.is in
    let p = err_from_is_err_and c.from_residual-in_err-check_locals.result
    c.from_residual-in_err-check_locals.ensures.1 in
    rw (p.1, p.2)
    (section_locals c.in_err-check_locals.field-0.0 c.args.whole.now c.args.before.now
    (section_view c.args.section.now) none
    (rw c.deref.ensures.value at c.in_err-check_locals.ensures.err))

pub returns-clause-sound : goal.returns-clause-sound
returns-clause-sound c =
    let s = section_view c.args.section.now in
    let none = sym c.in_ok-rule.ensures.rule ∙ c.in_default.is in
    ok_more c.check_places.result (places_refusal c.args.whole.now (is_main s.head) false s.places ≡ None)
    (section_refusal c.args.whole.now c.args.before.now s ≡ None)
    (section_sound c.args.whole.now c.args.before.now s none
    (rw c.deref.ensures.value at c.in_ok-check_locals.ensures.sound))
    (rw (c.is_main.ensures, c.deref-2.ensures.value) at c.check_places.ensures.sound)

pub returns-clause-once : goal.returns-clause-once
returns-clause-once c =
    let s = section_view c.args.section.now in
    ok_anyway c.check_places.result (IsOnce c.head_rule.new.before)
    (rw c.in_ok-rule.ensures.tables
    (once_behind_head c.args.whole.now c.args.before.now s c.requires (sym c.in_ok-rule.ensures.rule
    ∙ c.in_default.is)))

pub returns-clause-err : goal.returns-clause-err
returns-clause-err c =
    let s = section_view c.args.section.now in
    let none = sym c.in_ok-rule.ensures.rule ∙ c.in_default.is in
    err_more c.check_places.result (λ f. IsRefusal f (places_refusal c.args.whole.now (is_main s.head) false s.places))
    (λ f. IsRefusal f (section_refusal c.args.whole.now c.args.before.now s))
    (λ f. section_err f c.args.whole.now c.args.before.now s none
    (rw c.deref.ensures.value at c.in_ok-check_locals.ensures.sound))
    (rw (c.is_main.ensures, c.deref-2.ensures.value) at c.check_places.ensures.err)
