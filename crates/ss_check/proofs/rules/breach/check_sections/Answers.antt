use Rattle.std.specs.Prelude.{map}
use Rattle.std.proofs.lemmas.Result.{err_from_is_err_and}
use Rattle.ss_routines.specs.View.{section_view}
use Rattle.ss_check.specs.Increments.{sections_refusal}
use Rattle.ss_check.proofs.Turns.{section_passed, section_told, sections_end}
use Rattle.ss_check.proofs.rules.breach.check_sections.Goals as goal

pub returns-in_err-check_section-clause-err : goal.returns-in_err-check_section-clause-err
returns-in_err-check_section-clause-err c =
    let p = err_from_is_err_and c.from_residual.result c.from_residual.ensures.1 in
    rw (p.1, p.2)
    (section_told c.in_err-check_section.field-0.0 c.args.whole.now c.loop-section.before c.args.sections.now
    c.loop-section.section-index c.section-item.result
    (sections_refusal c.args.whole.now c.args.before.now (map section_view c.args.sections.now)) c.loop-section-test.true
    c.section-item.is c.loop-section.invariant.sound c.in_err-check_section.ensures.err)

pub loop-section-preserved : goal.loop-section-preserved
loop-section-preserved c = record {
  once = c.in_ok-check_section.ensures.once;
  sound = rw c.in_ok-check_section.ensures.tables
      (section_passed c.args.whole.now c.loop-section.before c.args.sections.now c.loop-section.section-index
      c.section-item.result
      (sections_refusal c.args.whole.now c.args.before.now
      (map section_view c.args.sections.now)) c.loop-section-test.true
      c.section-item.is c.loop-section.invariant.sound c.in_ok-check_section.ensures.sound);
}

pub returns-clause-sound : goal.returns-clause-sound
returns-clause-sound c =
    sections_end c.args.whole.now c.loop-section.before c.args.sections.now c.loop-section.section-index
    (sections_refusal c.args.whole.now c.args.before.now
    (map section_view c.args.sections.now)) c.loop-section-test.false
    c.loop-section.invariant.sound
