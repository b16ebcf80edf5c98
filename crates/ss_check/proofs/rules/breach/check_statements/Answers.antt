use Rattle.std.proofs.Common.{refl, sym, ap, ◌∙◌}
use Rattle.std.specs.Prelude.{map}
use Rattle.std.proofs.lemmas.Result.{err_from_is_err_and}
use Rattle.ss_preamble.specs.View.{decls_view}
use Rattle.ss_routines.specs.View.{section_view}
use Rattle.ss_check.specs.Increments.{with_items}
use Rattle.ss_check.specs.Declarations.{Declared, headed_items}
use Rattle.ss_check.proofs.Statements.{AreTables, fault_end, fault_items, fault_sections, sound_all}
use Rattle.ss_check.proofs.rules.breach.check_statements.Goals as goal

pub returns-in_err-check_items-clause-err : goal.returns-in_err-check_items-clause-err
returns-in_err-check_items-clause-err c =
    let p = decls_view c.args.decls.now in
    let ss = map section_view c.args.sections.now in
    let middle = with_items c.args.before.now (headed_items p.items) in
    let t : AreTables p ss c.args.whole.now c.args.before.now middle =
    record { all = c.requires.whole; none = c.requires.start; items = refl } in
    let q = err_from_is_err_and c.from_residual.result c.from_residual.ensures.1 in
    rw (q.1, q.2)
    (fault_items c.in_err-check_items.field-0.0 p ss c.args.whole.now c.args.before.now middle t
    (rw c.deref.ensures.value at c.in_err-check_items.ensures.err))

pub returns-in_err-check_sections-clause-err : goal.returns-in_err-check_sections-clause-err
returns-in_err-check_sections-clause-err c =
    let p = decls_view c.args.decls.now in
    let ss = map section_view c.args.sections.now in
    let t : AreTables p ss c.args.whole.now c.args.before.now c.check_items.new.before =
    record {
      all = c.requires.whole;
      none = c.requires.start;
      items = rw c.deref.ensures.value at c.in_ok-check_items.ensures.tables;
    } in
    let q = err_from_is_err_and c.from_residual-in_err-check_sections.result
    c.from_residual-in_err-check_sections.ensures.1 in
    rw (q.1, q.2)
    (fault_sections c.in_err-check_sections.field-0.0 p ss c.args.whole.now c.args.before.now c.check_items.new.before t
    (rw c.deref.ensures.value at c.in_ok-check_items.ensures.sound) c.in_err-check_sections.ensures.err)

pub returns-then-not-whole-clause-err : goal.returns-then-not-whole-clause-err
returns-then-not-whole-clause-err c =
    let p = decls_view c.args.decls.now in
    let ss = map section_view c.args.sections.now in
    let t : AreTables p ss c.args.whole.now c.args.before.now c.check_items.new.before =
    record {
      all = c.requires.whole;
      none = c.requires.start;
      items = rw c.deref.ensures.value at c.in_ok-check_items.ensures.tables;
    } in
    rw (c.last_end-line.ensures, c.unwrap_or.ensures, c.in_ok-wrong.ensures)
    (fault_end p ss c.args.whole.now c.args.before.now c.check_items.new.before t
    (rw c.deref.ensures.value at c.in_ok-check_items.ensures.sound) c.in_ok-check_sections.ensures.sound
    (sym (ap (λ (d : Declared). d.has_main) c.whole.view_is) ∙ c.if-not-whole.true))

pub returns-clause-sound : goal.returns-clause-sound
returns-clause-sound c =
    let p = decls_view c.args.decls.now in
    let ss = map section_view c.args.sections.now in
    let t : AreTables p ss c.args.whole.now c.args.before.now c.check_items.new.before =
    record {
      all = c.requires.whole;
      none = c.requires.start;
      items = rw c.deref.ensures.value at c.in_ok-check_items.ensures.tables;
    } in
    sound_all p ss c.args.whole.now c.args.before.now c.check_items.new.before t
    (rw c.deref.ensures.value at c.in_ok-check_items.ensures.sound) c.in_ok-check_sections.ensures.sound
    (sym (ap (λ (d : Declared). d.has_main) c.whole.view_is) ∙ c.if-not-whole.false)
