use Rattle.std.proofs.Common.{◌≡◌, ◌∙◌, true, false, map, refl, sym, ap}
use Rattle.std.proofs.lemmas.Bool.{false≢true}
use Rattle.ss_report.specs.Pictures.{has_decimal_field, picture_parts}
use Rattle.ss_report.specs.Pieces.{lines_with_parts, parts_of}
use Rattle.ss_report.specs.declared.picture.PictureFault.TheVariants.{DecimalField, Memory}
use Rattle.ss_report.proofs.Lines.{lines_with_parts-picture_parts}
use Rattle.ss_report.proofs.PieceSteps.{count_by-parts_of, list_any-map}
use Rattle.ss_report.proofs.picture.Picture.new.Goals as goal

pub returns-then-is_any_decimal-clause-decimal_field : goal.returns-then-is_any_decimal-clause-decimal_field
returns-then-is_any_decimal-clause-decimal_field c =
    let found : has_decimal_field (map (λ l. l.items) c.args.lines.items) ≡ true =
    rw (list_any-map (λ l. l.items) c.args.lines.items, ← c.deref.ensures.value, ← c.is_any_decimal.ensures)
    c.if-is_any_decimal.true in
    (λ _. found, λ _. refl)

pub returns-in_err-pieces-clause-decimal_field : goal.returns-in_err-pieces-clause-decimal_field
returns-in_err-pieces-clause-decimal_field c =
    let none : has_decimal_field (map (λ l. l.items) c.args.lines.items) ≡ false =
    rw (list_any-map (λ l. l.items) c.args.lines.items, ← c.deref.ensures.value, ← c.is_any_decimal.ensures)
    c.if-is_any_decimal.false in (
      λ e. let memory : DecimalField
          ≡ Memory = rw e at c.from_residual.ensures.1 in cc,
      λ found. absurd (false≢true (sym none ∙ found)),
    )

pub invariant_of-result : goal.invariant_of-result
invariant_of-result c =
    let parts : parts_of c.in_ok-pieces.pieces.items ≡ picture_parts (map (λ l. l.items) c.args.lines.items) =
    c.in_ok-pieces.ensures ∙ ap (λ ls. picture_parts (map (λ l. l.items) ls)) c.deref-2.ensures.value in (
      rw (parts, lines_with_parts-picture_parts) refl,
      c.count_fields-fields.ensures ∙ rw c.deref-3.ensures.value (sym (count_by-parts_of c.in_ok-pieces.pieces.items)),
      rw (← c.deref-4.ensures.value) c.text_len-text_len.ensures,
    )

pub returns-clause-ok : goal.returns-clause-ok
returns-clause-ok c =
    let parts : parts_of c.in_ok-pieces.pieces.items ≡ picture_parts (map (λ l. l.items) c.args.lines.items) =
    c.in_ok-pieces.ensures ∙ ap (λ ls. picture_parts (map (λ l. l.items) ls)) c.deref-2.ensures.value in
    ap lines_with_parts parts ∙ lines_with_parts-picture_parts _

pub returns-clause-decimal_field : goal.returns-clause-decimal_field
returns-clause-decimal_field c =
    let none : has_decimal_field (map (λ l. l.items) c.args.lines.items) ≡ false =
    rw (list_any-map (λ l. l.items) c.args.lines.items, ← c.deref.ensures.value, ← c.is_any_decimal.ensures)
    c.if-is_any_decimal.false in
    (λ e. cc, λ found. absurd (false≢true (sym none ∙ found)))
