use Rattle.std.proofs.Common.{List, ap, sym, ◌∙◌}
use Rattle.ss_check.specs.Facts.{Fact, is_among}
use Rattle.ss_check.specs.NameKind.{NameKind}
use Rattle.ss_check.specs.NameKinds.{is_attribute_of}
use Rattle.ss_check.specs.ResolvedNames.{names_where}
use Rattle.ss_check.proofs.Attributes.{first_is_among, attribute_among}
use Rattle.ss_check.proofs.declared.kind_table.KindTable.has_attribute.Goals as goal

pub returns-then-is_first_attribute : goal.returns-then-is_first_attribute
returns-then-is_first_attribute c =
    c.if-is_first_attribute.true
    ∙ sym (first_is_among c.args.self.now c.args.class.now c.args.name.now
    (sym c.is_first_attribute.ensures ∙ c.if-is_first_attribute.true))

pub returns-else-is_first_attribute : goal.returns-else-is_first_attribute
returns-else-is_first_attribute c =
    c.any_attribute.ensures
    ∙ attribute_among c.as_slice.result.now c.args.class.now c.args.name.now
    ∙ ap (λ (table : List (Fact NameKind)).
    is_among c.args.name.now (names_where (is_attribute_of c.args.class.now) table)) c.as_slice.ensures
