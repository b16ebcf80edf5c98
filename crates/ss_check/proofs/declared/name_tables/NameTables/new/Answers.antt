use Rattle.std.proofs.Common.{List, refl, ap, ◌∙◌}
use Rattle.std.specs.Prelude.{map}
use Rattle.ss_check.specs.declared.declared.name_tables.Sort.TheVariants as sort
use Rattle.ss_check.specs.Declarations.{Declared}
use Rattle.ss_check.specs.Facts.{Fact}
use Rattle.ss_check.specs.NameKind.{NameKind}
use Rattle.ss_check.specs.NameKinds.{is_attribute_of}
use Rattle.ss_check.specs.ResolvedNames.{each_of, names_where}
use Rattle.ss_check.specs.Sorts.{belongs}
use Rattle.ss_check.proofs.declared.name_tables.NameTables.new.Goals as goal

pub returns : goal.returns
returns c =
    let kinds = c.as_slice-kinds.ensures ∙ ap (λ (d : Declared). d.kinds) c.tables.view_is in
    rw (
      c.classes.view_is,
      c.in_ok-names_of_sort.ensures ∙ ap (each_of (belongs sort.GlobalVariable)) kinds,
      c.in_ok-attributes_of_classes.ensures
          ∙ ap (λ (ks : List (Fact NameKind)). map (λ n. names_where (is_attribute_of n) ks) c.names.result.now) kinds,
      c.names.ensures,
      c.in_ok-classes.ensures ∙ ap (each_of (belongs sort.Class)) kinds,
      c.in_ok-names_of_sort-2.ensures ∙ ap (each_of (belongs sort.Set)) kinds,
      c.in_ok-routine_sections.ensures,
      c.in_ok-event_sections.ensures,
    )
    refl
