-- Private: the sorts of names that have a table.
use Rattle.std.specs.Prelude.{Bool}
use Rattle.ss_check.specs.NameKind.{NameKind}
use Rattle.ss_check.specs.declared.declared.name_tables.Sort.{Sort}
use Rattle.ss_check.specs.declared.declared.name_tables.Sort.TheVariants as sort
use Rattle.ss_check.specs.NameKinds.{is_class, is_global}
use Rattle.ss_check.specs.ResolvedNames.{is_set}

-- whether names declared as this are of a sort
abbrev pub belongs : Sort → NameKind → Bool
belongs sort.GlobalVariable kind = is_global kind
belongs sort.Class kind = is_class kind
belongs sort.Set kind = is_set kind
