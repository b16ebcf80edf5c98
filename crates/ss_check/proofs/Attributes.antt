-- A name among the attributes of a class, by the kind as which it is declared.
use Rattle.std.proofs.Common.{◌≡◌, ◌&&◌, true, false, List, refl, sym, ◌∙◌, Some, None}
use Rattle.std.specs.Prelude.{Option, bytes_eq, option_map, unwrap_or}
use Rattle.std.specs.List.{list_any, filter}
use Rattle.ss_words.specs.Lists.{Name}
use Rattle.ss_check.specs.declared.declared.name_kind.NameKind.{NameKind as CodeKind}
use Rattle.ss_check.specs.Facts.{Fact, fact, fact_of, is_among}
use Rattle.ss_check.specs.ResolvedNames.{names_where}
use Rattle.ss_check.specs.FactsView.{facts_view}
use Rattle.ss_check.specs.KindView.{kind_view}
use Rattle.ss_check.specs.NameKind.{NameKind}
use Rattle.ss_check.specs.NameKinds.{is_attribute_of}
use Rattle.ss_check.proofs.SoundLists.{fact_in, in_among, where_has}
use Rattle.ss_check.proofs.Tests.{any_filter, any_map}

first_by : (table : List (Fact NameKind)) (c n : Name) (o : Option NameKind) → fact_of table n ≡ o →
    unwrap_or (option_map (is_attribute_of c) o) false ≡ true →
    is_among n (names_where (is_attribute_of c) table) ≡ true
first_by table c n None e t = cc
first_by table c n (Some j) e t =
    in_among n (names_where (is_attribute_of c) table)
    (where_has (is_attribute_of c) n j table (fact_in table n j e) t)

-- a name whose first declaration is as an attribute of a class is one of them
pub first_is_among : (table : List (Fact NameKind)) (c n : Name) →
    unwrap_or (option_map (is_attribute_of c) (fact_of table n)) false ≡ true →
    is_among n (names_where (is_attribute_of c) table) ≡ true
first_is_among table c n t = first_by table c n (fact_of table n) refl t

-- a name is one of them if one of its declarations is as an attribute of the class
pub attribute_among : (facts : List (Fact CodeKind)) (c n : Name) →
    list_any (λ f. is_attribute_of c (kind_view f.what) && bytes_eq n f.name) facts
    ≡ is_among n (names_where (is_attribute_of c) (facts_view kind_view facts))
attribute_among facts c n =
    let table : List (Fact NameKind) = facts_view kind_view facts in
    sym
    (any_map (bytes_eq n) (λ f. f.name) (filter (λ f. is_attribute_of c f.what) table)
    ∙ any_filter (λ f. bytes_eq n f.name) (λ f. is_attribute_of c f.what) table
    ∙ any_map (λ f. is_attribute_of c f.what && bytes_eq n f.name) (λ x. fact x.name (kind_view x.what)) facts)
