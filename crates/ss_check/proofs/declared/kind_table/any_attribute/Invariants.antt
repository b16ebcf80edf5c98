use Rattle.std.proofs.Common.{◌≡◌, ◌&&◌, drop}
use Rattle.std.specs.Prelude.{bytes_eq}
use Rattle.std.specs.List.{list_any}
use Rattle.ss_check.specs.KindView.{kind_view}
use Rattle.ss_check.specs.NameKinds.{is_attribute_of}
use Rattle.ss_check.proofs.declared.kind_table.any_attribute.Given as goal

-- no declaration so far is one
abbrev pub invariant-loop-fact : goal.invariant-loop-fact
invariant-loop-fact l =
    list_any (λ f. is_attribute_of l.class (kind_view f.what) && bytes_eq l.name f.name) (drop l.fact-index l.facts)
    ≡ list_any (λ f. is_attribute_of l.class (kind_view f.what) && bytes_eq l.name f.name) l.facts
