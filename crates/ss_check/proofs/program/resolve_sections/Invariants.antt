use Rattle.std.proofs.Common.{◌≡◌, ◌++◌, false}
use Rattle.std.specs.Prelude.{map}
use Rattle.std.specs.List.{list_any}
use Rattle.std.specs.Vec.Iter.{into_iter_items}
use Rattle.ss_routines.specs.View.{section_view}
use Rattle.ss_check.specs.PlaceRules.{has_wrong_picture}
use Rattle.ss_check.specs.Resolved.{resolved_section}
use Rattle.ss_check.proofs.program.resolve_sections.Given as goal

-- the sections that are left bring the list to all, and print by no wrong picture
abbrev pub invariant-loop-section : goal.invariant-loop-section
invariant-loop-section l = record {
  rest : l.list.items ++ map (resolved_section l.whole l.names) (map section_view (into_iter_items l.section-iterator))
      ≡ map (resolved_section l.whole l.names) (map section_view l.fn.sections.items);
  pictures : list_any (λ q. list_any (λ s. has_wrong_picture s.place) q.places)
      (map section_view (into_iter_items l.section-iterator)) ≡ false;
}
