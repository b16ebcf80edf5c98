use Rattle.std.specs.Prelude.{map}
use Rattle.std.specs.List.{list_any}
use Rattle.std.specs.Vec.Iter.{into_iter_items}
use Rattle.ss_routines.specs.Places.{Section}
use Rattle.ss_routines.specs.View.{section_view}
use Rattle.ss_check.specs.PlaceRules.{has_wrong_picture}
use Rattle.ss_check.specs.Resolved.{resolved_section}
use Rattle.ss_check.proofs.TableTurns.{maps_turn}
use Rattle.ss_check.proofs.Pictures.{none_behind, none_here}
use Rattle.ss_check.proofs.program.resolve_sections.Goals as goal

pub resolve_section-requires : goal.resolve_section-requires
resolve_section-requires c =
    none_here (λ (q : Section). list_any (λ s. has_wrong_picture s.place) q.places) section_view
    (into_iter_items c.loop-section.section-iterator) c.in-Some.section (into_iter_items c.next.new.self)
    c.in-Some.ensures.steps.0 c.loop-section.invariant.pictures

pub loop-section-preserved : goal.loop-section-preserved
loop-section-preserved c = record {
  rest = rw (c.in_ok-push.ensures.items, c.in_ok-resolve_section.ensures)
      (maps_turn (resolved_section c.args.whole.now c.args.names.now) section_view c.loop-section.list.items
      (into_iter_items c.loop-section.section-iterator) c.in-Some.section (into_iter_items c.next.new.self)
      (map (resolved_section c.args.whole.now c.args.names.now) (map section_view c.args.sections.items))
      c.in-Some.ensures.steps.0 c.loop-section.invariant.rest);
  pictures =
      none_behind (λ (q : Section). list_any (λ s. has_wrong_picture s.place) q.places) section_view
      (into_iter_items c.loop-section.section-iterator) c.in-Some.section (into_iter_items c.next.new.self)
      c.in-Some.ensures.steps.0 c.loop-section.invariant.pictures;
}
