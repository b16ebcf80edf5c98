use Rattle.std.proofs.Common.{◌≡◌, false}
use Rattle.std.specs.Prelude.{map}
use Rattle.std.specs.List.{list_any}
use Rattle.std.specs.Vec.Iter.{into_iter_items}
use Rattle.ss_routines.specs.View.{spots}
use Rattle.ss_check.specs.PlaceRules.{has_wrong_picture}
use Rattle.ss_check.specs.Resolved.{resolved_spot}
use Rattle.ss_check.specs.Scope.{in_scope}
use Rattle.ss_check.proofs.resolved.places.resolve_places.Given as goal

-- the places so far; none of those that are left has a wrong picture
abbrev pub invariant-loop-spot : goal.invariant-loop-spot
invariant-loop-spot l = record {
  same : l.list.items ≡ map (in_scope l.scope resolved_spot) (spots l.yielded);
  pictures : list_any (λ s. has_wrong_picture s.place) (spots (into_iter_items l.spot-iterator)) ≡ false;
}
