use Rattle.std.proofs.Common.{◌≡◌, ◌++◌, drop}
use Rattle.std.specs.Prelude.{map}
use Rattle.ss_routines.specs.View.{qualifier_view}
use Rattle.ss_check.specs.Resolved.{resolved_qualifier}
use Rattle.ss_check.specs.Scope.{in_scope}
use Rattle.ss_check.proofs.resolved.phrases.resolve_qualifiers.Given as goal

-- the qualifiers that are left bring the list to all
abbrev pub invariant-loop-qualifier : goal.invariant-loop-qualifier
invariant-loop-qualifier l =
    l.list.items
    ++ map (in_scope l.scope resolved_qualifier) (map qualifier_view (drop l.qualifier-index l.qualifiers))
    ≡ map (in_scope l.scope resolved_qualifier) (map qualifier_view l.qualifiers)
