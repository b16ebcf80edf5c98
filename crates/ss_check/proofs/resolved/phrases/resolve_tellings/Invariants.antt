use Rattle.std.proofs.Common.{◌≡◌, ◌++◌, drop}
use Rattle.std.specs.Prelude.{map}
use Rattle.ss_words.specs.Lists.{all_of, several_view}
use Rattle.ss_routines.specs.View.{computed_view}
use Rattle.ss_check.specs.Resolved.{resolved_telling}
use Rattle.ss_check.specs.Scope.{in_scope}
use Rattle.ss_check.proofs.resolved.phrases.resolve_tellings.Given as goal

-- the targets that are left bring the list to all
abbrev pub invariant-loop-other : goal.invariant-loop-other
invariant-loop-other l =
    l.list.items ++ map (in_scope l.scope resolved_telling) (map computed_view (drop l.other-index l.other-items))
    ≡ map (in_scope l.scope resolved_telling) (all_of (several_view computed_view l.fn.computed))
