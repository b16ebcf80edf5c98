use Rattle.std.proofs.Common.{◌≡◌, drop}
use Rattle.std.specs.Prelude.{map}
use Rattle.ss_check.specs.Asked.{first_unknown}
use Rattle.ss_check.specs.UseView.{use_view}
use Rattle.ss_check.proofs.asked.first_unknown.Given as goal

-- no use so far has an unknown name
abbrev pub invariant-loop-one : goal.invariant-loop-one
invariant-loop-one l =
    first_unknown l.scope.whole.now l.scope.locals.now (map use_view (drop l.one-index l.uses))
    ≡ first_unknown l.scope.whole.now l.scope.locals.now (map use_view l.uses)
