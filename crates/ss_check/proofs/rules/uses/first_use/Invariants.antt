use Rattle.std.proofs.Common.{◌≡◌, drop}
use Rattle.std.specs.Prelude.{map}
use Rattle.std.specs.List.{find}
use Rattle.ss_check.specs.PlaceRules.{breaks_rule}
use Rattle.ss_check.specs.UseView.{use_view}
use Rattle.ss_check.proofs.rules.uses.first_use.Given as goal

-- no use so far breaks the rule
abbrev pub invariant-loop-one : goal.invariant-loop-one
invariant-loop-one l =
    find (breaks_rule l.whole l.rule) (map use_view (drop l.one-index l.uses))
    ≡ find (breaks_rule l.whole l.rule) (map use_view l.uses)
