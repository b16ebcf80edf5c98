use Rattle.std.proofs.Common.{◌≡◌, drop}
use Rattle.std.specs.List.{find}
use Rattle.ss_preamble.specs.View.{set_discipline_view}
use Rattle.ss_check.specs.Facts.{fact_of}
use Rattle.ss_check.specs.ItemRules.{has_wrong_rank}
use Rattle.ss_check.proofs.rules.keys.first_wrong_rank.Given as goal

-- no set so far has a wrong key
abbrev pub invariant-loop-set : goal.invariant-loop-set
invariant-loop-set l =
    find (λ s. has_wrong_rank l.whole (fact_of l.whole.members s) (set_discipline_view l.kind))
    (drop l.set-index l.sets)
    ≡ find (λ s. has_wrong_rank l.whole (fact_of l.whole.members s) (set_discipline_view l.kind)) l.sets
