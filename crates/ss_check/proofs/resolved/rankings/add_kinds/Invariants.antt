use Rattle.std.proofs.Common.{◌≡◌, ◌++◌, drop}
use Rattle.std.specs.Prelude.{map}
use Rattle.ss_words.specs.Lists.{all_of, several_view}
use Rattle.ss_preamble.specs.View.{set_discipline_view}
use Rattle.ss_check.specs.Facts.{fact}
use Rattle.ss_check.specs.FactsView.{facts_view}
use Rattle.ss_check.proofs.resolved.rankings.add_kinds.Given as goal

-- the sets that are left bring the disciplines to all
abbrev pub invariant-loop-set : goal.invariant-loop-set
invariant-loop-set l =
    facts_view (λ k. set_discipline_view k.now) l.disciplines
    ++ map (λ s. fact s (set_discipline_view l.kind)) (map (λ n. n) (drop l.set-index l.set-items))
    ≡ facts_view (λ k. set_discipline_view k.now) l.fn.disciplines
    ++ map (λ s. fact s (set_discipline_view l.kind)) (all_of (several_view (λ n. n) l.fn.sets))
