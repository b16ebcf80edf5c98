use Rattle.std.proofs.Common.{◌≡◌, ◌++◌, drop}
use Rattle.std.specs.List.{flat_map}
use Rattle.ss_words.specs.Lists.{all_of, several_view}
use Rattle.ss_preamble.specs.View.{items_view, key_view, set_discipline_view}
use Rattle.ss_check.specs.Declarations.{disciplines_in, ties_in}
use Rattle.ss_check.specs.FactsView.{facts_view}
use Rattle.ss_check.proofs.resolved.rankings.add_rankings.Given as goal

-- the items that are left bring both tables to all
abbrev pub invariant-loop-one : goal.invariant-loop-one
invariant-loop-one l = record {
  disciplines : facts_view (λ k. set_discipline_view k.now) l.disciplines
      ++ flat_map (λ i. disciplines_in i.item) (items_view (drop l.one-index l.items))
      ≡ facts_view (λ k. set_discipline_view k.now) l.fn.disciplines
      ++ flat_map (λ i. disciplines_in i.item) (items_view l.items);
  ties : facts_view (λ keys. all_of (several_view key_view keys.now)) l.ties
      ++ flat_map (λ i. ties_in i.item) (items_view (drop l.one-index l.items))
      ≡ facts_view (λ keys. all_of (several_view key_view keys.now)) l.fn.ties
      ++ flat_map (λ i. ties_in i.item) (items_view l.items);
}
