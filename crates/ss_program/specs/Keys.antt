-- The order that keys make.
use Rattle.std.specs.Prelude.{ℤ, pos, List, ◌∷◌, map, slice_index_or}
use Rattle.std.specs.Ordering.{ordering_then, int_cmp}
use Rattle.std.specs.declared.cmp.Ordering.{Ordering}
use Rattle.std.specs.declared.cmp.Ordering.TheVariants.{Equal}
use Rattle.ss_program.specs.declared.keys.Key.{Key}
use Rattle.ss_words.specs.declared.terms.Rank.{Rank}
use Rattle.ss_words.specs.declared.terms.Rank.TheVariants.{High, Low}

-- which of two values comes first: by HIGH the greater, by LOW the less
abbrev pub order_by_rank : Rank → ℤ → ℤ → Ordering
order_by_rank High x y = int_cmp y x
order_by_rank Low x y = int_cmp x y

-- the order of two rows of key values: the first key in which they differ decides
abbrev pub by_keys : List Key → List ℤ → List ℤ → Ordering
by_keys (k ∷ ks) (x ∷ xs) (y ∷ ys) = ordering_then (order_by_rank k.rank x y) (by_keys ks xs ys)
by_keys _ _ _ = Equal

-- the values of keys among the values of attributes
abbrev pub key_values : List Key → List ℤ → List ℤ
key_values keys attributes = map (λ k. slice_index_or attributes k.attribute (pos 0)) keys
