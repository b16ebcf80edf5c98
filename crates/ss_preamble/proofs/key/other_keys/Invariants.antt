use Rattle.std.proofs.Common.{[], ◌∷◌, length, map, ◌≤◌}
use Rattle.ss_words.proofs.Loop.{Going}
use Rattle.ss_preamble.specs.ItemReading.{next_key, other_keys}
use Rattle.ss_preamble.specs.View.{key_view}
use Rattle.ss_preamble.proofs.key.other_keys.Given as goal

abbrev pub invariant-loop-keys : goal.invariant-loop-keys
invariant-loop-keys l = record {
  shorter : length l.cursor ≤ length l.fn.cursor;
  going : Going next_key [] (λ x xs. x ∷ xs) (other_keys l.fn.cursor) (map key_view l.keys.items) l.cursor;
}

abbrev pub decreases-loop-keys : goal.decreases-loop-keys
decreases-loop-keys l = length l.cursor
