use Rattle.std.proofs.Common.{[], ◌∷◌, length, map, ◌≤◌}
use Rattle.ss_words.specs.Lists.{next_name, other_names}
use Rattle.ss_words.proofs.Loop.{Going}
use Rattle.ss_words.proofs.cursor.Cursor.other_names.Given as goal

abbrev pub invariant-loop-names : goal.invariant-loop-names
invariant-loop-names l = record {
  shorter : length l.self ≤ length l.fn.self;
  going : Going next_name [] (λ n ns. n ∷ ns) (other_names l.fn.self) (map (λ n. n) l.names.items) l.self;
}

abbrev pub decreases-loop-names : goal.decreases-loop-names
decreases-loop-names l = length l.self
