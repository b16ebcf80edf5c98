use Rattle.std.proofs.Common.{◌≡◌, ◌++◌, length, map}
use Rattle.std.specs.Vec.Iter.{into_iter_items, into_iter_len}
use Rattle.ss_changes.specs.Changes.{turned}
use Rattle.ss_changes.proofs.since.turned.Given as goal

abbrev pub invariant-loop-change : goal.invariant-loop-change
invariant-loop-change l =
    (l.exchanged.items ++ map turned (into_iter_items l.change-iterator)
    ≡ map turned (into_iter_items l.initial.change-iterator))
    × (into_iter_len l.change-iterator ≡ length (into_iter_items l.change-iterator))
