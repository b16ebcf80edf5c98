use Rattle.std.proofs.Common.{◌≡◌, map}
use Rattle.std.specs.List.{range_with_len}
use Rattle.ss_store.specs.Tables.{set_shape}
use Rattle.ss_store.proofs.tables.set_shapes.Given as goal

abbrev pub invariant-loop-set : goal.invariant-loop-set
invariant-loop-set l = l.shapes.items ≡ map (set_shape l.program) (range_with_len 0 l.set)
