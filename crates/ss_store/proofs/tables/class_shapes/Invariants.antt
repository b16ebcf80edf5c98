use Rattle.std.proofs.Common.{◌≡◌, map}
use Rattle.std.specs.List.{range_with_len}
use Rattle.ss_store.specs.Tables.{class_shape}
use Rattle.ss_store.proofs.tables.class_shapes.Given as goal

abbrev pub invariant-loop-class : goal.invariant-loop-class
invariant-loop-class l = l.shapes.items ≡ map (class_shape l.program) (range_with_len 0 l.class)
