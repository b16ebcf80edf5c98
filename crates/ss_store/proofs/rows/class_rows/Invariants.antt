use Rattle.std.proofs.Common.{◌≡◌, replicate}
use Rattle.ss_store.specs.Rows.{no_rows}
use Rattle.ss_store.proofs.rows.class_rows.Given as goal

abbrev pub invariant-loop : goal.invariant-loop
invariant-loop l = l.made.items ≡ replicate l.counter no_rows
