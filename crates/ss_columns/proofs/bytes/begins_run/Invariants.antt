use Rattle.std.proofs.Common.{◌≡◌, length}
use Rattle.ss_columns.specs.Columns.{begins_run}
use Rattle.ss_columns.proofs.bytes.begins_run.Given as goal

abbrev pub invariant-loop-rest : goal.invariant-loop-rest
invariant-loop-rest l = begins_run l.rest ≡ begins_run l.initial.rest

abbrev pub decreases-loop-rest : goal.decreases-loop-rest
decreases-loop-rest l = length l.rest
