use Rattle.std.proofs.Common.{◌≡◌, pos, drop}
use Rattle.std.specs.List.{All}
use Rattle.ss_values.specs.Seen.{view_readings, scope_of}
use Rattle.ss_values.specs.Running.{IsSoundOp, run}
use Rattle.ss_values.proofs.running.run_ops.Given as goal

-- the operations that are left bring the accumulator to the result of all from 0
abbrev pub invariant-loop-op : goal.invariant-loop-op
invariant-loop-op g l = record {
  sound : All (IsSoundOp (scope_of (view_readings l.view))) (drop l.op-index l.code);
  value : run (view_readings l.view) l.x (drop l.op-index l.code) ≡ run (view_readings l.view) (pos 0) l.code;
}
