use Rattle.std.proofs.Common.{◌≡◌, ◌≤◌}
use Rattle.std.specs.List.{count_by, range_with_len}
use Rattle.ss_run.specs.Fields.{begins_run}
use Rattle.ss_run.proofs.fields.unfit_values.Given as goal

abbrev pub invariant-loop-k : goal.invariant-loop-k
invariant-loop-k l = record {
  counted : l.count ≡ count_by (begins_run l.report) (range_with_len 0 l.k);
  few : l.count ≤ l.k;
}
