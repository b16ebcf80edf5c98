use Rattle.std.proofs.Common.{◌≡◌, ◌+◌, ◌≤◌, drop}
use Rattle.std.specs.Prelude.{count_by}
use Rattle.ss_report.specs.Pictures.{is_field, line_parts}
use Rattle.ss_check.proofs.Runs.{runs}
use Rattle.ss_check.proofs.rules.fields.line_field_count.Given as goal

-- the fields so far and those that begin in the bytes that are left are all
abbrev pub invariant-loop-byte : goal.invariant-loop-byte
invariant-loop-byte l = record {
  fits : l.count ≤ l.byte-index;
  all : l.count + runs l.in_field (drop l.byte-index l.line) ≡ count_by is_field (line_parts l.line);
}
