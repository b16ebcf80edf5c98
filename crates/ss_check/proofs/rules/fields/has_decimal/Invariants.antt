use Rattle.std.proofs.Common.{◌≡◌, length}
use Rattle.ss_report.specs.Pictures.{has_decimal}
use Rattle.ss_check.proofs.rules.fields.has_decimal.Given as goal

abbrev pub invariant-loop-behind : goal.invariant-loop-behind
invariant-loop-behind l = has_decimal l.rest ≡ has_decimal l.line

abbrev pub decreases-loop-behind : goal.decreases-loop-behind
decreases-loop-behind l = length l.rest
