use Rattle.std.proofs.Common.{◌≡◌, length}
use Rattle.ss_columns.specs.Columns.{behind_feed}
use Rattle.ss_columns.proofs.column.behind_feed.Given as goal

abbrev pub invariant-loop-text : goal.invariant-loop-text
invariant-loop-text l = behind_feed l.text ≡ behind_feed l.initial.text

abbrev pub decreases-loop-text : goal.decreases-loop-text
decreases-loop-text l = length l.text
