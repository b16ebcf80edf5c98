use Rattle.std.proofs.Common.{◌≡◌}
use Rattle.ss_columns.specs.Columns.{behind_feeds}
use Rattle.ss_columns.proofs.column.behind_feeds.Given as goal

abbrev pub invariant-loop-feeds : goal.invariant-loop-feeds
invariant-loop-feeds l = behind_feeds l.feeds l.text ≡ behind_feeds l.initial.feeds l.initial.text

abbrev pub decreases-loop-feeds : goal.decreases-loop-feeds
decreases-loop-feeds l = l.feeds
