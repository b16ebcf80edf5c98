use Rattle.std.proofs.Common.{◌≡◌, ◌-◌, map, length}
use Rattle.ss_data.specs.Items.{item}
use Rattle.ss_data.specs.Entries.{behind_mark}
use Rattle.ss_data.proofs.feed.behind_mark.Given as goal

-- no mark is before the place
abbrev pub invariant-loop-piece : goal.invariant-loop-piece
invariant-loop-piece l = behind_mark (map item l.pieces) l.place ≡ behind_mark (map item l.pieces) l.from

abbrev pub decreases-loop-piece : goal.decreases-loop-piece
decreases-loop-piece l = length l.pieces - l.place
