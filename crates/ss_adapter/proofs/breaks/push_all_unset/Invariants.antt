use Rattle.std.proofs.Common.{◌≡◌, ◌++◌}
use Rattle.ss_adapter.specs.Places.{unset_items}
use Rattle.ss_adapter.proofs.breaks.push_all_unset.Given as goal

-- the items that are written so far
abbrev pub invariant-loop-place : goal.invariant-loop-place
invariant-loop-place l = l.text.items ≡ l.fn.text.items ++ unset_items l.reason l._place
