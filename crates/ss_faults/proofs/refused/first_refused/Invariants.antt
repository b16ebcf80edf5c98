use Rattle.std.proofs.Common.{◌≡◌, ◌-◌}
use Rattle.ss_faults.specs.Refusal.{refusal}
use Rattle.ss_faults.proofs.refused.first_refused.Given as goal

abbrev pub invariant-loop-index : goal.invariant-loop-index
invariant-loop-index l = refusal l.index (l.end - l.index) l.pieces ≡ refusal l.first (l.end - l.first) l.initial.pieces

abbrev pub decreases-loop-index : goal.decreases-loop-index
decreases-loop-index l = l.end - l.index
