use Rattle.std.proofs.Common.{◌≡◌, drop}
use Rattle.ss_faults.proofs.data_pieces.PiecesLeft.pass_some.Given as goal

abbrev pub invariant-loop-count : goal.invariant-loop-count
invariant-loop-count l = drop l.count l.self ≡ drop l.initial.count l.initial.self

abbrev pub decreases-loop-count : goal.decreases-loop-count
decreases-loop-count l = l.count
