use Rattle.std.proofs.Common.{◌≡◌, ◌<◌, ◌+◌, ◌^◌, length}
use Rattle.ss_faults.specs.DataPieces.{pieces_from}
use Rattle.ss_faults.proofs.data_pieces.after_separators.Given as goal

abbrev pub invariant-loop-rest : goal.invariant-loop-rest
invariant-loop-rest l =
    (pieces_from l.line l.rest ≡ pieces_from l.initial.line l.initial.rest) × (l.line + length l.rest < 2 ^ 64)

abbrev pub decreases-loop-rest : goal.decreases-loop-rest
decreases-loop-rest l = length l.rest
