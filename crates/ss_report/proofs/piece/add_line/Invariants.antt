use Rattle.std.proofs.Common.{◌≡◌, ◌++◌, length}
use Rattle.ss_report.specs.Pictures.{line_parts}
use Rattle.ss_report.specs.Pieces.{parts_of}
use Rattle.ss_report.proofs.piece.add_line.Given as goal

abbrev pub invariant-loop-rest : goal.invariant-loop-rest
invariant-loop-rest l =
    parts_of l.pieces.items ++ line_parts l.rest ≡ parts_of l.initial.pieces.items ++ line_parts l.line

abbrev pub decreases-loop-rest : goal.decreases-loop-rest
decreases-loop-rest l = length l.rest
