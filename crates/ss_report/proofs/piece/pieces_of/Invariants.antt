use Rattle.std.proofs.Common.{◌≡◌, map, take}
use Rattle.ss_report.specs.Pictures.{picture_parts}
use Rattle.ss_report.specs.Pieces.{parts_of}
use Rattle.ss_report.proofs.piece.pieces_of.Given as goal

abbrev pub invariant-loop-line : goal.invariant-loop-line
invariant-loop-line l =
    parts_of l.pieces.items ≡ picture_parts (map (λ x. x.items) (take l.line-index l.lines))
