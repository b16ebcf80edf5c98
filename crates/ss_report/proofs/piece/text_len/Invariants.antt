use Rattle.std.proofs.Common.{◌≡◌, ◌^◌, ◌-◌, min, take}
use Rattle.ss_report.specs.Pieces.{parts_len, parts_of}
use Rattle.ss_report.proofs.piece.text_len.Given as goal

abbrev pub invariant-loop-piece : goal.invariant-loop-piece
invariant-loop-piece l = l.len ≡ min (parts_len (parts_of (take l.piece-index l.pieces))) (2 ^ 64 - 1)
