use Rattle.std.proofs.Common.{◌≡◌, ◌+◌, ◌-◌, ◌^◌, min, take, arith}
use Rattle.ss_report.specs.Pieces.{parts_len, parts_of}
use Rattle.ss_report.proofs.PieceSteps.{parts_len-take}
use Rattle.ss_report.proofs.piece.text_len.Goals as goal

pub loop-piece-preserved : goal.loop-piece-preserved
loop-piece-preserved c =
    let more =
    parts_len-take c.args.pieces.now c.loop-piece.piece-index c.piece-item.result (omega arith) c.piece-item.is in
    let next : c.saturating_add-len.result
    ≡ min (parts_len (parts_of (take (c.loop-piece.piece-index + 1) c.args.pieces.now))) (2 ^ 64 - 1) = omega
    (arith, more) in
    next
