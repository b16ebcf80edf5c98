use Rattle.std.proofs.Common.{rules, ◌∙◌}
use Rattle.ss_faults.proofs.PieceWalks.{piece_passed, others_left}
use Rattle.ss_faults.proofs.data_pieces.PiecesLeft.pass.Goals as goal

pub returns-clause-piece : goal.returns-clause-piece
returns-clause-piece c =
    piece_passed c.after_separators-line.result.0 c.piece_len-len.result c.after_separators-line.result.1.now _
    (c.after_separators-line.ensures.pieces ∙ c.self.view_is) c.piece_len-len.ensures.len (search rules)

pub returns-clause-left : goal.returns-clause-left
returns-clause-left c =
    others_left c.after_separators-line.result.0 c.piece_len-len.result c.after_separators-line.result.1.now _
    (c.after_separators-line.ensures.pieces ∙ c.self.view_is) c.piece_len-len.ensures.len (search rules)
