use Rattle.std.proofs.Common.{arith}
use Rattle.ss_report.proofs.Texts.{parts_len-bytes}
use Rattle.ss_report.proofs.piece.piece_len.Goals as goal

pub returns-in-Text : goal.returns-in-Text
returns-in-Text c = rw c.in-Text.is (omega (arith, parts_len-bytes c.in-Text.text.items))
