use Rattle.std.proofs.Common.{◌≡◌, ◌∙◌, ◌<◌, arith}
use Rattle.std.specs.List.{position_or_len, prefix_len}
use Rattle.ss_report.proofs.Lines.{first_bytes, is_asterisk, some_bytes}
use Rattle.ss_report.proofs.piece.first_piece.Goals as goal

pub returns-clause-parts : goal.returns-clause-parts
returns-clause-parts c =
    first_bytes _ _ _ _ c.leading_others.ensures.value (c.in_ok-from_slice.ensures.items ∙ c.split_at-2.ensures.front)
    c.split_at-2.ensures.back

pub returns-clause-shorter : goal.returns-clause-shorter
returns-clause-shorter c =
    let none : prefix_len is_asterisk c.args.line.now ≡ 0 = omega (arith, c.leading_asterisks-width.ensures.value) in
    let some : 0 < position_or_len is_asterisk c.args.line.now = some_bytes c.args.line.now (omega arith) none in
    omega (arith, c.leading_others.ensures.value)
