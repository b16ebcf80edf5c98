use Rattle.std.proofs.Common.{length, sym, arith}
use Rattle.std.proofs.lemmas.List.Sums.{position_or_len_is}
use Rattle.ss_debug.specs.CommandLines.{separates, word_separators}
use Rattle.ss_prompt.proofs.pieces.separator_at.Goals as goal

pub returns-clause-place : goal.returns-clause-place
returns-clause-place c =
    sym (position_or_len_is (separates word_separators) c.args.text.now (length c.args.text.now) 0 (omega arith)
    (λ k h. c.loop-i.invariant k (omega arith)) (λ h. absurd (omega arith)))
