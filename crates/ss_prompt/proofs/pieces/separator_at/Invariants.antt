use Rattle.std.proofs.Common.{◌≡◌, ℕ, ◌<◌, get_or, false}
use Rattle.ss_debug.specs.CommandLines.{separates, word_separators}
use Rattle.ss_prompt.proofs.pieces.separator_at.Given as goal

abbrev pub invariant-loop-i : goal.invariant-loop-i
invariant-loop-i l = (k : ℕ) → k < l.i → separates word_separators (get_or l.text k 0) ≡ false
