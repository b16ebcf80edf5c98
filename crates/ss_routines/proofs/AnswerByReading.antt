-- The answers to words, computed by reading them.
use Rattle.std.proofs.Common.{◌≡◌, ℕ, ◌-◌, List, [], ◌∷◌, length, Ok, Err, refl, arith}
use Rattle.ss_words.specs.declared.fault.TextRule.TheVariants as rule
use Rattle.ss_words.specs.declared.refusal.Refusal.TheVariants.{Unexpected, PastLimit}
use Rattle.ss_words.specs.Plain.{Plain, PlainAt, plains}
use Rattle.ss_words.specs.Reading.{whole}
use Rattle.ss_words.specs.Noting.{line}
use Rattle.ss_routines.specs.Places.{Section}
use Rattle.ss_routines.specs.Tree.{Tree}
use Rattle.ss_routines.specs.Written.{written}
use Rattle.ss_routines.specs.Refused.{lines, AreSections, IsRefused}
use Rattle.ss_routines.proofs.Whole.{reading, read_sections, unexpected_word, unexpected_end, past_limit}

module _ (ws : List PlainAt) where
  pub program : (t : Tree) (r : List Plain) → whole reading (plains ws) ≡ (Ok t, r)
      → (ss : List Section) × AreSections ss ws
  program t r e = let (w, is) = read_sections (plains ws) r t e in (written (lines ws) t, (t, w, is, refl))

  pub at_word : (v : Plain) (r : List Plain) (l : ℕ) → whole reading (plains ws) ≡ (Err Unexpected, v ∷ r)
      → l ≡ line (lines ws) (length (plains ws) - length (v ∷ r)) → IsRefused rule.UnexpectedWord l ws
  at_word v r l e at = (length (plains ws) - length (v ∷ r), unexpected_word (plains ws) (v ∷ r) e (omega arith), at)

  pub at_end : (l : ℕ) → whole reading (plains ws) ≡ (Err Unexpected, []) → l ≡ line (lines ws) (length ws - 1)
      → IsRefused rule.UnexpectedEnd l ws
  at_end l e at = (unexpected_end (plains ws) [] e refl, at)

  pub at_limit : (v u : Plain) (r : List Plain) (l : ℕ) → whole reading (plains ws) ≡ (Err PastLimit, v ∷ u ∷ r)
      → l ≡ line (lines ws) (length (plains ws) - length (v ∷ u ∷ r)) → IsRefused rule.PastLimit l ws
  at_limit v u r l e at =
      (length (plains ws) - length (v ∷ u ∷ r), past_limit (plains ws) (v ∷ u ∷ r) e (omega arith), at)
