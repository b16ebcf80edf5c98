use Rattle.std.proofs.Common.{◌≡◌, ℕ, ◌<◌, ◌≤◌, Bool, true, false, List, [], ◌∷◌, length, refl, arith, cond, nat_lt}
use Rattle.std.specs.List.{All, position_or_len, filter, slice_split, before_first, after_first}
use Rattle.std.proofs.lemmas.List.Splits.{slice_split_first, slice_split_none}
use Rattle.std.proofs.lemmas.Grind.{common_steps}
use Rattle.std.proofs.lemmas.List.Sums.{fails_before_first}
use borrow.Author.Tests.{ltb-true, ltb-false}
use Rattle.ss_debug.specs.CommandLines.{separates, word_separators, is_written, command_words}

first_part_if : (p : ℕ → Bool) (xs : List ℕ) (b : Bool) → nat_lt (position_or_len p xs) (length xs) ≡ b →
    filter is_written (slice_split p xs) ≡ filter is_written (before_first p xs ∷ slice_split p (after_first p xs))
first_part_if p xs true e =
    let h : position_or_len p xs < length xs = omega (arith, ltb-true _ _ e) in
    rw (slice_split_first p xs 0 h) refl
first_part_if p xs false e =
    let h : length xs ≤ position_or_len p xs = omega (arith, ltb-false _ _ e) in
    let a : All (λ x. p x ≡ false) xs = λ k d g. fails_before_first p xs k d (omega arith) in
    let b : before_first p xs ≡ xs = grind (arith, common_steps) in
    let d : after_first p xs ≡ [] = grind (arith, common_steps) in
    rw (slice_split_none p xs a, b, d) refl

pub words_none : command_words [] ≡ []
unfolding command_words
words_none = refl

-- the first word, and those after it
pub words_first : (rest word more : List ℕ) → word ≡ before_first (separates word_separators) rest →
    more ≡ after_first (separates word_separators) rest →
    command_words rest ≡ cond (is_written word) (word ∷ command_words more) (command_words more)
unfolding command_words
words_first rest word more e f = rw (e, f) (first_part_if (separates word_separators) rest _ refl)
