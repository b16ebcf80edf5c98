use Rattle.std.proofs.Common.{◌≡◌, ℕ, ◌<◌, ◌≤◌, Bool, true, false, List, [], ◌∷◌, length, refl, arith, cond, nat_lt}
use Rattle.std.specs.List.{All, position_or_len, slice_split, before_first, after_first, onto_first}
use Rattle.std.proofs.lemmas.List.Splits.{slice_split_first, slice_split_none}
use Rattle.std.proofs.lemmas.List.Sums.{fails_before_first}
use Rattle.std.proofs.lemmas.Grind.{common_steps}
use borrow.Author.Tests.{ltb-true, ltb-false}
use Rattle.ss_words.specs.TextLines.{without_empty_last}
use Rattle.ss_debug.specs.CommandLines.{separates, line_separators, is_written, command_lines}

pub lines_none : command_lines [] ≡ []
unfolding command_lines without_empty_last
lines_none = refl

before_more_at : (x : List ℕ) (b : ℕ) (c : Bool) (parts : List (List ℕ)) →
    without_empty_last (x ∷ cond c ([] ∷ parts) (onto_first b parts)) ≡ x
    ∷ without_empty_last (cond c ([] ∷ parts) (onto_first b parts))
unfolding without_empty_last
before_more_at x b true parts = refl
before_more_at x b false [] = refl
before_more_at x b false (part ∷ parts) = refl

-- the part before another piece is a line, whatever it is
before_more : (x : List ℕ) (p : ℕ → Bool) (more : List ℕ) →
    without_empty_last (x ∷ slice_split p more) ≡ x ∷ without_empty_last (slice_split p more)
unfolding without_empty_last
before_more x p [] = refl
before_more x p (b ∷ bs) = before_more_at x b (p b) (slice_split p bs)

-- a last piece that holds a byte is a line
last_line : (x : List ℕ) → is_written x ≡ true → without_empty_last (x ∷ []) ≡ x ∷ []
unfolding without_empty_last
last_line [] w = absurd (cc)
last_line (b ∷ bs) w = refl

pub written_from_length : (xs : List ℕ) → 0 < length xs → is_written xs ≡ true
written_from_length [] h = absurd (omega arith)
written_from_length (x ∷ xs) h = refl

pub none_of_length : (xs : List ℕ) → length xs ≡ 0 → xs ≡ []
none_of_length [] h = refl
none_of_length (x ∷ xs) h = absurd (omega arith)

first_line_if : (b : Bool) (xs : List ℕ) → is_written xs ≡ true →
    nat_lt (position_or_len (separates line_separators) xs) (length xs) ≡ b →
    command_lines xs ≡ before_first (separates line_separators) xs
    ∷ command_lines (after_first (separates line_separators) xs)
unfolding command_lines without_empty_last
first_line_if true xs w e =
    let h : position_or_len (separates line_separators) xs < length xs = omega (arith, ltb-true _ _ e) in
    let ends = separates line_separators in
    rw (slice_split_first ends xs 0 h) (before_more (before_first ends xs) ends (after_first ends xs))
first_line_if false xs w e =
    let h : length xs ≤ position_or_len (separates line_separators) xs = omega (arith, ltb-false _ _ e) in
    let a : All (λ x. (separates line_separators) x ≡ false) xs =
    λ k d g. fails_before_first (separates line_separators) xs k d (omega arith) in
    let b : before_first (separates line_separators) xs ≡ xs = grind (arith, common_steps) in
    let d : after_first (separates line_separators) xs ≡ [] = grind (arith, common_steps) in
    rw (slice_split_none (separates line_separators) xs a, b, d, last_line xs w) refl

-- the first line, and the lines after it
pub lines_first : (rest line more : List ℕ) → is_written rest ≡ true →
    line ≡ before_first (separates line_separators) rest → more ≡ after_first (separates line_separators) rest →
    command_lines rest ≡ line ∷ command_lines more
lines_first rest line more w e f = rw (e, f) (first_line_if _ rest w refl)
