-- Words that differ by a letter or two.
use Rattle.std.specs.Prelude.{ℕ, ◌==◌, ◌&&◌, ◌||◌, nat_le, Bool, true, false, List, [], ◌∷◌, length, drop, bytes_eq}
use Rattle.std.specs.Prelude.{Option, Some, None, if◌then◌else◌}
use Rattle.ss_sentences.specs.declared.near.TheConstants.{ONE_DIFFERS, TWO_DIFFER}

-- the rests of two words after the letters at their front that are the same
unfoldable pub behind_same : List ℕ → List ℕ → List ℕ × List ℕ
behind_same [] b = ([], b)
behind_same (x ∷ xs) [] = (x ∷ xs, [])
behind_same (x ∷ xs) (y ∷ ys) = elim (x == y) [ true ↦ behind_same xs ys | false ↦ (x ∷ xs, y ∷ ys) ]

-- two words are the same but for their first two letters, which are exchanged
abbrev pub begins_exchanged : List ℕ → List ℕ → Bool
begins_exchanged (x ∷ y ∷ xs) (p ∷ q ∷ ys) = x == q && y == p && bytes_eq xs ys
begins_exchanged _ _ = false

-- from the first letter on that differs: two are exchanged, or one is changed, left out or put in
abbrev pub is_one_change : List ℕ × List ℕ → Bool
is_one_change (a, b) =
    begins_exchanged a b || bytes_eq (drop 1 a) (drop 1 b) || bytes_eq a (drop 1 b) || bytes_eq (drop 1 a) b

-- two words are the same, or differ by one such change
unfoldable pub differ_by_one : List ℕ → List ℕ → Bool
differ_by_one a b = is_one_change (behind_same a b)

-- from the first letter on that differs: one is changed, left out or put in, and then they differ by one change
abbrev pub are_two_changes : List ℕ × List ℕ → Bool
are_two_changes (a, b) =
    differ_by_one (drop 1 a) (drop 1 b) || differ_by_one a (drop 1 b) || differ_by_one (drop 1 a) b

-- two words differ by at most two changes
unfoldable pub differ_by_two : List ℕ → List ℕ → Bool
differ_by_two a b = are_two_changes (behind_same a b)

-- a word is nearly the one that is meant: by one letter, and by two of a long one
abbrev pub is_near : List ℕ → List ℕ → Bool
is_near meant word =
    if nat_le TWO_DIFFER (length meant) then differ_by_two meant word
    else nat_le ONE_DIFFERS (length meant) && differ_by_one meant word

-- the first word of a table that a word nearly is
abbrev pub nearest : List ℕ → List (List ℕ) → Option (List ℕ)
nearest word [] = None
nearest word (row ∷ rows) = elim (is_near row word) [ true ↦ Some row | false ↦ nearest word rows ]
