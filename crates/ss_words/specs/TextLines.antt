-- The lines of a text, and the comments of a line.
use Rattle.std.specs.Prelude.{ℕ, ◌+◌, Bool, true, false, not, ◌==◌, ◌&&◌, nat_le, List, [], ◌∷◌, map, if◌then◌else◌}
use Rattle.std.specs.List.{slice_split, list_all}
use Rattle.ss_words.specs.declared.characters.TheConstants.{CARRIAGE_RETURN, LINE_FEED, BLANK, QUOTE}
use Rattle.ss_words.specs.TextBytes.{is_blank}

-- a line without the carriage return at its end
unfoldable pub without_return : List ℕ → List ℕ
without_return [] = []
without_return (b ∷ []) = if b == CARRIAGE_RETURN then [] else b ∷ []
without_return (b ∷ c ∷ bs) = b ∷ without_return (c ∷ bs)

-- an empty piece after the last line feed is no line
unfoldable pub without_empty_last : List (List ℕ) → List (List ℕ)
without_empty_last [] = []
without_empty_last ([] ∷ []) = []
without_empty_last ((b ∷ bs) ∷ []) = (b ∷ bs) ∷ []
without_empty_last (l ∷ m ∷ ls) = l ∷ without_empty_last (m ∷ ls)

-- the lines of a text: the pieces between line feeds
unfoldable pub text_lines : List ℕ → List (List ℕ)
text_lines text = without_empty_last (map without_return (slice_split (λ b. b == LINE_FEED) text))

-- a line with its comments made blank; two quotes begin or end one; it begins inside one or not
unfoldable pub with_blank_comments : Bool → List ℕ → List ℕ
with_blank_comments inside [] = []
with_blank_comments inside (b ∷ []) = (if inside then BLANK else b) ∷ []
with_blank_comments inside (b ∷ c ∷ bs) = elim (b == QUOTE && c == QUOTE) [
  | true ↦ BLANK ∷ BLANK ∷ with_blank_comments (not inside) bs
  | false ↦ (if inside then BLANK else b) ∷ with_blank_comments inside (c ∷ bs)
]

-- how many comments begin in a line
unfoldable pub comment_count : Bool → List ℕ → ℕ
comment_count inside [] = 0
comment_count inside (b ∷ []) = 0
comment_count inside (b ∷ c ∷ bs) = elim (b == QUOTE && c == QUOTE) [
  | true ↦ (if inside then 0 else 1) + comment_count (not inside) bs
  | false ↦ comment_count inside (c ∷ bs)
]

-- only blanks, tabs and at most one comment
unfoldable pub is_blank_rest : List ℕ → Bool
is_blank_rest rest = list_all is_blank (with_blank_comments false rest) && nat_le (comment_count false rest) 1
