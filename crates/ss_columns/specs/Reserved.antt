-- Names in tables, and which reserved words are dropped: the rows of the tables of src/reserved.rt.
use Rattle.std.specs.Prelude.{ℕ, Bool, true, false, List, [], ◌∷◌, map, bytes_eq}
use Rattle.ss_words.specs.Words.{Kind, name, number, sign, picture}
use Rattle.ss_columns.specs.declared.reserved.TheConstants.{DROPPED, SCHEDULING}

-- a name is in a table
abbrev pub is_among : List ℕ → List (List ℕ) → Bool
is_among n [] = false
is_among n (row ∷ rows) = elim (bytes_eq row n) [ true ↦ true | false ↦ is_among n rows ]

-- a word is a name that is in a table
abbrev pub is_kind_among : List (List ℕ) → Kind → Bool
is_kind_among table (name n) = is_among n table
is_kind_among table (number n) = false
is_kind_among table (sign s) = false
is_kind_among table (picture ls) = false

-- the reserved words that are dropped, unless they are directly after these
unfoldable pub dropped_words : List (List ℕ)
dropped_words = map (λ row. row.now) DROPPED

-- SCHEDULE and CAUSE
unfoldable pub scheduling_words : List (List ℕ)
scheduling_words = map (λ row. row.now) SCHEDULING
