-- The reserved words: every spelling that no name may have, and the reserved word or sign that it means.
use Rattle.std.specs.Prelude.{ℕ, Bool, List, [], ◌∷◌, map, Option, Some, None, is_some, if◌then◌else◌, bytes_eq}
use Rattle.ss_words.specs.declared.mark.Mark.{Mark}
use Rattle.ss_words.specs.declared.spelling.TheConstants.{SPELLINGS}

-- the table of the spellings, each with its mark: the rows of src/spelling.rt
unfoldable pub spellings : List (List ℕ × Mark)
spellings = map (λ row. (row.0.now, row.1)) SPELLINGS

-- the mark next to this spelling in a table
abbrev pub mark_beside : List ℕ → List (List ℕ × Mark) → Option Mark
mark_beside name [] = None
mark_beside name (row ∷ rows) = if bytes_eq row.0 name then Some row.1 else mark_beside name rows

-- the mark for which a name is reserved, if it is
unfoldable pub mark_of : List ℕ → Option Mark
mark_of name = mark_beside name spellings

-- a name is reserved
abbrev pub is_reserved_name : List ℕ → Bool
is_reserved_name name = is_some (mark_of name)
