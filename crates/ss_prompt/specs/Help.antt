-- The text of HELP: the rows of the table of the commands.
use Rattle.std.specs.Prelude.{ℕ, List, [], ◌∷◌, ◌++◌, codes, Option, Some, None, if◌then◌else◌}
use Rattle.ss_prompt.specs.Table.{Form, forms, begins_with}

-- all rows
abbrev pub all_rows : List Form → List ℕ
all_rows [] = []
all_rows (row ∷ rows) = row.2 ++ 10 ∷ all_rows rows

-- a row, if it is one of this word
abbrev pub row_of : List ℕ → Form → List ℕ
row_of word row = if begins_with row word then row.2 ++ 10 ∷ [] else []

-- the rows of this word among some rows
abbrev pub rows_of : List ℕ → List Form → List ℕ
rows_of word [] = []
rows_of word (row ∷ rows) = row_of word row ++ rows_of word rows

-- the rows that were found for a word, or that there is no help on it
abbrev pub help_or_none : List ℕ → List ℕ → List ℕ
help_or_none word [] = codes "NO HELP ON " ++ word ++ 10 ∷ []
help_or_none word (b ∷ bs) = b ∷ bs

-- the answer to HELP
unfoldable pub help_said : Option (List ℕ) → List ℕ
help_said None = all_rows forms
help_said (Some word) = help_or_none word (rows_of word forms)
