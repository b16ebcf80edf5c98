-- The form of a warning.
use Rattle.std.specs.Prelude.{ℕ, List, ◌++◌, codes, decimal}

-- a line, a name and the text about it
abbrev pub warning_line : ℕ → List ℕ → List ℕ → List ℕ
warning_line line n said = codes "Line " ++ decimal line ++ codes ": " ++ n ++ said

-- a number between the text before it and the text after it
unfoldable pub number_text : List ℕ → ℕ → List ℕ → List ℕ
number_text before number behind = before ++ decimal number ++ behind

-- a name after the text about it
unfoldable pub name_text : List ℕ → List ℕ → List ℕ
name_text before n = before ++ n
