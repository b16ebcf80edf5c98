-- HELP prints the letters that mean a word as the table has them.
use Rattle.std.proofs.Common.{◌≡◌, true, ℕ, List, [], ◌∷◌, ◌++◌, map, refl}
use Rattle.std.specs.Prelude.{codes}
use Rattle.std.specs.List.{list_any}
use Rattle.std.specs.Str.{bytes_eq}
use Rattle.ss_prompt.specs.Table.{forms, letters}

-- words, a comma and a blank between
abbrev pub with_commas : List (List ℕ) → List ℕ
with_commas [] = []
with_commas (word ∷ []) = word
with_commas (word ∷ next ∷ more) = word ++ codes ", " ++ with_commas (next ∷ more)

-- the letters, and then their words
abbrev pub letters_line : List (List ℕ × List ℕ) → List ℕ
letters_line rows = with_commas (map (λ row. row.0) rows) ++ codes ": " ++ with_commas (map (λ row. row.1) rows)

-- a row of the table has that line
pub letters_are_told : list_any (λ form. bytes_eq form.2 (letters_line letters)) forms ≡ true
unfolding forms letters
letters_are_told = refl
