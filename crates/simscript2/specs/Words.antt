-- The words with which the program is started.
use Rattle.std.specs.Prelude.{◌||◌, ℕ, Bool, false, List, [], ◌∷◌, length, nat_eq, nat_lt}
use Rattle.std.specs.List.{list_any}

-- a word that begins with `-` (45) and goes on
abbrev pub is_option : List ℕ → Bool
is_option [] = false
is_option (b ∷ []) = false
is_option (b ∷ c ∷ more) = nat_eq b 45

-- whether the words are wrong: more than three are after the program's name, or one is an option
abbrev pub are_wrong_words : List (List ℕ) → Bool
are_wrong_words [] = false
are_wrong_words (name ∷ paths) = nat_lt 3 (length paths) || list_any is_option paths
