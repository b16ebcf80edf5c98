-- Names that are set and never read, and names that are read and never set. Every place of such a
-- name is of the one kind, or in a DEFINE; for a local variable, every place in its section.
use Rattle.std.specs.Prelude.{ℕ, Bool, true, false, ◌==◌, ◌&&◌, not, nat_lt, List, [], ◌∷◌, ◌++◌}
use Rattle.std.specs.Prelude.{count_by, bytes_eq}
use Rattle.ss_words.specs.Plain.{PlainAt, name, number, mark, picture}
use Rattle.ss_names.specs.declared.keys.Counted.TheVariants.{As, Besides}
use Rattle.ss_names.specs.declared.roles.Role.{Role}
use Rattle.ss_names.specs.Here.{at_start}
use Rattle.ss_names.specs.Keys.{key, keys_with, section_behind}
use Rattle.ss_names.specs.Meanings.{Declaration}
use Rattle.ss_names.specs.Names.{is_of_language}
use Rattle.ss_names.specs.Saying.{warning_line}

-- a name that occurs more than once in the text, is used in one way, and in no other but that it is declared, occurs
-- here first, and is not the language's; `n` is the name by itself, and `k` is the name as it is counted
abbrev pub is_told :
    List (List ℕ) → List (List ℕ) → List (List ℕ) → List (List ℕ) → List ℕ → List ℕ → Bool
is_told names used others before n k =
    nat_lt 1 (count_by (bytes_eq n) names) && nat_lt 0 (count_by (bytes_eq k) used)
    && count_by (bytes_eq k) others == 0 && count_by (bytes_eq k) before == 0 && not (is_of_language n)

-- the warning about a name on a line, after others
unfoldable pub only_name :
    List ℕ → List (List ℕ) → List (List ℕ) → List (List ℕ) → List (List ℕ) → ℕ → List ℕ → List ℕ → List ℕ
only_name said names used others before line n k =
    elim (is_told names used others before n k) [ true ↦ warning_line line n said | false ↦ [] ]

-- each name among words, after others, that is used in this way only, with the line on which it
-- occurs first; a local variable of each section by itself
unfoldable pub only_text :
    List ℕ → List (List ℕ) → List Declaration → List (List ℕ) → List (List ℕ) → List (List ℕ) → ℕ → List PlainAt
    → List ℕ
only_text said names ds used others before section [] = []
only_text said names ds used others before section (w ∷ ws) = elim w.word [
  | name n ↦ only_name said names used others before w.line n (key ds section n)
      ++ only_text said names ds used others (before ++ key ds section n ∷ []) section ws
  | number n ↦ only_text said names ds used others before section ws
  | mark m ↦ only_text said names ds used others before (section_behind section w) ws
  | picture ls ↦ only_text said names ds used others before section ws
]

-- each name that is used with this role only
abbrev pub uses_text : List ℕ → Role → List (List ℕ) → List Declaration → List PlainAt → List ℕ
uses_text said role names ds ws = only_text said names ds
    (keys_with ds (As role) 0 at_start ws) (keys_with ds (Besides role) 0 at_start ws) [] 0 ws
