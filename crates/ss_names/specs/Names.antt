-- The names of a model: the words that are names and not reserved.
use Rattle.std.specs.Prelude.{ℕ, Bool, false, ◌||◌, List, [], ◌∷◌, map}
use Rattle.ss_words.specs.Plain.{PlainAt, name, number, mark, picture}
use Rattle.ss_columns.specs.Reserved.{is_among}
use Rattle.ss_names.specs.declared.language.TheConstants.{CLOCK, COMPANIONS, FUNCTIONS}

-- N.x, F.x, L.x, P.x, S.x or M.x
abbrev pub is_companion : List ℕ → Bool
is_companion [] = false
is_companion (b ∷ []) = false
is_companion (b ∷ c ∷ bs) = is_among (b ∷ c ∷ []) (map (λ row. row.now) COMPANIONS)

-- the language gives this name: the clock, a function, or a name that is kept of a class or a set
unfoldable pub is_of_language : List ℕ → Bool
is_of_language n =
    is_among n (map (λ row. row.now) CLOCK) || is_among n (map (λ row. row.now) FUNCTIONS) || is_companion n

-- the names among plain words, in their order, as often as they occur
unfoldable pub names_in : List PlainAt → List (List ℕ)
names_in [] = []
names_in (w ∷ ws) = elim w.word [
  | name n ↦ n ∷ names_in ws
  | number n ↦ names_in ws
  | mark m ↦ names_in ws
  | picture ls ↦ names_in ws
]
