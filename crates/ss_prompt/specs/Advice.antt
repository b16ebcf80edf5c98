-- The answer to a line that is no command: the forms of its first word, or the nearest words.
use Rattle.std.specs.Prelude.{ℕ, Bool, true, false, List, [], ◌∷◌, ◌++◌, take, codes, Option, Some, None, if◌then◌else◌}
use Rattle.std.specs.List.{filter, list_all}
use Rattle.std.specs.Char.{is_ascii_digit}
use Rattle.ss_prompt.specs.Cuts.{begins}
use Rattle.ss_prompt.specs.Help.{rows_of}
use Rattle.ss_prompt.specs.Table.{forms, words_at}
use Rattle.ss_prompt.specs.Words.{only_name_of}

-- the first of some words, if it may be a name
abbrev pub verb_of : List (List ℕ) → Option (List ℕ)
verb_of [] = None
verb_of (word ∷ more) = only_name_of (word ∷ [])

-- whether some word is digits only
abbrev pub has_number : List (List ℕ) → Bool
has_number [] = false
has_number (word ∷ words) = if list_all is_ascii_digit word then true else has_number words

-- the words that begin with a word's first two letters
abbrev pub near_words : List ℕ → List (List ℕ)
near_words word = filter (begins (take 2 word)) (words_at false [] forms)

-- words, each after a blank
abbrev pub blank_words : List (List ℕ) → List ℕ
blank_words [] = []
blank_words (word ∷ words) = 32 ∷ (word ++ blank_words words)

-- the nearest words, or that HELP lists the commands
abbrev pub near_text : List (List ℕ) → List ℕ
near_text [] = codes "HELP SHOWS THE COMMANDS.\n"
near_text (word ∷ words) = codes "NEAREST:" ++ blank_words (word ∷ words) ++ 10 ∷ []

-- the range of numbers, if there is a number
abbrev pub range_text : Bool → List ℕ
range_text false = []
range_text true =
    codes "n and l are from 1 to 1000000; p, t and k are from 0 to 9223372036854775807\n"

-- the forms of a word and the range of numbers, or if it has none, the nearest words
abbrev pub forms_or_near : List ℕ → Bool → List ℕ → List ℕ
forms_or_near word numbered [] = near_text (near_words word)
forms_or_near word numbered (b ∷ bs) = (b ∷ bs) ++ range_text numbered

-- the advice on a first word
abbrev pub advice : Option (List ℕ) → Bool → List ℕ
advice None numbered = near_text []
advice (Some word) numbered = forms_or_near word numbered (rows_of word forms)

-- the answer to a line that is no command, by its first word, and by whether a word is a number
unfoldable pub unread_text : Option (List ℕ) → Bool → List ℕ
unread_text word numbered = codes "BAD COMMAND\n" ++ advice word numbered
