-- The table of the commands: the rows of src/table.rt.
use Rattle.std.specs.Prelude.{ℕ, Bool, true, false, ◌&&◌, List, [], ◌∷◌, map, codes, Option, Some, None, if◌then◌else◌}
use Rattle.std.specs.Borrow.{Bor}
use Rattle.std.specs.Str.{bytes_eq}
use Rattle.ss_debug.specs.CommandLines.{command_words}
use Rattle.ss_prompt.specs.Words.{after_words, only_of}
use Rattle.ss_prompt.specs.declared.makes.Makes.{Makes}
use Rattle.ss_prompt.specs.declared.makes.Makes.TheVariants.{Asked, Also, Question, History, Undisplay}
use Rattle.ss_prompt.specs.declared.table.TheConstants.{FORMS, LETTERS}

-- a row: the words with which its lines begin, what it makes of the words after these, and the lines of HELP on it
abbrev pub Form : Type 0
Form = List ℕ × Makes × List ℕ

-- a row of the code
abbrev pub form_of : Bor (List ℕ) × Makes × Bor (List ℕ) → Form
form_of row = (row.0.now, row.1, row.2.now)

-- some rows of the code
abbrev pub forms_of : List (Bor (List ℕ) × Makes × Bor (List ℕ)) → List Form
forms_of rows = map form_of rows

-- the rows of the table
unfoldable pub forms : List Form
forms = map (λ row. (row.0.now, row.1, row.2.now)) FORMS

-- the letters of the code, each with its word
abbrev pub letters_of : List (Bor (List ℕ) × Bor (List ℕ)) → List (List ℕ × List ℕ)
letters_of rows = map (λ row. (row.0.now, row.1.now)) rows

-- the letters that mean a word at the beginning of a line, each with its word
unfoldable pub letters : List (List ℕ × List ℕ)
letters = map (λ row. (row.0.now, row.1.now)) LETTERS

-- the words with which a line of a row begins
abbrev pub form_words : Form → List (List ℕ)
form_words form = command_words form.0

-- whether this is the first of some words
abbrev pub first_is : List ℕ → List (List ℕ) → Bool
first_is word [] = false
first_is word (first ∷ more) = bytes_eq first word

-- whether this is the first word of a row
abbrev pub begins_with : Form → List ℕ → Bool
begins_with form word = first_is word (form_words form)

-- the last of one word or two
abbrev pub last_of : List (List ℕ) → List ℕ
last_of [] = []
last_of (first ∷ []) = first
last_of (first ∷ second ∷ more) = second

-- the last word of a row
abbrev pub last_word : Form → List ℕ
last_word form = last_of (form_words form)

-- whether a question may come after the words of a row, and no row has further words there
abbrev pub asks : Makes → Bool
asks (Question manner) = true
asks History = true
asks Undisplay = true
asks _ = false

-- whether these are all the words
abbrev pub is_end : Option (List (List ℕ)) → Bool
is_end (Some []) = true
is_end _ = false

-- whether a question may come after a text, by some rows
abbrev pub is_asked_after : List ℕ → List Form → Bool
is_asked_after before [] = false
is_asked_after before (form ∷ rows) =
    if asks form.1 && is_end (after_words (command_words before) (form_words form)) then true
    else is_asked_after before rows

-- the only word of a row after a text
abbrev pub only_after : List ℕ → Form → Option (List ℕ)
only_after before form = only_of (after_words (command_words before) (form_words form))

-- the word of a row that may come after a text; if a question may come there, it is the first word of one
abbrev pub word_in : Bool → List ℕ → Makes → Form → Option (List ℕ)
word_in asked before Also form = None
word_in true before Asked form = only_after (codes "SHOW") form
word_in true before _ form = None
word_in false before _ form = only_after before form

-- a word, if it is there, before others
abbrev pub with_first : Option (List ℕ) → List (List ℕ) → List (List ℕ)
with_first None words = words
with_first (Some word) words = word ∷ words

-- the words of some rows that may come after a text
abbrev pub words_at : Bool → List ℕ → List Form → List (List ℕ)
words_at asked before [] = []
words_at asked before (form ∷ rows) =
    with_first (word_in asked before form.1 form) (words_at asked before rows)
