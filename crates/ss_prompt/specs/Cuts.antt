-- Words that are cut, made whole by the table of the commands.
use Rattle.std.specs.Prelude.{ℕ, Bool, false, ◌&&◌, ◌||◌, List, [], ◌∷◌, length, take, codes, if◌then◌else◌}
use Rattle.std.specs.Prelude.{Option, Some, None, nat_le, nat_lt, fold}
use Rattle.std.specs.List.{filter}
use Rattle.std.specs.Str.{bytes_eq}
use Rattle.ss_debug.specs.CommandLines.{command_words}
use Rattle.ss_program.specs.Program.{ProgramTable}
use Rattle.ss_prompt.specs.Missing.{is_declared}
use Rattle.ss_prompt.specs.Table.{forms, letters, is_asked_after, words_at}
use Rattle.ss_prompt.specs.Words.{line_behind, with_word}

-- whether a word is the beginning of another
abbrev pub begins : List ℕ → List ℕ → Bool
begins word other = nat_le (length word) (length other) && bytes_eq (take (length word) other) word

-- the only one of some words, or another if they are none or several
abbrev pub only_one : List ℕ → List (List ℕ) → List ℕ
only_one word [] = word
only_one word (other ∷ []) = other
only_one word (other ∷ next ∷ more) = word

-- a word of three letters or more means the only word after a text that it begins
abbrev pub whole : Bool → List ℕ → List ℕ → List ℕ
whole asked before word =
    if nat_lt (length word) 3 then word else only_one word (filter (begins word) (words_at asked before forms))

-- the word that a letter means at the beginning of a line, by some rows; another word as it is
abbrev pub word_of_letter : List ℕ → List (List ℕ × List ℕ) → List ℕ
word_of_letter word [] = word
word_of_letter word (row ∷ rows) = if bytes_eq row.0 word then row.1 else word_of_letter word rows

-- the first word of a line made whole
abbrev pub first_whole : List ℕ → List ℕ
first_whole word = whole false [] (word_of_letter word letters)

-- another word made whole by the text before it; a name of the program stays as it is in a question, and after SHOW
abbrev pub further_whole : ProgramTable → Bool → List ℕ → List ℕ → List ℕ
further_whole program asked before word =
    if (asked || bytes_eq before (codes "SHOW")) && is_declared program word then word else whole asked before word

-- whether a first word of a line comes after a text: after none, and after HELP
abbrev pub is_first : List ℕ → Bool
is_first before = bytes_eq before [] || bytes_eq before (codes "HELP")

-- a word made whole by the text before it
abbrev pub made_whole : ProgramTable → List ℕ → List ℕ → List ℕ
made_whole program before word =
    if is_first before then first_whole word else further_whole program (is_asked_after before forms) before word

-- a text and one more word, made whole, if it is no longer than a line may be
unfoldable pub with_whole : ProgramTable → Option (List ℕ) → List ℕ → Option (List ℕ)
with_whole program None word = None
with_whole program (Some before) word = with_word (Some before) (made_whole program before word)

-- a line whose words are made whole, one after the other
abbrev pub whole_line : ProgramTable → List ℕ → Option (List ℕ)
whole_line program line = fold (with_whole program) (Some []) (command_words line)

-- some words, the first made whole
abbrev pub with_first_whole : List (List ℕ) → List (List ℕ)
with_first_whole [] = []
with_first_whole (word ∷ more) = first_whole word ∷ more

-- a line whose first word is made whole
abbrev pub first_whole_line : List ℕ → Option (List ℕ)
first_whole_line line = line_behind [] (with_first_whole (command_words line))
