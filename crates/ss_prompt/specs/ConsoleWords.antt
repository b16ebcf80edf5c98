-- The words that may be in a line of the console of an editor, for completion there.
use Rattle.std.specs.Prelude.{ℕ, Bool, true, false, ◌||◌, List, [], ◌∷◌, ◌++◌, codes, if◌then◌else◌}
use Rattle.std.specs.Prelude.{Option, Some, None}
use Rattle.std.specs.Str.{bytes_eq}
use Rattle.ss_program.specs.Program.{ProgramTable}
use Rattle.ss_inspect.specs.Frames.{locals_in}
use Rattle.ss_prompt.specs.Completions.{word_lines, attribute_lines, set_lines}
use Rattle.ss_prompt.specs.Table.{Form, forms, form_words}

-- whether a row that begins with this word is on files: ssdb alone takes these commands
abbrev pub is_on_files : List ℕ → Bool
is_on_files word = bytes_eq word (codes "LOG") || bytes_eq word (codes "RELOAD")

-- the first of the words of a row (true), if the console takes its commands, or the one after it
abbrev pub word_of : Bool → List (List ℕ) → Option (List ℕ)
word_of true (first ∷ more) = if is_on_files first then None else Some first
word_of false (first ∷ second ∷ more) = Some second
word_of is_first words = None

-- the same of a row
abbrev pub word_in_place : Bool → Form → Option (List ℕ)
word_in_place is_first form = word_of is_first (form_words form)

-- whether this is a word, if there is one
abbrev pub is_word : List ℕ → Option (List ℕ) → Bool
is_word word None = false
is_word word (Some other) = bytes_eq other word

-- whether some row has a word in this place
abbrev pub is_in_some : Bool → List ℕ → List Form → Bool
is_in_some is_first word [] = false
is_in_some is_first word (form ∷ rows) =
    if is_word word (word_in_place is_first form) then true else is_in_some is_first word rows

-- the line of a word, if there is one and none of some rows has it in this place
abbrev pub last_line : Bool → Option (List ℕ) → List Form → List ℕ
last_line is_first None rows = []
last_line is_first (Some word) rows = if is_in_some is_first word rows then [] else word ++ 10 ∷ []

-- the word in this place of each row, each once
abbrev pub place_lines : Bool → List Form → List ℕ
place_lines is_first [] = []
place_lines is_first (form ∷ rows) =
    last_line is_first (word_in_place is_first form) rows ++ place_lines is_first rows

-- the names of a program, in the order of its tables, with the locals of a section
abbrev pub name_lines : ProgramTable → ℕ → List ℕ
name_lines program section =
    word_lines program.globals ++ attribute_lines program.classes ++ set_lines program.sets
    ++ word_lines (locals_in program section)

-- the words that may be first in a line (true), or those that may be after another, each on a line
abbrev pub console_words : ProgramTable → ℕ → Bool → List ℕ
console_words program section true = place_lines true forms
console_words program section false = place_lines false forms ++ name_lines program section
