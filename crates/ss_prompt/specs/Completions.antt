-- The words that may be in a line of the prompt, for programs that complete words.
use Rattle.std.specs.Prelude.{ℕ, Bool, true, false, List, [], ◌∷◌, ◌++◌, codes, if◌then◌else◌}
use Rattle.std.specs.Str.{bytes_eq}
use Rattle.ss_program.specs.Program.{ProgramTable, ClassTable, SetTable, SectionTable}
use Rattle.ss_debug.specs.CommandLines.{command_words}
use Rattle.ss_prompt.specs.Table.{Form, forms, last_word}

-- a line for each of some words
abbrev pub word_lines : List (List ℕ) → List ℕ
word_lines [] = []
word_lines (word ∷ words) = word ++ 10 ∷ word_lines words

-- whether a word is the last of some row
abbrev pub is_last_of_some : List ℕ → List Form → Bool
is_last_of_some word [] = false
is_last_of_some word (form ∷ rows) = if bytes_eq (last_word form) word then true else is_last_of_some word rows

-- the last word of each row, each once
abbrev pub row_lines : List Form → List ℕ
row_lines [] = []
row_lines (form ∷ rows) =
    if is_last_of_some (last_word form) rows then row_lines rows else last_word form ++ 10 ∷ row_lines rows

-- the words that are in no place of the table: WHEN after a place, and READ and FROM, which ssdb reads
abbrev pub other_words : List ℕ
other_words = codes "WHEN READ FROM"

-- the attributes of some classes
abbrev pub attribute_lines : List ClassTable → List ℕ
attribute_lines [] = []
attribute_lines (c ∷ cs) = word_lines c.attributes ++ attribute_lines cs

-- some sets
abbrev pub set_lines : List SetTable → List ℕ
set_lines [] = []
set_lines (s ∷ ss) = s.name ++ 10 ∷ set_lines ss

-- some sections, each with its locals
abbrev pub section_lines : List SectionTable → List ℕ
section_lines [] = []
section_lines (s ∷ ss) = s.name ++ 10 ∷ (word_lines s.locals ++ section_lines ss)

-- the words of the commands
abbrev pub command_lines : List ℕ
command_lines = row_lines forms ++ word_lines (command_words other_words)

-- all words, each on a line: those of the commands, and the names of a program in the order of its tables (the classes
-- are among its variables)
abbrev pub completions : ProgramTable → List ℕ
completions program =
    command_lines ++ word_lines program.globals ++ attribute_lines program.classes ++ set_lines program.sets
    ++ section_lines program.sections
