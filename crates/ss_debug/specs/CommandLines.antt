-- The lines of the commands, and the words of a line.
use Rattle.std.specs.Prelude.{ℕ, Bool, true, false, ◌&&◌, List, [], ◌∷◌, length, codes, Option, Some, None}
use Rattle.std.specs.Prelude.{if◌then◌else◌, nat_le, nat_eq}
use Rattle.std.specs.List.{filter, list_all, list_any, slice_split}
use Rattle.std.specs.Char.{is_ascii_digit}
use Rattle.ss_words.specs.TextBytes.{in_run}
use Rattle.ss_words.specs.TextLines.{without_empty_last}
use Rattle.ss_words.specs.TextRuns.{without_stops, has_letter, number_of}
use Rattle.ss_debug.specs.declared.limits.TheConstants.{LONGEST_NAME}

-- whether a byte is one of these separators
abbrev pub separates : List ℕ → ℕ → Bool
separates separators b = list_any (λ s. nat_eq s b) separators

-- the separators of words: a blank, a tab or a carriage return
abbrev pub word_separators : List ℕ
word_separators = codes " \t\r"

-- the separator of lines: a line feed
abbrev pub line_separators : List ℕ
line_separators = codes "\n"

-- whether a piece holds any byte
abbrev pub is_written : List ℕ → Bool
is_written [] = false
is_written (b ∷ bs) = true

-- the words of a command line: the pieces between separators that hold any byte
unfoldable pub command_words : List ℕ → List (List ℕ)
command_words line = filter is_written (slice_split (separates word_separators) line)

-- the lines of the commands: the pieces between line feeds, each with its carriage return; there is
-- no line after a last line feed
unfoldable pub command_lines : List ℕ → List (List ℕ)
command_lines commands = without_empty_last (slice_split (separates line_separators) commands)

-- the number that the digits of a word say, if it is from low to high
unfoldable pub number_within : ℕ → ℕ → List ℕ → Option ℕ
number_within low high word =
    if is_written word && list_all is_ascii_digit word && nat_le low (number_of word) && nat_le (number_of word) high
    then Some (number_of word) else None

-- a run of the language with a letter, no longer than a name may be
abbrev pub is_command_name : List ℕ → Bool
is_command_name word = list_all in_run word && has_letter word && nat_le (length word) LONGEST_NAME

-- the name that a word in upper case is, if it is one
unfoldable pub name_of : List ℕ → Option (List ℕ)
name_of word = if is_command_name word then Some (without_stops word) else None
