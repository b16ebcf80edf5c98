-- Lines that are made of words, and the debugger's command in such a line.
use Rattle.std.specs.Prelude.{ℕ, List, [], ◌∷◌, ◌++◌, length, fold, nat_le, Option, Some, None, if◌then◌else◌, codes}
use Rattle.std.specs.Str.{bytes_eq}
use Rattle.ss_console.specs.declared.lines.TheConstants.{LONGEST_LINE}
use Rattle.ss_debug.specs.Command.{command_of}
use Rattle.ss_debug.specs.declared.commands.Command.{Command}
use Rattle.ss_debug.specs.declared.commands.Command.TheVariants.{Bad, Show}
use Rattle.ss_debug.specs.declared.commands.Question.{Question}
use Rattle.ss_debug.specs.declared.commands.Question.TheVariants.{Variable}

-- a line with one more word, after a blank
abbrev pub line_with_word : List ℕ → List ℕ → List ℕ
line_with_word [] word = word
line_with_word (b ∷ line) word = (b ∷ line) ++ 32 ∷ word

-- that line, if it is no longer than a line may be
unfoldable pub with_word : Option (List ℕ) → List ℕ → Option (List ℕ)
with_word None word = None
with_word (Some line) word =
    if nat_le (length (line_with_word line word)) LONGEST_LINE then Some (line_with_word line word) else None

-- a line of some words after a beginning, if it is no longer than a line may be
abbrev pub line_behind : List ℕ → List (List ℕ) → Option (List ℕ)
line_behind head words = fold with_word (Some head) words

-- the debugger's command in a line, if it is no longer than a line may be
abbrev pub command_or_bad : Option (List ℕ) → Command
command_or_bad None = Bad
command_or_bad (Some line) = command_of line

-- the debugger's command in some words after a beginning
abbrev pub command_behind : List ℕ → List (List ℕ) → Command
command_behind head words = command_or_bad (line_behind head words)

-- the question that a command asks
abbrev pub question_of : Command → Option Question
question_of (Show q) = Some q
question_of _ = None

-- the name of a question on a variable
abbrev pub name_in : Command → Option (List ℕ)
name_in (Show (Variable name)) = Some name
name_in _ = None

-- the name that the only word is: one that SHOW VAR takes for the name of a variable
abbrev pub only_name_of : List (List ℕ) → Option (List ℕ)
only_name_of words = name_in (command_behind (codes "SHOW VAR") words)

-- the words of a line after some words, if it begins with these
abbrev pub after_words : List (List ℕ) → List (List ℕ) → Option (List (List ℕ))
after_words [] line = Some line
after_words (word ∷ words) [] = None
after_words (word ∷ words) (other ∷ line) = if bytes_eq word other then after_words words line else None

-- the word that is the only one
abbrev pub only_of : Option (List (List ℕ)) → Option (List ℕ)
only_of (Some (word ∷ [])) = Some word
only_of _ = None
