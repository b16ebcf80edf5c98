-- Words with their numbers in place of their lines.
use Rattle.std.specs.Prelude.{ℕ, List, map}
use Rattle.std.specs.List.{enumerate_from}
use Rattle.ss_words.specs.Words.{WordAt}

-- a word on this line
abbrev pub on_line : ℕ → WordAt → WordAt
on_line line word = record { line = line; kind = word.kind }

-- the words, each with its number, from 0, as its line: each is on a line of its own
abbrev pub words_by_number : List WordAt → List WordAt
words_by_number ws = map (λ e. on_line e.0 e.1) (enumerate_from 0 ws)
