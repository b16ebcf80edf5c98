-- The words that may be typed at a place in a line of the console.
use Rattle.std.specs.Prelude.{ℕ, ◌+◌, ◌-◌, Bool, List, [], ◌∷◌, ◌++◌, length, map, nat_eq, if◌then◌else◌}
use Rattle.std.specs.List.{starts_with, list_all}
use Rattle.std.specs.Char.{to_ascii_uppercase}
use Rattle.ss_program.specs.Program.{ProgramTable}
use Rattle.ss_prompt.specs.ConsoleWords.{console_words}
use Rattle.ss_prompt.specs.Source.{source_lines}
use Rattle.ss_messages.specs.Counting.{shown, meant}
use Rattle.ss_messages.specs.Shown.{target_item}
use Rattle.ss_messages.specs.Units.{within_units, count_units}
use Rattle.ss_messages.specs.declared.counting.Counting.{Counting}
use Rattle.ss_adapter.specs.Words.{before_word, last_word}

-- a word as an item, if it begins with the text typed before a column; it replaces that text
abbrev pub target : List ℕ → ℕ → List ℕ → List ℕ
target typed column word =
    if starts_with nat_eq word typed then target_item word (column - length typed) (length typed) else []

-- those of some words
abbrev pub targets : List ℕ → ℕ → List (List ℕ) → List ℕ
targets typed column [] = []
targets typed column (word ∷ words) = target typed column word ++ targets typed column words

-- whether no word is before the last one of a text
abbrev pub is_first : List ℕ → Bool
is_first text = list_all (λ b. nat_eq b 32) (before_word text)

-- those of the words of the prompt that begin with the last word of a text, in either case, which ends before a column,
-- as the editor counts
abbrev pub completions : ProgramTable → ℕ → List ℕ → ℕ → List ℕ
completions program section text column =
    targets (map to_ascii_uppercase (last_word text)) column
    (source_lines (console_words program section (is_first text)))

-- those of a text that is typed up to a column; past the text, its end is meant
abbrev pub targets_typed : ProgramTable → ℕ → Counting → List ℕ → List ℕ
targets_typed program section counting typed =
    completions program section typed (shown counting.columns_from_one (count_units typed + 1))

-- the items for the part of a text before a column, as the editor counts
abbrev pub targets_before : ProgramTable → ℕ → Counting → List ℕ → ℕ → List ℕ
targets_before program section counting text column =
    targets_typed program section counting (within_units (meant counting.columns_from_one column - 1) text)
