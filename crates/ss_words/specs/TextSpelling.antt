-- The spelling of a run, as the scan gives it.
use Rattle.std.specs.Prelude.{ℕ, List, map, Option, Some, None, if◌then◌else◌}
use Rattle.std.specs.Char.{to_ascii_uppercase}
use Rattle.ss_words.specs.declared.scan.run.Spelling.{Spelling}
use Rattle.ss_words.specs.declared.scan.run.Spelling.TheVariants.{Name, Number}
use Rattle.ss_words.specs.Words.{Kind, name, number}
use Rattle.ss_words.specs.TextRuns.{has_letter, is_bad_number, number_of}

-- a name or a number, unless it is a bad number
abbrev pub spelling_of : List ℕ → Option Spelling
spelling_of run = if is_bad_number run then None else Some (if has_letter run then Name else Number (number_of run))

-- the word of a run
abbrev pub spelled_word : List ℕ → Spelling → Kind
spelled_word run Name = name (map to_ascii_uppercase run)
spelled_word run (Number n) = number n
