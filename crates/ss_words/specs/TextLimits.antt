-- The limits that each word of a text keeps.
use Rattle.std.specs.Prelude.{◌≡◌, ◌≤◌, ℕ, true, List, length, map, All, Ok}
use Rattle.std.specs.Char.{to_ascii_uppercase}
use Rattle.std.specs.List.{list_all}
use Rattle.ss_words.specs.declared.limits.TheConstants.{LONGEST_RUN, LARGEST_NUMBER, MOST_PICTURE_LINES}
use Rattle.ss_words.specs.declared.limits.TheConstants.{LONGEST_PICTURE_LINE}
use Rattle.ss_words.specs.Words.{Kind, WordAt, name, number, sign, picture}
use Rattle.ss_words.specs.TextBytes.{in_run}
use Rattle.ss_words.specs.TextRuns.{without_stops, has_letter}
use Rattle.ss_words.specs.TextWords.{words_of}

-- a name is a run of letters, digits and stops that is not too long, with a letter, in upper case and without a stop
-- at its end; a number is not too large; a picture has at least one line, not too many, and each is not too long
abbrev pub KeepsLimits : Kind → Type 0
KeepsLimits (name n) =
    (1 ≤ length n) × (length n ≤ LONGEST_RUN) × (list_all in_run n ≡ true) × (has_letter n ≡ true)
    × (without_stops n ≡ n) × (map to_ascii_uppercase n ≡ n)
KeepsLimits (number n) = n ≤ LARGEST_NUMBER
KeepsLimits (sign g) = Unit {0}
KeepsLimits (picture ls) =
    (1 ≤ length ls) × (length ls ≤ MOST_PICTURE_LINES) × All (λ l. length l ≤ LONGEST_PICTURE_LINE) ls

-- in a text that is not refused each word keeps the limits
abbrev pub LimitsHold : Type 0
LimitsHold = (text : List ℕ) (ws : List WordAt) → words_of text ≡ Ok ws → All (λ w. KeepsLimits w.kind) ws
