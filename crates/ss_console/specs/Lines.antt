-- The lines of a text, and the part of each line that is kept.
use Rattle.std.specs.Prelude.{ℕ, ◌≡◌, Bool, ◌||◌, ◌==◌, nat_le, List, [], ◌∷◌, ◌++◌, length, map, fold, slice_index}
use Rattle.std.specs.Prelude.{slice_set}
use Rattle.std.specs.Prelude.{if◌then◌else◌, Option, Some, None, option_map, ⊤}
use Rattle.std.specs.Io.KnownBytes.{Consumes, IsAtEnd as IsAtEndOfBytes}
use Rattle.ss_console.specs.declared.lines.TheConstants.{LONGEST_LINE, LINE_FEED}

-- a byte in front of the first line
abbrev pub onto_first : ℕ → List (List ℕ) → List (List ℕ)
onto_first b [] = (b ∷ []) ∷ []
onto_first b (line ∷ lines) = (b ∷ line) ∷ lines

-- the lines of a text, without their line feeds; no line comes after a last line feed
unfoldable pub lines : List ℕ → List (List ℕ)
lines [] = []
lines (b ∷ bs) = if b == LINE_FEED then [] ∷ lines bs else onto_first b (lines bs)

-- whether a byte separates words: a blank, a tab or a carriage return
abbrev pub is_stop : ℕ → Bool
is_stop b = b == 32 || b == 9 || b == 13

-- one more byte of a line; past the limit one byte is kept, a stop only if no other byte came
abbrev pub keep : List ℕ → ℕ → List ℕ
keep line b =
    if nat_le (length line) LONGEST_LINE then line ++ b ∷ []
    else (if is_stop (slice_index line LONGEST_LINE) then slice_set line LONGEST_LINE b else line)

-- the kept part of a line
abbrev pub kept_part : List ℕ → List ℕ
kept_part line = fold keep [] line

-- the lines of a text that is shown, each as it is kept
abbrev pub known_lines : Option (List ℕ) → Option (List (List ℕ))
known_lines known = option_map (λ text. map kept_part (lines text)) known

-- lines that are shown begin with these, and lose them
abbrev pub Gives : Option (List (List ℕ)) → Option (List (List ℕ)) → List (List ℕ) → Type 0
Gives None new given = ⊤
Gives (Some xs) None given = ⊥
Gives (Some xs) (Some ys) given = xs ≡ given ++ ys

-- no line that is shown is left
abbrev pub IsAtEnd : Option (List (List ℕ)) → Type 0
IsAtEnd None = ⊤
IsAtEnd (Some xs) = xs ≡ []

-- a first line was taken from a text: its bytes, the bytes after its line feed, and its kept part;
-- or the text is empty
abbrev pub IsTaken : List ℕ → Option (List ℕ × List ℕ) → List ℕ → Type 0
IsTaken text None line = text ≡ []
IsTaken text (Some (bytes, rest)) line = (lines text ≡ bytes ∷ lines rest) × (line ≡ kept_part bytes)

-- a reader gave a byte, or was at its end
abbrev pub ByteGiven : Option ℕ → Option (List ℕ) → Option (List ℕ) → Type 0
ByteGiven None old new = Consumes old new [] × IsAtEndOfBytes new
ByteGiven (Some b) old new = Consumes old new (b ∷ [])
