-- Runs of letters, digits and stops, and the words that call for a picture.
use Rattle.std.specs.Prelude.{ℕ, ◌+◌, ◌-◌, ◌*◌, Bool, true, false, not, ◌==◌, ◌&&◌, ◌||◌, nat_le, nat_lt, List, [], ◌∷◌}
use Rattle.std.specs.Prelude.{map, Option, Some, None, if◌then◌else◌, fold, bytes_eq, codes}
use Rattle.std.specs.List.{list_any}
use Rattle.std.specs.Char.{is_ascii_alphabetic, to_ascii_uppercase}
use Rattle.ss_words.specs.declared.limits.TheConstants.{LARGEST_NUMBER, MOST_PICTURE_LINES}
use Rattle.ss_words.specs.declared.characters.TheConstants.{STOP, ZERO}
use Rattle.ss_words.specs.Words.{Kind, name, number, sign, picture}
use Rattle.ss_words.specs.TextLines.{is_blank_rest}

-- a run without the stops at its end
unfoldable pub without_stops : List ℕ → List ℕ
without_stops [] = []
without_stops (b ∷ bs) = elim (without_stops bs) [ [] ↦ (if b == STOP then [] else b ∷ []) | c ∷ cs ↦ b ∷ c ∷ cs ]

-- the number that digits spell
unfoldable pub number_of : List ℕ → ℕ
number_of digits = fold (λ n d. 10 * n + (d - ZERO)) 0 digits

-- a run has a letter
abbrev pub has_letter : List ℕ → Bool
has_letter run = list_any is_ascii_alphabetic run

-- digits with a stop left in them, or a number above the largest
unfoldable pub is_bad_number : List ℕ → Bool
is_bad_number run = not (has_letter run) && (list_any (λ b. b == STOP) run || nat_lt LARGEST_NUMBER (number_of run))

-- the word that a run is when the stops at its end are dropped
unfoldable pub word_of_run : List ℕ → Option Kind
word_of_run [] = None
word_of_run (b ∷ bs) =
    Some (if has_letter (b ∷ bs) then name (map to_ascii_uppercase (b ∷ bs)) else number (number_of (b ∷ bs)))

-- a word is this name
unfoldable pub is_name : List ℕ → Kind → Bool
is_name s (name n) = bytes_eq n s
is_name s (number n) = false
is_name s (sign g) = false
is_name s (picture ls) = false

-- of the words before a place, the nearest first, the nearest is this name
abbrev pub ends_in : List ℕ → List Kind → Bool
ends_in s [] = false
ends_in s (k ∷ ks) = is_name s k

-- the words end in THUS, or in AS FOLLOWS
unfoldable pub calls_picture : List Kind → Bool
calls_picture [] = false
calls_picture (k ∷ ks) = is_name (codes "THUS") k || (is_name (codes "FOLLOWS") k && ends_in (codes "AS") ks)

-- the word directly after the nearest PRINT; `behind` is the word directly after the words
unfoldable pub behind_print : Option Kind → List Kind → Option Kind
behind_print behind [] = None
behind_print behind (k ∷ ks) = elim (is_name (codes "PRINT") k) [ true ↦ behind | false ↦ behind_print (Some k) ks ]

-- a number of lines that a picture may have
unfoldable pub line_count : Option Kind → Option ℕ
line_count None = None
line_count (Some (number n)) = if nat_le 1 n && nat_le n MOST_PICTURE_LINES then Some n else None
line_count (Some (name n)) = None
line_count (Some (sign g)) = None
line_count (Some (picture ls)) = None

-- how many lines the picture has that is called at the end of these words
abbrev pub picture_lines : List Kind → Option ℕ
picture_lines words = line_count (behind_print None words)

-- a count that the `below` lines below meet
abbrev pub is_met : Option ℕ → ℕ → Bool
is_met None below = false
is_met (Some n) below = nat_le n below

-- the words call a picture, and it is not there: the rest of the line is not bare, no count is said, or lines lack
unfoldable pub lacks_picture : List Kind → List ℕ → ℕ → Bool
lacks_picture words rest below = calls_picture words && not (is_blank_rest rest && is_met (picture_lines words) below)
