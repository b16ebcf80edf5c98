-- How far a scan of a text has come.
use Rattle.std.specs.Prelude.{◌≡◌, ℕ, suc, Bool, true, false, ◌==◌, ◌&&◌, ◌||◌, List, [], ◌∷◌, ◌++◌, map, length, codes}
use Rattle.std.specs.Prelude.{Option, Some, None, if◌then◌else◌}
use Rattle.ss_words.specs.declared.characters.TheConstants.{QUOTE}
use Rattle.ss_words.specs.declared.fault.TextFault.{TextFault}
use Rattle.ss_words.specs.declared.fault.TextFault.TheVariants.{Refused, Memory}
use Rattle.ss_words.specs.Words.{Kind, WordAt}
use Rattle.ss_words.specs.TextLines.{text_lines}
use Rattle.ss_words.specs.TextRuns.{is_name, ends_in, calls_picture, line_count, picture_lines}
use Rattle.ss_words.specs.TextWords.{Finding, word, breach, nearest_first, picture_found, picture_size, found_from_line}
use Rattle.ss_words.specs.TextWords.{found_in_line}

-- the words, the nearest first, in front of those before them
abbrev pub nearest_before : List WordAt → List Kind → List Kind
nearest_before [] before = before
nearest_before (w ∷ ws) before = nearest_before ws (w.kind ∷ before)

-- the words, the nearest first
unfoldable pub nearest : List WordAt → List Kind
nearest ws = nearest_before ws []

-- the earlier findings and those still to come are together the same before and after
abbrev pub SameFindings : List WordAt → List Finding → List WordAt → List Finding → Type 0
SameFindings old todo new left = map word old ++ todo ≡ map word new ++ left

-- the first rule that is broken, with its line
abbrev pub first_breach : List Finding → Option TextFault
first_breach [] = None
first_breach (word w ∷ fs) = first_breach fs
first_breach (breach r n ∷ fs) = Some (Refused r n)

-- the fault is the first breach among the findings still to come, or memory was refused
abbrev pub IsFirstIn : TextFault → List Finding → Type 0
IsFirstIn Memory todo = Unit {0}
IsFirstIn (Refused r n) todo = first_breach todo ≡ Some (Refused r n)

-- two quotes are at the front
unfoldable pub begins_comment : List ℕ → Bool
begins_comment [] = false
begins_comment (b ∷ []) = false
begins_comment (b ∷ c ∷ bs) = b == QUOTE && c == QUOTE

-- how many bytes a begun comment has in a line: past the next two quotes, or to the line's end
unfoldable pub hidden_len : List ℕ → ℕ
hidden_len [] = 0
hidden_len (b ∷ []) = 1
hidden_len (b ∷ c ∷ bs) = elim (b == QUOTE && c == QUOTE) [ true ↦ 2 | false ↦ suc (hidden_len (c ∷ bs)) ]

-- facts on the words: whether they end in AS, end in PRINT, call a picture, and its count of lines
pub record IsTracked (behind_as behind_print called : Bool) (count : Option ℕ) (words : List Kind) : Type 0 where
  -- whether they end in AS
  pub as_last : behind_as ≡ ends_in (codes "AS") words
  -- whether they end in PRINT
  pub print_last : behind_print ≡ ends_in (codes "PRINT") words
  -- whether they call a picture
  pub calls : called ≡ calls_picture words
  -- how many lines it has
  pub lines : count ≡ picture_lines words

-- the words call a picture, once a word joins them
abbrev pub called_after : Kind → Bool → Bool
called_after kind behind_as = is_name (codes "THUS") kind || (is_name (codes "FOLLOWS") kind && behind_as)

-- the count of lines that is kept, once a word joins the words
abbrev pub count_after : Kind → Bool → Option ℕ → Option ℕ
count_after kind behind_print count =
    if is_name (codes "PRINT") kind then None else (if behind_print then line_count (Some kind) else count)

-- the findings below a line: the picture that the words call, if any, and the lines from line n on
abbrev pub found_below : List Kind → ℕ → List (List ℕ) → List Finding
found_below words n ls =
    let drawn = picture_found (picture_size words) n ls in
    drawn ++ found_from_line (nearest_first drawn words) n (picture_size words) ls

-- the findings in the rest of a line, with the text below it and the words before it
abbrev pub left_in_line : ℕ → List ℕ → List WordAt → List ℕ → List Finding
left_in_line n below words rest = found_in_line n (length (text_lines below)) (nearest words) rest
