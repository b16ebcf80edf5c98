-- The words of a text, place by place and line by line, or its refusal.
use Rattle.std.specs.Prelude.{◌≡◌, ℕ, zero, suc, ◌+◌, Bool, true, false, not, nat_lt, List, [], ◌∷◌, ◌++◌, length, take}
use Rattle.std.specs.Prelude.{drop, flat_map, take_while, slice_index, Option, Some, None, Result, Ok, Err}
use Rattle.std.specs.Prelude.{if◌then◌else◌}
use Rattle.ss_words.specs.declared.limits.TheConstants.{LONGEST_RUN, LONGEST_PICTURE_LINE}
use Rattle.ss_words.specs.declared.characters.TheConstants.{BLANK}
use Rattle.ss_words.specs.declared.word.Sign.{Sign}
use Rattle.ss_words.specs.declared.fault.TextRule.{TextRule}
use Rattle.ss_words.specs.declared.fault.TextRule.TheVariants.{StrayByte, BadNumber, LongRun, NoPicture}
use Rattle.ss_words.specs.declared.fault.TextRule.TheVariants.{LongPictureLine}
use Rattle.ss_words.specs.declared.fault.TextFault.{TextFault}
use Rattle.ss_words.specs.declared.fault.TextFault.TheVariants.{Refused, Memory}
use Rattle.ss_words.specs.Words.{Kind, sign, picture, WordAt}
use Rattle.ss_words.specs.TextBytes.{in_run, is_allowed, is_joined, is_stray, sign_from}
use Rattle.ss_words.specs.TextLines.{with_blank_comments, text_lines}
use Rattle.ss_words.specs.TextRuns.{without_stops, is_bad_number, word_of_run, calls_picture, picture_lines}
use Rattle.ss_words.specs.TextRuns.{lacks_picture}

-- a finding at a place: a word that begins there, or a rule that is broken there, with its line
pub data Finding : Type 0 where
  word : WordAt → Finding
  breach : TextRule → ℕ → Finding

-- a word on a line
abbrev pub on_line : ℕ → Kind → WordAt
on_line line kind = record { line = line; kind = kind }

-- the words among the findings
abbrev pub words_in : List Finding → List WordAt
words_in [] = []
words_in (word w ∷ fs) = w ∷ words_in fs
words_in (breach r n ∷ fs) = words_in fs

-- the breaches among the findings
abbrev pub breaches_in : List Finding → List TextFault
breaches_in [] = []
breaches_in (word w ∷ fs) = breaches_in fs
breaches_in (breach r n ∷ fs) = Refused r n ∷ breaches_in fs

-- the words before a place, the nearest first, once these are found
abbrev pub nearest_first : List Finding → List Kind → List Kind
nearest_first [] before = before
nearest_first (word w ∷ fs) before = nearest_first fs (w.kind ∷ before)
nearest_first (breach r n ∷ fs) before = nearest_first fs before

-- the breach of a rule at a line, if it is broken
abbrev pub breach_if : TextRule → ℕ → Bool → List Finding
breach_if rule line is_broken = if is_broken then breach rule line ∷ [] else []

-- the sign that begins at a place, if one does
abbrev pub sign_found : ℕ → Option Sign → List Finding
sign_found n None = []
sign_found n (Some g) = word (on_line n (sign g)) ∷ []

-- a line of number n with `below` lines below it
module _ (n below : ℕ) where
  -- the word of a run, if it is one, after the words before it and in front of the rest of its line
  abbrev pub word_found : List Kind → List ℕ → Option Kind → List Finding
  word_found before rest None = []
  word_found before rest (Some k) =
      breach_if NoPicture n (lacks_picture (k ∷ before) rest below) ++ word (on_line n k) ∷ []

  -- the rules that a run breaks, the lowest number first, and its word
  unfoldable pub run_found : List Kind → List ℕ → List ℕ → List Finding
  run_found before rest run =
      breach_if BadNumber n (is_bad_number (without_stops run))
      ++ breach_if LongRun n (nat_lt LONGEST_RUN (length run))
      ++ word_found before rest (word_of_run (without_stops run))

  -- the findings of a place that is not joined to the byte before it; `plain` has blank comments
  unfoldable pub begun_at : List Kind → List ℕ → List ℕ → List Finding
  begun_at before line plain =
      elim (in_run (slice_index plain 0)) [
        | true ↦ run_found before (drop (length (take_while in_run plain)) line) (take_while in_run plain)
        | false ↦ sign_found n (sign_from (slice_index plain 0) (slice_index plain 1))
      ]

  -- the findings at a place, the lowest number first
  unfoldable pub found_at : List Kind → ℕ → List ℕ → List ℕ → List Finding
  found_at before last line plain =
      breach_if StrayByte n (is_stray (slice_index line 0) (slice_index plain 0))
      ++ (elim (is_joined last (slice_index plain 0)) [ true ↦ [] | false ↦ begun_at before line plain ])

  -- the findings at each place of a line from one on; `last` is the byte before it
  unfoldable pub found_from_place : List Kind → ℕ → List ℕ → List ℕ → List Finding
  found_from_place before last [] plain = []
  found_from_place before last (b ∷ bs) [] = []
  found_from_place before last (b ∷ bs) (p ∷ ps) =
      let here = found_at before last (b ∷ bs) (p ∷ ps) in
      here ++ found_from_place (nearest_first here before) p bs ps

  -- the findings in a line outside pictures
  abbrev pub found_in_line : List Kind → List ℕ → List Finding
  found_in_line before line = found_from_place before BLANK line (with_blank_comments false line)

-- a byte of line n of a picture
abbrev pub picture_byte : ℕ → ℕ → List Finding
picture_byte n b = breach_if StrayByte n (not (is_allowed b))

-- the findings at the first byte of line n of a picture before its other bytes, lowest number first
abbrev pub picture_head : ℕ → ℕ → List ℕ → List Finding
picture_head n b bs = picture_byte n b ++ breach_if LongPictureLine n (nat_lt LONGEST_PICTURE_LINE (length (b ∷ bs)))

-- the findings in line n of a picture
unfoldable pub found_in_picture : ℕ → List ℕ → List Finding
found_in_picture n [] = []
found_in_picture n (b ∷ bs) = picture_head n b bs ++ flat_map (picture_byte n) bs

-- how many of the lines below belong to a picture that these words call
unfoldable pub picture_size : List Kind → ℕ
picture_size words = elim (calls_picture words) [
  | true ↦ (elim (picture_lines words) [ None ↦ 0 | Some k ↦ k ])
  | false ↦ 0
]

-- the picture of k lines, the first of them line n
abbrev pub picture_found : ℕ → ℕ → List (List ℕ) → List Finding
picture_found zero n lines = []
picture_found (suc k) n lines = word (on_line n (picture (take (suc k) lines))) ∷ []

-- the findings in the lines from line n on; the first k of them belong to the picture before
unfoldable pub found_from_line : List Kind → ℕ → ℕ → List (List ℕ) → List Finding
found_from_line before n zero [] = []
found_from_line before n (suc k) [] = []
found_from_line before n (suc k) (l ∷ ls) = found_in_picture n l ++ found_from_line before (n + 1) k ls
found_from_line before n zero (l ∷ ls) =
    let here = found_in_line n (length ls) before l in
    let now = nearest_first here before in
    let drawn = picture_found (picture_size now) (n + 1) ls in
    here ++ (drawn ++ found_from_line (nearest_first drawn now) (n + 1) (picture_size now) ls)

-- all that is found in a text, in the order of its places
unfoldable pub found_in_text : List ℕ → List Finding
found_in_text text = found_from_line [] 1 0 (text_lines text)

-- the words if nothing is broken, and else the first breach
unfoldable pub answer_of : List Finding → Result (List WordAt) TextFault
answer_of fs = elim (breaches_in fs) [ [] ↦ Ok (words_in fs) | b ∷ bs ↦ Err b ]

-- the words of a text: its list of words, or its refusal
unfoldable pub words_of : List ℕ → Result (List WordAt) TextFault
words_of text = answer_of (found_in_text text)

-- the fault is the refusal of a text, or memory was refused
abbrev pub IsRefusalOf : TextFault → Result (List WordAt) TextFault → Type 0
IsRefusalOf (Refused r n) answer = answer ≡ Err (Refused r n)
IsRefusalOf Memory answer = Unit {0}
