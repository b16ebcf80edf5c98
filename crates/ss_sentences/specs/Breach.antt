-- The line and column at which a text breaks a rule L.
use Rattle.std.specs.Prelude.{ℕ, ◌+◌, ◌&&◌, ◌||◌, ◌==◌, Bool, true, false, not, List, [], ◌∷◌, ◌++◌, length, take}
use Rattle.std.specs.Prelude.{take_while, map, codes, bytes_eq, Result, Ok, Err}
use Rattle.ss_words.specs.declared.characters.TheConstants.{BLANK, CARRIAGE_RETURN, LINE_FEED}
use Rattle.ss_words.specs.declared.limits.TheConstants.{LONGEST_PICTURE_LINE}
use Rattle.ss_words.specs.declared.fault.TextRule.{TextRule}
use Rattle.ss_words.specs.declared.fault.TextRule.TheVariants as r
use Rattle.ss_words.specs.declared.fault.TextFault.{TextFault}
use Rattle.ss_words.specs.declared.fault.TextFault.TheVariants.{Refused, Memory}
use Rattle.ss_words.specs.Faults.{text_rule_code}
use Rattle.ss_words.specs.Words.{WordAt}
use Rattle.ss_words.specs.TextBytes.{in_run, is_joined, is_stray}
use Rattle.ss_words.specs.TextLines.{with_blank_comments}
use Rattle.ss_words.specs.TextWords.{words_of}

-- ---- the line

-- the carriage return at a line's end
abbrev pub is_last_return : ℕ → List ℕ → Bool
is_last_return b [] = b == CARRIAGE_RETURN
is_last_return b (c ∷ cs) = b == CARRIAGE_RETURN && c == LINE_FEED

-- how many bytes the line at the front has, without the carriage return at its end
unfoldable pub front_line_len : List ℕ → ℕ
front_line_len [] = 0
front_line_len (b ∷ bs) = elim (b == LINE_FEED || is_last_return b bs) [ true ↦ 0 | false ↦ 1 + front_line_len bs ]

-- the line at the front
abbrev pub front_line : List ℕ → List ℕ
front_line text = take (front_line_len text) text

-- ---- the column at which the rule is broken

-- a refusal by this rule
abbrev pub is_by_rule : TextRule → TextFault → Bool
is_by_rule rule (Refused r n) = bytes_eq (text_rule_code r) (text_rule_code rule)
is_by_rule rule Memory = false

-- a text is refused by this rule, by itself
abbrev pub is_refused_by : TextRule → Result (List WordAt) TextFault → Bool
is_refused_by rule (Ok ws) = false
is_refused_by rule (Err f) = is_by_rule rule f

-- a line is in a picture: the text before it lacks lines of one
abbrev pub is_of_picture : List ℕ → Bool
is_of_picture before = is_refused_by r.NoPicture (words_of before)

-- a line with its comments made blank; in a picture no byte is one of a word
abbrev pub plain_line : Bool → List ℕ → List ℕ
plain_line true line = map (λ b. BLANK) line
plain_line false line = with_blank_comments false line

-- the column, counted from `at`, of the first byte that may not be in a line, or of its end
unfoldable pub stray_column : ℕ → List ℕ → List ℕ → ℕ
stray_column at [] plain = at
stray_column at (b ∷ bs) [] = at
stray_column at (b ∷ bs) (p ∷ ps) = elim (is_stray b p) [ true ↦ at | false ↦ stray_column (at + 1) bs ps ]

-- the run at the front
abbrev pub front_run : List ℕ → List ℕ
front_run plain = take (length (take_while in_run plain)) plain

-- a run begins at the front, after the byte `last`, and breaks a rule if it is the word after AS
unfoldable pub breaks_rule : TextRule → ℕ → List ℕ → Bool
breaks_rule rule last [] = false
breaks_rule rule last (p ∷ ps) = elim (in_run p && not (is_joined last p)) [
  | true ↦ is_refused_by rule (words_of (codes "AS " ++ front_run (p ∷ ps)))
  | false ↦ false
]

-- the column, counted from `at`, of the first run that breaks a rule by itself, or of the end
unfoldable pub run_column : TextRule → ℕ → ℕ → List ℕ → ℕ
run_column rule at last [] = at
run_column rule at last (p ∷ ps) = elim (breaks_rule rule last (p ∷ ps)) [
  | true ↦ at
  | false ↦ run_column rule (at + 1) p ps
]

-- the column at which a line breaks a rule: for L1 that of the first byte that may not be there,
-- for L5 that of the first byte too many, for the others that of a run
abbrev pub breach_column : TextRule → Bool → List ℕ → ℕ
breach_column r.StrayByte of_picture line = stray_column 1 line (plain_line of_picture line)
breach_column r.LongPictureLine of_picture line = LONGEST_PICTURE_LINE + 1
breach_column rule of_picture line = run_column rule 1 BLANK (with_blank_comments false line)
