-- The explanation of a model that a rule L refuses.
use Rattle.std.specs.Prelude.{ℕ, ◌+◌, ◌-◌, ◌&&◌, ◌||◌, ◌==◌, Bool, true, false, not, nat_lt, nat_le, List, [], ◌∷◌}
use Rattle.std.specs.Prelude.{◌++◌, length, take, drop, take_while, slice_index, map, codes, decimal, if◌then◌else◌}
use Rattle.std.specs.Prelude.{Some, bytes_eq}
use Rattle.std.specs.List.{list_any, list_all}
use Rattle.ss_words.specs.declared.characters.TheConstants.{BLANK, CARRIAGE_RETURN, LINE_FEED, STOP, TILDE}
use Rattle.ss_words.specs.declared.fault.TextRule.{TextRule}
use Rattle.ss_words.specs.declared.fault.TextRule.TheVariants as r
use Rattle.ss_words.specs.Faults.{text_rule_code}
use Rattle.ss_words.specs.TextBytes.{in_run, is_allowed, is_blank}
use Rattle.ss_words.specs.TextLines.{with_blank_comments}
use Rattle.ss_words.specs.TextRuns.{without_stops}
use Rattle.ss_columns.specs.Columns.{behind_feed, behind_feeds}
use Rattle.ss_sentences.specs.declared.unread.TheConstants.{LONGEST_RUN_TOLD, CUT_MARK, BYTE_HINTS, OUTSIDE_HINT}
use Rattle.ss_sentences.specs.declared.unread.TheConstants.{STOP_HINT, GREAT_HINT, BEHIND_HINT, BELOW_HINT}
use Rattle.ss_sentences.specs.declared.unread.TheConstants.{BYTE_ORDER_MARK, LAST_OF_ASCII, LETTER_HINT, MARK_HINT}
use Rattle.ss_sentences.specs.Breach.{front_line, front_run, is_of_picture, breach_column}
use Rattle.ss_columns.specs.Quotes.{source_text}
use Rattle.ss_sentences.specs.Pieces.{gaps_filled, place_text}
use Rattle.ss_sentences.specs.Wording.{beside_number, rule_sentence}

-- ---- the bytes at the place

-- a byte as it is written, or its number
abbrev pub byte_text : ℕ → List ℕ
byte_text b = if nat_lt BLANK b && nat_le b TILDE then b ∷ [] else decimal b

-- a run; if it is long, its first bytes and a mark
abbrev pub run_text : List ℕ → List ℕ
run_text run = if nat_lt LONGEST_RUN_TOLD (length run) then take LONGEST_RUN_TOLD run ++ CUT_MARK.now else run

-- the line from a column on
abbrev pub from_column : List ℕ → ℕ → List ℕ
from_column line column = drop (column - 1) line

-- the text in the first gap of the sentence of a rule
abbrev pub breach_text : TextRule → List ℕ → ℕ → List ℕ
breach_text r.StrayByte line column = byte_text (slice_index line (column - 1))
breach_text r.LongPictureLine line column = decimal (length line)
breach_text rule line column = run_text (front_run (from_column line column))

-- how many bytes the run at a column has
abbrev pub run_size : List ℕ → ℕ → List ℕ
run_size line column = decimal (length (front_run (from_column line column)))

-- the sentence of a rule that is broken at a column of a line
abbrev pub breach_sentence : TextRule → List ℕ → ℕ → List ℕ
breach_sentence rule line column =
    gaps_filled (rule_sentence (text_rule_code rule)) (breach_text rule line column) (run_size line column)

-- ---- hints

-- a last byte that makes the piece after the last line feed a line
abbrev pub ends_last_line : ℕ → List ℕ → Bool
ends_last_line b [] = not (b == CARRIAGE_RETURN)
ends_last_line b (c ∷ cs) = false

-- how many lines a text has
unfoldable pub line_count : List ℕ → ℕ
line_count [] = 0
line_count (b ∷ bs) = elim (b == LINE_FEED || ends_last_line b bs) [ true ↦ 1 + line_count bs | false ↦ line_count bs ]

-- the hint for a byte that may be in no line, with which the rest of its line begins: it begins a
-- byte order mark, or is of a letter outside ASCII
abbrev pub outside_hint : ℕ → List ℕ → List ℕ
outside_hint b rest =
    if bytes_eq (take (length BYTE_ORDER_MARK) rest) BYTE_ORDER_MARK then MARK_HINT.now
    else if nat_lt LAST_OF_ASCII b then LETTER_HINT.now else OUTSIDE_HINT.now

-- the hint at what is often meant by a byte
abbrev pub byte_hint : ℕ → List ℕ → List ℕ
byte_hint b rest =
    if is_allowed b then beside_number b (map (λ row. (row.0, row.1.now)) BYTE_HINTS) else outside_hint b rest

-- there is a stop in a run
abbrev pub has_stop : List ℕ → Bool
has_stop run = list_any (λ b. b == STOP) run

-- why a run is no number: there is a stop in it, or it is too great
abbrev pub number_hint : List ℕ → List ℕ
number_hint run = if has_stop (without_stops run) then STOP_HINT.now else GREAT_HINT.now

-- there are only blanks and comments here
abbrev pub is_bare : List ℕ → Bool
is_bare behind = list_all is_blank (with_blank_comments false behind)

-- the hint at the text after THUS or FOLLOWS: more on its line, or else the number of lines below
abbrev pub picture_hint : List ℕ → List ℕ → List ℕ
picture_hint behind below =
    if is_bare behind then gaps_filled BELOW_HINT.now (decimal (line_count below)) (decimal (line_count below))
    else BEHIND_HINT.now

-- the line after the run at its front
abbrev pub behind_run : List ℕ → List ℕ
behind_run line = drop (length (take_while in_run line)) line

-- the hint for the breach of a rule at a column, the text below that line given
abbrev pub breach_hint : TextRule → List ℕ → ℕ → List ℕ → List ℕ
breach_hint r.StrayByte line column below =
    byte_hint (slice_index line (column - 1)) (from_column line column)
breach_hint r.BadNumber line column below = number_hint (front_run (from_column line column))
breach_hint r.NoPicture line column below = picture_hint (behind_run (from_column line column)) below
breach_hint rule line column below = []

-- ---- the whole explanation

-- the explanation of the breach of a rule L on a line, at a column
abbrev pub breach_said : List ℕ → TextRule → ℕ → List ℕ → ℕ → List ℕ → List ℕ
breach_said model rule n line column below =
    place_text n (Some column) ++ breach_sentence rule line column ++ codes "\n" ++ source_text model n (Some column)
    ++ breach_hint rule line column below

-- the text before line n, and that from line n on
abbrev pub from_line : List ℕ → ℕ → List ℕ
from_line model n = behind_feeds (n - 1) model

-- the text before its rest
abbrev pub before_rest : List ℕ → List ℕ → List ℕ
before_rest model rest = take (length model - length rest) model

-- the explanation of a model that a rule L refuses on line n
unfoldable pub unread_text : List ℕ → TextRule → ℕ → List ℕ
unread_text model rule n =
    let rest = from_line model n in
    let line = front_line rest in
    breach_said model rule n line (breach_column rule (is_of_picture (before_rest model rest)) line) (behind_feed rest)
