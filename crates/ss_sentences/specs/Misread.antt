-- Why a text at the prompt is neither an expression nor a condition. The line that was typed is its front, and then the
-- text.
use Rattle.std.specs.Prelude.{ℕ, ◌+◌, ◌-◌, Bool, true, false, nat_eq, List, [], ◌∷◌, ◌++◌, length, take, map, codes}
use Rattle.std.specs.Prelude.{decimal, Option, Some, None, Result, Ok, Err, slice_get, slice_index, unwrap_or, is_some}
use Rattle.std.specs.Prelude.{if◌then◌else◌}
use Rattle.ss_words.specs.declared.fault.TextRule.{TextRule}
use Rattle.ss_words.specs.declared.fault.TextRule.TheVariants as r
use Rattle.ss_words.specs.declared.fault.TextFault.{TextFault}
use Rattle.ss_words.specs.declared.fault.TextFault.TheVariants.{Refused, Memory}
use Rattle.ss_words.specs.Faults.{text_rule_code}
use Rattle.ss_words.specs.Words.{WordAt}
use Rattle.ss_words.specs.Plain.{Plain, PlainAt, plains}
use Rattle.ss_words.specs.TextWords.{words_of}
use Rattle.ss_columns.specs.Columns.{column_at}
use Rattle.ss_columns.specs.Numbers.{words_by_number}
use Rattle.ss_columns.specs.Quotes.{blank_of, shown, caret_text}
use Rattle.ss_routines.specs.declared.misfit.Misfit.{Misfit}
use Rattle.ss_routines.specs.Asked.{expression_in}
use Rattle.ss_routines.specs.Misfit.{condition_misfit}
use Rattle.ss_sentences.specs.declared.prompt_text.TheConstants.{NO_CONDITION_ENDS, NO_EXPRESSION_ENDS}
use Rattle.ss_sentences.specs.Breach.{breach_column}
use Rattle.ss_sentences.specs.Fitting.{Judged, after_if, all_judged, expected_of, reserved_hint}
use Rattle.ss_sentences.specs.Grammar.{is_end}
use Rattle.ss_sentences.specs.Pieces.{gaps_filled}
use Rattle.ss_sentences.specs.Refusals.{told_before}
use Rattle.ss_sentences.specs.Unread.{breach_sentence, breach_hint}
use Rattle.ss_sentences.specs.Wording.{rule_sentence}

-- ---- the place

-- a line after its first three bytes
abbrev pub after_three : List ℕ → List ℕ
after_three (a ∷ b ∷ c ∷ rest) = rest
after_three _ = []

-- a line as it is read: blanks and IF are in the place of the command, which has three bytes or more
abbrev pub as_read : List ℕ → List ℕ → List ℕ
as_read front text = map blank_of (after_three front) ++ (codes "IF " ++ text)

-- the column of word i in the line
abbrev pub word_column : List ℕ → List ℕ → List WordAt → ℕ → ℕ
word_column front text ws i = unwrap_or (column_at (as_read front text) ws i) 0

-- a column, before a sentence
abbrev pub column_text : ℕ → List ℕ
column_text column = codes "Column " ++ decimal column ++ codes ": "

-- the line as it was typed, and below it a caret at a column
abbrev pub typed_text : List ℕ → ℕ → List ℕ
typed_text line column =
    codes "> " ++ shown line ++ codes "\n" ++ caret_text (codes "> ") (take (column - 1) line)

-- ---- text that a rule L refuses

-- the explanation of the breach of a rule L
abbrev pub bytes_said : List ℕ → List ℕ → TextRule → List ℕ
bytes_said front text rule =
    let column = breach_column rule false (as_read front text) in
    column_text column ++ breach_sentence rule (as_read front text) column ++ codes "\n"
    ++ typed_text (front ++ text) column ++ breach_hint rule (as_read front text) column []

-- ---- words that the grammar refuses

-- words that are right: they are an expression, if one may be there
abbrev pub is_value : Bool → List Plain → Bool
is_value true ws = false
is_value false ws = is_some (expression_in ws)

-- the number of the word of which a plain word is made
abbrev pub word_number : List PlainAt → ℕ → ℕ
word_number ws k = slice_index (map (λ w. w.index) ws) k

-- a misfit, with the number of the word
abbrev pub at_word : List PlainAt → Option Misfit → Option Misfit
at_word ws None = None
at_word ws (Some m) = Some (record { rule = m.rule; word = word_number ws m.word })

-- the word at which plain words are refused, if there are any and they are not right
abbrev pub plain_misfit : Bool → List PlainAt → Option Misfit
plain_misfit is_condition [] = None
plain_misfit is_condition (w ∷ ws) =
    if is_value is_condition (plains (w ∷ ws)) then None
    else at_word (w ∷ ws) (condition_misfit (plains (w ∷ ws)))

-- what does not end at the end
abbrev pub end_sentence : Bool → List ℕ
end_sentence true = NO_CONDITION_ENDS.now
end_sentence false = NO_EXPRESSION_ENDS.now

-- the sentence of a rule P
abbrev pub misfit_sentence : Bool → TextRule → List ℕ
misfit_sentence is_condition rule =
    if is_end rule then end_sentence is_condition else rule_sentence (text_rule_code rule)

-- how the word before word i is printed: before the first one of the text it is that of the command
abbrev pub told_behind : List ℕ → List WordAt → ℕ → List ℕ
told_behind keyword ws i = if nat_eq i 1 then keyword else told_before ws i

-- the hint for a word that does not fit, if there is one
abbrev pub hint_for : List Judged → Option WordAt → List ℕ → List ℕ
hint_for js None told = []
hint_for js (Some w) told = reserved_hint js w.kind told

-- each candidate, judged after the first `count` words
abbrev pub judged_in : List WordAt → ℕ → List Judged
judged_in ws count = all_judged (words_by_number (take count ws))

-- the words that could be in the place of word i, and a hint
abbrev pub unfit_text : List WordAt → ℕ → List ℕ
unfit_text ws i =
    expected_of (judged_in ws i) ++ hint_for (judged_in ws i) (slice_get ws i) (told_before ws (i + 1))

-- the words that could come at the end
abbrev pub ending_text : List WordAt → List ℕ
ending_text ws = expected_of (judged_in ws (length ws))

-- the text after the sentence: of P1 and P2 the words that could be there
abbrev pub after_sentence : List WordAt → TextRule → ℕ → List ℕ
after_sentence ws r.UnexpectedWord i = unfit_text ws i
after_sentence ws r.UnexpectedEnd i = ending_text ws
after_sentence ws _ i = []

-- the sentence of a rule P at a word
abbrev pub sentence_at : List ℕ → Bool → List WordAt → Misfit → List ℕ
sentence_at keyword is_condition ws m =
    gaps_filled (misfit_sentence is_condition m.rule) (told_before ws (m.word + 1)) (told_behind keyword ws m.word)

-- the explanation of the refusal of words by a rule P at a word
abbrev pub words_said : List ℕ → List ℕ → List ℕ → Bool → List WordAt → Misfit → List ℕ
words_said front keyword text is_condition ws m =
    let column = word_column front text ws m.word in
    column_text column ++ sentence_at keyword is_condition ws m ++ codes "\n" ++ typed_text (front ++ text) column
    ++ after_sentence ws m.rule m.word

-- ---- a text

-- the explanation of the refusal of words, if they are refused
abbrev pub words_misread : List ℕ → List ℕ → List ℕ → Bool → List WordAt → Option Misfit → Option (List ℕ)
words_misread front keyword text is_condition ws None = None
words_misread front keyword text is_condition ws (Some m) = Some (words_said front keyword text is_condition ws m)

-- the explanation of the breach of a rule L; none of L4, since there are no pictures at the prompt
abbrev pub bytes_misread : List ℕ → List ℕ → TextRule → Option (List ℕ)
bytes_misread front text r.NoPicture = None
bytes_misread front text rule = Some (bytes_said front text rule)

-- by the words of the text
abbrev pub misread_by : List ℕ → List ℕ → List ℕ → Bool → Result (List WordAt) TextFault → Option (List ℕ)
misread_by front keyword text is_condition (Ok ws) =
    words_misread front keyword text is_condition ws (plain_misfit is_condition (after_if ws))
misread_by front keyword text is_condition (Err (Refused rule n)) = bytes_misread front text rule
misread_by front keyword text is_condition (Err Memory) = None

-- the explanation of the refusal of a text after a front, whose last word is the keyword, if it is neither a condition
-- nor, where one may be, an expression. A text without plain words has none
unfoldable pub misread : List ℕ → List ℕ → List ℕ → Bool → Option (List ℕ)
misread front keyword text is_condition =
    misread_by front keyword text is_condition (words_of (as_read front text))
