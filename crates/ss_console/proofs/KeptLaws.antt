-- The kept part of a line says enough.
use Rattle.std.proofs.Common.{◌≡◌, ℕ, zero, suc, ◌+◌, ◌<◌, ◌≤◌, Bool, true, false, cond, not, ◌||◌, nat_le, List, []}
use Rattle.std.proofs.Common.{◌∷◌, ◌++◌, length, refl, ◌∙◌, sym, ap, append_assoc, append-nil, arith, length-append}
use Rattle.std.specs.Prelude.{fold, slice_index, slice_set}
use Rattle.std.specs.List.{list_any}
use Rattle.std.proofs.lemmas.Bool.{leb-true}
use Rattle.std.proofs.lemmas.Bool.Decides.{nat_tests}
use Rattle.std.proofs.lemmas.List.Folds.{list_any-append}
use Rattle.std.proofs.Math.ListN.{length-set}
use Rattle.ss_console.specs.Lines.{is_stop, keep}
use Rattle.ss_console.specs.Laws.{ShortLinesAreKept, LongLinesAreCut, WordsAreKept}
use Rattle.ss_console.specs.declared.lines.TheConstants.{LONGEST_LINE}

within_limit : (n : ℕ) → n ≤ LONGEST_LINE → nat_le n LONGEST_LINE ≡ true
within_limit n h = grind (arith, nat_tests)

past_limit : (n : ℕ) → LONGEST_LINE < n → nat_le n LONGEST_LINE ≡ false
past_limit n h = grind (arith, nat_tests)

keep_short : (line : List ℕ) (b : ℕ) → length line ≤ LONGEST_LINE → keep line b ≡ line ++ b ∷ []
keep_short line b h = rw (within_limit (length line) h) refl

fold_short : (line bs : List ℕ) → length line + length bs ≤ LONGEST_LINE → fold keep line bs ≡ line ++ bs
fold_short line [] h = sym (append-nil line)
fold_short line (b ∷ bs) h =
    let short : length line ≤ LONGEST_LINE = omega arith in
    let more : length (line ++ b ∷ []) + length bs ≤ LONGEST_LINE = rw length-append (omega arith) in
    rw (keep_short line b short) (fold_short (line ++ b ∷ []) bs more ∙ append_assoc line (b ∷ []) bs)

pub short_lines_are_kept : ShortLinesAreKept
short_lines_are_kept line h = fold_short [] line (omega arith)

-- past the limit the length stays
keep_long : (line : List ℕ) (b : ℕ) → LONGEST_LINE < length line → length (keep line b) ≡ length line
keep_long line b h =
    rw (past_limit (length line) h)
    (elim (is_stop (slice_index line LONGEST_LINE))
    as (λ t. length (cond t (slice_set line LONGEST_LINE b) line) ≡ length line) [
      | true ↦ rw length-set refl
      | false ↦ refl
    ])

fold_long : (line bs : List ℕ) → length line ≤ LONGEST_LINE + 1 → LONGEST_LINE < length line + length bs →
    length (fold keep line bs) ≡ LONGEST_LINE + 1
fold_long line [] h l = omega arith
fold_long line (b ∷ bs) h l =
    elim (nat_le (length line) LONGEST_LINE) as (λ t. nat_le (length line) LONGEST_LINE ≡ t →
    length (fold keep (keep line b) bs) ≡ LONGEST_LINE + 1) [
      | true ↦ λ e.
          let short : length line ≤ LONGEST_LINE = leb-true _ _ e in
          let grown : length (keep line b) ≡ length line + 1 =
          ap length (keep_short line b short) ∙ length-append line (b ∷ []) in
          fold_long (keep line b) bs (omega arith) (omega arith)
      | false ↦ λ e.
          let long : LONGEST_LINE < length line = grind (arith, nat_tests) in
          let same : length (keep line b) ≡ length line = keep_long line b long in
          fold_long (keep line b) bs (omega arith) (omega arith)
    ]
    refl

pub long_lines_are_cut : LongLinesAreCut
long_lines_are_cut line h = fold_long [] line (omega arith) (omega arith)

abbrev is_of_word : ℕ → Bool
is_of_word b = not (is_stop b)

or_assoc : (a b c : Bool) → ((a || b) || c) ≡ (a || (b || c))
or_assoc true b c = refl
or_assoc false b c = refl

or_false : (a : Bool) → (a || false) ≡ a
or_false true = refl
or_false false = refl

or_comm : (a b : Bool) → (a || b) ≡ (b || a)
or_comm true true = refl
or_comm true false = refl
or_comm false true = refl
or_comm false false = refl

-- a stop that is replaced
words_after_set : (xs : List ℕ) (i b : ℕ) → i < length xs → is_stop (slice_index xs i) ≡ true →
    list_any is_of_word (slice_set xs i b) ≡ (list_any is_of_word xs || is_of_word b)
words_after_set [] i b h e = absurd (omega arith)
words_after_set (x ∷ xs) zero b h e = rw e (or_comm (is_of_word b) (list_any is_of_word xs))
words_after_set (x ∷ xs) (suc i) b h e =
    ap (λ v. is_of_word x || v) (words_after_set xs i b (omega arith) e)
    ∙ sym (or_assoc (is_of_word x) (list_any is_of_word xs) (is_of_word b))

-- a byte of a word
words_at : (xs : List ℕ) (i : ℕ) → i < length xs → is_stop (slice_index xs i) ≡ false →
    list_any is_of_word xs ≡ true
words_at [] i h e = absurd (omega arith)
words_at (x ∷ xs) zero h e = rw e refl
words_at (x ∷ xs) (suc i) h e = rw (words_at xs i (omega arith) e) (or_comm (is_of_word x) true)

words_kept_long : (line : List ℕ) (b : ℕ) → LONGEST_LINE < length line →
    list_any is_of_word (keep line b) ≡ (list_any is_of_word line || is_of_word b)
words_kept_long line b h =
    rw (past_limit (length line) h)
    (elim (is_stop (slice_index line LONGEST_LINE)) as (λ t. is_stop (slice_index line LONGEST_LINE) ≡ t →
    list_any is_of_word (cond t (slice_set line LONGEST_LINE b) line) ≡ (list_any is_of_word line || is_of_word b)) [
      | true ↦ λ e. words_after_set line LONGEST_LINE b h e
      | false ↦ λ e. rw (words_at line LONGEST_LINE h e) refl
    ]
    refl)

words_kept_once : (line : List ℕ) (b : ℕ) →
    list_any is_of_word (keep line b) ≡ (list_any is_of_word line || is_of_word b)
words_kept_once line b =
    elim (nat_le (length line) LONGEST_LINE) as (λ t. nat_le (length line) LONGEST_LINE ≡ t →
    list_any is_of_word (keep line b) ≡ (list_any is_of_word line || is_of_word b)) [
      | true ↦ λ e.
          ap (λ v. list_any is_of_word v) (keep_short line b (leb-true _ _ e))
          ∙ list_any-append is_of_word line (b ∷ [])
          ∙ ap (λ v. list_any is_of_word line || v) (or_false (is_of_word b))
      | false ↦ λ e. words_kept_long line b (grind (arith, nat_tests))
    ]
    refl

words_kept_all : (line bs : List ℕ) →
    list_any is_of_word (fold keep line bs) ≡ (list_any is_of_word line || list_any is_of_word bs)
words_kept_all line [] = sym (or_false (list_any is_of_word line))
words_kept_all line (b ∷ bs) =
    words_kept_all (keep line b) bs
    ∙ ap (λ v. v || list_any is_of_word bs) (words_kept_once line b)
    ∙ or_assoc (list_any is_of_word line) (is_of_word b) (list_any is_of_word bs)

pub words_are_kept : WordsAreKept
words_are_kept line = words_kept_all [] line
