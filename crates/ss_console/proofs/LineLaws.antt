-- A line is read byte by byte.
use Rattle.std.proofs.Common.{◌≡◌, ℕ, ◌+◌, ◌<◌, ◌≤◌, Bool, true, false, cond, nat_le, ◌==◌, not, List, [], ◌∷◌, ◌++◌}
use Rattle.std.proofs.Common.{length, refl, ◌∙◌, sym, ap, append_assoc, append-nil, arith, length-append, Option}
use Rattle.std.proofs.Common.{Some, None}
use Rattle.std.specs.Prelude.{if◌then◌else◌, fold, slice_index, slice_set}
use Rattle.std.specs.Io.KnownBytes.{Consumes, IsAtEnd as IsAtEndOfBytes}
use Rattle.std.proofs.Common.{get_or, take, drop, take-append-drop}
use Rattle.std.proofs.lemmas.List.{take_more, drop_more}
use Rattle.std.proofs.lemmas.List.Sums.{fold_push}
use Rattle.std.proofs.lemmas.Bool.Decides.{nat_tests}
use Rattle.std.proofs.Math.ListN.{length-set}
use Rattle.ss_console.specs.Lines.{lines, is_stop, keep, kept_part, known_lines, Gives, IsAtEnd}
use Rattle.ss_console.specs.Faults.{lines_read}
use Rattle.ss_console.specs.declared.lines.TheConstants.{LONGEST_LINE, LINE_FEED}
use Rattle.ss_console.proofs.KnownBytes.{consumes_then}

-- ---- the kept part of a line

length-keep : (line : List ℕ) (b : ℕ) → length line ≤ length (keep line b)
length-keep line b =
    elim (nat_le (length line) LONGEST_LINE)
    as (λ t. length line
    ≤ length (cond t (line ++ b ∷ [])
    (cond (is_stop (slice_index line LONGEST_LINE)) (slice_set line LONGEST_LINE b) line))) [
      | true ↦ rw length-append (omega arith)
      | false ↦ elim (is_stop (slice_index line LONGEST_LINE))
          as (λ t. length line ≤ length (cond t (slice_set line LONGEST_LINE b) line)) [
            | true ↦ rw length-set (omega arith)
            | false ↦ omega arith
          ]
    ]

length-fold : (bs line : List ℕ) → length line ≤ length (fold keep line bs)
length-fold [] line = omega arith
length-fold (b ∷ bs) line = omega (arith, length-keep line b, length-fold bs (keep line b))

kept_part-cons : (b : ℕ) (bs : List ℕ) → 0 < length (kept_part (b ∷ bs))
kept_part-cons b bs = let h : 1 ≤ length (kept_part (b ∷ bs)) = length-fold bs (b ∷ []) in omega arith

-- ---- the lines of a text

-- whether a line feed is in some bytes
abbrev pub has_feed : List ℕ → Bool
has_feed [] = false
has_feed (b ∷ bs) = if b == LINE_FEED then true else has_feed bs

abbrev one_line : List ℕ → Type 0
one_line line = has_feed line ≡ false

any_if : (t more : Bool) → cond t true more ≡ false → (t ≡ false) × (more ≡ false)
any_if true more h = absurd (cc)
any_if false more h = (refl, h)

any_cons : (b : ℕ) (bs : List ℕ) → one_line (b ∷ bs) → ((b == LINE_FEED) ≡ false) × one_line bs
any_cons b bs h = any_if (b == LINE_FEED) (has_feed bs) h

any_push : (line : List ℕ) (b : ℕ) → one_line line → (b == LINE_FEED) ≡ false → one_line (line ++ b ∷ [])
any_push [] b h e = rw e refl
any_push (c ∷ line) b h e = let p = any_cons c line h in rw p.0 (any_push line b p.1 e)

lines_behind : (line rest : List ℕ) → one_line line → lines (line ++ LINE_FEED ∷ rest) ≡ line ∷ lines rest
unfolding lines
lines_behind [] rest h = refl
lines_behind (b ∷ line) rest h =
    let p = any_cons b line h in
    rw (p.0, lines_behind line rest p.1) refl

last_line : (b : ℕ) (line : List ℕ) → one_line (b ∷ line) → lines (b ∷ line) ≡ (b ∷ line) ∷ []
unfolding lines
last_line b [] h = let p = any_cons b [] h in rw p.0 refl
last_line b (c ∷ line) h =
    let p = any_cons b (c ∷ line) h in
    rw (p.0, last_line c line p.1) refl

lines_none : lines [] ≡ []
unfolding lines
lines_none = refl

-- ---- the first line of a text

-- a line feed is the first
pub feed_at : (text : List ℕ) (at : ℕ) → at < length text → get_or text at 0 ≡ LINE_FEED →
    has_feed (take at text) ≡ false → lines text ≡ take at text ∷ lines (drop (at + 1) text)
feed_at text at within e one =
    let split : text ≡ take at text ++ LINE_FEED ∷ drop (at + 1) text =
    sym (take-append-drop at text)
    ∙ ap (λ (rest : List ℕ). take at text ++ rest) (drop_more text at 0 within)
    ∙ ap (λ (b : ℕ). take at text ++ b ∷ drop (at + 1) text) e in
    ap lines split ∙ lines_behind (take at text) (drop (at + 1) text) one

-- there is none
pub no_feed : (text : List ℕ) → has_feed text ≡ false → 0 < length text → lines text ≡ text ∷ lines []
no_feed [] one some = absurd (omega (arith, some))
no_feed (b ∷ bs) one some = last_line b bs one ∙ ap (λ (ls : List (List ℕ)). (b ∷ bs) ∷ ls) (sym lines_none)

-- another byte is none, and is kept
pub no_feed_more : (text : List ℕ) (at : ℕ) → at < length text → (get_or text at 0 == LINE_FEED) ≡ false →
    has_feed (take at text) ≡ false → has_feed (take (at + 1) text) ≡ false
no_feed_more text at within e one =
    rw (take_more text at 0 within) (any_push (take at text) (get_or text at 0) one e)

pub kept_more : (text line : List ℕ) (at : ℕ) → at < length text → line ≡ kept_part (take at text) →
    keep line (get_or text at 0) ≡ kept_part (take (at + 1) text)
kept_more text line at within e =
    rw (take_more text at 0 within, e) (sym (fold_push keep [] (take at text) (get_or text at 0)))

-- a text gives its first line
pub first_given : (text bytes rest line : List ℕ) → lines text ≡ bytes ∷ lines rest → line ≡ kept_part bytes →
    Gives (known_lines (Some text)) (known_lines (Some rest)) (line ∷ [])
first_given text bytes rest line e kept = rw (e, kept) refl

-- an empty text has none
pub none_given : (text : List ℕ) → text ≡ [] →
    Gives (known_lines (Some text)) (known_lines (Some text)) [] × IsAtEnd (known_lines (Some text))
none_given text e = (refl, rw (e, lines_none) refl)

-- ---- a reading

-- within a line, of which this is kept
pub record IsWithin (old now : Option (List ℕ)) (line : List ℕ) : Type 0 where
  pub done : List ℕ
  pub consumed : Consumes old now done
  pub one : has_feed done ≡ false
  pub kept_so_far : line ≡ kept_part done

pub within_more : (old mid now : Option (List ℕ)) (line : List ℕ) (b : ℕ) → IsWithin old mid line →
    Consumes mid now (b ∷ []) → (b == LINE_FEED) ≡ false → IsWithin old now (keep line b)
within_more old mid now line b w c e = record {
  done = w.done ++ b ∷ [];
  consumed = consumes_then old mid now w.done (b ∷ []) w.consumed c;
  one = any_push w.done b w.one e;
  kept_so_far = rw w.kept_so_far (sym (fold_push keep [] w.done b));
}

-- a line feed came
pub line_given : (old mid new : Option (List ℕ)) (line : List ℕ) → IsWithin old mid line →
    Consumes mid new (LINE_FEED ∷ []) → Gives (known_lines old) (known_lines new) (line ∷ [])
line_given old mid new line w c =
    given old new w.done line (consumes_then old mid new w.done (LINE_FEED ∷ []) w.consumed c) w.one w.kept_so_far
  where
    given : (old new : Option (List ℕ)) (done line : List ℕ) → Consumes old new (done ++ LINE_FEED ∷ []) →
        has_feed done ≡ false → line ≡ kept_part done → Gives (known_lines old) (known_lines new) (line ∷ [])
    given None new done line c one e = tt
    given (Some xs) None done line c one e = absurd c
    given (Some xs) (Some ys) done line c one e =
        let split : xs ≡ done ++ LINE_FEED ∷ ys = c ∙ append_assoc done (LINE_FEED ∷ []) ys in
        rw (split, lines_behind done ys one, e) refl

-- the end came, after a line or after the last line feed
pub end_given : (old mid new : Option (List ℕ)) (line : List ℕ) → IsWithin old mid line →
    Consumes mid new [] → IsAtEndOfBytes new → (n : ℕ) → n ≡ length line → (empty : Bool) → empty ≡ (n == 0) →
    Gives (known_lines old) (known_lines new) (lines_read (not empty) line) × IsAtEnd (known_lines new)
unfolding lines
end_given old mid new line w c end n count empty test =
    given old new w.done line (consumes_then old mid new w.done [] w.consumed c) end w.one w.kept_so_far n count empty
    test
  where
    given : (old new : Option (List ℕ)) (done line : List ℕ) → Consumes old new (done ++ []) → IsAtEndOfBytes new →
        has_feed done ≡ false → line ≡ kept_part done → (n : ℕ) → n ≡ length line → (empty : Bool) → empty ≡ (n == 0) →
        Gives (known_lines old) (known_lines new) (lines_read (not empty) line) × IsAtEnd (known_lines new)
    given None None done line c end one e n count empty test = (tt, tt)
    given None (Some ys) done line c end one e n count empty test = (tt, rw end refl)
    given (Some xs) None done line c end one e n count empty test = absurd c
    given (Some xs) (Some ys) [] line c end one e n count true test =
        let none : xs ≡ [] = c ∙ end in
        (rw (none, end) refl, rw end refl)
    given (Some xs) (Some ys) [] line c end one e n count false test =
        let none : length line ≡ 0 = ap length e in
        absurd (grind (arith, nat_tests))
    given (Some xs) (Some ys) (b ∷ bs) line c end one e n count true test =
        let some : 0 < length (kept_part (b ∷ bs)) = kept_part-cons b bs in
        let same : length line ≡ length (kept_part (b ∷ bs)) = ap length e in
        absurd (grind (arith, nat_tests))
    given (Some xs) (Some ys) (b ∷ bs) line c end one e n count false test =
        let all : xs ≡ b ∷ bs =
        c ∙ ap (λ v. ((b ∷ bs) ++ []) ++ v) end ∙ append-nil ((b ∷ bs) ++ []) ∙ append-nil (b ∷ bs) in
        (rw (all, end, last_line b bs one, e) refl, rw end refl)
