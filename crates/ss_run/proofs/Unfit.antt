-- Values that did not fit are counted on the report.
use Rattle.std.proofs.Common.{◌≡◌, ℕ, zero, suc, ◌+◌, ◌-◌, ◌%◌, ◌^◌, ◌<◌, ◌≤◌, ◌&&◌, inl, inr, Bool, true, false, not, cond}
use Rattle.std.proofs.Common.{nat_lt, nat_le, nat_eq, List, [], ◌∷◌, ◌++◌, length, refl, sym, ap, ◌∙◌, arith, append_assoc, append-nil}
use Rattle.std.proofs.Common.{length-append, decimal}
use Rattle.std.specs.Prelude.{ℤ, pos, negsuc, get_or, replicate}
use Rattle.std.specs.List.{count_by, range_with_len}
use Rattle.std.specs.Fmt.{signed_decimal}
use Rattle.std.proofs.Math.Seq.{get_or-append_seam}
use Rattle.std.proofs.Math.ListN.{get_or-append}
use Rattle.std.proofs.lemmas.List.Sums.{sum_by-cons}
use Rattle.std.proofs.lemmas.Fmt.{decimal_by_steps}
use Rattle.std.proofs.lemmas.Bool.Decides.{nat_tests}
use borrow.Author.Tests.{ltb-true}
use Rattle.ss_words.specs.declared.characters.TheConstants.{ASTERISK, BLANK, LINE_FEED}
use Rattle.ss_words.specs.Ranges.{in_range}
use Rattle.ss_report.specs.Pictures.{Part, field, byte, line_end, with_asterisk, line_parts, picture_parts, is_field}
use Rattle.ss_report.specs.Pictures.{field_text, parts_text, picture_text}
use Rattle.ss_store.specs.Store.{AreInRange}
use Rattle.ss_run.specs.Fields.{is_asterisk_at, begins_run, unfit_values}
use Rattle.ss_run.specs.Laws.{too_wide, IsOfLines, AreCounted}
use Rattle.ss_run.proofs.Counts.{counted_more}

-- ---- one byte more

-- 1 if a test holds, else 0
abbrev one_if : Bool → ℕ
one_if x = cond x 1 0

-- whether a text ends with an asterisk
abbrev starred : List ℕ → Bool
starred text = nat_lt 0 (length text) && is_asterisk_at text (length text - 1)

count_cons : {X : Type 0} (p : X → Bool) (x : X) (xs : List X) →
    count_by p (x ∷ xs) ≡ cond (p x) 1 0 + count_by p xs
count_cons p x xs = sum_by-cons (λ y. cond (p y) 1 0) x xs

same_counts : (p q : ℕ → Bool) (a n : ℕ) → ((k : ℕ) → k < a + n → p k ≡ q k) →
    count_by p (range_with_len a n) ≡ count_by q (range_with_len a n)
same_counts p q a zero h = refl
same_counts p q a (suc n) h =
    let first : one_if (p a) ≡ one_if (q a) = ap one_if (h a (omega arith)) in
    let rest = same_counts p q (a + 1) n (λ k l. h k (omega (arith, l))) in
    count_cons p a (range_with_len (a + 1) n)
    ∙ ap (λ x. x + count_by p (range_with_len (a + 1) n)) first
    ∙ ap (λ x. cond (q a) 1 0 + x) rest
    ∙ sym (count_cons q a (range_with_len (a + 1) n))

before_last : (text : List ℕ) (b k : ℕ) → k < length text → begins_run (text ++ b ∷ []) k ≡ begins_run text k
before_last text b k h =
    let here : get_or (text ++ b ∷ []) k 0 ≡ get_or text k 0 = get_or-append text (b ∷ []) 0 k h in
    let before : get_or (text ++ b ∷ []) (k - 1) 0 ≡ get_or text (k - 1) 0 =
    get_or-append text (b ∷ []) 0 (k - 1) (omega (arith, h)) in
    rw (here, before) refl

star_before : (text : List ℕ) (b : ℕ) (x : Bool) → nat_lt 0 (length text) ≡ x →
    (x && is_asterisk_at (text ++ b ∷ []) (length text - 1)) ≡ (x && is_asterisk_at text (length text - 1))
star_before text b false e = refl
star_before text b true e =
    rw (get_or-append text (b ∷ []) 0 (length text - 1) (omega (arith, ltb-true _ _ e))) refl

at_last : (text : List ℕ) (b : ℕ) → begins_run (text ++ b ∷ []) (length text) ≡ (nat_eq b 42 && not (starred text))
at_last text b = rw (get_or-append_seam text b [] 0, star_before text b _ refl) refl

one_byte : (text : List ℕ) (b : ℕ) →
    unfit_values (text ++ b ∷ []) ≡ unfit_values text + one_if (nat_eq b 42 && not (starred text))
unfolding unfit_values
one_byte text b =
    let longer : length (text ++ b ∷ []) ≡ length text + 1 = length-append text (b ∷ []) in
    ap (λ n. count_by (begins_run (text ++ b ∷ [])) (range_with_len 0 n)) longer
    ∙ counted_more (begins_run (text ++ b ∷ [])) (length text)
    ∙ ap (λ n. n + cond (begins_run (text ++ b ∷ []) (length text)) 1 0)
    (same_counts (begins_run (text ++ b ∷ [])) (begins_run text) 0 (length text)
    (λ k l. before_last text b k (omega (arith, l))))
    ∙ ap (λ x. count_by (begins_run text) (range_with_len 0 (length text)) + cond x 1 0) (at_last text b)

ends_starred : (text : List ℕ) (b : ℕ) → starred (text ++ b ∷ []) ≡ nat_eq b 42
ends_starred text b =
    let longer : length (text ++ b ∷ []) ≡ length text + 1 = length-append text (b ∷ []) in
    let some : nat_lt 0 (length text + 1) ≡ true = grind (arith, nat_tests) in
    let last : length text + 1 - 1 ≡ length text = omega arith in
    rw (longer, some, last, get_or-append_seam text b [] 0) refl

-- ---- bytes more

-- no asterisk is among these
abbrev IsPlain : List ℕ → Type 0
IsPlain [] = Unit {0}
IsPlain (b ∷ bs) = (nat_eq b 42 ≡ false) × IsPlain bs

step_on : (text : List ℕ) (b : ℕ) (bs : List ℕ) → text ++ b ∷ bs ≡ (text ++ b ∷ []) ++ bs
step_on text b bs = sym (append_assoc text (b ∷ []) bs)

plain_more : (text bs : List ℕ) → IsPlain bs → unfit_values (text ++ bs) ≡ unfit_values text
plain_more text [] h = ap unfit_values (append-nil text)
plain_more text (b ∷ bs) h =
    let none : one_if (nat_eq b 42 && not (starred text)) ≡ 0 = rw h.0 refl in
    let one : unfit_values (text ++ b ∷ []) ≡ unfit_values text = omega (arith, one_byte text b, none) in
    ap unfit_values (step_on text b bs) ∙ plain_more (text ++ b ∷ []) bs h.1 ∙ one

stars_more : (n : ℕ) (text : List ℕ) → starred text ≡ true →
    unfit_values (text ++ replicate n 42) ≡ unfit_values text
stars_more zero text h = ap unfit_values (append-nil text)
stars_more (suc n) text h =
    let none : one_if (nat_eq 42 42 && not (starred text)) ≡ 0 = rw h refl in
    let one : unfit_values (text ++ 42 ∷ []) ≡ unfit_values text = omega (arith, one_byte text 42, none) in
    ap unfit_values (step_on text 42 (replicate n 42)) ∙ stars_more n (text ++ 42 ∷ []) (ends_starred text 42) ∙ one

stars_begin : (n : ℕ) (text : List ℕ) → 1 ≤ n → starred text ≡ false →
    unfit_values (text ++ replicate n 42) ≡ unfit_values text + 1
stars_begin zero text h e = absurd (omega (arith, h))
stars_begin (suc n) text h e =
    let some : one_if (nat_eq 42 42 && not (starred text)) ≡ 1 = rw e refl in
    let one : unfit_values (text ++ 42 ∷ []) ≡ unfit_values text + 1 = omega (arith, one_byte text 42, some) in
    ap unfit_values (step_on text 42 (replicate n 42)) ∙ stars_more n (text ++ 42 ∷ []) (ends_starred text 42) ∙ one

-- ---- values

both_plain : (bs cs : List ℕ) → IsPlain bs → IsPlain cs → IsPlain (bs ++ cs)
both_plain [] cs h k = k
both_plain (b ∷ bs) cs h k = (h.0, both_plain bs cs h.1 k)

all_plain : (n b : ℕ) → nat_eq b 42 ≡ false → IsPlain (replicate n b)
all_plain zero b h = tt
all_plain (suc n) b h = (h, all_plain n b h)

digit_plain : (d : ℕ) → d < 10 → nat_eq (48 + d) 42 ≡ false
digit_plain d l = grind (arith, nat_tests)

decimal_plain : (n : ℕ) → n < 2 ^ 64 → IsPlain (decimal n)
decimal_plain = decimal_by_steps (λ n ds. IsPlain ds)
    (λ n l. (digit_plain n l, tt))
    (λ n ds l h. both_plain ds ((48 + n % 10) ∷ []) h (digit_plain (n % 10) (omega arith), tt))

value_plain : (v : ℤ) → in_range v ≡ true → IsPlain (signed_decimal v)
value_plain (pos n) h = decimal_plain n (grind (arith, nat_tests, h))
value_plain (negsuc n) h = (refl, decimal_plain (suc n) (grind (arith, nat_tests, h)))

field_by : (text : List ℕ) (n : ℕ) (v : ℤ) (x : Bool) → 1 ≤ n → starred text ≡ false → in_range v ≡ true →
    unfit_values (text ++ cond x (replicate (n - length (signed_decimal v)) BLANK ++ signed_decimal v) (replicate n ASTERISK))
    ≡ unfit_values text + cond x 0 1
field_by text n v true some e h =
    plain_more text _ (both_plain (replicate (n - length (signed_decimal v)) BLANK) (signed_decimal v)
    (all_plain (n - length (signed_decimal v)) BLANK refl) (value_plain v h)) ∙ omega arith
field_by text n v false some e h = stars_begin n text some e

-- ---- pictures

-- parts do not begin with a field
abbrev IsNoField : List Part → Type 0
IsNoField (field n ∷ ps) = ⊥
IsNoField (byte b ∷ ps) = Unit {0}
IsNoField (line_end ∷ ps) = Unit {0}
IsNoField [] = Unit {0}

-- no field is directly after another, none is empty, and no byte is an asterisk
abbrev AreApart : List Part → Type 0
AreApart [] = Unit {0}
AreApart (field n ∷ ps) = (1 ≤ n) × (IsNoField ps × AreApart ps)
AreApart (byte b ∷ ps) = (nat_eq b 42 ≡ false) × AreApart ps
AreApart (line_end ∷ ps) = AreApart ps

starred_apart : (ps : List Part) → AreApart ps → AreApart (with_asterisk ps)
starred_apart [] h = (omega arith, (tt, tt))
starred_apart (field n ∷ ps) h = (omega arith, h.1)
starred_apart (byte b ∷ ps) h = (omega arith, (tt, h))
starred_apart (line_end ∷ ps) h = (omega arith, (tt, h))

line_by : (b : ℕ) (ps : List Part) (x : Bool) → nat_eq b 42 ≡ x → AreApart ps →
    AreApart (cond x (with_asterisk ps) (byte b ∷ ps))
line_by b ps true e h = starred_apart ps h
line_by b ps false e h = (e, h)

line_apart : (bs : List ℕ) → AreApart (line_parts bs)
line_apart [] = tt
line_apart (b ∷ bs) = line_by b (line_parts bs) _ refl (line_apart bs)

no_field_on : (ps qs : List Part) → IsNoField ps → IsNoField qs → IsNoField (ps ++ qs)
no_field_on [] qs h k = k
no_field_on (field n ∷ ps) qs h k = absurd h
no_field_on (byte b ∷ ps) qs h k = tt
no_field_on (line_end ∷ ps) qs h k = tt

apart_on : (ps qs : List Part) → AreApart ps → AreApart qs → IsNoField qs → AreApart (ps ++ qs)
apart_on [] qs h k f = k
apart_on (field n ∷ ps) qs h k f = (h.0, (no_field_on ps qs h.1.0 f, apart_on ps qs h.1.1 k f))
apart_on (byte b ∷ ps) qs h k f = (h.0, apart_on ps qs h.1 k f)
apart_on (line_end ∷ ps) qs h k f = apart_on ps qs h k f

picture_apart : (lines : List (List ℕ)) → AreApart (picture_parts lines)
picture_apart [] = tt
picture_apart (l ∷ ls) =
    rw (append_assoc (line_parts l) (line_end ∷ []) (picture_parts ls))
    (apart_on (line_parts l) (line_end ∷ picture_parts ls) (line_apart l) (picture_apart ls) tt)

-- if parts begin with a field, the text before does not end with an asterisk
abbrev IsReady : List ℕ → List Part → Type 0
IsReady text (field n ∷ ps) = starred text ≡ false
IsReady text (byte b ∷ ps) = Unit {0}
IsReady text (line_end ∷ ps) = Unit {0}
IsReady text [] = Unit {0}

ready_by : (text : List ℕ) (ps : List Part) → starred text ≡ false → IsReady text ps
ready_by text [] e = tt
ready_by text (field n ∷ ps) e = e
ready_by text (byte b ∷ ps) e = tt
ready_by text (line_end ∷ ps) e = tt

no_field_ready : (text : List ℕ) (ps : List Part) → IsNoField ps → IsReady text ps
no_field_ready text [] h = tt
no_field_ready text (field n ∷ ps) h = absurd h
no_field_ready text (byte b ∷ ps) h = tt
no_field_ready text (line_end ∷ ps) h = tt

parts_counted : (ps : List Part) (vs : List ℤ) (text : List ℕ) → AreApart ps → IsReady text ps → AreInRange vs →
    count_by is_field ps ≡ length vs → unfit_values (text ++ parts_text ps vs) ≡ unfit_values text + too_wide ps vs
parts_counted [] vs text apart ready range count = ap unfit_values (append-nil text) ∙ omega arith
parts_counted (field n ∷ ps) [] text apart ready range count =
    absurd (omega (arith, count, count_cons is_field (field n) ps))
parts_counted (field n ∷ ps) (v ∷ vs) text apart ready range count =
    let one = field_by text n v (nat_le (length (signed_decimal v)) n) apart.0 ready range.0 in
    let more = parts_counted ps vs (text ++ field_text n v) apart.1.1
    (no_field_ready (text ++ field_text n v) ps apart.1.0) range.1
    (omega (arith, count, count_cons is_field (field n) ps)) in
    ap unfit_values (sym (append_assoc text (field_text n v) (parts_text ps vs))) ∙ more ∙ omega (arith, one)
parts_counted (byte b ∷ ps) vs text apart ready range count =
    let one = plain_more text (b ∷ []) (apart.0, tt) in
    let free : starred (text ++ b ∷ []) ≡ false = ends_starred text b ∙ apart.0 in
    let more = parts_counted ps vs (text ++ b ∷ []) apart.1 (ready_by (text ++ b ∷ []) ps free) range
    (omega (arith, count, count_cons is_field (byte b) ps)) in
    ap unfit_values (step_on text b (parts_text ps vs)) ∙ more ∙ omega (arith, one)
parts_counted (line_end ∷ ps) vs text apart ready range count =
    let one = plain_more text (LINE_FEED ∷ []) (refl, tt) in
    let free : starred (text ++ LINE_FEED ∷ []) ≡ false = ends_starred text LINE_FEED in
    let more = parts_counted ps vs (text ++ LINE_FEED ∷ []) apart (ready_by (text ++ LINE_FEED ∷ []) ps free) range
    (omega (arith, count, count_cons is_field line_end ps)) in
    ap unfit_values (step_on text LINE_FEED (parts_text ps vs)) ∙ more ∙ omega (arith, one)

-- ---- reports of whole lines

lines_free : (report : List ℕ) → IsOfLines report → starred report ≡ false
lines_free report (inl e) = rw e refl
lines_free report (inr e) = rw e.1 (ends_starred e.0 LINE_FEED)

-- the text of parts that end with the end of a line
parts_end : (ps : List Part) (vs : List ℤ) →
    (text : List ℕ) × (parts_text (ps ++ line_end ∷ []) vs ≡ text ++ LINE_FEED ∷ [])
parts_end [] vs = ([], refl)
parts_end (field n ∷ ps) [] =
    let more = parts_end ps [] in (
      replicate n ASTERISK ++ more.0,
      ap (λ t. replicate n ASTERISK ++ t) more.1
          ∙ sym (append_assoc (replicate n ASTERISK) more.0 (LINE_FEED ∷ [])),
    )
parts_end (field n ∷ ps) (v ∷ vs) =
    let more = parts_end ps vs in (
      field_text n v ++ more.0,
      ap (λ t. field_text n v ++ t) more.1
          ∙ sym (append_assoc (field_text n v) more.0 (LINE_FEED ∷ [])),
    )
parts_end (byte b ∷ ps) vs = let more = parts_end ps vs in (b ∷ more.0, ap (λ t. b ∷ t) more.1)
parts_end (line_end ∷ ps) vs = let more = parts_end ps vs in (LINE_FEED ∷ more.0, ap (λ t. LINE_FEED ∷ t) more.1)

-- a picture of some lines ends with the end of the last
picture_end : (l : List ℕ) (ls : List (List ℕ)) → (ps : List Part) × (picture_parts (l ∷ ls) ≡ ps ++ line_end ∷ [])
picture_end l [] = (line_parts l, append-nil (line_parts l ++ line_end ∷ []))
picture_end l (m ∷ ms) =
    let more = picture_end m ms in (
      (line_parts l ++ line_end ∷ []) ++ more.0,
      ap (λ ps. (line_parts l ++ line_end ∷ []) ++ ps) more.1
          ∙ sym (append_assoc (line_parts l ++ line_end ∷ []) more.0 (line_end ∷ [])),
    )

printed_lines : (report : List ℕ) (lines : List (List ℕ)) (vs : List ℤ) → IsOfLines report →
    IsOfLines (report ++ picture_text lines vs)
printed_lines report [] vs h = rw (append-nil report) h
printed_lines report (l ∷ ls) vs h =
    let parts = picture_end l ls in
    let text = parts_end parts.0 vs in
    inr (
      report ++ text.0,
      ap (λ ps. report ++ parts_text ps vs) parts.1 ∙ ap (λ t. report ++ t) text.1
          ∙ sym (append_assoc report text.0 (LINE_FEED ∷ [])),
    )

feeds_end : (n : ℕ) → (text : List ℕ) × (replicate (suc n) LINE_FEED ≡ text ++ LINE_FEED ∷ [])
feeds_end zero = ([], refl)
feeds_end (suc n) = let more = feeds_end n in (LINE_FEED ∷ more.0, ap (λ t. LINE_FEED ∷ t) more.1)

skipped_lines : (report : List ℕ) (n : ℕ) → IsOfLines report → IsOfLines (report ++ replicate n LINE_FEED)
skipped_lines report zero h = rw (append-nil report) h
skipped_lines report (suc n) h =
    let text = feeds_end n in
    inr (report ++ text.0, ap (λ t. report ++ t) text.1 ∙ sym (append_assoc report text.0 (LINE_FEED ∷ [])))

none_counted : unfit_values [] ≡ 0
unfolding unfit_values
none_counted = refl

pub counted : AreCounted
counted = record {
  none = none_counted;
  print = λ report lines vs whole range count. parts_counted (picture_parts lines) vs report (picture_apart lines)
      (ready_by report (picture_parts lines) (lines_free report whole)) range count;
  skip = λ report n. plain_more report (replicate n LINE_FEED) (all_plain n LINE_FEED refl);
  printed = printed_lines;
  skipped = skipped_lines;
}
