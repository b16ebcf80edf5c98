-- Each word of a text that breaks no rule keeps the limits.
use Rattle.std.proofs.Common.{◌≡◌, ℕ, zero, suc, ◌+◌, ◌≤◌, ◌∙◌, Bool, true, false, ◌==◌, ◌&&◌, ◌||◌, not}
use Rattle.std.proofs.Common.{cond, nat_lt, nat_le, List, [], ◌∷◌, ◌++◌, map, take, drop, length, Option, Some, None}
use Rattle.std.proofs.Common.{Ok, Err, refl, sym, ap, ap₂, subst, arith}
use Rattle.std.specs.Prelude.{slice_index, take_while, All}
use Rattle.std.specs.List.{list_any, list_all, flat_map}
use Rattle.std.specs.Char.{is_ascii_alphabetic, is_ascii_digit, to_ascii_uppercase}
use Rattle.std.proofs.lemmas.Bool.Decides.{nat_tests}
use Rattle.std.proofs.lemmas.List.{length-map}
use Rattle.std.proofs.lemmas.Str.Ascii.{uppercase-uppercase}
use Rattle.std.proofs.lemmas.List.Sums.{take_while-cons}
use Rattle.std.proofs.lemmas.List.Elements.{All-nil, All-cons, All-same, All-append}
use Rattle.ss_words.specs.declared.characters.TheConstants.{STOP}
use Rattle.ss_words.specs.declared.limits.TheConstants.{LONGEST_RUN, LARGEST_NUMBER, MOST_PICTURE_LINES}
use Rattle.ss_words.specs.declared.limits.TheConstants.{LONGEST_PICTURE_LINE}
use Rattle.ss_words.specs.declared.word.Sign.{Sign}
use Rattle.ss_words.specs.declared.fault.TextRule.{TextRule}
use Rattle.ss_words.specs.declared.fault.TextRule.TheVariants.{StrayByte, BadNumber, LongRun, NoPicture}
use Rattle.ss_words.specs.declared.fault.TextRule.TheVariants.{LongPictureLine}
use Rattle.ss_words.specs.Words.{Kind, WordAt, name, number, sign, picture}
use Rattle.ss_words.specs.TextBytes.{in_run, is_allowed, is_joined, is_stray, sign_from}
use Rattle.ss_words.specs.TextLines.{with_blank_comments, text_lines, is_blank_rest}
use Rattle.ss_words.specs.TextRuns.{without_stops, number_of, has_letter, is_bad_number, word_of_run, line_count}
use Rattle.ss_words.specs.TextRuns.{behind_print, calls_picture, picture_lines, is_met, lacks_picture, is_name}
use Rattle.ss_words.specs.TextWords.{Finding, word, breach, on_line, words_in, breaches_in, nearest_first, breach_if}
use Rattle.ss_words.specs.TextWords.{sign_found, word_found, run_found, begun_at, found_at, found_from_place}
use Rattle.ss_words.specs.TextWords.{found_in_line, picture_byte, found_in_picture, picture_size, picture_found}
use Rattle.ss_words.specs.TextWords.{found_from_line, found_in_text, answer_of, words_of}
use Rattle.ss_words.specs.TextLimits.{KeepsLimits, LimitsHold}
use Rattle.ss_words.proofs.TextPictureLines.{nat_le-true, line_count-some}

abbrev WordKeeps : WordAt → Type 0
WordKeeps w = KeepsLimits w.kind

-- if no rule is broken, each word keeps the limits
abbrev Keeps : List Finding → Type 0
Keeps fs = breaches_in fs ≡ [] → All WordKeeps (words_in fs)

breaches-parts : (fs gs : List Finding) → breaches_in (fs ++ gs) ≡ [] → (breaches_in fs ≡ []) × (breaches_in gs ≡ [])
breaches-parts [] gs none = (refl, none)
breaches-parts (word w ∷ fs) gs none = breaches-parts fs gs none
breaches-parts (breach r n ∷ fs) gs none = absurd cc

words_in-append : (fs gs : List Finding) → words_in (fs ++ gs) ≡ words_in fs ++ words_in gs
words_in-append [] gs = refl
words_in-append (word w ∷ fs) gs = ap (λ (vs : List WordAt). w ∷ vs) (words_in-append fs gs)
words_in-append (breach r n ∷ fs) gs = words_in-append fs gs

keeps-then : (fs gs : List Finding) → Keeps fs → (breaches_in fs ≡ [] → Keeps gs) → Keeps (fs ++ gs)
keeps-then fs gs left right none =
    let p = breaches-parts fs gs none in
    All-same WordKeeps (words_in (fs ++ gs)) (words_in fs ++ words_in gs) (words_in-append fs gs)
    (All-append WordKeeps (words_in fs) (words_in gs) (left p.0) (right p.0 p.1))

keeps-append : (fs gs : List Finding) → Keeps fs → Keeps gs → Keeps (fs ++ gs)
keeps-append fs gs left right = keeps-then fs gs left (λ _. right)

keeps-nothing : Keeps []
keeps-nothing none = All-nil WordKeeps

keeps-broken : (r : TextRule) (n : ℕ) (b : Bool) → Keeps (breach_if r n b)
keeps-broken r n true none = All-nil WordKeeps
keeps-broken r n false none = All-nil WordKeeps

keeps-word : (n : ℕ) (k : Kind) → KeepsLimits k → Keeps (word (on_line n k) ∷ [])
keeps-word n k keeps none = All-cons WordKeeps (on_line n k) [] keeps (All-nil WordKeeps)

is_unbroken : (r : TextRule) (n : ℕ) (b : Bool) → breaches_in (breach_if r n b) ≡ [] → b ≡ false
is_unbroken r n true none = absurd cc
is_unbroken r n false none = refl

-- ---- runs

not_above : (a b : ℕ) → nat_lt a b ≡ false → b ≤ a
not_above a b h = grind (arith, nat_tests)

without_stops-one : (b : ℕ) (bs kept : List ℕ) → length kept ≤ length bs
    → length {A = ℕ} (elim kept [ [] ↦ cond (b == STOP) [] (b ∷ []) | c ∷ cs ↦ b ∷ c ∷ cs ]) ≤ length (b ∷ bs)
without_stops-one b bs [] within =
    elim (b == STOP) as (λ t. length (cond t [] (b ∷ [])) ≤ length (b ∷ bs))
    [ true ↦ omega arith | false ↦ omega arith ]
without_stops-one b bs (c ∷ cs) within = omega arith

without_stops-within : (run : List ℕ) → length (without_stops run) ≤ length run
unfolding without_stops
without_stops-within [] = omega arith
without_stops-within (b ∷ bs) = without_stops-one b bs (without_stops bs) (without_stops-within bs)

-- the kept bytes of a run: a byte before those kept after it, and no stop if none of those is kept
abbrev front : ℕ → List ℕ → List ℕ
front b kept = elim kept [ [] ↦ cond (b == STOP) [] (b ∷ []) | c ∷ cs ↦ b ∷ c ∷ cs ]

front-again : (b : ℕ) (kept : List ℕ) → without_stops kept ≡ kept → without_stops (front b kept) ≡ front b kept
unfolding without_stops
front-again b [] again =
    (elim (b == STOP) as (λ t. (b == STOP) ≡ t → without_stops (cond t [] (b ∷ [])) ≡ cond t [] (b ∷ [])) [
      | true ↦ λ stop. refl
      | false ↦ λ other. ap (λ (t : Bool). cond t [] (b ∷ [])) other
    ]) refl
front-again b (c ∷ cs) again = ap (front b) again

without_stops-again : (run : List ℕ) → without_stops (without_stops run) ≡ without_stops run
unfolding without_stops
without_stops-again [] = refl
without_stops-again (b ∷ bs) = front-again b (without_stops bs) (without_stops-again bs)

-- ---- upper case

upper-letter : (c : ℕ) → is_ascii_alphabetic (to_ascii_uppercase c) ≡ is_ascii_alphabetic c
upper-letter c = grind (arith, nat_tests)

upper-digit : (c : ℕ) → is_ascii_digit (to_ascii_uppercase c) ≡ is_ascii_digit c
upper-digit c = grind (arith, nat_tests)

upper-stop : (c : ℕ) → (to_ascii_uppercase c == STOP) ≡ (c == STOP)
upper-stop c = grind (arith, nat_tests)

upper-has_letter : (run : List ℕ) → has_letter (map to_ascii_uppercase run) ≡ has_letter run
upper-has_letter [] = refl
upper-has_letter (b ∷ bs) = ap₂ (λ (s t : Bool). s || t) (upper-letter b) (upper-has_letter bs)

upper-in_run : (run : List ℕ) → list_all in_run (map to_ascii_uppercase run) ≡ list_all in_run run
unfolding in_run
upper-in_run [] = refl
upper-in_run (b ∷ bs) =
    ap₂ (λ (s t : Bool). s && t) (ap₂ (λ (s t : Bool). s || t)
    (ap₂ (λ (s t : Bool). s || t) (upper-letter b) (upper-digit b)) (upper-stop b)) (upper-in_run bs)

upper-front : (b : ℕ) (kept : List ℕ)
    → front (to_ascii_uppercase b) (map to_ascii_uppercase kept) ≡ map to_ascii_uppercase (front b kept)
upper-front b [] =
    ap (λ (t : Bool). cond t [] (to_ascii_uppercase b ∷ [])) (upper-stop b)
    ∙ (elim (b == STOP) as (λ t. cond t [] (to_ascii_uppercase b ∷ []) ≡ map to_ascii_uppercase (cond t [] (b ∷ []))) [
      | true ↦ refl
      | false ↦ refl
    ])
upper-front b (c ∷ cs) = refl

upper-stops : (run : List ℕ) → without_stops (map to_ascii_uppercase run) ≡ map to_ascii_uppercase (without_stops run)
unfolding without_stops
upper-stops [] = refl
upper-stops (b ∷ bs) = ap (front (to_ascii_uppercase b)) (upper-stops bs) ∙ upper-front b (without_stops bs)

upper-again : (run : List ℕ) → map to_ascii_uppercase (map to_ascii_uppercase run) ≡ map to_ascii_uppercase run
upper-again [] = refl
upper-again (b ∷ bs) = ap₂ (λ (c : ℕ) (cs : List ℕ). c ∷ cs) (uppercase-uppercase b) (upper-again bs)

-- ---- the word of a run

-- letters, digits and stops, the last one no stop, and not too many of them
abbrev IsCut : List ℕ → Type 0
IsCut run = (length run ≤ LONGEST_RUN) × (list_all in_run run ≡ true) × (without_stops run ≡ run)

name-keeps : (k : Kind) (run : List ℕ) → 1 ≤ length run → IsCut run → has_letter run ≡ true
    → Some (name (map to_ascii_uppercase run)) ≡ Some k → KeepsLimits k
name-keeps k run some cut letter e =
    let same : name (map to_ascii_uppercase run) ≡ k = cc in
    let size = length-map run to_ascii_uppercase in
    subst KeepsLimits same (
      omega (arith, size),
      omega (arith, size, cut.0),
      upper-in_run run ∙ cut.1,
      upper-has_letter run ∙ letter,
      upper-stops run ∙ ap (map to_ascii_uppercase) cut.2,
      upper-again run,
    )

number-below : (m : ℕ) (stop : Bool) (n : ℕ) → (stop || nat_lt m n) ≡ false → n ≤ m
number-below m true n e = absurd cc
number-below m false n e = grind (arith, nat_tests)

number-keeps : (k : Kind) (n : ℕ) → n ≤ LARGEST_NUMBER → Some (number n) ≡ Some k → KeepsLimits k
number-keeps k n small e = let same : number n ≡ k = cc in subst KeepsLimits same small

either-keeps : (letter stop : Bool) (run : List ℕ) (k : Kind) → 1 ≤ length run → IsCut run → has_letter run ≡ letter
    → (not letter && (stop || nat_lt LARGEST_NUMBER (number_of run))) ≡ false
    → Some (cond letter (name (map to_ascii_uppercase run)) (number (number_of run))) ≡ Some k → KeepsLimits k
either-keeps true stop run k some cut letter good e = name-keeps k run some cut letter e
either-keeps false stop run k some cut letter good e =
    number-keeps k (number_of run) (number-below LARGEST_NUMBER stop (number_of run) good) e

-- the word of a run that is no bad number and not too long
run_word-keeps : (run : List ℕ) (k : Kind) → is_bad_number run ≡ false → IsCut run → word_of_run run ≡ Some k
    → KeepsLimits k
unfolding is_bad_number word_of_run
run_word-keeps [] k good cut e = absurd cc
run_word-keeps (b ∷ bs) k good cut e =
    either-keeps (has_letter (b ∷ bs)) (list_any (λ c. c == STOP) (b ∷ bs)) (b ∷ bs) k (omega arith) cut refl good e

-- the bytes that a run keeps are bytes of it
front-in_run : (b : ℕ) (kept : List ℕ) → in_run b ≡ true → list_all in_run kept ≡ true
    → list_all in_run (front b kept) ≡ true
front-in_run b [] here all =
    elim (b == STOP) as (λ t. list_all in_run (cond t [] (b ∷ [])) ≡ true)
    [ true ↦ refl | false ↦ ap (λ (t : Bool). t && true) here ]
front-in_run b (c ∷ cs) here all = ap (λ (t : Bool). t && list_all in_run (c ∷ cs)) here ∙ all

both-true : (s t : Bool) → (s && t) ≡ true → (s ≡ true) × (t ≡ true)
both-true true t e = (refl, e)
both-true false t e = absurd cc

kept-in_run : (run : List ℕ) → list_all in_run run ≡ true → list_all in_run (without_stops run) ≡ true
unfolding without_stops
kept-in_run [] all = refl
kept-in_run (b ∷ bs) all =
    let p = both-true (in_run b) (list_all in_run bs) all in front-in_run b (without_stops bs) p.0 (kept-in_run bs p.1)

taken-in_run : (plain : List ℕ) → list_all in_run (take_while in_run plain) ≡ true
taken-in_run [] = refl
taken-in_run (b ∷ bs) =
    ap (list_all in_run) (take_while-cons in_run b bs)
    ∙ (elim (in_run b) as (λ t. in_run b ≡ t → list_all in_run (cond t (b ∷ take_while in_run bs) []) ≡ true) [
      | true ↦ λ here. ap (λ (t : Bool). t && list_all in_run (take_while in_run bs)) here ∙ taken-in_run bs
      | false ↦ λ other. refl
    ]) refl

-- ---- a line outside pictures

-- a line of number n with `below` lines below it
module _ (n below : ℕ) where
  keeps-word_found : (before : List Kind) (rest : List ℕ) (o : Option Kind) → ((k : Kind) → o ≡ Some k → KeepsLimits k)
      → Keeps (word_found n below before rest o)
  keeps-word_found before rest None all = keeps-nothing
  keeps-word_found before rest (Some k) all =
      keeps-append (breach_if NoPicture n (lacks_picture (k ∷ before) rest below)) (word (on_line n k) ∷ [])
      (keeps-broken NoPicture n (lacks_picture (k ∷ before) rest below)) (keeps-word n k (all k refl))

  keeps-run : (before : List Kind) (rest run : List ℕ) → list_all in_run run ≡ true
      → Keeps (run_found n below before rest run)
  unfolding run_found
  keeps-run before rest run all none =
      let kept = without_stops run in
      let found = word_found n below before rest (word_of_run kept) in
      let bad = is_bad_number kept in
      let long = nat_lt LONGEST_RUN (length run) in
      let both = breaches-parts (breach_if BadNumber n bad ++ breach_if LongRun n long) found none in
      let each = breaches-parts (breach_if BadNumber n bad) (breach_if LongRun n long) both.0 in
      let good = is_unbroken BadNumber n bad each.0 in
      let size = not_above LONGEST_RUN (length run) (is_unbroken LongRun n long each.1) in
      keeps-append (breach_if BadNumber n bad ++ breach_if LongRun n long) found
      (keeps-append (breach_if BadNumber n bad) (breach_if LongRun n long) (keeps-broken BadNumber n bad)
      (keeps-broken LongRun n long))
      (keeps-word_found before rest (word_of_run kept)
      (λ k e. run_word-keeps kept k good
      (omega (arith, size, without_stops-within run), kept-in_run run all, without_stops-again run) e)) none

  keeps-sign : (o : Option Sign) → Keeps (sign_found n o)
  keeps-sign None = keeps-nothing
  keeps-sign (Some g) = keeps-word n (sign g) tt

  keeps-begun : (before : List Kind) (line plain : List ℕ) → Keeps (begun_at n below before line plain)
  unfolding begun_at
  keeps-begun before line plain =
      elim (in_run (slice_index plain 0)) as
      (λ r. Keeps (elim r [
        | true ↦ run_found n below before (drop (length (take_while in_run plain)) line)
            (take_while in_run plain)
        | false ↦ sign_found n (sign_from (slice_index plain 0) (slice_index plain 1))
      ])) [
        | true ↦ keeps-run before (drop (length (take_while in_run plain)) line) (take_while in_run plain)
            (taken-in_run plain)
        | false ↦ keeps-sign (sign_from (slice_index plain 0) (slice_index plain 1))
      ]

  keeps-at : (before : List Kind) (last : ℕ) (line plain : List ℕ) → Keeps (found_at n below before last line plain)
  unfolding found_at
  keeps-at before last line plain =
      keeps-append (breach_if StrayByte n (is_stray (slice_index line 0) (slice_index plain 0)))
      (elim (is_joined last (slice_index plain 0)) [ true ↦ [] | false ↦ begun_at n below before line plain ])
      (keeps-broken StrayByte n (is_stray (slice_index line 0) (slice_index plain 0)))
      (elim (is_joined last (slice_index plain 0)) as
      (λ j. Keeps (elim j [ true ↦ [] | false ↦ begun_at n below before line plain ])) [
        | true ↦ keeps-nothing
        | false ↦ keeps-begun before line plain
      ])

  keeps-from_place : (before : List Kind) (last : ℕ) (line plain : List ℕ)
      → Keeps (found_from_place n below before last line plain)
  unfolding found_from_place
  keeps-from_place before last [] plain = keeps-nothing
  keeps-from_place before last (b ∷ bs) [] = keeps-nothing
  keeps-from_place before last (b ∷ bs) (p ∷ ps) =
      let here = found_at n below before last (b ∷ bs) (p ∷ ps) in
      keeps-append here (found_from_place n below (nearest_first here before) p bs ps)
      (keeps-at before last (b ∷ bs) (p ∷ ps)) (keeps-from_place (nearest_first here before) p bs ps)

-- ---- the lines that a picture has below it

nearest_first-append : (fs gs : List Finding) (before : List Kind)
    → nearest_first (fs ++ gs) before ≡ nearest_first gs (nearest_first fs before)
nearest_first-append [] gs before = refl
nearest_first-append (word w ∷ fs) gs before = nearest_first-append fs gs (w.kind ∷ before)
nearest_first-append (breach r n ∷ fs) gs before = nearest_first-append fs gs before

-- a picture that the words call has its lines among the `below` lines below
abbrev IsMet : ℕ → List Kind → Type 0
IsMet below words = calls_picture words ≡ true → is_met (picture_lines words) below ≡ true

-- if no rule is broken, `IsMet` stays true after the findings
abbrev Meets : ℕ → List Kind → List Finding → Type 0
Meets below before fs = breaches_in fs ≡ [] → IsMet below before → IsMet below (nearest_first fs before)

is_met-called : (called bare met : Bool) → (called && not (bare && met)) ≡ false → called ≡ true → met ≡ true
is_met-called true true true there calls = refl
is_met-called true true false there calls = absurd cc
is_met-called true false met there calls = absurd cc
is_met-called false bare met there calls = absurd cc

quiet-sign : (g : Sign) (before : List Kind) → calls_picture (sign g ∷ before) ≡ false
unfolding calls_picture is_name
quiet-sign g before = refl

quiet-picture : (ps : List (List ℕ)) (before : List Kind) → calls_picture (picture ps ∷ before) ≡ false
unfolding calls_picture is_name
quiet-picture ps before = refl

quiet-nothing : calls_picture [] ≡ false
unfolding calls_picture
quiet-nothing = refl

quiet-met : (below : ℕ) (words : List Kind) → calls_picture words ≡ false → IsMet below words
quiet-met below words quiet calls = absurd cc

module _ (n below : ℕ) where
  meets-append : (before : List Kind) (fs gs : List Finding) → Meets below before fs
      → Meets below (nearest_first fs before) gs → Meets below before (fs ++ gs)
  meets-append before fs gs left right none met =
      let p =
      breaches-parts fs gs none in subst (IsMet below) (sym (nearest_first-append fs gs before))
      (right p.1 (left p.0 met))

  nearest_first-broken : (r : TextRule) (b : Bool) (before : List Kind) → nearest_first (breach_if r n b) before
      ≡ before
  nearest_first-broken r true before = refl
  nearest_first-broken r false before = refl

  -- a breach in front changes nothing
  meets-behind : (r : TextRule) (b : Bool) (before : List Kind) (fs : List Finding) → Meets below before fs
      → Meets below before (breach_if r n b ++ fs)
  meets-behind r true before fs all none met = absurd cc
  meets-behind r false before fs all none met = all none met

  meets-word_found : (before : List Kind) (rest : List ℕ) (o : Option Kind)
      → Meets below before (word_found n below before rest o)
  unfolding lacks_picture
  meets-word_found before rest None none met = met
  meets-word_found before rest (Some k) none met =
      let lacks = lacks_picture (k ∷ before) rest below in
      let there =
      is_unbroken NoPicture n lacks (breaches-parts (breach_if NoPicture n lacks) (word (on_line n k) ∷ []) none).0 in
      subst (IsMet below) (sym (nearest_first-append (breach_if NoPicture n lacks) (word (on_line n k) ∷ []) before
      ∙ ap (λ (ks : List Kind). k ∷ ks) (nearest_first-broken NoPicture lacks before)))
      (is_met-called (calls_picture (k ∷ before)) (is_blank_rest rest)
      (is_met (picture_lines (k ∷ before)) below) there)

  meets-run : (before : List Kind) (rest run : List ℕ) → Meets below before (run_found n below before rest run)
  unfolding run_found
  meets-run before rest run none met =
      let kept = without_stops run in
      let bad = is_bad_number kept in
      let long = nat_lt LONGEST_RUN (length run) in
      let both =
      breaches-parts (breach_if BadNumber n bad ++ breach_if LongRun n long)
      (word_found n below before rest (word_of_run kept)) none in
      subst (IsMet below)
      (sym (nearest_first-append (breach_if BadNumber n bad ++ breach_if LongRun n long)
      (word_found n below before rest (word_of_run kept)) before
      ∙ ap (nearest_first (word_found n below before rest (word_of_run kept)))
      (nearest_first-append (breach_if BadNumber n bad) (breach_if LongRun n long) before
      ∙ ap (nearest_first (breach_if LongRun n long)) (nearest_first-broken BadNumber bad before)
      ∙ nearest_first-broken LongRun long before)))
      (meets-word_found before rest (word_of_run kept) both.1 met)

  meets-sign : (before : List Kind) (o : Option Sign) → Meets below before (sign_found n o)
  meets-sign before None none met = met
  meets-sign before (Some g) none met = quiet-met below (sign g ∷ before) (quiet-sign g before)

  meets-begun : (before : List Kind) (line plain : List ℕ) → Meets below before (begun_at n below before line plain)
  unfolding begun_at
  meets-begun before line plain =
      elim (in_run (slice_index plain 0)) as
      (λ r. Meets below before (elim r [
        | true ↦ run_found n below before (drop (length (take_while in_run plain)) line) (take_while in_run plain)
        | false ↦ sign_found n (sign_from (slice_index plain 0) (slice_index plain 1))
      ])) [
        | true ↦ meets-run before (drop (length (take_while in_run plain)) line) (take_while in_run plain)
        | false ↦ meets-sign before (sign_from (slice_index plain 0) (slice_index plain 1))
      ]

  meets-at : (before : List Kind) (last : ℕ) (line plain : List ℕ)
      → Meets below before (found_at n below before last line plain)
  unfolding found_at
  meets-at before last line plain =
      meets-behind StrayByte (is_stray (slice_index line 0) (slice_index plain 0)) before
      (elim (is_joined last (slice_index plain 0)) [ true ↦ [] | false ↦ begun_at n below before line plain ])
      (elim (is_joined last (slice_index plain 0)) as
      (λ j. Meets below before (elim j [ true ↦ [] | false ↦ begun_at n below before line plain ])) [
        | true ↦ λ none met. met
        | false ↦ meets-begun before line plain
      ])

  meets-from_place : (before : List Kind) (last : ℕ) (line plain : List ℕ)
      → Meets below before (found_from_place n below before last line plain)
  unfolding found_from_place
  meets-from_place before last [] plain none met = met
  meets-from_place before last (b ∷ bs) [] none met = met
  meets-from_place before last (b ∷ bs) (p ∷ ps) none met =
      let here = found_at n below before last (b ∷ bs) (p ∷ ps) in
      meets-append before here (found_from_place n below (nearest_first here before) p bs ps)
      (meets-at before last (b ∷ bs) (p ∷ ps)) (meets-from_place (nearest_first here before) p bs ps) none met

-- how many lines a count gives: if a picture is called, and (`lines_called`) if perhaps none is
abbrev lines_counted : Option ℕ → ℕ
lines_counted o = elim o [ None ↦ 0 | Some k ↦ k ]

abbrev lines_called : Bool → Option ℕ → ℕ
lines_called called o = elim called [ true ↦ lines_counted o | false ↦ 0 ]

size-counted : (o : Option ℕ) (below : ℕ) → ((n : ℕ) → o ≡ Some n → 1 ≤ n) → is_met o below ≡ true
    → (lines_counted o ≡ 0 → true ≡ false) × (lines_counted o ≤ below)
size-counted None below least met = absurd cc
size-counted (Some k) below least met = ((λ none. absurd (omega (arith, least k refl))), nat_le-true k below met)

-- words that call a picture which has its lines call at least one of those below
size-met : (below : ℕ) (words : List Kind) → IsMet below words
    → (picture_size words ≡ 0 → calls_picture words ≡ false) × (picture_size words ≤ below)
unfolding picture_size
size-met below words met =
    (elim (calls_picture words) as
    (λ t. calls_picture words ≡ t → (lines_called t (picture_lines words) ≡ 0 → t ≡ false)
    × (lines_called t (picture_lines words) ≤ below)) [
      | true ↦ λ calls. size-counted (picture_lines words) below (line_count-some (behind_print None words)) (met calls)
      | false ↦ λ quiet. ((λ none. refl), omega arith)
    ]) refl

-- ---- pictures

keeps-bytes : (n : ℕ) (bs : List ℕ) → Keeps (flat_map (picture_byte n) bs)
keeps-bytes n [] = keeps-nothing
keeps-bytes n (b ∷ bs) =
    keeps-append (picture_byte n b) (flat_map (picture_byte n) bs) (keeps-broken StrayByte n (not (is_allowed b)))
    (keeps-bytes n bs)

keeps-in_picture : (n : ℕ) (line : List ℕ) → Keeps (found_in_picture n line)
unfolding found_in_picture
keeps-in_picture n [] = keeps-nothing
keeps-in_picture n (b ∷ bs) =
    let long = nat_lt LONGEST_PICTURE_LINE (length (b ∷ bs)) in
    keeps-append (picture_byte n b ++ breach_if LongPictureLine n long) (flat_map (picture_byte n) bs)
    (keeps-append (picture_byte n b) (breach_if LongPictureLine n long) (keeps-broken StrayByte n (not (is_allowed b)))
    (keeps-broken LongPictureLine n long)) (keeps-bytes n bs)

short-in_picture : (n : ℕ) (line : List ℕ) → breaches_in (found_in_picture n line) ≡ []
    → length line ≤ LONGEST_PICTURE_LINE
unfolding found_in_picture
short-in_picture n [] none = omega arith
short-in_picture n (b ∷ bs) none =
    let long = nat_lt LONGEST_PICTURE_LINE (length (b ∷ bs)) in
    let p = breaches-parts (picture_byte n b ++ breach_if LongPictureLine n long) (flat_map (picture_byte n) bs) none in
    let q = breaches-parts (picture_byte n b) (breach_if LongPictureLine n long) p.0 in
    not_above LONGEST_PICTURE_LINE (length (b ∷ bs)) (is_unbroken LongPictureLine n long q.1)

nat_le-few : (m : ℕ) → nat_le m MOST_PICTURE_LINES ≡ true → m ≤ MOST_PICTURE_LINES
nat_le-few m h = grind (arith, nat_tests)

line_count-few : (o : Option Kind) (n : ℕ) → line_count o ≡ Some n → n ≤ MOST_PICTURE_LINES
unfolding line_count
line_count-few None n e = absurd cc
line_count-few (Some (name s)) n e = absurd cc
line_count-few (Some (sign g)) n e = absurd cc
line_count-few (Some (picture ls)) n e = absurd cc
line_count-few (Some (number m)) n e =
    elim (nat_le 1 m)
    as (λ t. cond (t && nat_le m MOST_PICTURE_LINES) (Some m) None ≡ Some n → n ≤ MOST_PICTURE_LINES) [
      | true ↦ (elim (nat_le m MOST_PICTURE_LINES) as
          (λ t. nat_le m MOST_PICTURE_LINES ≡ t → cond t (Some m) None ≡ Some n → n ≤ MOST_PICTURE_LINES) [
            | true ↦ λ few same. let e : m ≡ n = cc in let h : m ≤ MOST_PICTURE_LINES = nat_le-few m few in omega arith
            | false ↦ λ many none. absurd cc
          ]) refl
      | false ↦ λ none. absurd cc
    ] e

count-few : (o : Option ℕ) → ((n : ℕ) → o ≡ Some n → n ≤ MOST_PICTURE_LINES)
    → (elim o [ None ↦ 0 | Some k ↦ k ]) ≤ MOST_PICTURE_LINES
count-few None few = omega arith
count-few (Some k) few = few k refl

size-few : (words : List Kind) → picture_size words ≤ MOST_PICTURE_LINES
unfolding picture_size
size-few words =
    elim (calls_picture words) as (λ t.
    (elim t [ true ↦ (elim (picture_lines words) [ None ↦ 0 | Some k ↦ k ]) | false ↦ 0 ]) ≤ MOST_PICTURE_LINES) [
      | true ↦ count-few (picture_lines words) (λ n e. line_count-few (behind_print None words) n e)
      | false ↦ omega arith
    ]

take-some : (k : ℕ) (ls : List (List ℕ)) → 1 ≤ length ls → 1 ≤ length (take (suc k) ls)
take-some k [] some = absurd (omega arith)
take-some k (l ∷ ls) some = omega arith

take-few : (k : ℕ) (ls : List (List ℕ)) → length (take k ls) ≤ k
take-few zero ls = omega arith
take-few (suc k) [] = omega arith
take-few (suc k) (l ∷ ls) = let few = take-few k ls in omega arith

-- ---- the lines of a text

abbrev IsShort : List ℕ → Type 0
IsShort l = length l ≤ LONGEST_PICTURE_LINE

-- from each place on whose words call no picture, the findings in these lines keep the limits, and
-- so do the lines of the picture before
abbrev LinesKeep : List (List ℕ) → Type 0
LinesKeep ls =
    (before : List Kind) (n k : ℕ) → calls_picture before ≡ false
    → Keeps (found_from_line before n k ls)
    × (breaches_in (found_from_line before n k ls) ≡ [] → All IsShort (take k ls))

keeps-drawn : (now : List Kind) (n k : ℕ) (ls : List (List ℕ)) → k ≤ MOST_PICTURE_LINES
    → (k ≡ 0 → calls_picture now ≡ false) × (k ≤ length ls) → LinesKeep ls
    → Keeps (picture_found k n ls ++ found_from_line (nearest_first (picture_found k n ls) now) n k ls)
keeps-drawn now n zero ls few there below none = (below now n zero (there.0 refl)).0 none
keeps-drawn now n (suc k) ls few there below none =
    let drawn = picture (take (suc k) ls) in
    let rest = below (drawn ∷ now) n (suc k) (quiet-picture (take (suc k) ls) now) in
    All-cons WordKeeps (on_line n drawn) (words_in (found_from_line (drawn ∷ now) n (suc k) ls))
    (take-some k ls (omega (arith, there.1)), omega (arith, take-few (suc k) ls), rest.1 none) (rest.0 none)

lines_keep : (ls : List (List ℕ)) → LinesKeep ls
unfolding found_from_line
lines_keep [] before n zero quiet = (keeps-nothing, λ none. All-nil IsShort)
lines_keep [] before n (suc k) quiet = (keeps-nothing, λ none. All-nil IsShort)
lines_keep (l ∷ ls) before n zero quiet =
    let here = found_in_line n (length ls) before l in
    let now = nearest_first here before in
    let drawn = picture_found (picture_size now) (n + 1) ls in (
      keeps-then here (drawn ++ found_from_line (nearest_first drawn now) (n + 1) (picture_size now) ls)
          (keeps-from_place n (length ls) before 32 l (with_blank_comments false l))
          (λ none. keeps-drawn now (n + 1) (picture_size now) ls (size-few now)
          (size-met (length ls) now (meets-from_place n (length ls) before 32 l (with_blank_comments false l) none
          (quiet-met (length ls) before quiet))) (lines_keep ls)),
      λ none. All-nil IsShort,
    )
lines_keep (l ∷ ls) before n (suc k) quiet =
    let after = lines_keep ls before (n + 1) k quiet in (
      keeps-append (found_in_picture n l) (found_from_line before (n + 1) k ls) (keeps-in_picture n l) after.0,
      λ none. let p =
          breaches-parts (found_in_picture n l) (found_from_line before (n + 1) k ls) none in
          All-cons IsShort l (take k ls) (short-in_picture n l p.0) (after.1 p.1),
    )

-- an answer that is a list of words
answer-words : (fs : List Finding) (ws : List WordAt) → answer_of fs ≡ Ok ws
    → (breaches_in fs ≡ []) × (words_in fs ≡ ws)
unfolding answer_of
answer-words fs ws e =
    elim (breaches_in fs) as (λ bs. (elim bs [ [] ↦ Ok (words_in fs) | b ∷ bs ↦ Err b ]) ≡ Ok ws
    → (bs ≡ []) × (words_in fs ≡ ws)) [
      | [] ↦ λ same. (refl, cc)
      | b ∷ bs ↦ λ never. absurd cc
    ] e

pub limits_hold : LimitsHold
unfolding words_of found_in_text
limits_hold text ws e =
    let p = answer-words (found_in_text text) ws e in
    All-same WordKeeps ws (words_in (found_in_text text)) (sym p.1)
    ((lines_keep (text_lines text) [] 1 0 quiet-nothing).0 p.0)
