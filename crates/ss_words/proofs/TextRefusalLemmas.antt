-- The first breach of a text is at its first place with one, and is the lowest of that place.
use Rattle.std.proofs.Common.{◌≡◌, ℕ, zero, suc, ◌+◌, ◌<◌, ◌≤◌, Bool, true, false, ◌&&◌, List, [], ◌∷◌, ◌++◌, map}
use Rattle.std.proofs.Common.{length, refl, sym, ap, subst, ◌∙◌, ◌==◌, cond, append_assoc, length-append, arith, Result}
use Rattle.std.proofs.Common.{Ok, Err}
use Rattle.std.proofs.lemmas.Bool.{ltb-true}
use Rattle.std.proofs.lemmas.List.{length-map}
use Rattle.std.proofs.lemmas.List.Sums.{sum_by-cons}
use Rattle.std.specs.Prelude.{Contains, flat_map, nat_lt, not, sum_by}
use Rattle.ss_words.specs.declared.characters.TheConstants.{BLANK, QUOTE}
use Rattle.ss_words.specs.declared.fault.TextRule.{TextRule}
use Rattle.ss_words.specs.declared.fault.TextRule.TheVariants.{StrayByte}
use Rattle.ss_words.specs.declared.fault.TextFault.{TextFault}
use Rattle.ss_words.specs.declared.fault.TextFault.TheVariants.{Refused, Memory}
use Rattle.ss_words.specs.Words.{Kind, WordAt}
use Rattle.ss_words.specs.TextBytes.{is_allowed}
use Rattle.ss_words.specs.TextLines.{with_blank_comments, text_lines}
use Rattle.ss_words.specs.TextWords.{Finding, word, breach, words_in, breaches_in, nearest_first, breach_if, found_at}
use Rattle.ss_words.specs.TextWords.{found_from_place, found_in_line, picture_byte, picture_head, found_in_picture}
use Rattle.ss_words.specs.TextWords.{picture_size, picture_found, found_from_line, found_in_text, answer_of, words_of}
use Rattle.ss_words.specs.TextOrder.{rule_number, rule_numbers, is_rising}
use Rattle.ss_words.specs.TextRefusal.{breaches_from_place, breaches_in_picture, breaches_from_line, breaches_by_place}
use Rattle.ss_words.specs.TextRefusal.{at_place, RefusalHasAPlace, RefusalIsAnswered}
use Rattle.ss_words.specs.TextRefusal.{WordsBreakNoRule, PlacesAreBytes}
use Rattle.ss_words.proofs.TextOrderLemmas.{lowest_first}
use Rattle.ss_words.proofs.TextPlaces.{and-left, and-right}

-- ---- the places joined are the findings

abbrev joined : List (List TextFault) → List TextFault
joined [] = []
joined (fs ∷ rest) = fs ++ joined rest

joined-append : (ps qs : List (List TextFault)) → joined (ps ++ qs) ≡ joined ps ++ joined qs
joined-append [] qs = refl
joined-append (fs ∷ ps) qs = ap (λ (x : List TextFault). fs ++ x) (joined-append ps qs) ∙ sym (append_assoc fs _ _)

breaches_in-append : (fs gs : List Finding) → breaches_in (fs ++ gs) ≡ breaches_in fs ++ breaches_in gs
breaches_in-append [] gs = refl
breaches_in-append (word w ∷ fs) gs = breaches_in-append fs gs
breaches_in-append (breach r n ∷ fs) gs = ap (λ (x : List TextFault). Refused r n ∷ x) (breaches_in-append fs gs)

module _ (n below : ℕ) where
  joined-place : (before : List Kind) (last : ℕ) (line plain : List ℕ)
      → joined (breaches_from_place n below before last line plain)
      ≡ breaches_in (found_from_place n below before last line plain)
  unfolding breaches_from_place found_from_place
  joined-place before last [] plain = refl
  joined-place before last (b ∷ bs) [] = refl
  joined-place before last (b ∷ bs) (p ∷ ps) =
      let here = found_at n below before last (b ∷ bs) (p ∷ ps) in
      ap (λ (x : List TextFault). breaches_in here ++ x) (joined-place (nearest_first here before) p bs ps)
      ∙ sym (breaches_in-append here (found_from_place n below (nearest_first here before) p bs ps))

joined-bytes : (n : ℕ) (bs : List ℕ)
    → joined (map (λ c. breaches_in (picture_byte n c)) bs) ≡ breaches_in (flat_map (picture_byte n) bs)
joined-bytes n [] = refl
joined-bytes n (b ∷ bs) =
    ap (λ (x : List TextFault). breaches_in (picture_byte n b) ++ x) (joined-bytes n bs)
    ∙ sym (breaches_in-append (picture_byte n b) (flat_map (picture_byte n) bs))

joined-picture : (n : ℕ) (line : List ℕ) → joined (breaches_in_picture n line) ≡ breaches_in (found_in_picture n line)
unfolding breaches_in_picture found_in_picture
joined-picture n [] = refl
joined-picture n (b ∷ bs) =
    ap (λ (x : List TextFault). breaches_in (picture_head n b bs) ++ x) (joined-bytes n bs)
    ∙ sym (breaches_in-append (picture_head n b bs) (flat_map (picture_byte n) bs))

-- a picture that is drawn breaks no rule
drawn-none : (k n : ℕ) (ls : List (List ℕ)) (fs : List Finding)
    → breaches_in (picture_found k n ls ++ fs) ≡ breaches_in fs
drawn-none zero n ls fs = refl
drawn-none (suc k) n ls fs = refl

joined-line : (before : List Kind) (n k : ℕ) (ls : List (List ℕ))
    → joined (breaches_from_line before n k ls) ≡ breaches_in (found_from_line before n k ls)
unfolding breaches_from_line found_from_line
joined-line before n zero [] = refl
joined-line before n (suc k) [] = refl
joined-line before n (suc k) (l ∷ ls) =
    joined-append (breaches_in_picture n l) (breaches_from_line before (n + 1) k ls)
    ∙ ap (λ (x : List TextFault). x ++ joined (breaches_from_line before (n + 1) k ls)) (joined-picture n l)
    ∙ ap (λ (x : List TextFault). breaches_in (found_in_picture n l) ++ x) (joined-line before (n + 1) k ls)
    ∙ sym (breaches_in-append (found_in_picture n l) (found_from_line before (n + 1) k ls))
joined-line before n zero (l ∷ ls) =
    let here = found_in_line n (length ls) before l in
    let now = nearest_first here before in
    let drawn = picture_found (picture_size now) (n + 1) ls in
    let next = breaches_from_line (nearest_first drawn now) (n + 1) (picture_size now) ls in
    let rest = found_from_line (nearest_first drawn now) (n + 1) (picture_size now) ls in
    joined-append (breaches_from_place n (length ls) before BLANK l (with_blank_comments false l)) next
    ∙ ap (λ (x : List TextFault). x ++ joined next)
    (joined-place n (length ls) before BLANK l (with_blank_comments false l))
    ∙ ap (λ (x : List TextFault). breaches_in here ++ x)
    (joined-line (nearest_first drawn now) (n + 1) (picture_size now) ls)
    ∙ ap (λ (x : List TextFault). breaches_in here ++ x) (sym (drawn-none (picture_size now) (n + 1) ls rest))
    ∙ sym (breaches_in-append here (drawn ++ rest))

joined-text : (text : List ℕ) → joined (breaches_by_place text) ≡ breaches_in (found_in_text text)
unfolding breaches_by_place found_in_text
joined-text text = joined-line [] 1 0 (text_lines text)

-- ---- the places are the bytes of the lines

length-blanked : (inside : Bool) (line : List ℕ) → length (with_blank_comments inside line) ≡ length line
unfolding with_blank_comments
length-blanked inside [] = refl
length-blanked inside (b ∷ []) = refl
length-blanked inside (b ∷ c ∷ bs) =
    elim (b == QUOTE && c == QUOTE) as
    (λ t. length {A = ℕ} (elim t [
      | true ↦ BLANK ∷ BLANK ∷ with_blank_comments (not inside) bs
      | false ↦ cond inside BLANK b
          ∷ with_blank_comments inside (c ∷ bs)
    ]) ≡ suc (suc (length bs))) [
      | true ↦ (let more = length-blanked (not inside) bs in omega (arith, more))
      | false ↦ (let more = length-blanked inside (c ∷ bs) in omega (arith, more))
    ]

length-place : (n below : ℕ) (before : List Kind) (last : ℕ) (line plain : List ℕ) → length plain ≡ length line
    → length (breaches_from_place n below before last line plain) ≡ length line
unfolding breaches_from_place
length-place n below before last [] plain e = refl
length-place n below before last (b ∷ bs) [] e = absurd (omega arith)
length-place n below before last (b ∷ bs) (p ∷ ps) e =
    let here = found_at n below before last (b ∷ bs) (p ∷ ps) in
    let more = length-place n below (nearest_first here before) p bs ps (omega arith) in omega (arith, more)

length-picture : (n : ℕ) (line : List ℕ) → length (breaches_in_picture n line) ≡ length line
unfolding breaches_in_picture
length-picture n [] = refl
length-picture n (b ∷ bs) = let more = length-map bs (λ c. breaches_in (picture_byte n c)) in omega (arith, more)

length-line : (before : List Kind) (n k : ℕ) (ls : List (List ℕ))
    → length (breaches_from_line before n k ls) ≡ sum_by length ls
unfolding breaches_from_line
length-line before n zero [] = refl
length-line before n (suc k) [] = refl
length-line before n (suc k) (l ∷ ls) =
    length-append (breaches_in_picture n l) (breaches_from_line before (n + 1) k ls)
    ∙ ap (λ (x : ℕ). x + length (breaches_from_line before (n + 1) k ls)) (length-picture n l)
    ∙ ap (λ (x : ℕ). length l + x) (length-line before (n + 1) k ls)
    ∙ sym (sum_by-cons length l ls)
length-line before n zero (l ∷ ls) =
    let now = nearest_first (found_in_line n (length ls) before l) before in
    let drawn = picture_found (picture_size now) (n + 1) ls in
    let next = breaches_from_line (nearest_first drawn now) (n + 1) (picture_size now) ls in
    length-append (breaches_from_place n (length ls) before BLANK l (with_blank_comments false l)) next
    ∙ ap (λ (x : ℕ). x + length next)
    (length-place n (length ls) before BLANK l (with_blank_comments false l) (length-blanked false l))
    ∙ ap (λ (x : ℕ). length l + x) (length-line (nearest_first drawn now) (n + 1) (picture_size now) ls)
    ∙ sym (sum_by-cons length l ls)

pub places_are_bytes : PlacesAreBytes
unfolding breaches_by_place
places_are_bytes text = length-line [] 1 0 (text_lines text)

-- ---- at each place the numbers rise

abbrev Rises : ℕ → List TextFault → Type 0
Rises last [] = Unit {0}
Rises last (Refused r n ∷ fs) = (last < rule_number r) × Rises (rule_number r) fs
Rises last (Memory ∷ fs) = ⊥

abbrev EachRises : List (List TextFault) → Type 0
EachRises [] = Unit {0}
EachRises (fs ∷ rest) = Rises 0 fs × EachRises rest

rises : (fs : List Finding) (last : ℕ) → is_rising last (rule_numbers fs) ≡ true → Rises last (breaches_in fs)
rises [] last h = tt
rises (word w ∷ fs) last h = rises fs last h
rises (breach r n ∷ fs) last h = (
  ltb-true last (rule_number r) (and-left (nat_lt last (rule_number r)) (is_rising (rule_number r) (rule_numbers fs))
      h),
  rises fs (rule_number r) (and-right (nat_lt last (rule_number r)) (is_rising (rule_number r) (rule_numbers fs)) h),
)

rises-append : (ps qs : List (List TextFault)) → EachRises ps → EachRises qs → EachRises (ps ++ qs)
rises-append [] qs p q = q
rises-append (fs ∷ ps) qs p q = (p.0, rises-append ps qs p.1 q)

rises-place : (n below : ℕ) (before : List Kind) (last : ℕ) (line plain : List ℕ)
    → EachRises (breaches_from_place n below before last line plain)
unfolding breaches_from_place
rises-place n below before last [] plain = tt
rises-place n below before last (b ∷ bs) [] = tt
rises-place n below before last (b ∷ bs) (p ∷ ps) =
    let here = found_at n below before last (b ∷ bs) (p ∷ ps) in (
      rises here 0 (lowest_first.0 n below before last (b ∷ bs) (p ∷ ps)),
      rises-place n below (nearest_first here before) p bs ps,
    )

rises-byte : (n : ℕ) (stray : Bool) → Rises 0 (breaches_in (breach_if StrayByte n stray))
rises-byte n true = (omega arith, tt)
rises-byte n false = tt

rises-bytes : (n : ℕ) (bs : List ℕ) → EachRises (map (λ c. breaches_in (picture_byte n c)) bs)
rises-bytes n [] = tt
rises-bytes n (b ∷ bs) = (rises-byte n (not (is_allowed b)), rises-bytes n bs)

rises-picture : (n : ℕ) (line : List ℕ) → EachRises (breaches_in_picture n line)
unfolding breaches_in_picture
rises-picture n [] = tt
rises-picture n (b ∷ bs) = (rises (picture_head n b bs) 0 (lowest_first.1 n b bs), rises-bytes n bs)

rises-line : (before : List Kind) (n k : ℕ) (ls : List (List ℕ)) → EachRises (breaches_from_line before n k ls)
unfolding breaches_from_line
rises-line before n zero [] = tt
rises-line before n (suc k) [] = tt
rises-line before n (suc k) (l ∷ ls) = rises-append _ _ (rises-picture n l) (rises-line before (n + 1) k ls)
rises-line before n zero (l ∷ ls) =
    let now = nearest_first (found_in_line n (length ls) before l) before in
    let drawn = picture_found (picture_size now) (n + 1) ls in
    rises-append _ _ (rises-place n (length ls) before BLANK l (with_blank_comments false l))
    (rises-line (nearest_first drawn now) (n + 1) (picture_size now) ls)

rises-text : (text : List ℕ) → EachRises (breaches_by_place text)
unfolding breaches_by_place
rises-text text = rises-line [] 1 0 (text_lines text)

rises-at : (ps : List (List TextFault)) (i : ℕ) → EachRises ps → Rises 0 (at_place ps i)
rises-at [] i h = tt
rises-at (fs ∷ ps) zero h = h.0
rises-at (fs ∷ ps) (suc i) h = rises-at ps i h.1

-- ---- the first and lowest

-- the faults after a rising start are above it
above : (last : ℕ) (fs : List TextFault) (q : TextRule) (m : ℕ) → Rises last fs → Contains fs (Refused q m)
    → last < rule_number q
above last [] q m h (k, lt, e) = absurd (omega arith)
above last (Memory ∷ fs) q m h (k, lt, e) = absurd h
above last (Refused r n ∷ fs) q m h (zero, lt, e) =
    let same : r ≡ q = cc in subst (λ (x : TextRule). last < rule_number x) same h.0
above last (Refused r n ∷ fs) q m h (suc k, lt, e) =
    let more = above (rule_number r) fs q m h.1 (k, omega arith, e) in omega (arith, h.0, more)

nothing_in : (f : TextFault) → Contains [] f → ⊥
nothing_in f (k, lt, e) = omega arith

-- a place with no rule is empty
empty_place : (last : ℕ) (fs : List TextFault) → Rises last fs
    → ((q : TextRule) (m : ℕ) → Contains fs (Refused q m) → ⊥) → fs ≡ []
empty_place last [] h none = refl
empty_place last (Memory ∷ fs) h none = absurd h
empty_place last (Refused r n ∷ fs) h none = absurd (none r n (0, omega arith, refl))

-- the lowest rule of a place is first
lowest_place : (last : ℕ) (fs : List TextFault) (r : TextRule) (n : ℕ) → Rises last fs → Contains fs (Refused r n)
    → ((q : TextRule) (m : ℕ) → Contains fs (Refused q m) → rule_number r ≤ rule_number q)
    → (tail : List TextFault) × (fs ≡ Refused r n ∷ tail)
lowest_place last [] r n h c lowest = absurd (nothing_in (Refused r n) c)
lowest_place last (Memory ∷ fs) r n h c lowest = absurd h
lowest_place last (Refused q m ∷ fs) r n h (zero, lt, e) lowest = (fs, ap (λ (x : TextFault). x ∷ fs) e)
lowest_place last (Refused q m ∷ fs) r n h (suc k, lt, e) lowest =
    let over = above (rule_number q) fs r n h.1 (k, omega arith, e) in
    let under = lowest q m (0, omega arith, refl) in absurd (omega (arith, over, under))

first_place : (ps : List (List TextFault)) (f : TextFault) (fs : List TextFault) → joined ps ≡ f ∷ fs
    → (i : ℕ) × (tail : List TextFault) × (at_place ps i ≡ f ∷ tail) × ((j : ℕ) → j < i → at_place ps j ≡ [])
first_place [] f fs e = absurd cc
first_place ((g ∷ gs) ∷ ps) f fs e =
    let same : g ≡ f = cc in (0, gs, ap (λ (x : TextFault). x ∷ gs) same, λ j lt. absurd (omega arith))
first_place ([] ∷ ps) f fs e =
    let (i, tail, at, none) = first_place ps f fs e in
    (suc i, tail, at, earlier i none)
  where
    earlier : (i : ℕ) → ((j : ℕ) → j < i → at_place ps j ≡ []) → (j : ℕ) → j < suc i → at_place ([] ∷ ps) j ≡ []
    earlier i none zero lt = refl
    earlier i none (suc j) lt = none j (omega arith)

joined_first : (ps : List (List TextFault)) (i : ℕ) (f : TextFault) (tail : List TextFault) → at_place ps i ≡ f ∷ tail
    → ((j : ℕ) → j < i → at_place ps j ≡ []) → (fs : List TextFault) × (joined ps ≡ f ∷ fs)
joined_first [] i f tail e none = absurd cc
joined_first (p ∷ ps) zero f tail e none = (tail ++ joined ps, ap (λ (x : List TextFault). x ++ joined ps) e)
joined_first (p ∷ ps) (suc i) f tail e none =
    let (fs, is) = joined_first ps i f tail e (λ j lt. none (suc j) (omega arith)) in
    (fs, ap (λ (x : List TextFault). x ++ joined ps) (none 0 (omega arith)) ∙ is)

joined_none : (ps : List (List TextFault)) (i : ℕ) → joined ps ≡ [] → at_place ps i ≡ []
joined_none [] i e = refl
joined_none ((f ∷ fs) ∷ ps) i e = absurd cc
joined_none ([] ∷ ps) zero e = refl
joined_none ([] ∷ ps) (suc i) e = joined_none ps i e

-- ---- the laws

answer-refused : (fs : List Finding) (f : TextFault) → answer_of fs ≡ Err f
    → (bs : List TextFault) × (breaches_in fs ≡ f ∷ bs)
unfolding answer_of
answer-refused fs f e =
    elim (breaches_in fs) as (λ bs.
    (let a : Result (List WordAt) TextFault = elim bs [ [] ↦ Ok (words_in fs) | b ∷ bs ↦ Err b ] in a) ≡ Err f
    → (rest : List TextFault) × (bs ≡ f ∷ rest)) [
      | [] ↦ λ no. absurd cc
      | b ∷ bs ↦ λ is. (bs, let same : b ≡ f = cc in ap (λ (x : TextFault). x ∷ bs) same)
    ] e

answer-accepted : (fs : List Finding) (ws : List WordAt) → answer_of fs ≡ Ok ws → breaches_in fs ≡ []
unfolding answer_of
answer-accepted fs ws e =
    elim (breaches_in fs) as (λ bs.
    (let a : Result (List WordAt) TextFault = elim bs [ [] ↦ Ok (words_in fs) | b ∷ bs ↦ Err b ] in a) ≡ Ok ws
    → bs ≡ []) [
      | [] ↦ λ is. refl
      | b ∷ bs ↦ λ no. absurd cc
    ] e

answer-first : (fs : List Finding) (f : TextFault) (bs : List TextFault) → breaches_in fs ≡ f ∷ bs
    → answer_of fs ≡ Err f
unfolding answer_of
answer-first fs f bs e =
    ap (λ (x : List TextFault). let a : Result (List WordAt) TextFault = elim x
    [ [] ↦ Ok (words_in fs) | b ∷ cs ↦ Err b ] in a) e

pub refusal_has_a_place : RefusalHasAPlace
unfolding words_of
refusal_has_a_place text r n e =
    let (bs, found) = answer-refused (found_in_text text) (Refused r n) e in
    let ps = breaches_by_place text in
    let (i, tail, at, none) = first_place ps (Refused r n) bs (joined-text text ∙ found) in
    let rising : Rises 0 (Refused r n ∷ tail) = subst (Rises 0) at (rises-at ps i (rises-text text)) in (
      i,
      record {
        broken = subst (λ (fs : List TextFault). Contains fs (Refused r n)) (sym at) (0, omega arith, refl);
        none_earlier =
            λ j q m lt c. nothing_in (Refused q m)
            (subst (λ (fs : List TextFault). Contains fs (Refused q m)) (none j lt) c);
        none_lower =
            λ q m c. lowest r n tail rising q m (subst (λ (fs : List TextFault). Contains fs (Refused q m)) at c);
      },
    )
  where
    lowest : (r : TextRule) (n : ℕ) (tail : List TextFault) → Rises 0 (Refused r n ∷ tail) → (q : TextRule) (m : ℕ)
        → Contains (Refused r n ∷ tail) (Refused q m) → rule_number r ≤ rule_number q
    lowest r n tail h q m (zero, lt, e) =
        let same : r ≡ q = cc in subst (λ (x : TextRule). rule_number r ≤ rule_number x) same (omega arith)
    lowest r n tail h q m (suc k, lt, e) =
        let over = above (rule_number r) tail q m h.1 (k, omega arith, e) in omega (arith, over)

pub refusal_is_answered : RefusalIsAnswered
unfolding words_of
refusal_is_answered text i r n h =
    let ps = breaches_by_place text in
    let (tail, at) = lowest_place 0 (at_place ps i) r n (rises-at ps i (rises-text text)) h.broken h.none_lower in
    let none : (j : ℕ) → j < i → at_place ps j ≡ [] =
    λ j lt. empty_place 0 (at_place ps j) (rises-at ps j (rises-text text)) (λ q m c. h.none_earlier j q m lt c) in
    let (bs, found) = joined_first ps i (Refused r n) tail at none in
    answer-first (found_in_text text) (Refused r n) bs (sym (joined-text text) ∙ found)

pub words_break_no_rule : WordsBreakNoRule
unfolding words_of
words_break_no_rule text ws e i r n c =
    let none = joined_none (breaches_by_place text) i (joined-text text ∙ answer-accepted (found_in_text text) ws e) in
    nothing_in (Refused r n) (subst (λ (fs : List TextFault). Contains fs (Refused r n)) none c)
