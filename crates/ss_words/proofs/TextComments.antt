-- Comments, and the contents of the rest of a line after a call of a picture.
use Rattle.std.proofs.Common.{◌≡◌, ℕ, suc, ◌+◌, ◌<◌, ◌≤◌, Bool, true, false, ◌==◌, ◌&&◌, ◌||◌, not, nat_le, List, []}
use Rattle.std.proofs.Common.{◌∷◌, ◌++◌, take, drop, length, get_or, Some, refl, sym, ap, ◌∙◌, subst, arith, inl, inr}
use Rattle.std.specs.Prelude.{slice_index, is_some}
use Rattle.std.specs.List.{take_while, list_all}
use Rattle.std.proofs.lemmas.List.{drop_more}
use Rattle.std.proofs.lemmas.Bool.Decides.{nat_tests}
use Rattle.ss_words.specs.declared.fault.TextRule.TheVariants.{StrayByte}
use Rattle.ss_words.specs.declared.fault.TextFault.TheVariants.{Refused}
use Rattle.ss_words.specs.Words.{Kind}
use Rattle.ss_words.specs.TextBytes.{in_run, is_blank, is_stray, is_joined, is_allowed, one_byte_sign, sign_from}
use Rattle.ss_words.specs.TextLines.{with_blank_comments, comment_count, is_blank_rest}
use Rattle.ss_words.specs.TextWords.{breach_if, begun_at, found_at, found_from_place, found_in_line}
use Rattle.ss_words.specs.TextScan.{begins_comment, hidden_len, first_breach}
use Rattle.ss_words.proofs.TextBytesLemmas.{eqb-same, eqb-not, is_blank-cases}
use Rattle.ss_words.proofs.TextCuts.{take_while-yes, take_while-no}
use Rattle.ss_words.proofs.TextPlaces.{and-left, and-right, blanked-plain, begins_comment-other, from-here, place-stray}

-- a comment that begins has two bytes
pub begins_comment-len : (line : List ℕ) → begins_comment line ≡ true → 2 ≤ length line
unfolding begins_comment
begins_comment-len [] h = absurd cc
begins_comment-len (b ∷ []) h = absurd cc
begins_comment-len (b ∷ c ∷ bs) h = omega arith

pub hidden_len-none : hidden_len [] ≡ 0
unfolding hidden_len
hidden_len-none = refl

hidden_len-cons : (b : ℕ) (bs : List ℕ) → begins_comment (b ∷ bs) ≡ false → hidden_len (b ∷ bs) ≡ suc (hidden_len bs)
unfolding hidden_len begins_comment
hidden_len-cons b [] h = refl
hidden_len-cons b (c ∷ bs) h = ap (λ (t : Bool). elim t [ true ↦ 2 | false ↦ suc (hidden_len (c ∷ bs)) ]) h

-- a byte that ends no comment
pub hidden_len-more : (line : List ℕ) (i : ℕ) → i < length line → begins_comment (drop i line) ≡ false
    → hidden_len (drop i line) ≡ suc (hidden_len (drop (i + 1) line))
hidden_len-more line i within h =
    let e = drop_more line i 0 within in
    ap hidden_len e ∙ hidden_len-cons (get_or line i 0) (drop (i + 1) line) (ap begins_comment (sym e) ∙ h)

-- two quotes end a comment
pub hidden_len-end : (line : List ℕ) → begins_comment line ≡ true → hidden_len line ≡ 2
unfolding hidden_len begins_comment
hidden_len-end [] h = absurd cc
hidden_len-end (b ∷ []) h = absurd cc
hidden_len-end (b ∷ c ∷ bs) h = ap (λ (t : Bool). elim t [ true ↦ 2 | false ↦ suc (hidden_len (c ∷ bs)) ]) h

-- a line of number n with `below` lines below it
module _ (n below : ℕ) where
  hidden_at : (before : List Kind) (b : ℕ) (bs ps : List ℕ)
      → found_at n below before 32 (b ∷ bs) (32 ∷ ps) ≡ breach_if StrayByte n (not (is_allowed b))
  unfolding found_at begun_at is_stray is_joined is_blank in_run one_byte_sign sign_from
  hidden_at before b bs ps =
      elim (is_allowed b) as (λ t. breach_if StrayByte n (not (t && true)) ++ [] ≡ breach_if StrayByte n (not t))
      [ true ↦ refl | false ↦ refl ]

  -- an allowed byte of a comment gives nothing
  hidden_on : (before : List Kind) (b : ℕ) (bs ps : List ℕ) → is_allowed b ≡ true
      → found_from_place n below before 32 (b ∷ bs) (32 ∷ ps) ≡ found_from_place n below before 32 bs ps
  hidden_on before b bs ps allowed =
      from-here n below before 32 b bs 32 ps []
      (hidden_at before b bs ps ∙ ap (λ (t : Bool). breach_if StrayByte n (not t)) allowed)

  hidden_stray : (before : List Kind) (b : ℕ) (bs ps : List ℕ) → is_allowed b ≡ false
      → first_breach (found_from_place n below before 32 (b ∷ bs) (32 ∷ ps)) ≡ Some (Refused StrayByte n)
  unfolding is_stray
  hidden_stray before b bs ps stray =
      place-stray n below before 32 b bs 32 ps
      (ap (λ (t : Bool). not (t && (in_run 32 || is_blank 32 || is_some (one_byte_sign 32)))) stray)

  -- the bytes of a comment give nothing if each is allowed
  hidden-pass : (before : List Kind) (bs : List ℕ) → list_all is_allowed (take (hidden_len bs) bs) ≡ true
      → found_from_place n below before 32 bs (with_blank_comments true bs)
      ≡ found_in_line n below before (drop (hidden_len bs) bs)
  unfolding hidden_len with_blank_comments found_from_place
  hidden-pass before [] all = refl
  hidden-pass before (b ∷ []) all = hidden_on before b [] [] (and-left (is_allowed b) true all)
  hidden-pass before (b ∷ c ∷ bs) all =
      elim (b == 39 && c == 39) as (λ t. list_all is_allowed
      (take (elim t [ true ↦ 2 | false ↦ suc (hidden_len (c ∷ bs)) ]) (b ∷ c ∷ bs)) ≡ true
      → found_from_place n below before 32 (b ∷ c ∷ bs)
      (elim t [ true ↦ 32 ∷ 32 ∷ with_blank_comments false bs | false ↦ 32 ∷ with_blank_comments true (c ∷ bs) ])
      ≡ found_in_line n below before (drop (elim t [ true ↦ 2 | false ↦ suc (hidden_len (c ∷ bs)) ]) (b ∷ c ∷ bs))) [
        | true ↦ λ two. hidden_on before b (c ∷ bs) (32 ∷ with_blank_comments false bs)
            (and-left (is_allowed b) (is_allowed c && true) two)
            ∙ hidden_on before c bs (with_blank_comments false bs)
            (and-left (is_allowed c) true (and-right (is_allowed b) (is_allowed c && true) two))
        | false ↦ λ more.
            hidden_on before b (c ∷ bs) (with_blank_comments true (c ∷ bs)) (and-left (is_allowed b) _ more)
            ∙ hidden-pass before (c ∷ bs) (and-right (is_allowed b) _ more)
      ] all

  stray_or_later : (before : List Kind) (b : ℕ) (bs ps : List ℕ) (rest : Bool) → (is_allowed b && rest) ≡ false
      → (rest ≡ false → first_breach (found_from_place n below before 32 bs ps) ≡ Some (Refused StrayByte n))
      → first_breach (found_from_place n below before 32 (b ∷ bs) (32 ∷ ps)) ≡ Some (Refused StrayByte n)
  stray_or_later before b bs ps rest some later =
      elim (is_allowed b) as (λ t. is_allowed b ≡ t → (t && rest) ≡ false
      → first_breach (found_from_place n below before 32 (b ∷ bs) (32 ∷ ps)) ≡ Some (Refused StrayByte n)) [
        | true ↦ λ allowed behind. ap first_breach (hidden_on before b bs ps allowed) ∙ later behind
        | false ↦ λ stray here. hidden_stray before b bs ps stray
      ] refl some

  -- a byte of a comment that is not allowed is the first breach
  hidden-first : (before : List Kind) (bs : List ℕ) → list_all is_allowed (take (hidden_len bs) bs) ≡ false
      → first_breach (found_from_place n below before 32 bs (with_blank_comments true bs)) ≡ Some (Refused StrayByte n)
  unfolding hidden_len with_blank_comments
  hidden-first before [] some = absurd cc
  hidden-first before (b ∷ []) some = stray_or_later before b [] [] true some (λ never. absurd cc)
  hidden-first before (b ∷ c ∷ bs) some =
      elim (b == 39 && c == 39) as (λ t. list_all is_allowed
      (take (elim t [ true ↦ 2 | false ↦ suc (hidden_len (c ∷ bs)) ]) (b ∷ c ∷ bs)) ≡ false
      → first_breach (found_from_place n below before 32 (b ∷ c ∷ bs)
      (elim t [ true ↦ 32 ∷ 32 ∷ with_blank_comments false bs | false ↦ 32 ∷ with_blank_comments true (c ∷ bs) ]))
      ≡ Some (Refused StrayByte n)) [
        | true ↦ λ two. stray_or_later before b (c ∷ bs) (32 ∷ with_blank_comments false bs) (is_allowed c && true) two
            (λ second. stray_or_later before c bs (with_blank_comments false bs) true second (λ never. absurd cc))
        | false ↦ λ more. stray_or_later before b (c ∷ bs) (with_blank_comments true (c ∷ bs))
            (list_all is_allowed (take (hidden_len (c ∷ bs)) (c ∷ bs))) more
            (λ later. hidden-first before (c ∷ bs) later)
      ] some

  opened : (before : List Kind) (bs : List ℕ)
      → found_in_line n below before (39 ∷ 39 ∷ bs)
      ≡ found_from_place n below before 32 bs (with_blank_comments true bs)
  unfolding found_from_place found_at begun_at is_stray is_joined is_allowed is_blank in_run one_byte_sign sign_from
      with_blank_comments
  opened before bs = refl

  comment-pass : (before : List Kind) (bs : List ℕ) (len : ℕ) → len ≡ suc (suc (hidden_len bs))
      → list_all is_allowed (take len (39 ∷ 39 ∷ bs)) ≡ true
      → found_in_line n below before (39 ∷ 39 ∷ bs) ≡ found_in_line n below before (drop len (39 ∷ 39 ∷ bs))
  unfolding is_allowed
  comment-pass before bs len size all =
      opened before bs
      ∙ hidden-pass before bs (ap (λ (k : ℕ). list_all is_allowed (take k (39 ∷ 39 ∷ bs))) (sym size) ∙ all)
      ∙ ap (λ (k : ℕ). found_in_line n below before (drop k (39 ∷ 39 ∷ bs))) (sym size)

  comment-first : (before : List Kind) (bs : List ℕ) (len : ℕ) → len ≡ suc (suc (hidden_len bs))
      → list_all is_allowed (take len (39 ∷ 39 ∷ bs)) ≡ false
      → first_breach (found_in_line n below before (39 ∷ 39 ∷ bs)) ≡ Some (Refused StrayByte n)
  unfolding is_allowed
  comment-first before bs len size some =
      ap first_breach (opened before bs)
      ∙ hidden-first before bs (ap (λ (k : ℕ). list_all is_allowed (take k (39 ∷ 39 ∷ bs))) (sym size) ∙ some)

-- a comment begins with two quotes
quotes : (line : List ℕ) → begins_comment line ≡ true → (bs : List ℕ) × (line ≡ 39 ∷ 39 ∷ bs)
unfolding begins_comment
quotes [] h = absurd cc
quotes (b ∷ []) h = absurd cc
quotes (b ∷ c ∷ bs) h = (
  bs,
  ap (λ (x : ℕ). x ∷ c ∷ bs) (eqb-same b 39 (and-left _ _ h))
      ∙ ap (λ (x : ℕ). 39 ∷ x ∷ bs) (eqb-same c 39 (and-right (b == 39) _ h)),
)

two_more : (len k : ℕ) → len ≡ 2 + k → len ≡ suc (suc k)
two_more len k e = omega arith

-- a comment whose bytes are allowed gives nothing
pub found-comment : (n below : ℕ) (before : List Kind) (line : List ℕ) (len : ℕ) → begins_comment line ≡ true
    → len ≡ 2 + hidden_len (drop 2 line) → list_all is_allowed (take len line) ≡ true
    → found_in_line n below before line ≡ found_in_line n below before (drop len line)
found-comment n below before line len begins size all =
    let q = quotes line begins in
    let P : List ℕ → Type 0 =
    λ l. len ≡ 2 + hidden_len (drop 2 l) → list_all is_allowed (take len l) ≡ true
    → found_in_line n below before l ≡ found_in_line n below before (drop len l) in
    subst P (sym q.1) (λ s a. comment-pass n below before q.0 len (two_more len (hidden_len q.0) s) a) size all

-- a byte of a comment that is not allowed is the first breach
pub first-comment : (n below : ℕ) (before : List Kind) (line : List ℕ) (len : ℕ) → begins_comment line ≡ true
    → len ≡ 2 + hidden_len (drop 2 line) → list_all is_allowed (take len line) ≡ false
    → first_breach (found_in_line n below before line) ≡ Some (Refused StrayByte n)
first-comment n below before line len begins size some =
    let q = quotes line begins in
    let P : List ℕ → Type 0 =
    λ l. len ≡ 2 + hidden_len (drop 2 l) → list_all is_allowed (take len l) ≡ false
    → first_breach (found_in_line n below before l) ≡ Some (Refused StrayByte n) in
    subst P (sym q.1) (λ s a. comment-first n below before q.0 len (two_more len (hidden_len q.0) s) a) size some

-- the rest of a line after the blanks at its front
abbrev pub behind_blanks : List ℕ → List ℕ
behind_blanks line = drop (length (take_while is_blank line)) line

behind_blanks-yes : (b : ℕ) (bs : List ℕ) → is_blank b ≡ true → behind_blanks (b ∷ bs) ≡ behind_blanks bs
behind_blanks-yes b bs h = ap (λ (r : List ℕ). drop (length r) (b ∷ bs)) (take_while-yes is_blank b bs h)

behind_blanks-no : (b : ℕ) (bs : List ℕ) → is_blank b ≡ false → behind_blanks (b ∷ bs) ≡ b ∷ bs
behind_blanks-no b bs h = ap (λ (r : List ℕ). drop (length r) (b ∷ bs)) (take_while-no is_blank b bs h)

is_blank-blank : is_blank 32 ≡ true
unfolding is_blank
is_blank-blank = refl

is_blank-none : is_blank 0 ≡ false
unfolding is_blank
is_blank-none = refl

no_quote : (b : ℕ) → is_blank b ≡ true → (b == 39) ≡ false
no_quote b h =
    elim (is_blank-cases b h) [ inl same ↦ ap (λ (x : ℕ). x == 39) same | inr same ↦ ap (λ (x : ℕ). x == 39) same ]

comments-plain : (b : ℕ) (bs : List ℕ) → begins_comment (b ∷ bs) ≡ false → comment_count false (b ∷ bs)
    ≡ comment_count false bs
unfolding comment_count begins_comment
comments-plain b [] h = refl
comments-plain b (c ∷ bs) h =
    ap (λ (t : Bool). elim t [ true ↦ 1 + comment_count true bs | false ↦ comment_count false (c ∷ bs) ]) h

comments-begun : (b c : ℕ) (bs : List ℕ) → begins_comment (b ∷ c ∷ bs) ≡ true
    → comment_count false (b ∷ c ∷ bs) ≡ 1 + comment_count true bs
unfolding comment_count begins_comment
comments-begun b c bs h = ap
    (λ (t : Bool). elim t [ true ↦ 1 + comment_count true bs | false ↦ comment_count false (c ∷ bs) ]) h

-- only blanks and comments, and with the k comments before them at most one comment
abbrev holds_only : ℕ → List ℕ → Bool
holds_only k rest = list_all is_blank (with_blank_comments false rest) && nat_le (k + comment_count false rest) 1

zero_add : (k : ℕ) → 0 + k ≡ k
zero_add k = omega arith

is_blank_rest-holds : (rest : List ℕ) → is_blank_rest rest ≡ holds_only 0 rest
unfolding is_blank_rest
is_blank_rest-holds rest =
    ap (λ (k : ℕ). list_all is_blank (with_blank_comments false rest) && nat_le k 1)
    (sym (zero_add (comment_count false rest)))

holds_only-blank : (k b : ℕ) (bs : List ℕ) → is_blank b ≡ true → holds_only k (b ∷ bs) ≡ holds_only k bs
holds_only-blank k b bs h =
    let plain = begins_comment-other b bs (no_quote b h) in
    ap (λ (l : List ℕ). list_all is_blank l && nat_le (k + comment_count false (b ∷ bs)) 1) (blanked-plain b bs plain)
    ∙ ap (λ (t : Bool).
    (t && list_all is_blank (with_blank_comments false bs)) && nat_le (k + comment_count false (b ∷ bs)) 1) h
    ∙ ap (λ (m : ℕ). list_all is_blank (with_blank_comments false bs) && nat_le (k + m) 1) (comments-plain b bs plain)

holds_only-other : (k b : ℕ) (bs : List ℕ) → is_blank b ≡ false → begins_comment (b ∷ bs) ≡ false
    → holds_only k (b ∷ bs) ≡ false
holds_only-other k b bs h plain =
    ap (λ (l : List ℕ). list_all is_blank l && nat_le (k + comment_count false (b ∷ bs)) 1) (blanked-plain b bs plain)
    ∙ ap (λ (t : Bool).
    (t && list_all is_blank (with_blank_comments false bs)) && nat_le (k + comment_count false (b ∷ bs)) 1) h

holds_only-none : holds_only 0 [] ≡ true
unfolding with_blank_comments comment_count
holds_only-none = refl

holds_only-none_more : holds_only 1 [] ≡ true
unfolding with_blank_comments comment_count
holds_only-none_more = refl

-- blanks at the front do not matter
holds_only-blanks : (k : ℕ) (rest : List ℕ) → holds_only k rest ≡ holds_only k (behind_blanks rest)
holds_only-blanks k [] = refl
holds_only-blanks k (b ∷ bs) =
    elim (is_blank b) as (λ t. is_blank b ≡ t → holds_only k (b ∷ bs) ≡ holds_only k (behind_blanks (b ∷ bs))) [
      | true ↦ λ h. holds_only-blank k b bs h ∙ holds_only-blanks k bs
          ∙ ap (holds_only k) (sym (behind_blanks-yes b bs h))
      | false ↦ λ h. ap (holds_only k) (sym (behind_blanks-no b bs h))
    ] refl

-- no blank follows directly after the blanks
behind_blanks-head : (rest : List ℕ) → is_blank (slice_index (behind_blanks rest) 0) ≡ false
behind_blanks-head [] = is_blank-none
behind_blanks-head (b ∷ bs) =
    elim (is_blank b) as (λ t. is_blank b ≡ t → is_blank (slice_index (behind_blanks (b ∷ bs)) 0) ≡ false) [
      | true ↦ λ h. ap (λ (l : List ℕ). is_blank (slice_index l 0)) (behind_blanks-yes b bs h) ∙ behind_blanks-head bs
      | false ↦ λ h. ap (λ (l : List ℕ). is_blank (slice_index l 0)) (behind_blanks-no b bs h) ∙ h
    ] refl

-- without a comment the rest after the blanks is empty or the line is not bare
some_length : (bs : List ℕ) → (suc (length bs) == 0) ≡ false
some_length bs = eqb-not (suc (length bs)) 0 (λ e. omega arith)

no_length : (bs : List ℕ) → (0 == suc (length bs)) ≡ false
no_length bs = eqb-not 0 (suc (length bs)) (λ e. omega arith)

holds_only-plain : (rest : List ℕ) → is_blank (slice_index rest 0) ≡ false → begins_comment rest ≡ false
    → holds_only 0 rest ≡ (length rest == 0)
holds_only-plain [] head plain = holds_only-none
holds_only-plain (b ∷ bs) head plain = holds_only-other 0 b bs head plain ∙ sym (some_length bs)

pub is_blank_rest-plain : (rest behind : List ℕ) → behind ≡ behind_blanks rest → begins_comment behind ≡ false
    → is_blank_rest rest ≡ (length behind == 0)
is_blank_rest-plain rest behind e plain =
    is_blank_rest-holds rest ∙ holds_only-blanks 0 rest ∙ ap (holds_only 0) (sym e)
    ∙ holds_only-plain behind (ap (λ (l : List ℕ). is_blank (slice_index l 0)) e ∙ behind_blanks-head rest) plain

hidden-blanked : (bs : List ℕ)
    → list_all is_blank (with_blank_comments true bs)
    ≡ list_all is_blank (with_blank_comments false (drop (hidden_len bs) bs))
unfolding hidden_len with_blank_comments
hidden-blanked [] = refl
hidden-blanked (b ∷ []) = ap (λ (t : Bool). t && true) is_blank-blank
hidden-blanked (b ∷ c ∷ bs) =
    elim (b == 39 && c == 39) as (λ t. list_all is_blank
    (elim t [ true ↦ 32 ∷ 32 ∷ with_blank_comments false bs | false ↦ 32 ∷ with_blank_comments true (c ∷ bs) ])
    ≡ list_all is_blank
    (with_blank_comments false (drop (elim t [ true ↦ 2 | false ↦ suc (hidden_len (c ∷ bs)) ]) (b ∷ c ∷ bs)))) [
      | true ↦ ap (λ (t : Bool). t && (t && list_all is_blank (with_blank_comments false bs))) is_blank-blank
      | false ↦ ap (λ (t : Bool). t && list_all is_blank (with_blank_comments true (c ∷ bs))) is_blank-blank
          ∙ hidden-blanked (c ∷ bs)
    ]

hidden-comments : (bs : List ℕ) → comment_count true bs ≡ comment_count false (drop (hidden_len bs) bs)
unfolding hidden_len comment_count
hidden-comments [] = refl
hidden-comments (b ∷ []) = refl
hidden-comments (b ∷ c ∷ bs) =
    elim (b == 39 && c == 39) as
    (λ t. (elim t [ true ↦ 0 + comment_count false bs | false ↦ comment_count true (c ∷ bs) ])
    ≡ comment_count false (drop (elim t [ true ↦ 2 | false ↦ suc (hidden_len (c ∷ bs)) ]) (b ∷ c ∷ bs))) [
      | true ↦ zero_add (comment_count false bs)
      | false ↦ hidden-comments (c ∷ bs)
    ]

-- a comment at the front counts, and the bytes after it remain
holds_only-comment : (bs : List ℕ) → holds_only 0 (39 ∷ 39 ∷ bs) ≡ holds_only 1 (drop (hidden_len bs) bs)
unfolding with_blank_comments comment_count
holds_only-comment bs =
    ap (λ (t : Bool).
    (t && (t && list_all is_blank (with_blank_comments true bs))) && nat_le (0 + (1 + comment_count true bs)) 1)
    is_blank-blank
    ∙ ap (λ (m : ℕ). list_all is_blank (with_blank_comments true bs) && nat_le m 1)
    (zero_add (1 + comment_count true bs))
    ∙ ap (λ (t : Bool). t && nat_le (1 + comment_count true bs) 1) (hidden-blanked bs)
    ∙ ap (λ (m : ℕ). list_all is_blank (with_blank_comments false (drop (hidden_len bs) bs)) && nat_le (1 + m) 1)
    (hidden-comments bs)

too_many : (k : ℕ) → nat_le (1 + (1 + k)) 1 ≡ false
too_many k = grind (arith, nat_tests)

and_false : (t : Bool) → (t && false) ≡ false
and_false true = refl
and_false false = refl

holds_only-second : (bs : List ℕ) → begins_comment bs ≡ true → holds_only 1 bs ≡ false
unfolding begins_comment
holds_only-second [] h = absurd cc
holds_only-second (b ∷ []) h = absurd cc
holds_only-second (b ∷ c ∷ bs) h =
    ap (λ (m : ℕ). list_all is_blank (with_blank_comments false (b ∷ c ∷ bs)) && nat_le (1 + m) 1)
    (comments-begun b c bs h)
    ∙ ap (λ (t : Bool). list_all is_blank (with_blank_comments false (b ∷ c ∷ bs)) && t)
    (too_many (comment_count true bs))
    ∙ and_false (list_all is_blank (with_blank_comments false (b ∷ c ∷ bs)))

same_more : (a b : ℕ) → (a == b) ≡ (suc a == suc b)
same_more a b = grind (arith, nat_tests)

-- after one comment only blanks are allowed
holds_only-last : (rest : List ℕ) → holds_only 1 rest ≡ (length (take_while is_blank rest) == length rest)
holds_only-last [] = holds_only-none_more
holds_only-last (b ∷ bs) =
    elim (is_blank b) as (λ t. is_blank b ≡ t
    → holds_only 1 (b ∷ bs) ≡ (length (take_while is_blank (b ∷ bs)) == length (b ∷ bs))) [
      | true ↦ λ h. holds_only-blank 1 b bs h ∙ holds_only-last bs ∙ same_more _ _
          ∙ ap (λ (l : List ℕ). length l == length (b ∷ bs)) (sym (take_while-yes is_blank b bs h))
      | false ↦ λ h. (elim (begins_comment (b ∷ bs))
          as (λ t. begins_comment (b ∷ bs) ≡ t → holds_only 1 (b ∷ bs) ≡ false) [
            | true ↦ λ second. holds_only-second (b ∷ bs) second
            | false ↦ λ plain. holds_only-other 1 b bs h plain
          ] refl) ∙ sym (no_length bs)
          ∙ ap (λ (l : List ℕ). length l == length (b ∷ bs)) (sym (take_while-no is_blank b bs h))
    ] refl

pub is_blank_rest-comment : (rest behind : List ℕ) (len : ℕ) (last : List ℕ) → behind ≡ behind_blanks rest
    → begins_comment behind ≡ true → len ≡ 2 + hidden_len (drop 2 behind) → last ≡ drop len behind
    → is_blank_rest rest ≡ (length (take_while is_blank last) == length last)
is_blank_rest-comment rest behind len last e begins size is =
    let q = quotes behind begins in
    let P : List ℕ → Type 0 =
    λ l. len ≡ 2 + hidden_len (drop 2 l) → last ≡ drop len l
    → holds_only 0 l ≡ (length (take_while is_blank last) == length last) in
    is_blank_rest-holds rest ∙ holds_only-blanks 0 rest ∙ ap (holds_only 0) (sym e)
    ∙ subst P (sym q.1) (λ s l. holds_only-comment q.0
    ∙ ap (holds_only 1) (sym (l ∙ ap (λ (k : ℕ). drop k (39 ∷ 39 ∷ q.0)) (two_more len (hidden_len q.0) s)))
    ∙ holds_only-last last) size is
