-- The findings from a place of a line on: a blank, a run or a sign, and then the rest.
use Rattle.std.proofs.Common.{◌≡◌, ℕ, suc, ◌<◌, ◌≤◌, Bool, true, false, ◌==◌, ◌&&◌, ◌||◌, cond, List, [], ◌∷◌, ◌++◌}
use Rattle.std.proofs.Common.{take, drop, length, Option, Some, None, ◌⊎◌, inl, inr, refl, sym, ap, ◌∙◌, subst, arith}
use Rattle.std.specs.Prelude.{slice_index, is_some}
use Rattle.std.specs.List.{take_while}
use Rattle.std.proofs.lemmas.List.Folds.{length-prefix_len}
use Rattle.ss_words.specs.declared.word.Sign.{Sign}
use Rattle.ss_words.specs.declared.word.Sign.TheVariants.{Plus, Minus, Star, Open, Close, Comma, Equal, Less, Greater}
use Rattle.ss_words.specs.declared.word.Sign.TheVariants.{LessEqual, GreaterEqual}
use Rattle.ss_words.specs.declared.fault.TextRule.TheVariants.{StrayByte}
use Rattle.ss_words.specs.declared.fault.TextFault.TheVariants.{Refused}
use Rattle.ss_words.specs.Words.{Kind, sign}
use Rattle.ss_words.specs.TextBytes.{in_run, is_blank, is_stray, is_joined, is_allowed, one_byte_sign, sign_from}
use Rattle.ss_words.specs.TextBytes.{sign_len}
use Rattle.ss_words.specs.TextLines.{with_blank_comments}
use Rattle.ss_words.specs.TextWords.{Finding, word, breach_if, nearest_first, sign_found, on_line, run_found, begun_at}
use Rattle.ss_words.specs.TextWords.{found_at, found_from_place, found_in_line}
use Rattle.ss_words.specs.TextScan.{begins_comment, first_breach}
use Rattle.ss_words.proofs.TextBytesLemmas.{eqb-same, eqb-run, is_blank-cases, is_stray-run, is_stray-sign}
use Rattle.ss_words.proofs.TextBytesLemmas.{is_stray-other, is_joined-run}
use Rattle.ss_words.proofs.TextFinds.{first_breach-front}
use Rattle.ss_words.proofs.TextCuts.{take_while-yes, take_while-no}

pub and-left : (a b : Bool) → (a && b) ≡ true → a ≡ true
and-left true b h = refl
and-left false b h = absurd cc

pub and-right : (a b : Bool) → (a && b) ≡ true → b ≡ true
and-right true b h = h
and-right false b h = absurd cc

-- a line that begins with no comment keeps its first byte
pub blanked-plain : (b : ℕ) (bs : List ℕ) → begins_comment (b ∷ bs) ≡ false
    → with_blank_comments false (b ∷ bs) ≡ b ∷ with_blank_comments false bs
unfolding with_blank_comments begins_comment
blanked-plain b [] h = refl
blanked-plain b (c ∷ bs) h =
    ap (λ (t : Bool).
    elim t [ true ↦ 32 ∷ 32 ∷ with_blank_comments true bs | false ↦ b ∷ with_blank_comments false (c ∷ bs) ]) h

pub begins_comment-other : (b : ℕ) (bs : List ℕ) → (b == 39) ≡ false → begins_comment (b ∷ bs) ≡ false
unfolding begins_comment
begins_comment-other b [] h = refl
begins_comment-other b (c ∷ bs) h = ap (λ (t : Bool). t && c == 39) h

in_run-quote : in_run 39 ≡ false
unfolding in_run
in_run-quote = refl

in_run-blank : in_run 32 ≡ false
unfolding in_run
in_run-blank = refl

run_no_quote : (b : ℕ) → in_run b ≡ true → (b == 39) ≡ false
run_no_quote b h = eqb-run b 39 h in_run-quote

blanked-run : (b : ℕ) (bs : List ℕ) → in_run b ≡ true → with_blank_comments false (b ∷ bs)
    ≡ b ∷ with_blank_comments false bs
blanked-run b bs h = blanked-plain b bs (begins_comment-other b bs (run_no_quote b h))

-- a place at which no run begins begins none with its comments made blank
in_run-blanked : (b : ℕ) (bs : List ℕ) → in_run b ≡ false → in_run (slice_index (with_blank_comments false (b ∷ bs)) 0)
    ≡ false
unfolding with_blank_comments
in_run-blanked b [] h = h
in_run-blanked b (c ∷ bs) h =
    elim (b == 39 && c == 39) as (λ t. in_run
    (slice_index (elim t [
      | true ↦ 32 ∷ 32 ∷ with_blank_comments true bs
      | false ↦ b
          ∷ with_blank_comments false (c ∷ bs)
    ]) 0) ≡ false)
    [ true ↦ in_run-blank | false ↦ h ]

take_while-none : (xs : List ℕ) → in_run (slice_index xs 0) ≡ false → take_while in_run xs ≡ []
take_while-none [] h = refl
take_while-none (x ∷ xs) h = take_while-no in_run x xs h

-- the rest of a line after the run at its front
abbrev pub behind_run : List ℕ → List ℕ
behind_run line = drop (length (take_while in_run line)) line

behind_run-yes : (b : ℕ) (bs : List ℕ) → in_run b ≡ true → behind_run (b ∷ bs) ≡ behind_run bs
behind_run-yes b bs h = ap (λ (r : List ℕ). drop (length r) (b ∷ bs)) (take_while-yes in_run b bs h)

behind_run-no : (b : ℕ) (bs : List ℕ) → in_run b ≡ false → behind_run (b ∷ bs) ≡ b ∷ bs
behind_run-no b bs h = ap (λ (r : List ℕ). drop (length r) (b ∷ bs)) (take_while-no in_run b bs h)

-- the run at the front is the same with the comments made blank
take_while-blanked : (line : List ℕ) → take_while in_run (with_blank_comments false line) ≡ take_while in_run line
unfolding with_blank_comments
take_while-blanked [] = refl
take_while-blanked (b ∷ bs) =
    elim (in_run b) as
    (λ t. in_run b ≡ t → take_while in_run (with_blank_comments false (b ∷ bs)) ≡ take_while in_run (b ∷ bs)) [
      | true ↦ λ h. ap (take_while in_run) (blanked-run b bs h)
          ∙ take_while-yes in_run b (with_blank_comments false bs) h
          ∙ ap (λ (r : List ℕ). b ∷ r) (take_while-blanked bs) ∙ sym (take_while-yes in_run b bs h)
      | false ↦ λ h. take_while-none (with_blank_comments false (b ∷ bs)) (in_run-blanked b bs h)
          ∙ sym (take_while-no in_run b bs h)
    ] refl

-- as many bytes as the run has are the run
pub take-run : (line : List ℕ) → take (length (take_while in_run line)) line ≡ take_while in_run line
take-run line = ap (λ (n : ℕ). take n line) (length-prefix_len in_run line)

joined-blank : (p : ℕ) → is_joined 32 p ≡ false
unfolding is_joined in_run
joined-blank p = refl

-- a line of number n with `below` lines below it
module _ (n below : ℕ) where
  pub from-here : (before : List Kind) (last b : ℕ) (bs : List ℕ) (p : ℕ) (ps : List ℕ) (here : List Finding)
      → found_at n below before last (b ∷ bs) (p ∷ ps) ≡ here
      → found_from_place n below before last (b ∷ bs) (p ∷ ps)
      ≡ here ++ found_from_place n below (nearest_first here before) p bs ps
  unfolding found_from_place
  from-here before last b bs p ps here e =
      ap (λ (h : List Finding). h ++ found_from_place n below (nearest_first h before) p bs ps) e

  found_at-joined : (before : List Kind) (last b : ℕ) (bs : List ℕ) (p : ℕ) (ps : List ℕ) → is_stray b p ≡ false
      → is_joined last p ≡ true → found_at n below before last (b ∷ bs) (p ∷ ps) ≡ []
  unfolding found_at
  found_at-joined before last b bs p ps plain joined =
      ap (λ (t : Bool). breach_if StrayByte n t
      ++ (elim (is_joined last p) [ true ↦ [] | false ↦ begun_at n below before (b ∷ bs) (p ∷ ps) ])) plain
      ∙ ap (λ (t : Bool). elim t [ true ↦ [] | false ↦ begun_at n below before (b ∷ bs) (p ∷ ps) ]) joined

  found_at-begun : (before : List Kind) (last b : ℕ) (bs : List ℕ) (p : ℕ) (ps : List ℕ) → is_stray b p ≡ false
      → is_joined last p ≡ false → found_at n below before last (b ∷ bs) (p ∷ ps)
      ≡ begun_at n below before (b ∷ bs) (p ∷ ps)
  unfolding found_at
  found_at-begun before last b bs p ps plain apart =
      ap (λ (t : Bool). breach_if StrayByte n t
      ++ (elim (is_joined last p) [ true ↦ [] | false ↦ begun_at n below before (b ∷ bs) (p ∷ ps) ])) plain
      ∙ ap (λ (t : Bool). elim t [ true ↦ [] | false ↦ begun_at n below before (b ∷ bs) (p ∷ ps) ]) apart

  found_at-fresh : (before : List Kind) (last b : ℕ) (bs : List ℕ) (p : ℕ) (ps : List ℕ) → is_joined last p ≡ false
      → found_at n below before last (b ∷ bs) (p ∷ ps) ≡ found_at n below before 32 (b ∷ bs) (p ∷ ps)
  unfolding found_at
  found_at-fresh before last b bs p ps apart =
      ap (λ (t : Bool). breach_if StrayByte n (is_stray b p)
      ++ (elim t [ true ↦ [] | false ↦ begun_at n below before (b ∷ bs) (p ∷ ps) ])) (apart ∙ sym (joined-blank p))

  -- if a place is not joined to the byte before it, that byte does not matter
  pub fresh : (before : List Kind) (last : ℕ) (line plain : List ℕ) → is_joined last (slice_index plain 0) ≡ false
      → found_from_place n below before last line plain ≡ found_from_place n below before 32 line plain
  unfolding found_from_place
  fresh before last [] plain apart = refl
  fresh before last (b ∷ bs) [] apart = refl
  fresh before last (b ∷ bs) (p ∷ ps) apart =
      from-here before last b bs p ps (found_at n below before 32 (b ∷ bs) (p ∷ ps))
      (found_at-fresh before last b bs p ps apart)

  -- from inside a run the scan goes on after it
  joined_run : (before : List Kind) (last : ℕ) (line : List ℕ) → in_run last ≡ true
      → found_from_place n below before last line (with_blank_comments false line)
      ≡ found_in_line n below before (behind_run line)
  unfolding found_from_place
  joined_run before last [] h = refl
  joined_run before last (b ∷ bs) h =
      elim (in_run b) as (λ t. in_run b ≡ t
      → found_from_place n below before last (b ∷ bs) (with_blank_comments false (b ∷ bs))
      ≡ found_in_line n below before (behind_run (b ∷ bs))) [
        | true ↦ λ run. ap (λ (plain : List ℕ). found_from_place n below before last (b ∷ bs) plain)
            (blanked-run b bs run)
            ∙ from-here before last b bs b (with_blank_comments false bs) []
            (found_at-joined before last b bs b (with_blank_comments false bs) (is_stray-run b run)
            (is_joined-run last b h ∙ run))
            ∙ joined_run before b bs run
            ∙ ap (λ (l : List ℕ). found_in_line n below before l) (sym (behind_run-yes b bs run))
        | false ↦ λ stop. fresh before last (b ∷ bs) (with_blank_comments false (b ∷ bs))
            (is_joined-run last (slice_index (with_blank_comments false (b ∷ bs)) 0) h ∙ in_run-blanked b bs stop)
            ∙ ap (λ (l : List ℕ). found_in_line n below before l) (sym (behind_run-no b bs stop))
      ] refl

  begun_at-run : (before : List Kind) (b : ℕ) (bs : List ℕ) → in_run b ≡ true
      → begun_at n below before (b ∷ bs) (b ∷ with_blank_comments false bs)
      ≡ run_found n below before (behind_run (b ∷ bs)) (take_while in_run (b ∷ bs))
  unfolding begun_at
  begun_at-run before b bs run =
      ap (λ (t : Bool). elim t [
        | true ↦ run_found n below before
            (drop (length (take_while in_run (b ∷ with_blank_comments false bs))) (b ∷ bs))
            (take_while in_run (b ∷ with_blank_comments false bs))
        | false ↦ sign_found n (sign_from b (slice_index (b ∷ with_blank_comments false bs) 1))
      ]) run
      ∙ ap (λ (r : List ℕ). run_found n below before (drop (length r) (b ∷ bs)) r)
      (sym (ap (take_while in_run) (blanked-run b bs run)) ∙ take_while-blanked (b ∷ bs))

  -- a run, and the findings after it
  pub found-run : (before : List Kind) (b : ℕ) (bs : List ℕ) → in_run b ≡ true → found_in_line n below before (b ∷ bs)
      ≡ run_found n below before (behind_run (b ∷ bs)) (take_while in_run (b ∷ bs))
      ++ found_in_line n below (nearest_first
      (run_found n below before (behind_run (b ∷ bs)) (take_while in_run (b ∷ bs))) before) (behind_run (b ∷ bs))
  found-run before b bs run =
      let here = run_found n below before (behind_run (b ∷ bs)) (take_while in_run (b ∷ bs)) in
      ap (λ (plain : List ℕ). found_from_place n below before 32 (b ∷ bs) plain) (blanked-run b bs run)
      ∙ from-here before 32 b bs b (with_blank_comments false bs) here
      (found_at-begun before 32 b bs b (with_blank_comments false bs) (is_stray-run b run) (joined-blank b)
      ∙ begun_at-run before b bs run)
      ∙ ap (λ (r : List Finding). here ++ r)
      (joined_run (nearest_first here before) b bs run
      ∙ ap (λ (l : List ℕ). found_in_line n below (nearest_first here before) l) (sym (behind_run-yes b bs run)))

  blank_32 : (before : List Kind) (bs : List ℕ)
      → found_in_line n below before (32 ∷ bs) ≡ found_in_line n below before bs
  unfolding found_from_place found_at begun_at is_stray is_joined is_allowed is_blank in_run one_byte_sign sign_from
      begins_comment
  blank_32 before bs =
      ap (λ (plain : List ℕ). found_from_place n below before 32 (32 ∷ bs) plain)
      (blanked-plain 32 bs (begins_comment-other 32 bs refl))

  blank_9 : (before : List Kind) (bs : List ℕ) → found_in_line n below before (9 ∷ bs) ≡ found_in_line n below before bs
  unfolding found_from_place found_at begun_at is_stray is_joined is_allowed is_blank in_run one_byte_sign sign_from
      begins_comment
  blank_9 before bs =
      ap (λ (plain : List ℕ). found_from_place n below before 32 (9 ∷ bs) plain)
      (blanked-plain 9 bs (begins_comment-other 9 bs refl))
      ∙ fresh before 9 bs (with_blank_comments false bs) refl

  -- a blank or a tab, and the findings after it
  pub found-blank : (before : List Kind) (b : ℕ) (bs : List ℕ) → is_blank b ≡ true
      → found_in_line n below before (b ∷ bs) ≡ found_in_line n below before bs
  found-blank before b bs h = elim (is_blank-cases b h) [
    | inl same ↦ ap (λ (x : ℕ). found_in_line n below before (x ∷ bs)) same ∙ blank_32 before bs
    | inr same ↦ ap (λ (x : ℕ). found_in_line n below before (x ∷ bs)) same ∙ blank_9 before bs
  ]

-- the byte after a place is an equal sign or not, also with the comments made blank
next-blanked : (bs : List ℕ) → (slice_index (with_blank_comments false bs) 0 == 61) ≡ (slice_index bs 0 == 61)
unfolding with_blank_comments
next-blanked [] = refl
next-blanked (c ∷ []) = refl
next-blanked (c ∷ d ∷ ds) =
    elim (c == 39 && d == 39) as (λ t. (c == 39 && d == 39) ≡ t
    → (slice_index
    (elim t [ true ↦ 32 ∷ 32 ∷ with_blank_comments true ds | false ↦ c ∷ with_blank_comments false (d ∷ ds) ]) 0 == 61)
    ≡ (c == 61)) [
      | true ↦ λ quotes. sym (ap (λ (x : ℕ). x == 61) (eqb-same c 39 (and-left _ _ quotes)))
      | false ↦ λ other. refl
    ] refl

sign_from-next : (b x y : ℕ) → (x == 61) ≡ (y == 61) → sign_from b x ≡ sign_from b y
unfolding sign_from
sign_from-next b x y same =
    ap (λ (t : Bool). cond (b == 60 && t) (Some LessEqual) (cond (b == 62 && t) (Some GreaterEqual) (one_byte_sign b)))
    same

-- a sign has one byte, or it has two and the second is an equal sign
abbrev SignCase : ℕ → ℕ → Sign → Type 0
SignCase b next g =
    ((one_byte_sign b ≡ Some g) × ((b == 60 && next == 61) ≡ false) × ((b == 62 && next == 61) ≡ false))
    ⊎ ((((b ≡ 60) × (g ≡ LessEqual)) ⊎ ((b ≡ 62) × (g ≡ GreaterEqual))) × ((next == 61) ≡ true))

sign_cases : (b next : ℕ) (g : Sign) → sign_from b next ≡ Some g → SignCase b next g
unfolding sign_from
sign_cases b next g e =
    elim (b == 60 && next == 61) as
    (λ t. (b == 60 && next == 61) ≡ t
    → cond t (Some LessEqual) (cond (b == 62 && next == 61) (Some GreaterEqual) (one_byte_sign b)) ≡ Some g
    → SignCase b next g) [
      | true ↦ λ less same. inr (inl (eqb-same b 60 (and-left _ _ less), cc), and-right _ _ less)
      | false ↦ λ no_less. (elim (b == 62 && next == 61) as
          (λ t. (b == 62 && next == 61) ≡ t → cond t (Some GreaterEqual) (one_byte_sign b) ≡ Some g
          → SignCase b next g) [
            | true ↦ λ greater same. inr (inr (eqb-same b 62 (and-left _ _ greater), cc), and-right _ _ greater)
            | false ↦ λ no_greater same. inl (same, no_less, no_greater)
          ] refl)
    ] refl e

-- if no sign of one or two bytes begins, the byte is no sign
one_byte_sign-none : (b next : ℕ) → sign_from b next ≡ None → one_byte_sign b ≡ None
unfolding sign_from
one_byte_sign-none b next e =
    elim (b == 60 && next == 61) as
    (λ t. cond t (Some LessEqual) (cond (b == 62 && next == 61) (Some GreaterEqual) (one_byte_sign b)) ≡ None
    → one_byte_sign b ≡ None) [
      | true ↦ λ some. absurd cc
      | false ↦ (elim (b == 62 && next == 61) as
          (λ t. cond t (Some GreaterEqual) (one_byte_sign b) ≡ None → one_byte_sign b ≡ None) [
            | true ↦ λ some. absurd cc
            | false ↦ λ none. none
          ])
    ] e

abbrev HasOneByte : Option Sign → Type 0
HasOneByte None = Unit {0}
HasOneByte (Some g) = sign_len g ≡ 1

one_more : (t : Bool) (g : Sign) (o : Option Sign) → sign_len g ≡ 1 → HasOneByte o → HasOneByte (cond t (Some g) o)
one_more true g o one rest = one
one_more false g o one rest = rest

one_byte_sign-len : (b : ℕ) → HasOneByte (one_byte_sign b)
unfolding one_byte_sign
one_byte_sign-len b =
    let from_greater : Option Sign = cond (b == 62) (Some Greater) None in
    let from_less : Option Sign = cond (b == 60) (Some Less) from_greater in
    let from_equal : Option Sign = cond (b == 61) (Some Equal) from_less in
    let from_comma : Option Sign = cond (b == 44) (Some Comma) from_equal in
    let from_close : Option Sign = cond (b == 41) (Some Close) from_comma in
    let from_open : Option Sign = cond (b == 40) (Some Open) from_close in
    let from_star : Option Sign = cond (b == 42) (Some Star) from_open in
    let from_minus : Option Sign = cond (b == 45) (Some Minus) from_star in
    one_more (b == 43) Plus from_minus refl
    (one_more (b == 45) Minus from_star refl
    (one_more (b == 42) Star from_open refl
    (one_more (b == 40) Open from_close refl
    (one_more (b == 41) Close from_comma refl
    (one_more (b == 44) Comma from_equal refl
    (one_more (b == 61) Equal from_less refl
    (one_more (b == 60) Less from_greater refl (one_more (b == 62) Greater None refl tt))))))))

sign_len-one : (b : ℕ) (g : Sign) → one_byte_sign b ≡ Some g → sign_len g ≡ 1
sign_len-one b g e = subst HasOneByte e (one_byte_sign-len b)

is_some-sign : (b next : ℕ) (g : Sign) → SignCase b next g → is_some (one_byte_sign b) ≡ true
unfolding one_byte_sign
is_some-sign b next g (inl one) = ap is_some one.0
is_some-sign b next g (inr (inl less, equal)) = ap (λ (x : ℕ). is_some (one_byte_sign x)) less.0
is_some-sign b next g (inr (inr greater, equal)) = ap (λ (x : ℕ). is_some (one_byte_sign x)) greater.0

or_and : (x y t : Bool) → (x && t) ≡ false → (y && t) ≡ false → ((x || y) && t) ≡ false
or_and true y t no_x no_y = no_x
or_and false y t no_x no_y = no_y

is_joined-sign : (b : ℕ) (bs : List ℕ) → in_run b ≡ false → (b == 60 && slice_index bs 0 == 61) ≡ false
    → (b == 62 && slice_index bs 0 == 61) ≡ false → is_joined b (slice_index (with_blank_comments false bs) 0) ≡ false
unfolding is_joined
is_joined-sign b bs no_run no_less no_greater =
    ap (λ (r : Bool). (r && in_run (slice_index (with_blank_comments false bs) 0))
    || ((b == 60 || b == 62) && slice_index (with_blank_comments false bs) 0 == 61)) no_run
    ∙ ap (λ (t : Bool). (b == 60 || b == 62) && t) (next-blanked bs)
    ∙ or_and (b == 60) (b == 62) (slice_index bs 0 == 61) no_less no_greater

is_joined-less : is_joined 60 61 ≡ true
unfolding is_joined in_run
is_joined-less = refl

is_joined-greater : is_joined 62 61 ≡ true
unfolding is_joined in_run
is_joined-greater = refl

is_joined-equal : (p : ℕ) → is_joined 61 p ≡ false
unfolding is_joined in_run
is_joined-equal p = refl

is_stray-equal : is_stray 61 61 ≡ false
unfolding is_stray is_allowed in_run is_blank one_byte_sign
is_stray-equal = refl

fits_by : (b : ℕ) (bs : List ℕ) (g : Sign) → SignCase b (slice_index bs 0) g
    → (0 < sign_len g) × (sign_len g ≤ suc (length bs))
fits_by b bs g (inl one) = let len = sign_len-one b g one.0 in (omega arith, omega arith)
fits_by b [] g (inr two) = absurd (let equal = two.1 in cc)
fits_by b (c ∷ cs) g (inr (inl less, equal)) = let len = ap sign_len less.1 in (omega arith, omega arith)
fits_by b (c ∷ cs) g (inr (inr greater, equal)) = let len = ap sign_len greater.1 in (omega arith, omega arith)

-- a sign has one byte or two, and they are there
pub sign_len-fits : (b : ℕ) (bs : List ℕ) (g : Sign) → sign_from b (slice_index bs 0) ≡ Some g
    → (0 < sign_len g) × (sign_len g ≤ suc (length bs))
sign_len-fits b bs g e = fits_by b bs g (sign_cases b (slice_index bs 0) g e)

module _ (n below : ℕ) where
  begun_at-sign : (before : List Kind) (b : ℕ) (bs : List ℕ) (o : Option Sign) → in_run b ≡ false
      → sign_from b (slice_index bs 0) ≡ o → begun_at n below before (b ∷ bs) (b ∷ with_blank_comments false bs)
      ≡ sign_found n o
  unfolding begun_at
  begun_at-sign before b bs o no_run e =
      ap (λ (t : Bool). elim t [
        | true ↦ run_found n below before
            (drop (length (take_while in_run (b ∷ with_blank_comments false bs))) (b ∷ bs))
            (take_while in_run (b ∷ with_blank_comments false bs))
        | false ↦ sign_found n (sign_from b (slice_index (b ∷ with_blank_comments false bs) 1))
      ]) no_run
      ∙ ap (λ (s : Option Sign). sign_found n s)
      (sign_from-next b (slice_index (with_blank_comments false bs) 0) (slice_index bs 0) (next-blanked bs) ∙ e)

  first_byte : (before : List Kind) (b : ℕ) (bs : List ℕ) (g : Sign) → begins_comment (b ∷ bs) ≡ false
      → in_run b ≡ false → sign_from b (slice_index bs 0) ≡ Some g → is_some (one_byte_sign b) ≡ true
      → found_in_line n below before (b ∷ bs)
      ≡ word (on_line n (sign g)) ∷ found_from_place n below (sign g ∷ before) b bs (with_blank_comments false bs)
  first_byte before b bs g no_comment no_run e some =
      ap (λ (plain : List ℕ). found_from_place n below before 32 (b ∷ bs) plain) (blanked-plain b bs no_comment)
      ∙ from-here n below before 32 b bs b (with_blank_comments false bs) (word (on_line n (sign g)) ∷ [])
      (found_at-begun n below before 32 b bs b (with_blank_comments false bs) (is_stray-sign b some) (joined-blank b)
      ∙ begun_at-sign before b bs (Some g) no_run e)

  second_byte : (before : List Kind) (last : ℕ) (cs : List ℕ) → is_joined last 61 ≡ true
      → found_from_place n below before last (61 ∷ cs) (with_blank_comments false (61 ∷ cs))
      ≡ found_in_line n below before cs
  second_byte before last cs joined =
      ap (λ (plain : List ℕ). found_from_place n below before last (61 ∷ cs) plain)
      (blanked-plain 61 cs (begins_comment-other 61 cs refl))
      ∙ from-here n below before last 61 cs 61 (with_blank_comments false cs) []
      (found_at-joined n below before last 61 cs 61 (with_blank_comments false cs) is_stray-equal joined)
      ∙ fresh n below before 61 cs (with_blank_comments false cs)
      (is_joined-equal (slice_index (with_blank_comments false cs) 0))

  behind_two : (before : List Kind) (b : ℕ) (bs : List ℕ) (g : Sign) → is_joined b 61 ≡ true → sign_len g ≡ 2
      → (slice_index bs 0 == 61) ≡ true
      → found_from_place n below before b bs (with_blank_comments false bs)
      ≡ found_in_line n below before (drop (sign_len g) (b ∷ bs))
  behind_two before b [] g joined two equal = absurd cc
  behind_two before b (c ∷ cs) g joined two equal =
      ap (λ (x : ℕ). found_from_place n below before b (x ∷ cs) (with_blank_comments false (x ∷ cs)))
      (eqb-same c 61 equal)
      ∙ second_byte before b cs joined
      ∙ ap (λ (k : ℕ). found_in_line n below before (drop k (b ∷ c ∷ cs))) (sym two)

  behind_sign : (before : List Kind) (b : ℕ) (bs : List ℕ) (g : Sign) → in_run b ≡ false
      → SignCase b (slice_index bs 0) g
      → found_from_place n below before b bs (with_blank_comments false bs)
      ≡ found_in_line n below before (drop (sign_len g) (b ∷ bs))
  behind_sign before b bs g no_run (inl one) =
      fresh n below before b bs (with_blank_comments false bs) (is_joined-sign b bs no_run one.1 one.2)
      ∙ ap (λ (k : ℕ). found_in_line n below before (drop k (b ∷ bs))) (sym (sign_len-one b g one.0))
  behind_sign before b bs g no_run (inr (inl less, equal)) =
      behind_two before b bs g (ap (λ (x : ℕ). is_joined x 61) less.0 ∙ is_joined-less) (ap sign_len less.1) equal
  behind_sign before b bs g no_run (inr (inr greater, equal)) =
      behind_two before b bs g (ap (λ (x : ℕ). is_joined x 61) greater.0 ∙ is_joined-greater) (ap sign_len greater.1)
      equal

  -- a sign, and the findings after it
  pub found-sign : (before : List Kind) (b : ℕ) (bs : List ℕ) (g : Sign) → begins_comment (b ∷ bs) ≡ false
      → in_run b ≡ false → sign_from b (slice_index bs 0) ≡ Some g
      → found_in_line n below before (b ∷ bs)
      ≡ word (on_line n (sign g)) ∷ found_in_line n below (sign g ∷ before) (drop (sign_len g) (b ∷ bs))
  found-sign before b bs g no_comment no_run e =
      let cases = sign_cases b (slice_index bs 0) g e in
      first_byte before b bs g no_comment no_run e (is_some-sign b (slice_index bs 0) g cases)
      ∙ ap (λ (fs : List Finding). word (on_line n (sign g)) ∷ fs) (behind_sign (sign g ∷ before) b bs g no_run cases)

  found_at-stray : (before : List Kind) (last b : ℕ) (bs : List ℕ) (p : ℕ) (ps : List ℕ) → is_stray b p ≡ true
      → first_breach (found_at n below before last (b ∷ bs) (p ∷ ps)) ≡ Some (Refused StrayByte n)
  unfolding found_at
  found_at-stray before last b bs p ps stray =
      ap (λ (t : Bool). first_breach
      (breach_if StrayByte n t ++ (elim (is_joined last p)
      [ true ↦ [] | false ↦ begun_at n below before (b ∷ bs) (p ∷ ps) ]))) stray

  pub place-stray : (before : List Kind) (last b : ℕ) (bs : List ℕ) (p : ℕ) (ps : List ℕ) → is_stray b p ≡ true
      → first_breach (found_from_place n below before last (b ∷ bs) (p ∷ ps)) ≡ Some (Refused StrayByte n)
  place-stray before last b bs p ps stray =
      ap first_breach (from-here n below before last b bs p ps (found_at n below before last (b ∷ bs) (p ∷ ps)) refl)
      ∙ first_breach-front (found_at n below before last (b ∷ bs) (p ∷ ps))
      (found_from_place n below (nearest_first (found_at n below before last (b ∷ bs) (p ∷ ps)) before) p bs ps)
      (Refused StrayByte n) (found_at-stray before last b bs p ps stray)

  -- a byte that begins nothing is the first breach
  pub found-stray : (before : List Kind) (b : ℕ) (bs : List ℕ) → begins_comment (b ∷ bs) ≡ false → in_run b ≡ false
      → is_blank b ≡ false → sign_from b (slice_index bs 0) ≡ None
      → first_breach (found_in_line n below before (b ∷ bs)) ≡ Some (Refused StrayByte n)
  found-stray before b bs no_comment no_run no_blank none =
      ap (λ (plain : List ℕ). first_breach (found_from_place n below before 32 (b ∷ bs) plain))
      (blanked-plain b bs no_comment)
      ∙ place-stray before 32 b bs b (with_blank_comments false bs)
      (is_stray-other b no_run no_blank (one_byte_sign-none b (slice_index bs 0) none))
