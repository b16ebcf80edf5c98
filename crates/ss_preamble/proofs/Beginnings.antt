-- A text that ends inside a preamble.
use Rattle.std.proofs.Common.{◌≡◌, ◌⊎◌, ℕ, zero, suc, ◌+◌, ◌-◌, ◌<◌, List, [], ◌∷◌, ◌++◌, length, length-append}
use Rattle.std.proofs.Common.{take, drop, None, refl, sym, ap, subst, ◌∙◌, append_assoc, arith}
use mathlib.Core.Logic.{inl, inr}
use Rattle.std.proofs.lemmas.List.{append-nil, length-map, take_at, take-append-drop}
use Rattle.ss_words.specs.declared.mark.Mark.TheVariants as m
use Rattle.ss_words.specs.declared.word.Sign.TheVariants as s
use Rattle.ss_words.specs.declared.reserved.Reserved.TheVariants as r
use Rattle.ss_words.specs.Plain.{Plain, PlainAt, name, mark, first, plains}
use Rattle.ss_words.specs.Noting.{line}
use Rattle.ss_words.specs.Farthest.{IsFarthest}
use Rattle.ss_preamble.specs.Tree.{Preamble}
use Rattle.ss_preamble.specs.Spelling.{spell}
use Rattle.ss_preamble.specs.Roles.{NoNames, Role, Nothing, Standing, at_start, behind_word, role, roles_from, roles}
use Rattle.ss_preamble.specs.Roles.{kind_behind_define}
use Rattle.ss_preamble.specs.WordLimits.{AreWithin}
use Rattle.ss_preamble.specs.Refused.{Text, spell_text, InRoom, IsUnexpectedEnd, lines}
use Rattle.ss_preamble.specs.Laws.{BeginningsAreRefused}
use Rattle.ss_preamble.proofs.Counting.{within_more, within_less}
use Rattle.ss_preamble.proofs.ItemLimits.{words_within}
use Rattle.ss_preamble.proofs.Unique.{one_head}

-- ---- the counts of the first words of a text

-- n words that count to nothing
abbrev nothings : ℕ → List Role
nothings zero = []
nothings (suc n) = Nothing ∷ nothings n

-- words that count to nothing if no names count
record CountsNot (ws : List Plain) : Type 0 where
  pub size : ℕ
  pub roles : (a : Standing) → roles_from (record a { counted = NoNames }) ws ≡ nothings size

-- one more of them
more : (w : Plain) (ws : List Plain)
    → ((a : Standing) → roles_from (record a { counted = NoNames }) (w ∷ ws) ≡ Nothing ∷ roles_from
    (record a { counted = NoNames }) ws)
    → CountsNot ws → CountsNot (w ∷ ws)
more w ws next h = record {
  size = suc h.size;
  roles = λ a. next a ∙ ap (λ (rs : List Role). Nothing ∷ rs) (h.roles a);
}

no_words : CountsNot []
no_words = record { size = 0; roles = λ a. refl }

-- these words say which kind DEFINE gives its names, or they are only names, perhaps with AS after
-- them
define_cut : (ws : List Plain) (n : ℕ)
    → (kind_behind_define (take n ws) ≡ kind_behind_define ws)
    ⊎ ((kind_behind_define (take n ws) ≡ NoNames) × CountsNot (take n ws))
define_cut [] zero = inl refl
define_cut [] (suc n) = inl refl
define_cut (w ∷ ws) zero = inr (refl, no_words)
define_cut (name x ∷ ws) (suc n) = elim (define_cut ws n) [
  | inl e ↦ inl e
  | inr (e, h) ↦ inr (e, more (name x) (take n ws) (λ a. refl) h)
]
define_cut (mark (m.Sign s.Comma) ∷ ws) (suc n) = elim (define_cut ws n) [
  | inl e ↦ inl e
  | inr (e, h) ↦ inr (e, more (mark (m.Sign s.Comma)) (take n ws) (λ a. refl) h)
]
define_cut (mark (m.Reserved r.As) ∷ []) (suc zero) = inl refl
define_cut (mark (m.Reserved r.As) ∷ []) (suc (suc n)) = inl refl
define_cut (mark (m.Reserved r.As) ∷ w ∷ ws) (suc zero) =
    inr (refl, more (mark (m.Reserved r.As)) [] (λ a. refl) no_words)
define_cut (mark (m.Reserved r.As) ∷ w ∷ ws) (suc (suc n)) = inl refl
define_cut (w ∷ ws) (suc n) = inl refl

-- the standing after a word depends on the words that follow only after DEFINE
behind_cut : (a : Standing) (w : Plain) (ws : List Plain) (n : ℕ)
    → (behind_word a w (take n ws) ≡ behind_word a w ws)
    ⊎ ((behind_word a w (take n ws) ≡ record a { counted = NoNames }) × CountsNot (take n ws))
behind_cut a (mark (m.Reserved r.Define)) ws n = elim (define_cut ws n) [
  | inl e ↦ inl (ap (λ c. record a { counted = c }) e)
  | inr (e, h) ↦ inr (ap (λ c. record a { counted = c }) e, h)
]
behind_cut a w ws n = inl refl

-- the first words count to the same limits as in the whole text, up to some word, and to nothing
-- from there on
roles_cut : (a : Standing) (ws : List Plain) (n : ℕ)
    → (k : ℕ) × (j : ℕ) × (roles_from a (take n ws) ≡ take k (roles_from a ws) ++ nothings j)
roles_cut a [] zero = (0, 0, refl)
roles_cut a [] (suc n) = (0, 0, refl)
roles_cut a (w ∷ ws) zero = (0, 0, refl)
roles_cut a (w ∷ ws) (suc n) =
    let (k, j, e) = roles_cut (behind_word a w ws) ws n in
    elim (behind_cut a w ws n) [
      | inl same ↦ (
        suc k,
        j,
        ap (λ (b : Standing). role a w ∷ roles_from b (take n ws)) same ∙ ap (λ (rs : List Role). role a w ∷ rs) e,
      )
      | inr (none, h) ↦ (
        1,
        h.size,
        ap (λ (b : Standing). role a w ∷ roles_from b (take n ws)) none
            ∙ ap (λ (rs : List Role). role a w ∷ rs) (h.roles a),
      )
    ]

with_nothings : (rs : List Role) (j : ℕ) → AreWithin rs → AreWithin (rs ++ nothings j)
with_nothings rs zero w = subst AreWithin (sym (append-nil rs)) w
with_nothings rs (suc j) w =
    subst AreWithin (append_assoc rs (Nothing ∷ []) (nothings j))
    (with_nothings (rs ++ Nothing ∷ []) j (within_more rs w Nothing refl))

-- the first words of a text within the limits are within them
pub within_cut : (ws : List Plain) (n : ℕ) → AreWithin (roles ws) → AreWithin (roles (take n ws))
within_cut ws n w =
    let (k, j, e) = roles_cut at_start ws n in
    let front : AreWithin (take k (roles ws)) =
    within_less (take k (roles ws)) (drop k (roles ws)) (subst AreWithin (sym (take-append-drop k (roles ws))) w) in
    subst AreWithin (sym e) (with_nothings (take k (roles ws)) j front)

-- ---- the farthest word

no_first : (x : List Plain) → first x ≡ None → x ≡ []
no_first [] e = refl
no_first (v ∷ x) e = absurd cc

-- the first words of a preamble, as many as us are, and the others
module _ (is : Preamble) (us rest : List Plain) (split : spell is ≡ us ++ rest) (some : 0 < length rest) where
  all : take (length us) us ≡ us
  all = ap (take (length us)) (sym (append-nil us)) ∙ take_at us [] (length us) refl

  none_left : first (drop (length us) us) ≡ None
  none_left = over us
    where
      over : (us : List Plain) → first (drop (length us) us) ≡ None
      over [] = refl
      over (u ∷ us) = over us

  not_whole : (t : Text) → spell_text t ≡ us → ⊥
  not_whole t e =
      let same : spell t.preamble ++ (t.behind ++ rest) ≡ spell is ++ [] =
      sym (append_assoc (spell t.preamble) t.behind rest) ∙ ap (λ (u : List Plain). u ++ rest) e ∙ sym split
      ∙ sym (append-nil (spell is)) in
      let empty : t.behind ++ rest ≡ [] = (one_head t.preamble is (t.behind ++ rest) [] same).1 in
      omega (arith, some, ap length empty, length-append t.behind rest)

  pub end_is_farthest : IsFarthest spell_text us (length us)
  end_is_farthest = record {
    inside = omega arith;
    reached = (
      record { preamble = is; behind = [] },
      rest,
      append-nil (spell is) ∙ split ∙ ap (λ (u : List Plain). u ++ rest) (sym all),
    );
    no_further = λ t x e is_next.
        not_whole t (e ∙ ap (λ (u : List Plain). take (length us) us ++ u) (no_first x (is_next ∙ none_left))
        ∙ append-nil (take (length us) us) ∙ all);
  }

taken : (n : ℕ) (ws : List PlainAt) → plains (take n ws) ≡ take n (plains ws)
taken zero [] = refl
taken zero (w ∷ ws) = refl
taken (suc n) [] = refl
taken (suc n) (w ∷ ws) = ap (λ (us : List Plain). w.word ∷ us) (taken n ws)

taken_line : (k n : ℕ) (ws : List PlainAt) → k < n → line (lines ws) k ≡ line (lines (take n ws)) k
taken_line k zero ws lt = absurd (omega (arith, lt))
taken_line k (suc n) [] lt = refl
taken_line zero (suc n) (w ∷ ws) lt = refl
taken_line (suc k) (suc n) (w ∷ ws) lt = taken_line k n ws (omega (arith, lt))

taken_length : (n : ℕ) (ws : List PlainAt) → n < length ws → length (take n ws) ≡ n
taken_length zero [] lt = refl
taken_length zero (w ∷ ws) lt = refl
taken_length (suc n) [] lt = absurd (omega (arith, lt))
taken_length (suc n) (w ∷ ws) lt = ap suc (taken_length n ws (omega (arith, lt)))

some_front : (us rest : List Plain) (is : Preamble) → spell is ≡ us ++ rest → 0 < length us
    → first us ≡ first (spell is)
some_front [] rest is e lt = absurd (omega (arith, lt))
some_front (u ∷ us) rest is e lt = sym (ap first e)

pub beginnings_are_refused : BeginningsAreRefused
beginnings_are_refused ws is n words within some lt =
    let us = plains (take n ws) in
    let rest = drop n (plains ws) in
    let front : us ≡ take n (plains ws) = taken n ws in
    let split : spell is ≡ us ++ rest =
    sym words ∙ sym (take-append-drop n (plains ws)) ∙ ap (λ (u : List Plain). u ++ rest) (sym front) in
    let size : length us ≡ n = length-map (take n ws) (λ w. w.word) ∙ taken_length n ws lt in
    let total : length (plains ws) ≡ length ws = length-map ws (λ w. w.word) in
    let left : 0 < length rest = omega (
      arith,
      size,
      total,
      lt,
      ap length words,
      ap length split,
      length-append us rest,
    ) in
    let counted : AreWithin (roles us) =
    subst (λ (vs : List Plain). AreWithin (roles vs)) (sym front ∙ refl)
    (within_cut (plains ws) n (subst (λ (vs : List Plain). AreWithin (roles vs)) (sym words)
    (words_within is within))) in
    let room : InRoom us (length us - 1) =
    within_less (take (length us - 1) (roles us)) (drop (length us - 1) (roles us))
    (subst AreWithin (sym (take-append-drop (length us - 1) (roles us))) counted) in
    let known : IsUnexpectedEnd us = record { farthest = end_is_farthest is us rest split left; in_room = room } in
    let at : line (lines ws) (n - 1) ≡ line (lines (take n ws)) (length (take n ws) - 1) =
    taken_line (n - 1) n ws (omega (arith, some))
    ∙ ap (λ (k : ℕ). line (lines (take n ws)) (k - 1)) (sym (taken_length n ws lt)) in
    record { begins = begins us is rest split (omega (arith, size, some)); refused = (known, at) }
  where
    begins : (us : List Plain) (is : Preamble) (rest : List Plain) → spell is ≡ us ++ rest → 0 < length us
        → Rattle.ss_preamble.specs.Refused.HasPreamble us
    begins us is rest e lt =
        subst (λ w. Rattle.ss_words.specs.Marks.is (m.Reserved r.Preamble) w ≡ Rattle.std.proofs.Common.true)
        (sym (some_front us rest is e lt)) refl
