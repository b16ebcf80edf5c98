-- The answer at the word at which the reading of a preamble stopped, and the code gives this
-- answer.
use Rattle.std.proofs.Common.{◌≡◌, ◌⊎◌, ℕ, zero, suc, ◌+◌, ◌-◌, ◌≤◌, ◌<◌, Bool, true, false, leb, leb-true, List, []}
use Rattle.std.proofs.Common.{◌∷◌, ◌++◌, length, length-append, take, drop, Option, Some, None, Ok, Err, refl, sym, ap}
use Rattle.std.proofs.Common.{subst, ◌∙◌, arith}
use mathlib.Core.Logic.{inl, inr}
use Rattle.std.specs.Prelude.{map, slice_index}
use Rattle.std.proofs.lemmas.List.{append-nil, length-map, take_at, take-append-drop}
use Rattle.ss_words.specs.declared.refusal.Refusal.{Refusal}
use Rattle.ss_words.specs.declared.refusal.Refusal.TheVariants.{Unexpected}
use Rattle.ss_words.specs.declared.refusal.Refusal.TheVariants as g
use Rattle.ss_words.specs.declared.fault.TextRule.TheVariants as rule
use Rattle.ss_words.specs.declared.mark.Mark.TheVariants as m
use Rattle.ss_words.specs.declared.reserved.Reserved.TheVariants as r
use Rattle.ss_words.specs.declared.plain_word.PlainWord.{PlainWord}
use Rattle.ss_words.specs.Marks.{is}
use Rattle.ss_words.specs.Plain.{Plain, PlainAt, first, plains, plain_at, plain_in, plains_of, word_lines}
use Rattle.ss_words.specs.Reading.{Fails}
use Rattle.ss_words.specs.Noting.{line}
use Rattle.ss_words.specs.Farthest.{IsFarthest}
use Rattle.ss_preamble.specs.Tree.{Preamble, Decls}
use Rattle.ss_preamble.specs.Spelling.{word, spell, spell_items}
use Rattle.ss_preamble.specs.Roles.{Role, Nothing, Standing, at_start, behind_word, role, roles_from, roles}
use Rattle.ss_preamble.specs.WordLimits.{AreWithin}
use Rattle.ss_preamble.specs.ItemsAtLines.{preamble_at}
use Rattle.ss_preamble.specs.Written.{written}
use Rattle.ss_preamble.specs.Refused.{HasPreamble, InRoom, PassesLimit, CountUpTo, IsUnexpectedWord, IsUnexpectedEnd}
use Rattle.ss_preamble.specs.Refused.{IsPastLimit, IsRefused, AreDecls, no_decls, spell_text, word_behind, lines}
use Rattle.ss_preamble.proofs.Counting.{within_more, within_less, no_le}
use Rattle.ss_preamble.proofs.ItemLimits.{items_within}
use Rattle.ss_preamble.proofs.Whole.{farthest, unlimited, failed, found, words_are, lines_are}

-- ---- the word END counts to nothing

last_role : (a : Standing) (ws : List Plain)
    → (rs : List Role) × (roles_from a (ws ++ word r.End ∷ []) ≡ rs ++ Nothing ∷ []) × (length rs ≡ length ws)
last_role a [] = ([], refl, refl)
last_role a (w ∷ ws) =
    let (rs, e, len) = last_role (behind_word a w (ws ++ word r.End ∷ [])) ws in
    (role a w ∷ rs, ap (λ (us : List Role). role a w ∷ us) e, ap suc len)

-- a word that passes a limit in a preamble is not its END
pub before_end : (is : Preamble) (k : ℕ) → PassesLimit (spell is) k → k + 1 < length (spell is)
before_end is k past =
    let front = word r.Preamble ∷ spell_items is in
    let (rs, e, len) = last_role at_start front in
    let is_word = past.is_word in
    inside k rs is_word len e past.before past.no_room
  where
    inside : (k : ℕ) (rs : List Role) → k < length (spell is) → length rs ≡ length (word r.Preamble ∷ spell_items is)
        → roles (spell is) ≡ rs ++ Nothing ∷ [] → AreWithin (take k (roles (spell is)))
        → (AreWithin (take (k + 1) (roles (spell is))) → ⊥) → k + 1 < length (spell is)
    inside k rs lt len e before no_room = decide (leb (k + 2) (length (spell is))) refl
      where
        total : length (spell is) ≡ length rs + 1
        total = omega (arith, len, length-append (spell_items is) (word r.End ∷ []))

        whole : k ≡ length rs → ⊥
        whole at =
            let front : take k (roles (spell is)) ≡ rs = ap (take k) e ∙ take_at rs (Nothing ∷ []) k (sym at) in
            let within : AreWithin (rs ++ Nothing ∷ []) = within_more rs (subst AreWithin front before) Nothing refl in
            let all : take (k + 1) (roles (spell is)) ≡ rs ++ Nothing ∷ [] =
            ap (take (k + 1)) (e ∙ sym (append-nil (rs ++ Nothing ∷ [])))
            ∙ take_at (rs ++ Nothing ∷ []) [] (k + 1) (omega (arith, at, length-append rs (Nothing ∷ []))) in
            no_room (subst AreWithin (sym all) within)

        decide : (b : Bool) → leb (k + 2) (length (spell is)) ≡ b → k + 1 < length (spell is)
        decide true h = let le = leb-true (k + 2) (length (spell is)) h in omega (arith, le)
        decide false h =
            let more : k + 2 ≤ length (spell is) → ⊥ = no_le (k + 2) (length (spell is)) h in
            absurd (whole (omega (arith, more, lt, total)))

-- ---- the answer to a text

module _ (ws : List PlainAt) where
  -- the plain words without their numbers
  abbrev us : List Plain
  us = plains ws

  count : length us ≡ length ws
  count = length-map ws (λ w. w.word)

  past : (n k : ℕ) → HasPreamble us → CountUpTo us n → PassesLimit (take n us) k → k + 1 < length ws
      → IsRefused rule.PastLimit (line (lines ws) k) ws
  past n k h counted passes lt =
      let there : IsPastLimit us k =
      record { last = n; count = counted; passes = passes; goes_on = (let e = count in omega (arith, e, lt)) } in
      record { begins = h; refused = (k, there, refl) }

  -- a preamble that was read
  module _ (items : Preamble) (rest : List Plain) (split : us ≡ spell items ++ rest) where
    size : length ws ≡ length (spell items) + length rest
    size = sym count ∙ ap length split ∙ length-append (spell items) rest

    front : take (length (spell items)) us ≡ spell items
    front = ap (take (length (spell items))) split ∙ take_at (spell items) rest (length (spell items)) refl

    pub read_past : HasPreamble us → (k : ℕ) → PassesLimit (spell items) k
        → IsRefused rule.PastLimit (line (lines ws) k) ws
    read_past h k passes =
        let inside = before_end items k passes in
        let e = size in
        let there : PassesLimit (take (length (spell items)) us) k =
        subst (λ (vs : List Plain). PassesLimit vs k) (sym front) passes in
        past (length (spell items)) k h (inr (items, rest, split, refl)) there (omega (arith, inside, e))

    pub read_items : AreWithin (roles (spell items))
        → AreDecls (written (lines ws) items) (word_behind ws (length (spell items))) ws
    read_items within = inr (record {
      items = items;
      behind = rest;
      within = items_within items within;
      words = split;
      declared = refl;
      number_is = refl;
    })

  -- a preamble that was not read: word n is the farthest one
  module _ (n : ℕ) (far : IsFarthest spell_text us n) (h : HasPreamble us) where
    pub stopped_past : (k : ℕ) → PassesLimit (take n us) k → k + 1 < length ws
        → IsRefused rule.PastLimit (line (lines ws) k) ws
    stopped_past k passes lt = past n k h (inl far) passes lt

    pub stopped_word : AreWithin (roles (take n us)) → n < length ws
        → IsRefused rule.UnexpectedWord (line (lines ws) n) ws
    stopped_word room lt =
        let known : IsUnexpectedWord us n =
        record { is_word = (let e = count in omega (arith, e, lt)); farthest = far; in_room = room } in
        record { begins = h; refused = (n, known, refl) }

    -- no word of these passes a limit, or only the last one of the text does
    abbrev pub LeavesRoom : Option ℕ → Type 0
    LeavesRoom None = AreWithin (roles (take n us))
    LeavesRoom (Some k) = PassesLimit (take n us) k × (length ws ≤ k + 1)

    pub stopped_end : (o : Option ℕ) → LeavesRoom o → length ws ≤ n
        → IsRefused rule.UnexpectedEnd (line (lines ws) (length ws - 1)) ws
    stopped_end o room le =
        let inside = far.inside in
        let all : n ≡ length us = (let e = count in omega (arith, e, le, inside)) in
        let known : IsUnexpectedEnd us = record {
          farthest = subst (λ (k : ℕ). IsFarthest spell_text us k) all far;
          in_room = in_room o room;
        } in
        record { begins = h; refused = (known, refl) }
      where
        everything : take n us ≡ us
        everything =
            let inside = far.inside in
            ap (take n) (sym (append-nil us)) ∙ take_at us [] n (let e = count in omega (arith, e, le, inside))

        in_room : (o : Option ℕ) → LeavesRoom o → InRoom us (length us - 1)
        in_room None room =
            let all : AreWithin (roles us) = subst (λ (vs : List Plain). AreWithin (roles vs)) everything room in
            within_less (take (length us - 1) (roles us)) (drop (length us - 1) (roles us))
            (subst AreWithin (sym (take-append-drop (length us - 1) (roles us))) all)
        in_room (Some k) (passes, last) =
            let here : PassesLimit us k = subst (λ (vs : List Plain). PassesLimit vs k) everything passes in
            let is_word = here.is_word in
            subst (InRoom us) (let e = count in omega (arith, e, is_word, last)) here.before

    -- a word that passes a limit among these is the text's last, so nothing is after it
    pub at_last : (k : ℕ) → PassesLimit (take n us) k → length ws ≤ k + 1 → length ws ≤ n
    at_last k passes le =
        let is_word = passes.is_word in
        let few = short n us in
        omega (arith, is_word, few, le)
      where
        short : (n : ℕ) (vs : List Plain) → length (take n vs) ≤ n
        short zero [] = omega arith
        short zero (v ∷ vs) = omega arith
        short (suc n) [] = omega arith
        short (suc n) (v ∷ vs) = let h = short n vs in omega (arith, h)

-- ---- the words of the code

take_map : {A B : Type 0} (f : A → B) (k : ℕ) (xs : List A) → map f (take k xs) ≡ take k (map f xs)
take_map f zero [] = refl
take_map f zero (x ∷ xs) = refl
take_map f (suc k) [] = refl
take_map f (suc k) (x ∷ xs) = ap (λ (ys : List _). f x ∷ ys) (take_map f k xs)

-- the numbers after the words
numbers : (ts : List PlainWord) → map (λ w. w.index + 1) ts ≡ map (λ w. w.index + 1) (map plain_at ts)
numbers [] = refl
numbers (t ∷ ts) = ap (λ (ns : List ℕ). (t.index + 1) ∷ ns) (numbers ts)

module _ (text : List PlainWord) where
  -- the words of the code
  abbrev here : List PlainAt
  here = map plain_at text

  same_length : length (plains_of text) ≡ length (word_lines text)
  same_length = omega (arith, length-map text plain_in, length-map text (λ w. w.word.now.line))

  at_line : (k : ℕ) → line (lines here) k ≡ line (word_lines text) k
  at_line k = ap (λ (ls : List ℕ). line ls k) (lines_are text)

  here_length : length here ≡ length text
  here_length = length-map text plain_at

  begun : HasPreamble (plains_of text) → HasPreamble (plains here)
  begun h = subst HasPreamble (sym (words_are text)) h

  -- the first words of a text of the code
  taken : (n : ℕ) → plains_of (take n text) ≡ take n (plains here)
  taken n = take_map plain_in n text ∙ ap (take n) (sym (words_are text))

  refused_at : (a b : ℕ) (q : _) → a ≡ b → IsRefused q a here → IsRefused q b here
  refused_at a b q e x = subst (λ (l : ℕ). IsRefused q l here) e x

-- no word is refused as past a limit by the grammar
never_limited : (text : List PlainWord) (rest : List Plain)
    → preamble_at (word_lines text) (plains_of text) ≡ (Err g.PastLimit, rest) → ⊥
never_limited text rest e =
    unlimited (plains_of text) rest (failed (word_lines text) (plains_of text) (same_length text) g.PastLimit rest e)

pub no_preamble : (text : List PlainWord) (d : Decls) → is (m.Reserved r.Preamble) (first (plains_of text)) ≡ false
    → d ≡ no_decls → AreDecls d 0 (map plain_at text)
no_preamble text d none e = inl ((λ h. no_both _ (subst HasPreamble (words_are text) h) none), e, refl)
  where
    no_both : (b : Bool) → b ≡ true → b ≡ false → ⊥
    no_both true h g = absurd cc
    no_both false h g = absurd cc

-- ---- for the functions of the code, if the words up to number n were read and these are left

module _ (text : List PlainWord) (rest : List Plain) (n : ℕ) (at : n ≡ length text - length rest) where
  -- the preamble was read
  module _ (d : Decls) (read : preamble_at (word_lines text) (plains_of text) ≡ (Ok d, rest)) where
    items : (is : Preamble) × (plains_of text ≡ spell is ++ rest) × (d ≡ written (word_lines text) is)
    items = found (word_lines text) (plains_of text) (same_length text) d rest read

    split : plains (here text) ≡ spell items.0 ++ rest
    split = words_are text ∙ items.1

    long : length (spell items.0) ≡ n
    long =
        omega (arith, at, length-map text plain_in, ap length items.1, length-append (spell items.0) rest)

    spelled : plains_of (take n text) ≡ spell items.0
    spelled =
        taken text n ∙ ap (take n) split ∙ take_at (spell items.0) rest n long

    pub told_past : HasPreamble (plains_of text) → (k : ℕ) → PassesLimit (plains_of (take n text)) k
        → IsRefused rule.PastLimit (line (word_lines text) k) (here text)
    told_past h k passes =
        refused_at text _ _ _ (at_line text k)
        (read_past (here text) items.0 rest split (begun text h) k
        (subst (λ (vs : List Plain). PassesLimit vs k) spelled passes))

    pub told_items : (j : ℕ) → AreWithin (roles (plains_of (take n text)))
        → j ≡ slice_index (map (λ w. w.index + 1) text) (n - 1) → AreDecls d j (here text)
    told_items j within number =
        let told = read_items (here text) items.0 rest split
        (subst (λ (vs : List Plain). AreWithin (roles vs)) spelled within) in
        let one : written (lines (here text)) items.0 ≡ d =
        ap (λ (ls : List ℕ). written ls items.0) (lines_are text) ∙ sym items.2 in
        let two : word_behind (here text) (length (spell items.0)) ≡ j =
        ap (λ (ns : List ℕ). slice_index ns (length (spell items.0) - 1)) (sym (numbers text))
        ∙ ap (λ (i : ℕ). slice_index (map (λ w. w.index + 1) text) (i - 1)) long ∙ sym number in
        subst (λ (i : ℕ). AreDecls d i (here text)) two
        (subst (λ (x : Decls). AreDecls x (word_behind (here text) (length (spell items.0))) (here text)) one told)

  -- it was not
  module _ (stopped : preamble_at (word_lines text) (plains_of text) ≡ (Err Unexpected, rest)) where
    far : IsFarthest spell_text (plains (here text)) n
    far =
        let place : length (plains_of text) - length rest ≡ n =
        omega (arith, at, length-map text plain_in) in
        subst (λ (vs : List Plain). IsFarthest spell_text vs n) (sym (words_are text))
        (subst (λ (k : ℕ). IsFarthest spell_text (plains_of text) k) place
        (farthest (plains_of text) rest
        (failed (word_lines text) (plains_of text) (same_length text) Unexpected rest stopped)))

    passing : (k : ℕ) → PassesLimit (plains_of (take n text)) k → PassesLimit (take n (plains (here text))) k
    passing k x = subst (λ (vs : List Plain). PassesLimit vs k) (taken text n) x

    room : AreWithin (roles (plains_of (take n text))) → AreWithin (roles (take n (plains (here text))))
    room x = subst (λ (vs : List Plain). AreWithin (roles vs)) (taken text n) x

    last_line : line (lines (here text)) (length (here text) - 1) ≡ line (word_lines text) (length text - 1)
    last_line =
        at_line text (length (here text) - 1) ∙ ap (λ (i : ℕ). line (word_lines text) (i - 1)) (here_length text)

    pub told_limit : HasPreamble (plains_of text) → (k : ℕ) → PassesLimit (plains_of (take n text)) k
        → k + 1 < length text → IsRefused rule.PastLimit (line (word_lines text) k) (here text)
    told_limit h k x lt =
        refused_at text _ _ _ (at_line text k)
        (stopped_past (here text) n far (begun text h) k (passing k x)
        (let e = here_length text in omega (arith, lt, e)))

    pub told_word : HasPreamble (plains_of text) → AreWithin (roles (plains_of (take n text))) → n < length text
        → IsRefused rule.UnexpectedWord (line (word_lines text) n) (here text)
    told_word h within lt =
        refused_at text _ _ _ (at_line text n)
        (stopped_word (here text) n far (begun text h) (room within) (let e = here_length text in omega (arith, lt, e)))

    pub told_end : HasPreamble (plains_of text) → AreWithin (roles (plains_of (take n text))) → length text ≤ n
        → IsRefused rule.UnexpectedEnd (line (word_lines text) (length text - 1)) (here text)
    told_end h within le =
        refused_at text _ _ _ last_line
        (stopped_end (here text) n far (begun text h) None (room within)
        (let e = here_length text in omega (arith, le, e)))

    pub told_last : HasPreamble (plains_of text) → (k : ℕ) → PassesLimit (plains_of (take n text)) k
        → length text ≤ k + 1 → IsRefused rule.UnexpectedEnd (line (word_lines text) (length text - 1)) (here text)
    told_last h k x le =
        let last : length (here text) ≤ k + 1 = (let e = here_length text in omega (arith, le, e)) in
        refused_at text _ _ _ last_line
        (stopped_end (here text) n far (begun text h) (Some k) (passing k x, last)
        (at_last (here text) n far (begun text h) k (passing k x) last))

-- a word stops the reading, since no word is refused as past a limit by the grammar
pub unexpected_of : (text : List PlainWord) (rest : List Plain) (e : Refusal) → (e ≡ g.Unexpected) ⊎ (e ≡ g.PastLimit)
    → Fails e rest (preamble_at (word_lines text) (plains_of text))
    → preamble_at (word_lines text) (plains_of text) ≡ (Err Unexpected, rest)
unexpected_of text rest g.Unexpected kind h = h
unexpected_of text rest g.PastLimit kind h = absurd (never_limited text rest h)
unexpected_of text rest g.Memory (inl e) h = absurd cc
unexpected_of text rest g.Memory (inr e) h = absurd cc
