-- The answers to the words of a text, by the laws of the reading.
use Rattle.std.proofs.Common.{◌≡◌, ℕ, suc, ◌+◌, ◌-◌, ◌≤◌, ◌<◌, true, false, List, [], ◌∷◌, ◌++◌, length}
use Rattle.std.proofs.Common.{length-append, take, drop, Option, Some, None, Ok, Err, refl, sym, ap, subst, ◌∙◌}
use Rattle.std.proofs.Common.{append_assoc, arith}
use mathlib.Core.Logic.{inl, inr}
use Rattle.std.specs.List.{flat_map}
use Rattle.std.proofs.lemmas.List.{append-nil, take_at, drop_at}
use Rattle.std.proofs.Math.Seq.{take-add}
use Rattle.ss_words.specs.declared.refusal.Refusal.{Refusal}
use Rattle.ss_words.specs.declared.refusal.Refusal.TheVariants.{Unexpected, PastLimit}
use Rattle.ss_words.specs.declared.mark.Mark.TheVariants as m
use Rattle.ss_words.specs.declared.reserved.Reserved.TheVariants as r
use Rattle.ss_words.specs.Plain.{Plain, mark, first}
use Rattle.ss_words.specs.Reading.{Read, Reading, pure, end_of_words, whole}
use Rattle.ss_words.specs.Farthest.{IsFarthest}
use Rattle.ss_words.proofs.Laws.{Good, Any, pure_good}
use Rattle.ss_words.proofs.Local.{same, more, IsLimited, Local}
use Rattle.ss_words.proofs.Goal as goal
use Rattle.ss_words.proofs.Goal.{spell_ended, ended_good}
use Rattle.ss_routines.specs.Tree.{SectionTree, Tree, spell_head, spell_define, spell_block, spell_section, spell}
use Rattle.ss_routines.specs.Tree.{depth}
use Rattle.ss_routines.specs.Tree.{ifs, phrases, parameters}
use Rattle.ss_routines.specs.SectionReading.{sections_upto}
use Rattle.ss_routines.specs.Refused.{IsWithin, Begins, BeginsWithin, announces, IsAnnounced, InRoom, PassesLimit}
use Rattle.ss_routines.specs.Refused.{IsUnexpectedWord, IsUnexpectedEnd, IsPastLimit}
use Rattle.ss_routines.proofs.Form.{Each}
use Rattle.ss_routines.proofs.AnnouncedParts.{Stood, IsKept, Keeps, keeps_of, good_of, bind_keeps}
use Rattle.ss_routines.proofs.HeadAgain.{Counts, IsSpared, Spares, pure_spares, bind_spares, ended_spares}
use Rattle.ss_routines.proofs.SectionLaw.{FitsSection, FitsTree, sections_keep, sections_again, sections_spare}
use Rattle.ss_routines.proofs.SectionLaw.{sections_near}

-- ---- the limits

module _ (n i f k : ℕ) where
  deep_each : (ts : Tree) → Each (FitsSection n i f k) ts → depth ts ≤ n
  deep_each [] h = omega arith
  deep_each (t ∷ ts) (h, hs) = let a = h.open_ones in let d = a.deep in let e = deep_each ts hs in omega (arith, d, e)

  ifs_each : (ts : Tree) → Each (FitsSection n i f k) ts → ifs ts ≤ i
  ifs_each [] h = omega arith
  ifs_each (t ∷ ts) (h, hs) = let a = h.open_ones in let d = a.branches in let e = ifs_each ts hs in omega (arith, d, e)

  phrases_each : (ts : Tree) → Each (FitsSection n i f k) ts → phrases ts ≤ f
  phrases_each [] h = omega arith
  phrases_each (t ∷ ts) (h, hs) =
      let a = h.open_ones in let d = a.loops in let e = phrases_each ts hs in omega (arith, d, e)

  parameters_each : (ts : Tree) → Each (FitsSection n i f k) ts → parameters ts ≤ suc k
  parameters_each [] h = omega arith
  parameters_each (t ∷ ts) (h, hs) = let d = h.parameters in let e = parameters_each ts hs in omega (arith, d, e)

  each_fits : (ts : Tree) → depth ts ≤ n → ifs ts ≤ i → phrases ts ≤ f → parameters ts ≤ suc k
      → Each (FitsSection n i f k) ts
  each_fits [] a b c d = tt
  each_fits (t ∷ ts) a b c d = (
    record {
      open_ones = record { deep = omega (arith, a); branches = omega (arith, b); loops = omega (arith, c) };
      parameters = omega (arith, d);
    },
    each_fits ts (omega (arith, a)) (omega (arith, b)) (omega (arith, c))
        (omega (arith, d)),
  )

  pub tree_fits : (j : ℕ) (ts : Tree) → depth ts ≤ n → ifs ts ≤ i → phrases ts ≤ f → parameters ts ≤ suc k
      → length ts ≤ j → FitsTree n i f k j ts
  tree_fits j ts a b c d e = (each_fits ts a b c d, e)

abbrev FitsLimits : Tree → Type 0
FitsLimits ts = FitsTree 50 64 16 31 256 ts

within : (t : Tree) → FitsLimits t → IsWithin t
within t h =
    record {
      parentheses = deep_each 50 64 16 31 t h.0;
      ifs = ifs_each 50 64 16 31 t h.0;
      phrases = phrases_each 50 64
          16 31 t h.0;
      parameters = parameters_each 50 64 16 31 t h.0;
      sections = h.1;
    }

fits_within : (t : Tree) → IsWithin t → FitsLimits t
fits_within t w = tree_fits 50 64 16 31 256 t w.parentheses w.ifs w.phrases w.parameters w.sections

-- ---- the reading of a whole text

abbrev pub reading : Reading Tree
reading = sections_upto 50 64 16 32 256

kept : Keeps FitsLimits spell [] reading
kept = sections_keep 50 64 16 31 (omega arith) 256

pub good : Good Any spell [] reading
good = good_of FitsLimits spell [] reading kept

whole_kept : Keeps FitsLimits spell [] (whole reading)
unfolding whole
whole_kept =
    bind_keeps FitsLimits FitsLimits spell spell [] _ (λ t h. bind_keeps Any FitsLimits spell_ended spell (spell t) _
    (λ u v. keeps_of FitsLimits spell _ (pure t) (pure_good FitsLimits spell _ t h (append-nil (spell t))))
    (λ u. (t, tt, [], sym (append-nil (spell t ++ []) ∙ append-nil (spell t)))) end_of_words
    (keeps_of Any spell_ended [] end_of_words ended_good)) (λ t. (t, tt, [], sym (append-nil (spell t)))) reading kept

pub whole_spared : Spares (whole reading)
unfolding whole
whole_spared =
    bind_spares _ (λ t. bind_spares _ (λ u. pure_spares t) end_of_words ended_spares) reading
    (sections_spare 50 64 16 31 (omega arith) 256)

again : (t : Tree) → IsWithin t → reading (spell t) ≡ (Ok t, [])
again t w = sections_again 50 64 16 31 (omega arith) 256 t (fits_within t w)

-- the part that is read is a program within the limits
pub read_sections : (ws r : List Plain) (t : Tree) → whole reading ws ≡ (Ok t, r) → IsWithin t × (ws ≡ spell t)
read_sections ws r t e =
    let (f, is) = goal.found Any spell reading good ws r t e in
    let h : IsKept FitsLimits spell [] (Ok t) ws r = subst (λ (x : Read Tree). IsKept FitsLimits spell [] x.0 ws x.1) e
    (whole_kept.at ws) in
    (within t h.0, is)

pub rest_ended : (ws r : List Plain) (t : Tree) → whole reading ws ≡ (Ok t, r) → r ≡ []
rest_ended ws r t e = goal.rest_ended Any spell reading good ws r t e

-- with more room
abbrev larger_reading : Tree → Reading Tree
larger_reading t = sections_upto (51 + depth t) (65 + ifs t) (17 + phrases t) (suc (32 + parameters t)) (257 + length t)

-- in which this tree is read
larger : (t : Tree) → (p' : Reading Tree) × (Local more reading p') × (p' (spell t) ≡ (Ok t, []))
larger t = (
  larger_reading t,
  sections_near more 50 64 16 31 (51 + depth t) (65 + ifs t) (17 + phrases t) (32 + parameters t) (omega arith)
      (omega arith) (omega arith) (omega arith) 256 (257 + length t) (omega arith),
  sections_again (51 + depth t) (65 + ifs t) (17 + phrases t) (32 + parameters t) (omega arith) (257 + length t) t
      (tree_fits (51 + depth t) (65 + ifs t) (17 + phrases t) (32 + parameters t) (257 + length t) t (omega arith)
      (omega arith) (omega arith) (omega arith) (omega arith)),
)

abbrev wide : Reading Tree
wide = sections_upto 51 65 17 33 257

wider : Local more reading wide
wider =
    sections_near more 50 64 16 31 51 65 17 32 (omega arith) (omega arith) (omega arith) (omega arith) 256 257
    (omega arith)

wide_good : Good Any spell [] wide
wide_good = good_of (FitsTree 51 65 17 32 257) spell [] wide (sections_keep 51 65 17 32 (omega arith) 257)

near : Local same reading reading
near = sections_near same 50 64 16 31 50 64 16 31 refl refl refl refl 256 256 refl

-- ---- beginnings

shorter : (ws : List Plain) (j k : ℕ) → j ≤ k → take j ws ++ take (k - j) (drop j ws) ≡ take k ws
shorter ws j k le = let e : j + (k - j) ≡ k = omega arith in sym (take-add j (k - j) ws) ∙ ap (λ (i : ℕ). take i ws) e

begun_less : (v w x : List Plain) → BeginsWithin (v ++ w) → BeginsWithin v
begun_less v w x (t, within, y, e) = (t, within, w ++ y, e ∙ append_assoc v w y)

-- if words go on after v, all of them but the last go on there as well
front_of : (v w front : List Plain) (l : Plain) → v ++ w ≡ front ++ l ∷ [] → 0 < length w → (z : List Plain)
    × (front ≡ v ++ z)
front_of v w front l e lt =
    let le : length v ≤ length front = omega (
      arith,
      lt,
      ap length e,
      length-append v w,
      length-append front
          (l ∷ []),
    ) in
    let back : take (length v) (v ++ w) ++ drop (length v) front ≡ front =
    goal.longer (v ++ w) front (l ∷ []) (length v) e le in
    let part : take (length v) (v ++ w) ≡ v = take_at v w (length v) refl in
    (drop (length v) front, sym back ∙ ap (λ (u : List Plain). u ++ drop (length v) front) part)

room_before : (v w : List Plain) → InRoom (v ++ w) → InRoom v
room_before v w (inl h) = inl (begun_less v w [] h)
room_before v [] (inr h) = inr (subst IsAnnounced (append-nil v) h)
room_before v (x ∷ w) (inr h) =
    let (z, is) = front_of v (x ∷ w) h.front h.last h.words (omega arith) in
    inl (begun_less v z [] (subst BeginsWithin is h.within))

pub room_less : (ws : List Plain) (j k : ℕ) → j ≤ k → InRoom (take k ws) → InRoom (take j ws)
room_less ws j k le h = room_before (take j ws) (take (k - j) (drop j ws)) (subst InRoom (sym (shorter ws j k le)) h)

pub within_begins : (ws : List Plain) → BeginsWithin ws → Begins ws
within_begins ws (t, w, x, e) = (t, x, e)

pub room_begins : (ws : List Plain) → InRoom ws → Begins ws
room_begins ws (inl h) = within_begins ws h
room_begins ws (inr h) = h.begins

-- ---- the last word of a program

last_of : List Plain → Option Plain
last_of [] = None
last_of (w ∷ []) = Some w
last_of (w ∷ v ∷ ws) = last_of (v ∷ ws)

last_cons : (w : Plain) (ws : List Plain) (v : Plain) → last_of ws ≡ Some v → last_of (w ∷ ws) ≡ Some v
unfolding last_of
last_cons w [] v e = absurd cc
last_cons w (u ∷ ws) v e = e

last_append : (xs ys : List Plain) (v : Plain) → last_of ys ≡ Some v → last_of (xs ++ ys) ≡ Some v
last_append [] ys v e = e
last_append (x ∷ xs) ys v e = last_cons x (xs ++ ys) v (last_append xs ys v e)

last_one : (w : Plain) → last_of (w ∷ []) ≡ Some w
unfolding last_of
last_one w = refl

section_ends : (t : SectionTree) → last_of (spell_section t) ≡ Some (mark (m.Reserved r.End))
section_ends t =
    last_append ((spell_head t.head ++ flat_map spell_define t.locals) ++ spell_block t.block)
    (mark (m.Reserved r.End) ∷ []) _ (last_one _)

program_ends : (t : SectionTree) (ts : Tree) → last_of (spell (t ∷ ts)) ≡ Some (mark (m.Reserved r.End))
program_ends t [] = ap last_of (append-nil (spell_section t)) ∙ section_ends t
program_ends t (u ∷ ts) = last_append (spell_section t) (spell (u ∷ ts)) _ (program_ends u ts)

ends_with : (t : Tree) (q : List Plain) (w : Plain) → spell t ≡ q ++ w ∷ [] → w ≡ mark (m.Reserved r.End)
ends_with [] [] w e = absurd cc
ends_with [] (v ∷ q) w e = absurd cc
ends_with (t ∷ ts) q w e =
    let same : Some w ≡ Some (mark (m.Reserved r.End)) = sym (last_append q (w ∷ []) w (last_one w))
    ∙ ap last_of (sym e) ∙ program_ends t ts in
    cc

limited_end : (w : Plain) → w ≡ mark (m.Reserved r.End) → IsLimited (Some w) → ⊥
limited_end w e h = subst (λ (u : Plain). IsLimited (Some u)) e h

-- ---- the three refusals

module _ (ws rest : List Plain) where
  abbrev k : ℕ
  k = length ws - length rest

  rest_split : (g : Refusal) → whole reading ws ≡ (Err g, rest) → (q : List Plain) × (ws ≡ q ++ rest)
      × Stood FitsLimits spell [] q
  rest_split g e = subst (λ (x : Read Tree). IsKept FitsLimits spell [] x.0 ws x.1) e (whole_kept.at ws)

  in_room : (q : List Plain) → Stood FitsLimits spell [] q → InRoom q
  in_room q (inl (t, f, x, h)) = inl (t, within t f, x, h)
  in_room q (inr h) =
      let a = h.within in
      let b = h.begins in
      inr (record {
        front = h.front;
        last = h.last;
        words = h.words;
        counts_not = h.counts_not;
        within = (a.0, within a.0 a.1, a.2, a.3);
        begins = (b.0, b.2, b.3);
      })

  pub stood : (g : Refusal) → whole reading ws ≡ (Err g, rest) → InRoom (take k ws)
  stood g e = let (q, is, h) = rest_split g e in subst InRoom (sym (goal.front_is ws q rest is)) (in_room q h)

  pub farthest : whole reading ws ≡ (Err Unexpected, rest) → IsFarthest spell ws k
  farthest e = goal.farthest spell Any reading good larger ws rest e

  pub unexpected_word : whole reading ws ≡ (Err Unexpected, rest) → 0 < length rest → IsUnexpectedWord ws k
  unexpected_word e some =
      let (q, split) = goal.left Any spell reading good ws rest Unexpected e in
      record {
        is_word = omega (arith, some, ap length split, length-append q rest);
        farthest = farthest e;
        in_room = stood Unexpected e;
      }

  pub unexpected_end : whole reading ws ≡ (Err Unexpected, rest) → length rest ≡ 0 → IsUnexpectedEnd ws
  unexpected_end e none =
      let at : k ≡ length ws = omega (arith, none) in
      record {
        farthest = subst (λ (i : ℕ). IsFarthest spell ws i) at (farthest e);
        in_room = room_less ws
            (length ws - 1) k (omega (arith, at)) (stood Unexpected e);
      }

  -- the word that is refused
  split_at : (g : Refusal) → whole reading ws ≡ (Err g, rest) → (w : Plain) (tail : List Plain) → rest ≡ w ∷ tail
      → take (k + 1) ws ≡ take k ws ++ w ∷ []
  split_at g e w tail is =
      let (q, split) = goal.left Any spell reading good ws rest g e in
      let whole_split : ws ≡ q ++ w ∷ tail = split ∙ ap (λ (u : List Plain). q ++ u) is in
      ap (λ (u : List Plain). take (length ws - length u + 1) ws) is ∙ goal.front_and ws q tail w whole_split
      ∙ ap (λ (u : List Plain). u ++ w ∷ []) (sym (goal.front_is ws q rest split))

  goes_past : whole reading ws ≡ (Err PastLimit, rest) → Begins (take (k + 1) ws)
  goes_past e = goal.goes_past spell Any reading good wide wider Any wide_good ws rest e

  limited : whole reading ws ≡ (Err PastLimit, rest) → IsLimited (first rest)
  limited e = goal.limited spell Any reading good wide wider ws rest e

  no_program : whole reading ws ≡ (Err PastLimit, rest) → (w : Plain) (tail : List Plain) → rest ≡ w ∷ tail
      → BeginsWithin (take (k + 1) ws) → ⊥
  no_program e w tail is (t, fits, x, h) =
      goal.no_room spell Any reading good near t (again t fits) ws rest e (w ∷ x)
      (h ∙ ap (λ (u : List Plain). u ++ x) (split_at PastLimit e w tail is) ∙ append_assoc (take k ws) (w ∷ []) x)
      (ap first (sym is))

  -- the refused word counts to a limit
  counted : whole reading ws ≡ (Err PastLimit, rest) → Counts (first rest)
  counted e = subst (λ (x : Read Tree). IsSpared x.0 x.1) e (whole_spared.at ws)

  none_goes_on : whole reading ws ≡ (Err PastLimit, rest) → (w : Plain) (tail : List Plain) → rest ≡ w ∷ tail
      → InRoom (take (k + 1) ws) → ⊥
  none_goes_on e w tail is (inl h) = no_program e w tail is h
  none_goes_on e w tail is (inr h) =
      let here : announces w ≡ false = subst (λ (u : List Plain). Counts (first u)) is (counted e) in
      let one : Some h.last ≡ Some w = sym (last_append h.front (h.last ∷ []) h.last (last_one h.last))
      ∙ ap last_of (sym h.words ∙ split_at PastLimit e w tail is)
      ∙ last_append (take k ws) (w ∷ []) w (last_one w) in
      let there : announces h.last ≡ true = h.counts_not in
      let same_word : h.last ≡ w = cc in
      let both : true ≡ false = sym there ∙ ap announces same_word ∙ here in
      absurd cc

  pub passes : whole reading ws ≡ (Err PastLimit, rest) → (w : Plain) (tail : List Plain) → rest ≡ w ∷ tail
      → PassesLimit ws k
  passes e w tail is =
      let (q, split) = goal.left Any spell reading good ws rest PastLimit e in
      record {
        is_word = omega (arith, ap length split, length-append q rest, ap length is);
        before = stood PastLimit e;
        with_it = goes_past e;
        no_room = none_goes_on e w tail is;
      }

  past_with : whole reading ws ≡ (Err PastLimit, rest) → 1 < length rest → (w : Plain) (tail : List Plain)
      → rest ≡ w ∷ tail → IsPastLimit ws k
  past_with e more_words w tail is =
      let (q, split) = goal.left Any spell reading good ws rest PastLimit e in
      record {
        passes = passes e w tail is;
        goes_on = λ at far. absurd
            (omega (arith, at, more_words, ap length split, length-append q rest));
      }

  end_with : whole reading ws ≡ (Err PastLimit, rest) → (w : Plain) → rest ≡ w ∷ [] → IsUnexpectedEnd ws
  end_with e w is =
      let (q, split) = goal.left Any spell reading good ws rest PastLimit e in
      let whole_split : ws ≡ q ++ w ∷ [] = split ∙ ap (λ (u : List Plain). q ++ u) is in
      let at : k + 1 ≡ length ws = omega (arith, ap length split, length-append q rest, ap length is) in
      let begun : Begins (take (length ws) ws) = subst (λ (i : ℕ). Begins (take i ws)) at (goes_past e) in
      let may : IsLimited (Some w) = subst (λ (u : List Plain). IsLimited (first u)) is (limited e) in
      record {
        farthest =
            record {
              inside = omega arith;
              reached = begun;
              no_further = λ t x spelled last. no_program t x spelled last
                  w q whole_split may;
            };
        in_room =
            subst (λ (i : ℕ). InRoom (take i ws)) (let b : k ≡ length ws - 1 = omega (arith, at) in b)
            (stood PastLimit e);
      }
    where
      nothing : (x : List Plain) → first x ≡ None → x ≡ []
      nothing [] h = refl
      nothing (v ∷ x) h = absurd cc

      no_program : (t : Tree) (x : List Plain) → spell t ≡ take (length ws) ws ++ x
          → first x ≡ first (drop (length ws) ws) → (w : Plain) (q : List Plain) → ws ≡ q ++ w ∷ [] → IsLimited (Some w)
          → ⊥
      no_program t x spelled last w q split may =
          let all : take (length ws) ws ≡ ws = ap (take (length ws)) (sym (append-nil ws))
          ∙ take_at ws [] (length ws) refl in
          let none : drop (length ws) ws ≡ [] = ap (drop (length ws)) (sym (append-nil ws))
          ∙ drop_at ws [] (length ws) refl in
          let empty : x ≡ [] = nothing x (last ∙ ap first none) in
          limited_end w (ends_with t q w (spelled ∙ ap (λ (u : List Plain). u ++ x) all
          ∙ ap (λ (u : List Plain). ws ++ u) empty ∙ append-nil ws ∙ split)) may

pub past_limit : (ws rest : List Plain) → whole reading ws ≡ (Err PastLimit, rest) → 1 < length rest
    → IsPastLimit ws (length ws - length rest)
past_limit ws [] e lt = absurd (omega (arith, lt))
past_limit ws (w ∷ tail) e lt = past_with ws (w ∷ tail) e lt w tail refl

pub past_end : (ws rest : List Plain) → whole reading ws ≡ (Err PastLimit, rest) → length rest ≤ 1 → IsUnexpectedEnd ws
past_end ws [] e le = absurd (limited ws [] e)
past_end ws (w ∷ []) e le = end_with ws (w ∷ []) e w refl
past_end ws (w ∷ v ∷ tail) e le = absurd (omega (arith, le))
