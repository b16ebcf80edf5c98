-- The words that pass a limit, by counting.
use Rattle.std.proofs.Common.{◌≡◌, ℕ, ◌+◌, ◌-◌, ◌<◌, true, false, List, [], ◌∷◌, ◌++◌, length}
use Rattle.std.proofs.Common.{length-append, take, drop, Option, Some, Result, Ok, Err, refl, sym, ap, subst, ◌∙◌}
use Rattle.std.proofs.Common.{append_assoc, arith}
use mathlib.Core.Logic.{inl, inr}
use Rattle.std.proofs.lemmas.List.{append-nil, take-append-drop, take_at}
use Rattle.std.proofs.Math.Seq.{take-add}
use Rattle.ss_words.specs.declared.refusal.Refusal.{Refusal}
use Rattle.ss_words.specs.declared.refusal.Refusal.TheVariants.{Unexpected, PastLimit, Memory}
use Rattle.ss_words.specs.declared.mark.Mark.TheVariants as m
use Rattle.ss_words.specs.declared.word.Sign.TheVariants as s
use Rattle.ss_words.specs.declared.reserved.Reserved.TheVariants as r
use Rattle.ss_words.specs.Plain.{Plain, name, mark, first}
use Rattle.ss_words.specs.Reading.{Read, whole}
use Rattle.ss_words.proofs.Goal.{front_is, back_is, front_and}
use Rattle.ss_routines.specs.Tree.{SectionTree, Tree, spell_section, spell}
use Rattle.ss_routines.specs.SectionReading.{sections_upto}
use Rattle.ss_routines.specs.Tree.{is_head}
use Rattle.ss_routines.specs.Refused.{IsWithin, BeginsWithin, announces, IsAnnounced, InRoom, PassesLimit}
use Rattle.ss_routines.specs.Counts.{count, opens, closes}
use Rattle.ss_routines.specs.OpenPhrases.{phrases_of, open_phrases}
use Rattle.ss_routines.specs.OneTooMany.{branches, rejoins, ends, behind_end}
use Rattle.ss_routines.specs.OneTooMany.{names_in_head, Counted, Parentheses, Ifs, Phrases}
use Rattle.ss_routines.specs.OneTooMany.{Parameters, Sections, IsOneTooMany, LimitIsCounted, CountPassesLimit}
use Rattle.ss_routines.proofs.Tally.{count-append}
use Rattle.ss_routines.proofs.Form.{Each}
use Rattle.ss_routines.proofs.SectionLaw.{sections_again}
use Rattle.ss_routines.proofs.Whole.{reading, read_sections, rest_ended, farthest, stood, passes, room_less, tree_fits}
use Rattle.ss_routines.proofs.Unique.{no_more, not_past, same_limit, less, equal, greater, order}
use Rattle.ss_routines.proofs.SectionCounts.{Spelled, Kept, Passed, Program, sections_out, whole_out}
use Rattle.ss_routines.proofs.HeadNames.{names_kept}
use Rattle.ss_routines.proofs.OpenWords.{behind_both}

abbrev IsCounted : List Plain → ℕ → Type 0
IsCounted ws k = (c : Counted) × IsOneTooMany c ws k

out : (ws r : List Plain) (o : Result Tree Refusal) → whole reading ws ≡ (o, r) → Program 50 64 16 33 256 o ws r
out ws r o e = subst (λ (x : Read Tree). Program 50 64 16 33 256 x.0 ws x.1) e (whole_out 49 64 16 31 256 ws)

-- ---- a word that is refused as past a limit is counted so

counted : (ws tail q : List Plain) (w : Plain) → ws ≡ q ++ w ∷ tail → Passed 50 64 16 33 256 q (Some w)
    → IsCounted ws (length ws - length (w ∷ tail))
counted ws tail q (mark (m.Sign s.Open)) e x = (
  Parentheses,
  (
    ap first (back_is ws q _ e),
    ap (count opens) (front_is ws q _ e) ∙ x ∙ ap (λ (u : List Plain). count closes u + 50) (sym (front_is ws q _ e)),
  ),
)
counted ws tail q (mark (m.Reserved r.If)) e x = (
  Ifs,
  (
    ap first (back_is ws q _ e),
    ap (count branches) (front_is ws q _ e) ∙ x ∙ ap (λ (u : List Plain). count rejoins u + 64) (sym
        (front_is ws q _ e)),
  ),
)
counted ws tail q (mark (m.Reserved r.For)) e x =
    (Phrases, (ap first (back_is ws q _ e), ap open_phrases (front_is ws q _ e) ∙ x false))
counted ws tail q (mark (m.Reserved r.Main)) e x =
    (Sections, (ap (λ (u : List Plain). is_head (first u)) (back_is ws q _ e), ap (count ends) (front_is ws q _ e) ∙ x))
counted ws tail q (mark (m.Reserved r.Routine)) e x =
    (Sections, (ap (λ (u : List Plain). is_head (first u)) (back_is ws q _ e), ap (count ends) (front_is ws q _ e) ∙ x))
counted ws tail q (mark (m.Reserved r.Event)) e x =
    (Sections, (ap (λ (u : List Plain). is_head (first u)) (back_is ws q _ e), ap (count ends) (front_is ws q _ e) ∙ x))
counted ws tail q (name v) e x =
    let at : names_in_head false (behind_end (take (length ws - length (name v ∷ tail) + 1) ws)) ≡ 34 =
    ap (λ (u : List Plain). names_in_head false (behind_end u)) (front_and ws q tail (name v) e) ∙ x in
    let one : IsOneTooMany Parameters ws (length ws - length (name v ∷ tail)) =
    (v, ap first (back_is ws q (name v ∷ tail) e), at) in
    (Parameters, one)
counted ws tail q _ e x = absurd x

forward : (ws : List Plain) (k : ℕ) → PassesLimit ws k → (o : Result Tree Refusal) (r : List Plain)
    → whole reading ws ≡ (o, r) → IsCounted ws k
forward ws k past (Ok t) r e = let (w, is) = read_sections ws r t e in absurd (not_past ws k t w is past)
forward ws k past (Err Unexpected) r e =
    let j = length ws - length r in
    elim (order j (k + 1)) [
      | less h ↦ absurd (no_more ws j (k + 1) (farthest ws r e) h (let i =
          past.is_word in omega (arith, i)) past.with_it)
      | equal h ↦ absurd (past.no_room (room_less ws (k + 1) j (omega (arith, h)) (stood ws r Unexpected e)))
      | greater h ↦ absurd (past.no_room (room_less ws (k + 1) j (omega (arith, h)) (stood ws r Unexpected e)))
    ]
forward ws k past (Err Memory) r e = absurd (out ws r (Err Memory) e)
forward ws k past (Err PastLimit) [] e = let x = out ws [] (Err PastLimit) e in absurd (x.2)
forward ws k past (Err PastLimit) (w ∷ tail) e =
    let (q, split, x) = out ws (w ∷ tail) (Err PastLimit) e in
    let j = length ws - length (w ∷ tail) in
    let same : j ≡ k = same_limit ws j k (passes ws (w ∷ tail) e w tail refl) past in
    subst (λ (i : ℕ). IsCounted ws i) same (counted ws tail q w split x)

pub limit_is_counted : LimitIsCounted
limit_is_counted ws k past = forward ws k past (whole reading ws).0 (whole reading ws).1 refl

-- ---- the words that begin a program within the limits are counted within them

all_taken : (ws : List Plain) → take (length ws) ws ≡ ws
all_taken ws = ap (take (length ws)) (sym (append-nil ws)) ∙ take_at ws [] (length ws) refl

first_kept : (w : Plain) (r d x : List Plain) → d ≡ w ∷ r → first (d ++ x) ≡ Some w
first_kept w r d x e = ap (λ (u : List Plain). first (u ++ x)) e

kept_of : (q ws r : List Plain) → ws ≡ q ++ r → r ≡ [] → Kept 50 64 16 q → Kept 50 64 16 ws
kept_of q ws r e none x =
    subst (λ (u : List Plain). Kept 50 64 16 u) (sym (e ∙ ap (λ (u : List Plain). q ++ u) none ∙ append-nil q)) x

bounds : (ws : List Plain) (t : Tree) (x : List Plain) → IsWithin t → spell t ≡ ws ++ x → (o : Result Tree Refusal)
    (r : List Plain) → whole reading ws ≡ (o, r) → Kept 50 64 16 ws
bounds ws t x within e (Ok u) r read =
    let (q, split, y, each) = out ws r (Ok u) read in
    let p = y.parentheses in
    let g = y.ifs in
    kept_of q ws r split (rest_ended ws r u read) (record {
      parentheses = omega (arith, p);
      ifs = omega (arith, g);
      phrases = λ b. omega (arith, ap phrases_of (y.phrases b));
    })
bounds ws t x within e (Err Unexpected) [] read =
    let (q, split, y) = out ws [] (Err Unexpected) read in kept_of q ws [] split refl y
bounds ws t x within e (Err Unexpected) (w ∷ r) read =
    let j = length ws - length (w ∷ r) in
    let far = farthest ws (w ∷ r) read in
    let (q, split, y) = out ws (w ∷ r) (Err Unexpected) read in
    let back : drop j ws ≡ w ∷ r = back_is ws q (w ∷ r) split in
    absurd (far.no_further t (drop j ws ++ x) (e ∙ ap (λ (u : List Plain). u ++ x) (sym (take-append-drop j ws))
    ∙ append_assoc (take j ws) (drop j ws) x) (first_kept w r (drop j ws) x back ∙ ap first (sym back)))
bounds ws t x within e (Err Memory) r read = absurd (out ws r (Err Memory) read)
bounds ws t x within e (Err PastLimit) [] read = let y = out ws [] (Err PastLimit) read in absurd (y.2)
bounds ws t x within e (Err PastLimit) (w ∷ r) read =
    let j = length ws - length (w ∷ r) in
    let past = passes ws (w ∷ r) read w r refl in
    let all : InRoom (take (length ws) ws) = subst InRoom (sym (all_taken ws)) (inl (t, within, x, e)) in
    absurd (past.no_room (room_less ws (j + 1) (length ws) (let i = past.is_word in omega (arith, i)) all))

-- the words of a program within the limits
spelled : (t : Tree) → IsWithin t → (count ends (spell t) ≡ length t) × Each Spelled t
spelled t w =
    let again : sections_upto 50 64 16 32 256 (spell t) ≡ (Ok t, []) =
    sections_again 50 64 16 31 (omega arith) 256 t
    (tree_fits 50 64 16 31 256 t w.parentheses w.ifs w.phrases w.parameters w.sections) in
    let (q, split, y, each) : Program 50 64 16 33 256 (Ok t) (spell t) [] =
    subst (λ (x : Read Tree). Program 50 64 16 33 256 x.0 (spell t) x.1) again (sections_out 49 64 16 31 256
    (spell t)) in
    (ap (count ends) (split ∙ append-nil q) ∙ y.sections, each)

-- ---- the last word

same_last : (ws a b : List Plain) (x y : Plain) → ws ≡ a ++ x ∷ [] → ws ≡ b ++ y ∷ [] → x ≡ y
same_last ws a b x y e f =
    let h : (let u : List Plain = x ∷ [] in u) ≡ y ∷ [] =
    sym (back_is ws a (x ∷ []) e) ∙ back_is ws b (y ∷ []) f in cc

last_word : (w : Plain) (ws : List Plain) → (c : List Plain) × (v : Plain) × (w ∷ ws ≡ c ++ v ∷ [])
last_word w [] = ([], w, refl)
last_word w (u ∷ ws) = let (c, v, e) = last_word u ws in (w ∷ c, v, ap (λ (x : List Plain). w ∷ x) e)

program_ends : (t : SectionTree) (ts : Tree) → Each Spelled (t ∷ ts)
    → (y : List Plain) × (spell (t ∷ ts) ≡ y ++ mark (m.Reserved r.End) ∷ [])
program_ends t [] ((q, e, x), h) = (q, append-nil (spell_section t) ∙ e)
program_ends t (u ∷ ts) (x, h) =
    let (y, e) = program_ends u ts h in (
      spell_section t ++ y,
      ap (λ (z : List Plain). spell_section t ++ z) e
          ∙ sym (append_assoc (spell_section t) y (mark (m.Reserved r.End) ∷ [])),
    )

-- an END is after each word of a program
some_end : (t : Tree) → Each Spelled t → (p x : List Plain) (w : Plain) → spell t ≡ p ++ w ∷ x
    → 0 < count ends (w ∷ x)
some_end [] h p x w e = absurd (omega (arith, ap length e, length-append p (w ∷ x)))
some_end (t ∷ ts) h p x w e =
    let (y, is) = program_ends t ts h in
    let (c, v, last) = last_word w x in
    let whole : spell (t ∷ ts) ≡ (p ++ c) ++ v ∷ [] =
    e ∙ ap (λ (u : List Plain). p ++ u) last ∙ sym (append_assoc p c (v ∷ [])) in
    let same : v ≡ mark (m.Reserved r.End) = same_last (spell (t ∷ ts)) (p ++ c) y v _ whole is in
    let one : count ends (v ∷ []) ≡ 1 = ap (λ (u : Plain). count ends (u ∷ [])) same in
    omega (arith, one, ap (count ends) last, count-append ends c (v ∷ []))

-- ---- a word that is counted as one too many passes a limit

one_more : (ws : List Plain) (k : ℕ) (w : Plain) → first (drop k ws) ≡ Some w → take (k + 1) ws ≡ take k ws ++ w ∷ []
one_more ws k w e = take-add k 1 ws ∙ ap (λ (u : List Plain). take k ws ++ u) (one (drop k ws) e)
  where
    one : (us : List Plain) → first us ≡ Some w → take 1 us ≡ w ∷ []
    one [] e = absurd cc
    one (u ∷ us) e = let same : u ≡ w = cc in ap (λ (v : Plain). v ∷ []) same

-- a word that counts to a limit
not_announced : (ws : List Plain) (k : ℕ) (w : Plain) → first (drop k ws) ≡ Some w → announces w ≡ false
    → IsAnnounced (take (k + 1) ws) → ⊥
not_announced ws k w e counts h =
    let same : h.last ≡ w = same_last (take (k + 1) ws) h.front (take k ws) h.last w h.words (one_more ws k w e) in
    let there = h.counts_not in
    let both : true ≡ false = sym there ∙ ap announces same ∙ counts in
    absurd cc

head_word : (w : Option Plain) → is_head w ≡ true → (v : Plain) × (w ≡ Some v) × (announces v ≡ false)
head_word (Some (mark (m.Reserved r.Main))) e = (mark (m.Reserved r.Main), refl, refl)
head_word (Some (mark (m.Reserved r.Routine))) e = (mark (m.Reserved r.Routine), refl, refl)
head_word (Some (mark (m.Reserved r.Event))) e = (mark (m.Reserved r.Event), refl, refl)
head_word _ e = absurd cc

-- programs within the limits begin with it
too_many : (c : Counted) (ws : List Plain) (k : ℕ) → IsOneTooMany c ws k → BeginsWithin (take (k + 1) ws) → ⊥
too_many Parentheses ws k (f, x) (t, w, z, e) =
    let b = bounds (take (k + 1) ws) t z w e (whole reading (take (k + 1) ws)).0 (whole reading (take (k + 1) ws)).1
    refl in
    let more = one_more ws k _ f in
    let p = b.parentheses in
    omega (
      arith,
      x,
      p,
      ap (count opens) more,
      ap (count closes) more,
      count-append opens (take k ws) (mark (m.Sign s.Open) ∷ []),
      count-append closes (take k ws) (mark (m.Sign s.Open) ∷ []),
    )
too_many Ifs ws k (f, x) (t, w, z, e) =
    let b = bounds (take (k + 1) ws) t z w e (whole reading (take (k + 1) ws)).0 (whole reading (take (k + 1) ws)).1
    refl in
    let more = one_more ws k _ f in
    let p = b.ifs in
    omega (
      arith,
      x,
      p,
      ap (count branches) more,
      ap (count rejoins) more,
      count-append branches (take k ws) (mark (m.Reserved r.If) ∷ []),
      count-append rejoins (take k ws) (mark (m.Reserved r.If) ∷ []),
    )
too_many Phrases ws k (f, x) (t, w, z, e) =
    let b = bounds (take (k + 1) ws) t z w e (whole reading (take (k + 1) ws)).0 (whole reading (take (k + 1) ws)).1
    refl in
    let p = b.phrases false in
    let more = one_more ws k _ f in
    absurd (omega (
      arith,
      x,
      p,
      ap open_phrases more,
      ap phrases_of (behind_both false [] (take k ws) (mark (m.Reserved r.For) ∷ [])),
    ))
too_many Parameters ws k (v, f, x) (t, w, z, e) =
    let (n, each) = spelled t w in
    let le = names_kept t each 32 w.parameters (take (k + 1) ws) z e in
    absurd (omega (arith, le, x))
too_many Sections ws k (f, x) (t, w, z, e) =
    let (n, each) = spelled t w in
    let (v, here, counts) = head_word (first (drop k ws)) f in
    let whole : spell t ≡ take k ws ++ v ∷ z =
    e ∙ ap (λ (u : List Plain). u ++ z) (one_more ws k v here) ∙ append_assoc (take k ws) (v ∷ []) z in
    let le = w.sections in
    absurd (omega (
      arith,
      x,
      n,
      le,
      some_end t each (take k ws) z v whole,
      ap (count ends) whole,
      count-append ends (take k ws) (v ∷ z),
    ))

announced : (c : Counted) (ws : List Plain) (k : ℕ) → IsOneTooMany c ws k → IsAnnounced (take (k + 1) ws) → ⊥
announced Parentheses ws k (f, x) h = not_announced ws k _ f refl h
announced Ifs ws k (f, x) h = not_announced ws k _ f refl h
announced Phrases ws k (f, x) h = not_announced ws k _ f refl h
announced Parameters ws k (v, f, x) h = not_announced ws k _ f refl h
announced Sections ws k (f, x) h =
    let (v, here, counts) = head_word (first (drop k ws)) f in not_announced ws k v here counts h

no_room_for : (c : Counted) (ws : List Plain) (k : ℕ) → IsOneTooMany c ws k → InRoom (take (k + 1) ws) → ⊥
no_room_for c ws k x (inl h) = too_many c ws k x h
no_room_for c ws k x (inr h) = announced c ws k x h

pub count_passes_limit : CountPassesLimit
count_passes_limit ws k c is_word before with_it x =
    record { is_word = is_word; before = before; with_it = with_it; no_room = no_room_for c ws k x }
