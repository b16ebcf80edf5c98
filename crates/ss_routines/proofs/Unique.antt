-- One spelling, one answer.
use Rattle.std.proofs.Common.{◌≡◌, ◌⊎◌, ℕ, zero, suc, max, ◌+◌, ◌-◌, ◌≤◌, ◌<◌, List, [], ◌∷◌, ◌++◌, length}
use Rattle.std.proofs.Common.{length-append, take, drop, Result, Ok, Err, refl, sym, ap, subst, ◌∙◌, append_assoc}
use Rattle.std.proofs.Common.{arith}
use mathlib.Core.Logic.{inl, inr}
use Rattle.std.proofs.lemmas.List.{length-map, take-append-drop}
use Rattle.std.proofs.Math.Seq.{take-add}
use Rattle.ss_words.specs.declared.fault.TextRule.{TextRule}
use Rattle.ss_words.specs.declared.fault.TextRule.TheVariants as rule
use Rattle.ss_words.specs.declared.fault.TextFault.{TextFault}
use Rattle.ss_words.specs.declared.fault.TextFault.TheVariants.{Refused, Memory}
use Rattle.ss_words.specs.declared.refusal.Refusal.{Refusal}
use Rattle.ss_words.specs.Plain.{Plain, PlainAt, first, plains}
use Rattle.ss_words.specs.Noting.{line}
use Rattle.ss_words.specs.Farthest.{IsFarthest}
use Rattle.ss_words.specs.Reading.{Read}
use Rattle.ss_routines.specs.Places.{Section}
use Rattle.ss_routines.specs.Tree.{Tree, spell, depth, ifs, phrases, parameters}
use Rattle.ss_routines.specs.SectionReading.{sections_upto}
use Rattle.ss_routines.specs.Written.{written}
use Rattle.ss_routines.specs.Refused.{lines, IsWithin, Begins, PassesLimit, IsUnexpectedWord, IsUnexpectedEnd}
use Rattle.ss_routines.specs.Refused.{IsPastLimit, IsRefused, AreSections}
use Rattle.ss_routines.specs.Laws.{SpellingIsUnique, AnswerIsUnique, LimitsLetPass, LimitsHold, LimitsRefuse}
use Rattle.ss_routines.proofs.SectionLaw.{sections_again}
use Rattle.ss_routines.proofs.Whole.{tree_fits, room_less, room_begins}

-- each of two trees is read in the room that both need
abbrev deep : Tree → Tree → ℕ
deep t u = suc (max (depth t) (depth u))

abbrev branched : Tree → Tree → ℕ
branched t u = max (ifs t) (ifs u)

abbrev looped : Tree → Tree → ℕ
looped t u = max (phrases t) (phrases u)

abbrev given : Tree → Tree → ℕ
given t u = max (parameters t) (parameters u)

abbrev long : Tree → Tree → ℕ
long t u = max (length t) (length u)

pub unique : SpellingIsUnique
unique t u e =
    let read = sections_upto (deep t u) (branched t u) (looped t u) (suc (given t u)) (long t u) in
    let one : read (spell t) ≡ (Ok t, []) = sections_again (deep t u) (branched t u) (looped t u) (given t u)
    (omega arith) (long t u) t
    (tree_fits (deep t u) (branched t u) (looped t u) (given t u) (long t u) t (omega arith) (omega arith) (omega arith)
    (omega arith) (omega arith)) in
    let two : read (spell u) ≡ (Ok u, []) = sections_again (deep t u) (branched t u) (looped t u) (given t u)
    (omega arith) (long t u) u
    (tree_fits (deep t u) (branched t u) (looped t u) (given t u) (long t u) u (omega arith) (omega arith) (omega arith)
    (omega arith) (omega arith)) in
    let both : (let x : Read Tree = (Ok t, []) in x) ≡ (Ok u, []) = sym one ∙ ap read e ∙ two in
    let same : (let o : Result Tree Refusal = Ok t in o) ≡ Ok u = ap (λ (x : Read Tree). x.0) both in
    cc

first_of_more : (ws x : List Plain) (n : ℕ) → 0 < n → 0 < length ws → first (take n ws ++ x) ≡ first ws
first_of_more [] x n lt some = absurd (omega (arith, some))
first_of_more (w ∷ ws) x zero lt some = absurd (omega (arith, lt))
first_of_more (w ∷ ws) x (suc n) lt some = refl

-- nothing begins with more words than the farthest place
pub no_more : (ws : List Plain) (k j : ℕ) → IsFarthest spell ws k → k < j → j ≤ length ws → Begins (take j ws) → ⊥
no_more ws k j far lt le (t, x, e) =
    let split : take j ws ≡ take k ws ++ take (j - k) (drop k ws) =
    ap (λ (i : ℕ). take i ws) (let h : j ≡ k + (j - k) = omega (arith, lt) in h) ∙ take-add k (j - k) ws in
    let some : 0 < length (drop k ws) = omega (
      arith,
      lt,
      le,
      ap length (take-append-drop k ws),
      length-append
          (take k ws) (drop k ws),
      front ws k,
    ) in
    far.no_further t (take (j - k) (drop k ws) ++ x) (e ∙ ap (λ (u : List Plain). u ++ x) split
    ∙ append_assoc (take k ws) (take (j - k) (drop k ws)) x)
    (first_of_more (drop k ws) x (j - k) (omega (arith, lt)) some)
  where
    front : (ws : List Plain) (k : ℕ) → length (take k ws) ≤ k
    front [] zero = omega arith
    front [] (suc k) = omega arith
    front (w ∷ ws) zero = omega arith
    front (w ∷ ws) (suc k) = let h = front ws k in omega (arith, h)

-- a text that is a program is refused nowhere
not_farthest : (ws : List Plain) (k : ℕ) (t : Tree) → ws ≡ spell t → IsFarthest spell ws k → ⊥
not_farthest ws k t e far = far.no_further t (drop k ws) (sym e ∙ sym (take-append-drop k ws)) refl

pub not_past : (ws : List Plain) (k : ℕ) (t : Tree) → IsWithin t → ws ≡ spell t → PassesLimit ws k → ⊥
not_past ws k t w e past = past.no_room (inl (t, w, drop (k + 1) ws, sym e ∙ sym (take-append-drop (k + 1) ws)))

-- which of two places comes first
pub data Order (a b : ℕ) : Type 0 where
  less : a < b → Order a b
  equal : a ≡ b → Order a b
  greater : b < a → Order a b

pub order : (a b : ℕ) → Order a b
order zero zero = equal refl
order zero (suc b) = less (omega arith)
order (suc a) zero = greater (omega arith)
order (suc a) (suc b) =
    elim (order a b) [
      | less h ↦ less (omega (arith, h))
      | equal h ↦ equal (ap suc h)
      | greater h ↦ greater
          (omega (arith, h))
    ]

same_word : (ws : List Plain) (k j : ℕ) → IsUnexpectedWord ws k → IsUnexpectedWord ws j → k ≡ j
same_word ws k j a b = elim (order k j) [
  | less h ↦ absurd (no_more ws k j a.farthest h (let i = b.is_word in omega (arith, i))
      (room_begins (take j ws) b.in_room))
  | equal h ↦ h
  | greater h ↦ absurd (no_more ws j k b.farthest h (let i = a.is_word in omega (arith, i))
      (room_begins (take k ws) a.in_room))
]

pub same_limit : (ws : List Plain) (k j : ℕ) → PassesLimit ws k → PassesLimit ws j → k ≡ j
same_limit ws k j a b = elim (order k j) [
  | less h ↦ absurd (a.no_room (room_less ws (k + 1) j (omega (arith, h)) b.before))
  | equal h ↦ h
  | greater h ↦ absurd (b.no_room (room_less ws (j + 1) k (omega (arith, h)) a.before))
]

word_and_end : (ws : List Plain) (k : ℕ) → IsUnexpectedWord ws k → IsUnexpectedEnd ws → ⊥
word_and_end ws k a b = no_more ws k (length ws) a.farthest a.is_word (omega arith) b.farthest.reached

word_and_limit : (ws : List Plain) (k j : ℕ) → IsUnexpectedWord ws k → PassesLimit ws j → ⊥
word_and_limit ws k j a b = elim (order k (j + 1)) [
  | less h ↦ no_more ws k (j + 1) a.farthest h (let i = b.is_word in omega (arith, i)) b.with_it
  | equal h ↦ b.no_room (room_less ws (j + 1) k (omega (arith, h)) a.in_room)
  | greater h ↦ b.no_room (room_less ws (j + 1) k (omega (arith, h)) a.in_room)
]

-- a limit that the last word passes is reported at the text's end
end_and_limit : (ws : List Plain) (j : ℕ) → IsUnexpectedEnd ws → PassesLimit ws j → j + 1 ≡ length ws
end_and_limit ws j a b = elim (order (j + 1) (length ws)) [
  | less h ↦ absurd (b.no_room (room_less ws (j + 1) (length ws - 1) (omega (arith, h)) a.in_room))
  | equal h ↦ h
  | greater h ↦ absurd (let i = b.is_word in omega (arith, h, i))
]

told : TextRule → ℕ → Result (List Section) TextFault
told r l = Err (Refused r l)

not_both : (ws : List PlainAt) (ss : List Section) (r : TextRule) (l : ℕ) → AreSections ss ws → IsRefused r l ws → ⊥
not_both ws ss rule.UnexpectedWord l (t, w, e, s) (k, a, at) = not_farthest (plains ws) k t e a.farthest
not_both ws ss rule.UnexpectedEnd l (t, w, e, s) (a, at) = not_farthest (plains ws) (length (plains ws)) t e a.farthest
not_both ws ss rule.PastLimit l (t, w, e, s) (k, a, at) = not_past (plains ws) k t w e a.passes
not_both ws ss rule.StrayByte l s h = absurd h
not_both ws ss rule.BadNumber l s h = absurd h
not_both ws ss rule.LongRun l s h = absurd h
not_both ws ss rule.NoPicture l s h = absurd h
not_both ws ss rule.LongPictureLine l s h = absurd h

-- the rule and the line are one
abbrev Same : TextRule → ℕ → TextRule → ℕ → Type 0
Same a l b n = (let x : TextFault = Refused a l in x) ≡ Refused b n

end_limit : (ws : List PlainAt) (k : ℕ) → IsUnexpectedEnd (plains ws) → IsPastLimit (plains ws) k → ⊥
end_limit ws k a b = b.goes_on (end_and_limit (plains ws) k a b.passes) a.farthest

refusals : (ws : List PlainAt) (a b : TextRule) (l n : ℕ) → IsRefused a l ws → IsRefused b n ws → Same a l b n
refusals ws rule.UnexpectedWord rule.UnexpectedWord l n (k, x, p) (j, y, q) =
    ap (λ (i : ℕ). let f : TextFault = Refused rule.UnexpectedWord i in f)
    (p ∙ ap (line (lines ws)) (same_word (plains ws) k j x y) ∙ sym q)
refusals ws rule.UnexpectedWord rule.UnexpectedEnd l n (k, x, p) (y, q) = absurd (word_and_end (plains ws) k x y)
refusals ws rule.UnexpectedWord rule.PastLimit l n (k, x, p) (j, y, q) =
    absurd (word_and_limit (plains ws) k j x y.passes)
refusals ws rule.UnexpectedEnd rule.UnexpectedWord l n (x, p) (j, y, q) = absurd (word_and_end (plains ws) j y x)
refusals ws rule.UnexpectedEnd rule.UnexpectedEnd l n (x, p) (y, q) =
    ap (λ (i : ℕ). let f : TextFault = Refused rule.UnexpectedEnd i in f) (p ∙ sym q)
refusals ws rule.UnexpectedEnd rule.PastLimit l n (x, p) (j, y, q) = absurd (end_limit ws j x y)
refusals ws rule.PastLimit rule.UnexpectedWord l n (k, x, p) (j, y, q) =
    absurd (word_and_limit (plains ws) j k y x.passes)
refusals ws rule.PastLimit rule.UnexpectedEnd l n (k, x, p) (y, q) = absurd (end_limit ws k y x)
refusals ws rule.PastLimit rule.PastLimit l n (k, x, p) (j, y, q) =
    ap (λ (i : ℕ). let f : TextFault = Refused rule.PastLimit i in f)
    (p ∙ ap (line (lines ws)) (same_limit (plains ws) k j x.passes y.passes) ∙ sym q)
refusals ws rule.StrayByte b l n h g = absurd h
refusals ws rule.BadNumber b l n h g = absurd h
refusals ws rule.LongRun b l n h g = absurd h
refusals ws rule.NoPicture b l n h g = absurd h
refusals ws rule.LongPictureLine b l n h g = absurd h
refusals ws rule.UnexpectedWord rule.StrayByte l n h g = absurd g
refusals ws rule.UnexpectedWord rule.BadNumber l n h g = absurd g
refusals ws rule.UnexpectedWord rule.LongRun l n h g = absurd g
refusals ws rule.UnexpectedWord rule.NoPicture l n h g = absurd g
refusals ws rule.UnexpectedWord rule.LongPictureLine l n h g = absurd g
refusals ws rule.UnexpectedEnd rule.StrayByte l n h g = absurd g
refusals ws rule.UnexpectedEnd rule.BadNumber l n h g = absurd g
refusals ws rule.UnexpectedEnd rule.LongRun l n h g = absurd g
refusals ws rule.UnexpectedEnd rule.NoPicture l n h g = absurd g
refusals ws rule.UnexpectedEnd rule.LongPictureLine l n h g = absurd g
refusals ws rule.PastLimit rule.StrayByte l n h g = absurd g
refusals ws rule.PastLimit rule.BadNumber l n h g = absurd g
refusals ws rule.PastLimit rule.LongRun l n h g = absurd g
refusals ws rule.PastLimit rule.NoPicture l n h g = absurd g
refusals ws rule.PastLimit rule.LongPictureLine l n h g = absurd g

pub one_answer : AnswerIsUnique
one_answer ws (Ok ss) (Ok rs) da db (t, v, e, s) (u, w, f, r) =
    let same : t ≡ u = unique t u (sym e ∙ f) in
    ap (λ (x : List Section). let o : Result (List Section) TextFault = Ok x in o)
    (s ∙ ap (λ (x : Tree). written (lines ws) x) same ∙ sym r)
one_answer ws (Ok ss) (Err (Refused b n)) da db h g = absurd (not_both ws ss b n h g)
one_answer ws (Err (Refused a l)) (Ok rs) da db h g = absurd (not_both ws rs a l g h)
one_answer ws (Err (Refused a l)) (Err (Refused b n)) da db h g =
    ap (λ (x : TextFault). let o : Result (List Section) TextFault = Err x in o) (refusals ws a b l n h g)
one_answer ws (Err Memory) b da db h g = absurd da
one_answer ws (Ok ss) (Err Memory) da db h g = absurd db
one_answer ws (Err (Refused a l)) (Err Memory) da db h g = absurd db

pub let_pass : LimitsLetPass
let_pass ws t a w e definite h = one_answer ws a (Ok (written (lines ws) t)) definite tt h (t, w, e, refl)

-- the answer to words with a word that passes a limit
limit_told : (ws : List PlainAt) (k : ℕ) (r : TextRule) (l : ℕ) → PassesLimit (plains ws) k → IsRefused r l ws
    → (told r l ≡ Err (Refused rule.PastLimit (line (lines ws) k)))
    ⊎ ((k + 1 ≡ length ws) × (told r l ≡ Err (Refused rule.UnexpectedEnd (line (lines ws) k))))
unfolding told
limit_told ws k rule.UnexpectedWord l past (j, a, at) = absurd (word_and_limit (plains ws) j k a past)
limit_told ws k rule.PastLimit l past (j, a, at) =
    inl (ap (λ (i : ℕ). told rule.PastLimit i) (at ∙ ap (line (lines ws)) (same_limit (plains ws) j k a.passes past)))
limit_told ws k rule.UnexpectedEnd l past (a, at) =
    let last : k + 1 ≡ length (plains ws) = end_and_limit (plains ws) k a past in
    let all : k + 1 ≡ length ws = omega (arith, last, length-map ws (λ w. w.word)) in
    inr (
      all,
      ap (λ (i : ℕ). told rule.UnexpectedEnd i)
          (at ∙ ap (line (lines ws)) (let h : length ws - 1 ≡ k = omega (arith, all) in h)),
    )
limit_told ws k rule.StrayByte l past h = absurd h
limit_told ws k rule.BadNumber l past h = absurd h
limit_told ws k rule.LongRun l past h = absurd h
limit_told ws k rule.NoPicture l past h = absurd h
limit_told ws k rule.LongPictureLine l past h = absurd h

pub refuse : LimitsRefuse
unfolding told
refuse ws k (Ok ss) past definite (t, w, e, s) = absurd (not_past (plains ws) k t w e past)
refuse ws k (Err (Refused r l)) past definite h = limit_told ws k r l past h
refuse ws k (Err Memory) past definite h = absurd definite

-- a program past the limits is refused at a word that passes one
pub hold : LimitsHold
unfolding told
hold ws t (Ok ss) e past definite (u, w, f, s) = absurd (past (subst IsWithin (unique u t (sym f ∙ e)) w))
hold ws t (Err (Refused rule.UnexpectedWord l)) e past definite (k, a, at) =
    absurd (not_farthest (plains ws) k t e a.farthest)
hold ws t (Err (Refused rule.UnexpectedEnd l)) e past definite (a, at) =
    absurd (not_farthest (plains ws) (length (plains ws)) t e a.farthest)
hold ws t (Err (Refused rule.PastLimit l)) e past definite (k, a, at) =
    (k, a.passes, ap (λ (i : ℕ). told rule.PastLimit i) at)
hold ws t (Err (Refused rule.StrayByte l)) e past definite h = absurd h
hold ws t (Err (Refused rule.BadNumber l)) e past definite h = absurd h
hold ws t (Err (Refused rule.LongRun l)) e past definite h = absurd h
hold ws t (Err (Refused rule.NoPicture l)) e past definite h = absurd h
hold ws t (Err (Refused rule.LongPictureLine l)) e past definite h = absurd h
hold ws t (Err Memory) e past definite h = absurd definite
