-- One spelling, one answer.
use Rattle.std.proofs.Common.{◌≡◌, ℕ, zero, suc, ◌+◌, ◌-◌, ◌≤◌, ◌<◌, List, [], ◌∷◌, ◌++◌, length, length-append, take}
use Rattle.std.proofs.Common.{drop, Result, Ok, Err, refl, sym, ap, subst, ◌∙◌, append_assoc, arith}
use mathlib.Core.Logic.{inl, inr}
use Rattle.std.proofs.lemmas.List.{append-nil, length-map, take_at, take-append-drop}
use Rattle.std.proofs.Math.Seq.{take-add}
use Rattle.ss_words.specs.declared.fault.TextRule.{TextRule}
use Rattle.ss_words.specs.declared.fault.TextRule.TheVariants as rule
use Rattle.ss_words.specs.declared.fault.TextFault.{TextFault}
use Rattle.ss_words.specs.declared.fault.TextFault.TheVariants.{Refused, Memory}
use Rattle.ss_words.specs.declared.refusal.Refusal.{Refusal}
use Rattle.ss_words.specs.Plain.{Plain, PlainAt, first, plains}
use Rattle.ss_words.specs.Noting.{line}
use Rattle.ss_words.specs.Farthest.{IsFarthest}
use Rattle.ss_words.specs.Reading.{Read}
use Rattle.ss_preamble.specs.Tree.{Preamble, Decls}
use Rattle.ss_preamble.specs.Spelling.{spell}
use Rattle.ss_preamble.specs.ItemReading.{preamble_with}
use Rattle.ss_preamble.specs.Roles.{Role, roles}
use Rattle.ss_preamble.specs.Limits.{IsWithin}
use Rattle.ss_preamble.specs.WordLimits.{AreWithin}
use Rattle.ss_preamble.specs.Written.{written}
use Rattle.ss_preamble.specs.Refused.{Text, spell_text, HasPreamble, PassesLimit, CountUpTo, IsUnexpectedWord}
use Rattle.ss_preamble.specs.Refused.{IsUnexpectedEnd, IsPastLimit, IsRefusedBy, IsRefused, AreDecls, lines}
use Rattle.ss_preamble.specs.Refused.{word_behind}
use Rattle.ss_preamble.specs.Laws.{SpellingIsUnique, AnswerIsUnique, LimitsLetPass, LimitsHold, LimitsRefuse}
use Rattle.ss_preamble.proofs.ReadBackItems.{preamble-read_back}
use Rattle.ss_preamble.proofs.Counting.{within_less}
use Rattle.ss_preamble.proofs.ItemLimits.{words_within}

-- the head of a text is one preamble at most
pub one_head : (t u : Preamble) (x y : List Plain) → spell t ++ x ≡ spell u ++ y → (t ≡ u) × (x ≡ y)
one_head t u x y e =
    let both : (let r : Read Preamble = (Ok t, x) in r) ≡ (Ok u, y) =
    sym (preamble-read_back t x) ∙ ap preamble_with e ∙ preamble-read_back u y in
    let same : (let o : Result Preamble Refusal = Ok t in o) ≡ Ok u = ap (λ (r : Read Preamble). r.0) both in
    (cc, ap (λ (r : Read Preamble). r.1) both)

pub unique : SpellingIsUnique
unique t u e = (one_head t u [] [] (append-nil (spell t) ∙ e ∙ sym (append-nil (spell u)))).0

first_of_more : (ws x : List Plain) (n : ℕ) → 0 < n → 0 < length ws → first (take n ws ++ x) ≡ first ws
first_of_more [] x n lt some = absurd (omega (arith, some))
first_of_more (w ∷ ws) x zero lt some = absurd (omega (arith, lt))
first_of_more (w ∷ ws) x (suc n) lt some = refl

-- nothing begins with more words than the farthest place
no_more : (ws : List Plain) (k j : ℕ) → IsFarthest spell_text ws k → k < j → j ≤ length ws → (t : Text) (x : List Plain)
    → spell_text t ≡ take j ws ++ x → ⊥
no_more ws k j far lt le t x e =
    let split : take j ws ≡ take k ws ++ take (j - k) (drop k ws) =
    ap (λ (i : ℕ). take i ws) (let h : j ≡ k + (j - k) = omega (arith, lt) in h) ∙ take-add k (j - k) ws in
    let some : 0 < length (drop k ws) =
    omega (arith, lt, le, ap length (take-append-drop k ws), length-append (take k ws) (drop k ws), front ws k) in
    far.no_further t (take (j - k) (drop k ws) ++ x)
    (e ∙ ap (λ (u : List Plain). u ++ x) split ∙ append_assoc (take k ws) (take (j - k) (drop k ws)) x)
    (first_of_more (drop k ws) x (j - k) (omega (arith, lt)) some)
  where
    front : (ws : List Plain) (k : ℕ) → length (take k ws) ≤ k
    front [] zero = omega arith
    front [] (suc k) = omega arith
    front (w ∷ ws) zero = omega arith
    front (w ∷ ws) (suc k) = let h = front ws k in omega (arith, h)

-- a text with a preamble is refused nowhere
pub not_farthest : (ws : List Plain) (k : ℕ) (is : Preamble) (behind : List Plain) → ws ≡ spell is ++ behind
    → IsFarthest spell_text ws k → ⊥
not_farthest ws k is behind e far =
    far.no_further (record { preamble = is; behind = behind }) (drop k ws) (sym e ∙ sym (take-append-drop k ws)) refl

-- which of two places comes first
data Order (a b : ℕ) : Type 0 where
  less : a < b → Order a b
  equal : a ≡ b → Order a b
  greater : b < a → Order a b

order : (a b : ℕ) → Order a b
order zero zero = equal refl
order zero (suc b) = less (omega arith)
order (suc a) zero = greater (omega arith)
order (suc a) (suc b) =
    elim (order a b) [
      | less h ↦ less (omega (arith, h))
      | equal h ↦ equal (ap suc h)
      | greater h ↦ greater
          (omega (arith, h))
    ]

same_place : (ws : List Plain) (k j : ℕ) → IsFarthest spell_text ws k → IsFarthest spell_text ws j → k ≡ j
same_place ws k j a b = elim (order k j) [
  | less h ↦ absurd (no_more ws k j a h b.inside b.reached.0 b.reached.1 b.reached.2)
  | equal h ↦ h
  | greater h ↦ absurd (no_more ws j k b h a.inside a.reached.0 a.reached.1 a.reached.2)
]

-- the words that count are as many
pub same_count : (ws : List Plain) (n j : ℕ) → CountUpTo ws n → CountUpTo ws j → n ≡ j
same_count ws n j (inl a) (inl b) = same_place ws n j a b
same_count ws n j (inl a) (inr (is, x, e, at)) = absurd (not_farthest ws n is x e a)
same_count ws n j (inr (is, x, e, at)) (inl b) = absurd (not_farthest ws j is x e b)
same_count ws n j (inr (is, x, e, at)) (inr (js, y, h, there)) = at
    ∙ ap (λ (t : Preamble). length (spell t)) (one_head is js x y (sym e ∙ h)).0 ∙ sym there

fewer : (rs : List Role) (k j : ℕ) → k ≤ j → AreWithin (take j rs) → AreWithin (take k rs)
fewer rs k j le w =
    let split : take j rs ≡ take k rs ++ take (j - k) (drop k rs) =
    ap (λ (i : ℕ). take i rs) (let h : j ≡ k + (j - k) = omega (arith, le) in h) ∙ take-add k (j - k) rs in
    within_less (take k rs) (take (j - k) (drop k rs)) (subst AreWithin split w)

same_limit : (us : List Plain) (k j : ℕ) → PassesLimit us k → PassesLimit us j → k ≡ j
same_limit us k j a b = elim (order k j) [
  | less h ↦ absurd (a.no_room (fewer (roles us) (k + 1) j (omega (arith, h)) b.before))
  | equal h ↦ h
  | greater h ↦ absurd (b.no_room (fewer (roles us) (j + 1) k (omega (arith, h)) a.before))
]

-- words within the limits have none that passes one
not_past : (us : List Plain) (k : ℕ) → AreWithin (roles us) → PassesLimit us k → ⊥
not_past us k w a =
    a.no_room (within_less (take (k + 1) (roles us)) (drop (k + 1) (roles us))
    (subst AreWithin (sym (take-append-drop (k + 1) (roles us))) w))

all_taken : (ws : List Plain) → take (length ws) ws ≡ ws
all_taken ws = ap (take (length ws)) (sym (append-nil ws)) ∙ take_at ws [] (length ws) refl

word_and_limit : (ws : List Plain) (k j : ℕ) → IsUnexpectedWord ws k → IsPastLimit ws j → ⊥
word_and_limit ws k j a b =
    not_past (take k ws) j a.in_room
    (subst (λ (n : ℕ). PassesLimit (take n ws) j) (same_count ws b.last k b.count (inl a.farthest)) b.passes)

end_and_limit : (ws : List Plain) (j : ℕ) → IsUnexpectedEnd ws → IsPastLimit ws j → ⊥
end_and_limit ws j a b =
    let same : take b.last ws ≡ ws =
    ap (λ (n : ℕ). take n ws) (same_count ws b.last (length ws) b.count (inl a.farthest)) ∙ all_taken ws in
    let here : PassesLimit ws j = subst (λ (us : List Plain). PassesLimit us j) same b.passes in
    let lt = b.goes_on in
    here.no_room (fewer (roles ws) (j + 1) (length ws - 1) (omega (arith, lt)) a.in_room)

same_past : (ws : List Plain) (k j : ℕ) → IsPastLimit ws k → IsPastLimit ws j → k ≡ j
same_past ws k j a b =
    same_limit (take a.last ws) k j a.passes
    (subst (λ (n : ℕ). PassesLimit (take n ws) j) (sym (same_count ws a.last b.last a.count b.count)) b.passes)

word_and_end : (ws : List Plain) (k : ℕ) → IsUnexpectedWord ws k → IsUnexpectedEnd ws → ⊥
word_and_end ws k a b =
    let e = same_place ws k (length ws) a.farthest b.farthest in let lt = a.is_word in omega (arith, e, lt)

-- two refusals are one
abbrev Same : TextRule → ℕ → TextRule → ℕ → Type 0
Same a l b n = (let x : TextFault = Refused a l in x) ≡ Refused b n

refusals : (ws : List PlainAt) (a b : TextRule) (l n : ℕ) → IsRefusedBy a l ws → IsRefusedBy b n ws → Same a l b n
refusals ws rule.UnexpectedWord rule.UnexpectedWord l n (k, x, p) (j, y, q) =
    ap (λ (i : ℕ). let f : TextFault = Refused rule.UnexpectedWord i in f)
    (p ∙ ap (line (lines ws)) (same_place (plains ws) k j x.farthest y.farthest) ∙ sym q)
refusals ws rule.UnexpectedWord rule.UnexpectedEnd l n (k, x, p) (y, q) = absurd (word_and_end (plains ws) k x y)
refusals ws rule.UnexpectedWord rule.PastLimit l n (k, x, p) (j, y, q) = absurd (word_and_limit (plains ws) k j x y)
refusals ws rule.UnexpectedEnd rule.UnexpectedWord l n (x, p) (j, y, q) = absurd (word_and_end (plains ws) j y x)
refusals ws rule.UnexpectedEnd rule.UnexpectedEnd l n (x, p) (y, q) =
    ap (λ (i : ℕ). let f : TextFault = Refused rule.UnexpectedEnd i in f) (p ∙ sym q)
refusals ws rule.UnexpectedEnd rule.PastLimit l n (x, p) (j, y, q) = absurd (end_and_limit (plains ws) j x y)
refusals ws rule.PastLimit rule.UnexpectedWord l n (k, x, p) (j, y, q) = absurd (word_and_limit (plains ws) j k y x)
refusals ws rule.PastLimit rule.UnexpectedEnd l n (k, x, p) (y, q) = absurd (end_and_limit (plains ws) k y x)
refusals ws rule.PastLimit rule.PastLimit l n (k, x, p) (j, y, q) =
    ap (λ (i : ℕ). let f : TextFault = Refused rule.PastLimit i in f)
    (p ∙ ap (line (lines ws)) (same_past (plains ws) k j x y) ∙ sym q)
refusals ws rule.StrayByte b l n h g = absurd h
refusals ws rule.BadNumber b l n h g = absurd h
refusals ws rule.LongRun b l n h g = absurd h
refusals ws rule.NoPicture b l n h g = absurd h
refusals ws rule.LongPictureLine b l n h g = absurd h
refusals ws _ rule.StrayByte l n h g = absurd g
refusals ws _ rule.BadNumber l n h g = absurd g
refusals ws _ rule.LongRun l n h g = absurd g
refusals ws _ rule.NoPicture l n h g = absurd g
refusals ws _ rule.LongPictureLine l n h g = absurd g

-- a preamble within the limits is not refused
not_refused : (ws : List PlainAt) (is : Preamble) (behind : List Plain) (a : TextRule) (l : ℕ) → IsWithin is
    → plains ws ≡ spell is ++ behind → IsRefusedBy a l ws → ⊥
not_refused ws is behind rule.UnexpectedWord l w e (k, x, p) = not_farthest (plains ws) k is behind e x.farthest
not_refused ws is behind rule.UnexpectedEnd l w e (x, p) =
    not_farthest (plains ws) (length (plains ws)) is behind e x.farthest
not_refused ws is behind rule.PastLimit l w e (k, x, p) =
    let same : take x.last (plains ws) ≡ spell is =
    ap (λ (n : ℕ). take n (plains ws))
    (same_count (plains ws) x.last (length (spell is)) x.count (inr (is, behind, e, refl)))
    ∙ ap (take (length (spell is))) e ∙ take_at (spell is) behind (length (spell is)) refl in
    not_past (spell is) k (words_within is w) (subst (λ (us : List Plain). PassesLimit us k) same x.passes)
not_refused ws is behind rule.StrayByte l w e h = absurd h
not_refused ws is behind rule.BadNumber l w e h = absurd h
not_refused ws is behind rule.LongRun l w e h = absurd h
not_refused ws is behind rule.NoPicture l w e h = absurd h
not_refused ws is behind rule.LongPictureLine l w e h = absurd h

-- a preamble begins with PREAMBLE
pub has_preamble : (ws : List Plain) (is : Preamble) (behind : List Plain) → ws ≡ spell is ++ behind → HasPreamble ws
has_preamble ws is behind e = subst HasPreamble (sym e) refl

-- the answer to a text
abbrev Answer : Type 0
Answer = Result (Decls × ℕ) TextFault

told : Decls → ℕ → Answer
told d n = Ok (d, n)

same_decls : (ws : List PlainAt) (d d' : Decls) (n n' : ℕ) → AreDecls d n ws → AreDecls d' n' ws → told d n ≡ told d' n'
unfolding told
same_decls ws d d' n n' (inl (absent, e, z)) (inl (absent', e', z')) =
    λ i. let a : Answer = Ok ((e ∙ sym e') i, (z ∙ sym z') i) in a
same_decls ws d d' n n' (inl (absent, e, z)) (inr p) =
    absurd (absent (has_preamble (plains ws) p.items p.behind p.words))
same_decls ws d d' n n' (inr p) (inl (absent, e, z)) =
    absurd (absent (has_preamble (plains ws) p.items p.behind p.words))
same_decls ws d d' n n' (inr p) (inr q) =
    let same : p.items ≡ q.items = (one_head p.items q.items p.behind q.behind (sym p.words ∙ q.words)).0 in
    let one : d ≡ d' = p.declared ∙ ap (λ (t : Preamble). written (lines ws) t) same ∙ sym q.declared in
    let two : n ≡ n' = p.number_is ∙ ap (λ (t : Preamble). word_behind ws (length (spell t))) same ∙ sym q.number_is in
    λ i. let a : Answer = Ok (one i, two i) in a

not_both : (ws : List PlainAt) (d : Decls) (n : ℕ) (a : TextRule) (l : ℕ) → AreDecls d n ws → IsRefused a l ws → ⊥
not_both ws d n a l (inl (absent, e, z)) h = absent h.begins
not_both ws d n a l (inr p) h = not_refused ws p.items p.behind a l p.within p.words h.refused

pub one_answer : AnswerIsUnique
unfolding told
one_answer ws (Ok (d, n)) (Ok (d', n')) da db h g = same_decls ws d d' n n' h g
one_answer ws (Ok (d, n)) (Err (Refused b j)) da db h g = absurd (not_both ws d n b j h g)
one_answer ws (Err (Refused a l)) (Ok (d, n)) da db h g = absurd (not_both ws d n a l g h)
one_answer ws (Err (Refused a l)) (Err (Refused b j)) da db h g =
    ap (λ (x : TextFault). let o : Answer = Err x in o) (refusals ws a b l j h.refused g.refused)
one_answer ws (Err Memory) b da db h g = absurd da
one_answer ws (Ok (d, n)) (Err Memory) da db h g = absurd db
one_answer ws (Err (Refused a l)) (Err Memory) da db h g = absurd db

pub let_pass : LimitsLetPass
let_pass ws is behind a w e definite h =
    one_answer ws a (Ok (written (lines ws) is, word_behind ws (length (spell is)))) definite tt h
    (inr (record { items = is; behind = behind; within = w; words = e; declared = refl; number_is = refl }))

pub refuse : LimitsRefuse
refuse ws n k a begins count past lt definite h =
    let there : IsPastLimit (plains ws) k =
    record { last = n; count = count; passes = past; goes_on = omega (arith, lt, length-map ws (λ w. w.word)) } in
    one_answer ws a (Err (Refused rule.PastLimit (line (lines ws) k))) definite tt h
    (record { begins = begins; refused = (k, there, refl) })

pub hold : LimitsHold
hold ws is behind (Ok (d, n)) e past definite (inl (absent, f, z)) =
    absurd (absent (has_preamble (plains ws) is behind e))
hold ws is behind (Ok (d, n)) e past definite (inr p) =
    absurd (past (subst IsWithin (one_head p.items is p.behind behind (sym p.words ∙ e)).0 p.within))
hold ws is behind (Err (Refused a l)) e past definite h = at a h.refused
  where
    at : (a : TextRule) → IsRefusedBy a l ws → (k : ℕ) × PassesLimit (spell is) k
        × ((let o : Answer = Err (Refused a l) in o) ≡ Err (Refused rule.PastLimit (line (lines ws) k)))
    at rule.UnexpectedWord (k, x, p) = absurd (not_farthest (plains ws) k is behind e x.farthest)
    at rule.UnexpectedEnd (x, p) = absurd (not_farthest (plains ws) (length (plains ws)) is behind e x.farthest)
    at rule.PastLimit (k, x, p) =
        let same : take x.last (plains ws) ≡ spell is =
        ap (λ (n : ℕ). take n (plains ws))
        (same_count (plains ws) x.last (length (spell is)) x.count (inr (is, behind, e, refl)))
        ∙ ap (take (length (spell is))) e ∙ take_at (spell is) behind (length (spell is)) refl in (
          k,
          subst (λ (us : List Plain). PassesLimit us k) same x.passes,
          ap
              (λ (i : ℕ). let o : Answer = Err (Refused rule.PastLimit i) in o) p,
        )
    at rule.StrayByte h = absurd h
    at rule.BadNumber h = absurd h
    at rule.LongRun h = absurd h
    at rule.NoPicture h = absurd h
    at rule.LongPictureLine h = absurd h
hold ws is behind (Err Memory) e past definite h = absurd definite
