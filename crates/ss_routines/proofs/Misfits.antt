-- Why plain words are no condition, by the laws of the reading of conditions.
use Rattle.std.proofs.Common.{◌≡◌, ℕ, ◌+◌, ◌-◌, ◌≤◌, ◌<◌, List, [], ◌∷◌, ◌++◌, length, length-append, take, drop}
use Rattle.std.proofs.Common.{Some, None, Result, Ok, Err, refl, sym, ap, subst, ◌∙◌, append_assoc, arith}
use Rattle.std.proofs.Common.{◌⊎◌, Bool, true, false}
use mathlib.Core.Logic.{inl, inr}
use Rattle.std.specs.Prelude.{nat_lt, if◌then◌else◌}
use Rattle.std.proofs.lemmas.Bool.{ltb-true, ltb-false}
use Rattle.std.proofs.lemmas.List.{append-nil, take_at, drop_at}
use Rattle.std.proofs.Math.Seq.{take-add}
use Rattle.std.specs.Result.{result_ok}
use Rattle.ss_words.specs.declared.mark.Mark.TheVariants as m
use Rattle.ss_words.specs.declared.word.Sign.TheVariants as s
use Rattle.ss_words.specs.declared.reserved.Reserved.TheVariants as r
use Rattle.ss_words.specs.declared.terms.Comparison.TheVariants.{Equal}
use Rattle.ss_words.specs.declared.refusal.Refusal.{Refusal}
use Rattle.ss_words.specs.declared.refusal.Refusal.TheVariants.{Unexpected, PastLimit, Memory}
use Rattle.ss_words.specs.Farthest.{IsFarthest}
use Rattle.ss_words.specs.Plain.{Plain, mark, number, first}
use Rattle.ss_words.specs.Reading.{Read, Reading, Fails, end_of_words, whole}
use Rattle.ss_words.proofs.Goal as goal
use Rattle.ss_words.proofs.Local.{same, more, Local, IsLimited}
use Rattle.ss_routines.specs.declared.misfit.Misfit.{Misfit}
use Rattle.ss_routines.specs.Expr.{Expr, expr, no_sums, term, no_products, digits, spell_expr}
use Rattle.ss_routines.specs.Condition.{Condition, condition, no_alternatives, conjunction, no_additions, compared}
use Rattle.ss_routines.specs.Condition.{spell_condition, depth_condition}
use Rattle.ss_routines.specs.ConditionReading.{condition_at}
use Rattle.ss_routines.specs.Counts.{count, opens, closes}
use Rattle.ss_routines.specs.Misfit.{misfit_at, misfit_by, condition_misfit, Begins, BeginsWithin, IsUnexpectedWord}
use Rattle.ss_routines.specs.Misfit.{IsUnexpectedEnd, IsPastLimit, IsMisfit, MisfitIsRefused, FittingIsCondition}
use Rattle.ss_routines.specs.Misfit.{ConditionFits, ExpressionBegins}
use Rattle.ss_routines.proofs.Tally.{Refused, Out, Tally, count-append, pure_tally, refuse_tally, bind_tally}
use Rattle.ss_routines.proofs.Tally.{look_tally, anywhere}
use Rattle.ss_routines.proofs.Inner.{Inner, builds, inner_condition}
use Rattle.ss_routines.proofs.Law.{Law}
use Rattle.ss_routines.proofs.ConditionLaw.{EndsCondition, condition_law}
use Rattle.ss_routines.proofs.AskedWords.{again, nothing_after}

-- ---- the reading of conditions

abbrev Within : Condition → Type 0
Within c = depth_condition c ≤ 50

law : (n : ℕ) → Law same n (λ c. depth_condition c ≤ n) spell_condition EndsCondition (condition_at n) (condition_at n)
law n = condition_law same n n refl

nothing : EndsCondition []
nothing = ((nothing_after, refl, refl), refl, refl)

abbrev reading : Reading Condition
reading = condition_at 50

read_again : (n : ℕ) (c : Condition) → depth_condition c ≤ n → condition_at n (spell_condition c) ≡ (Ok c, [])
read_again n c le = again n depth_condition spell_condition EndsCondition (condition_at n) (law n) c le nothing

-- with more room
larger : (c : Condition) → (p' : Reading Condition) × (Local more reading p') × (p' (spell_condition c) ≡ (Ok c, []))
larger c = (
  condition_at (51 + depth_condition c),
  (condition_law more 50 (51 + depth_condition c) (omega arith)).near,
  read_again (51 + depth_condition c) c (omega arith),
)

-- ---- the reading of all words

ended_tally : (n : ℕ) → Tally n end_of_words
unfolding end_of_words
ended_tally n =
    look_tally n _ (elim [
      | Some v ↦ anywhere n (Some v) _ (refuse_tally n)
      | None ↦ anywhere n None _ (pure_tally n tt)
    ])

whole_tally : Tally 50 (whole reading)
unfolding whole
whole_tally =
    bind_tally 50 _ (λ c. bind_tally 50 _ (λ u. pure_tally 50 c) end_of_words (ended_tally 50)) reading (law 50).counted

-- ---- beginnings

shorter : (ws : List Plain) (j k : ℕ) → j ≤ k → take j ws ++ take (k - j) (drop j ws) ≡ take k ws
shorter ws j k le = let e : j + (k - j) ≡ k = omega arith in sym (take-add j (k - j) ws) ∙ ap (λ (i : ℕ). take i ws) e

less : (ws : List Plain) (j k : ℕ) → j ≤ k → BeginsWithin (take k ws) → BeginsWithin (take j ws)
less ws j k le (c, f, x, e) = (
  c,
  f,
  take (k - j) (drop j ws) ++ x,
  e ∙ ap (λ (u : List Plain). u ++ x) (sym (shorter ws j k le))
      ∙ append_assoc (take j ws) (take (k - j) (drop j ws)) x,
)

-- ---- the words of a condition

-- a condition closes each parenthesis that it opens
balanced : (c : Condition) → count opens (spell_condition c) ≡ count closes (spell_condition c)
balanced c =
    let n = depth_condition c in
    let (q, split, leaves) = subst (λ (x : Read Condition). Out n x.0 (spell_condition c) x.1)
    (read_again n c (omega arith)) ((law n).counted.at (spell_condition c)) in
    let same_words : spell_condition c ≡ q = split ∙ append-nil q in
    let h = leaves.open_ones in
    omega (arith, h, ap (count opens) same_words, ap (count closes) same_words)

built : (q : List Plain) (w : Plain) → builds w ≡ true → Inner (q ++ w ∷ []) → ⊥
built q w e h =
    let k = h.none in
    let one : count builds (w ∷ []) ≡ 1 = rw e refl in
    omega (arith, k, one, count-append builds q (w ∷ []))

-- no condition ends with a word that a limit refuses
no_end : (c : Condition) (q : List Plain) (w : Plain) → spell_condition c ≡ q ++ w ∷ [] → Refused 50 q (Some w) → ⊥
no_end c q (mark (m.Sign s.Open)) e h =
    let one = mark (m.Sign s.Open) ∷ [] in
    let l = h.open_ones in
    omega (
      arith,
      l,
      balanced c,
      ap (count opens) e,
      ap (count closes) e,
      count-append opens q one,
      count-append closes q one,
    )
no_end c q (mark (m.Reserved r.If)) e h = built q _ refl (subst Inner e (inner_condition c))
no_end c q (mark (m.Reserved r.For)) e h = built q _ refl (subst Inner e (inner_condition c))
no_end c q _ e h = absurd h

-- ---- the three refusals

module _ (ws rest : List Plain) where
  abbrev k : ℕ
  k = length ws - length rest

  before : (g : Refusal) → whole reading ws ≡ (Err g, rest) → BeginsWithin (take k ws)
  before g e = goal.before Within spell_condition reading (law 50).good ws rest g e

  left : (g : Refusal) → whole reading ws ≡ (Err g, rest) → (q : List Plain) × (ws ≡ q ++ rest)
  left g e = goal.left Within spell_condition reading (law 50).good ws rest g e

  farthest : whole reading ws ≡ (Err Unexpected, rest) → IsFarthest spell_condition ws k
  farthest e = goal.farthest spell_condition Within reading (law 50).good larger ws rest e

  unexpected_word : whole reading ws ≡ (Err Unexpected, rest) → 0 < length rest → IsUnexpectedWord ws k
  unexpected_word e some =
      let (q, split) = left Unexpected e in
      record {
        is_word = omega (arith, some, ap length split, length-append q rest);
        farthest = farthest e;
        in_room = before Unexpected e;
      }

  unexpected_end : whole reading ws ≡ (Err Unexpected, rest) → length rest ≤ 0 → IsUnexpectedEnd ws
  unexpected_end e none =
      let at : k ≡ length ws = omega (arith, none) in
      record {
        farthest = subst (λ (i : ℕ). IsFarthest spell_condition ws i) at (farthest e);
        in_room = less ws (length ws - 1) k (omega (arith, at)) (before Unexpected e);
      }

  goes_past : whole reading ws ≡ (Err PastLimit, rest) → Begins (take (k + 1) ws)
  goes_past e =
      goal.goes_past spell_condition Within reading (law 50).good (condition_at 51)
      (condition_law more 50 51 (omega arith)).near (λ c. depth_condition c ≤ 51) (law 51).good ws rest e

  split_at : whole reading ws ≡ (Err PastLimit, rest) → (w : Plain) (tail : List Plain) → rest ≡ w ∷ tail
      → take (k + 1) ws ≡ take k ws ++ w ∷ []
  split_at e w tail is =
      let (q, split) = left PastLimit e in
      let whole_split : ws ≡ q ++ w ∷ tail = split ∙ ap (λ (u : List Plain). q ++ u) is in
      ap (λ (u : List Plain). take (length ws - length u + 1) ws) is ∙ goal.front_and ws q tail w whole_split
      ∙ ap (λ (u : List Plain). u ++ w ∷ []) (sym (goal.front_is ws q rest split))

  no_room : whole reading ws ≡ (Err PastLimit, rest) → (w : Plain) (tail : List Plain) → rest ≡ w ∷ tail
      → BeginsWithin (take (k + 1) ws) → ⊥
  no_room e w tail is (c, fits, x, h) =
      goal.no_room spell_condition Within reading (law 50).good (law 50).near c (read_again 50 c fits) ws rest e
      (w ∷ x)
      (h ∙ ap (λ (u : List Plain). u ++ x) (split_at e w tail is) ∙ append_assoc (take k ws) (w ∷ []) x)
      (ap first (sym is))

  past_limit : whole reading ws ≡ (Err PastLimit, rest) → 1 < length rest → (w : Plain) (tail : List Plain)
      → rest ≡ w ∷ tail → IsPastLimit ws k
  past_limit e some w tail is =
      let (q, split) = left PastLimit e in
      record {
        goes_on = omega (arith, some, ap length split, length-append q rest);
        before = before PastLimit e;
        with_it = goes_past e;
        no_room = no_room e w tail is;
      }

  -- the refused word, after those before it
  refused : whole reading ws ≡ (Err PastLimit, rest) → (q : List Plain) × (ws ≡ q ++ rest) × Refused 50 q (first rest)
  refused e = subst (λ (x : Read Condition). Out 50 x.0 ws x.1) e (whole_tally.at ws)

  limited : whole reading ws ≡ (Err PastLimit, rest) → IsLimited (first rest)
  limited e =
      goal.limited spell_condition Within reading (law 50).good (condition_at 51)
      (condition_law more 50 51 (omega arith)).near ws rest e

  nothing_more : (x : List Plain) → first x ≡ None → x ≡ []
  nothing_more [] h = refl
  nothing_more (v ∷ x) h = absurd cc

  no_condition : whole reading ws ≡ (Err PastLimit, rest) → (w : Plain) → rest ≡ w ∷ [] → (c : Condition)
      (x : List Plain) → spell_condition c ≡ take (length ws) ws ++ x → first x ≡ first (drop (length ws) ws) → ⊥
  no_condition e w is c x spelled last =
      let all : take (length ws) ws ≡ ws = ap (take (length ws)) (sym (append-nil ws))
      ∙ take_at ws [] (length ws) refl in
      let none : drop (length ws) ws ≡ [] = ap (drop (length ws)) (sym (append-nil ws))
      ∙ drop_at ws [] (length ws) refl in
      let empty : x ≡ [] = nothing_more x (last ∙ ap first none) in
      let (q, split, h) = refused e in
      let words : spell_condition c ≡ q ++ w ∷ [] = spelled ∙ ap (λ (u : List Plain). u ++ x) all
      ∙ ap (λ (u : List Plain). ws ++ u) empty ∙ append-nil ws ∙ split ∙ ap (λ (u : List Plain). q ++ u) is in
      no_end c q w words (subst (λ (u : List Plain). Refused 50 q (first u)) is h)

  past_end_with : whole reading ws ≡ (Err PastLimit, rest) → (w : Plain) → rest ≡ w ∷ [] → IsUnexpectedEnd ws
  past_end_with e w is =
      let (q, split) = left PastLimit e in
      let at : k + 1 ≡ length ws = omega (arith, ap length split, length-append q rest, ap length is) in
      let begun : Begins (take (length ws) ws) = subst (λ (i : ℕ). Begins (take i ws)) at (goes_past e) in
      record {
        farthest = record { inside = omega arith; reached = begun; no_further = no_condition e w is };
        in_room = subst (λ (i : ℕ). BeginsWithin (take i ws)) (let b : k ≡ length ws - 1 = omega (arith, at) in b)
            (before PastLimit e);
      }

past : (ws rest : List Plain) → whole reading ws ≡ (Err PastLimit, rest) → 1 < length rest
    → IsPastLimit ws (length ws - length rest)
past ws [] e lt = absurd (omega (arith, lt))
past ws (w ∷ tail) e lt = past_limit ws (w ∷ tail) e lt w tail refl

past_end : (ws rest : List Plain) → whole reading ws ≡ (Err PastLimit, rest) → length rest ≤ 1 → IsUnexpectedEnd ws
past_end ws [] e le = absurd (limited ws [] e)
past_end ws (w ∷ []) e le = past_end_with ws (w ∷ []) e w refl
past_end ws (w ∷ v ∷ tail) e le = absurd (omega (arith, le))

-- ---- the misfit of a reading

by_test : (b : Bool) (x y it : Misfit) → Some (if b then x else y) ≡ Some it
    → ((b ≡ true) × (x ≡ it)) ⊎ ((b ≡ false) × (y ≡ it))
by_test true x y it h = inl (refl, cc)
by_test false x y it h = inr (refl, cc)

abbrev IsSo : List Plain → Misfit → Type 0
IsSo ws it = IsMisfit it.rule it.word ws

unexpected : (ws rest : List Plain) → whole reading ws ≡ (Err Unexpected, rest) → (it : Misfit)
    → misfit_at (length ws) Unexpected (length rest) ≡ Some it → IsSo ws it
unexpected ws rest e it h = elim (by_test (nat_lt 0 (length rest)) _ _ it h) [
  | inl p ↦ subst (IsSo ws) p.1 (unexpected_word ws rest e (ltb-true 0 (length rest) p.0))
  | inr p ↦ subst (IsSo ws) p.1 (unexpected_end ws rest e (ltb-false 0 (length rest) p.0), refl)
]

past_the_limit : (ws rest : List Plain) → whole reading ws ≡ (Err PastLimit, rest) → (it : Misfit)
    → misfit_at (length ws) PastLimit (length rest) ≡ Some it → IsSo ws it
past_the_limit ws rest e it h = elim (by_test (nat_lt 1 (length rest)) _ _ it h) [
  | inl p ↦ subst (IsSo ws) p.1 (past ws rest e (ltb-true 1 (length rest) p.0))
  | inr p ↦ subst (IsSo ws) p.1 (past_end ws rest e (ltb-false 1 (length rest) p.0), refl)
]

refused_so : (ws rest : List Plain) (o : Result Condition Refusal) → whole reading ws ≡ (o, rest) → (it : Misfit)
    → misfit_by (length ws) o rest ≡ Some it → IsSo ws it
refused_so ws rest (Ok c) e it h = absurd cc
refused_so ws rest (Err Unexpected) e it h = unexpected ws rest e it h
refused_so ws rest (Err PastLimit) e it h = past_the_limit ws rest e it h
refused_so ws rest (Err Memory) e it h = absurd cc

pub misfit_is_refused : MisfitIsRefused
misfit_is_refused ws it h = refused_so ws (whole reading ws).1 (whole reading ws).0 refl it h

fitting : (ws rest : List Plain) (o : Result Condition Refusal) → whole reading ws ≡ (o, rest)
    → misfit_by (length ws) o rest ≡ None → (c : Condition) × (result_ok o ≡ Some c)
fitting ws rest (Ok c) e h = (c, refl)
fitting ws rest (Err Unexpected) e h = absurd cc
fitting ws rest (Err PastLimit) e h = absurd cc
fitting ws rest (Err Memory) e h = absurd (subst (λ (x : Read Condition). Out 50 x.0 ws x.1) e (whole_tally.at ws))

pub fitting_is_condition : FittingIsCondition
fitting_is_condition ws h = fitting ws (whole reading ws).1 (whole reading ws).0 refl h

none_refused : (count : ℕ) (rest : List Plain) (o : Result Condition Refusal) (c : Condition) → result_ok o ≡ Some c
    → misfit_by count o rest ≡ None
none_refused count rest (Ok d) c h = refl
none_refused count rest (Err g) c h = absurd cc

pub condition_fits : ConditionFits
condition_fits ws c h = none_refused (length ws) (whole reading ws).1 (whole reading ws).0 c h

-- ---- the code

pub told : (ws rest : List Plain) (g : Refusal) (count left : ℕ) (it : Misfit) → Some it ≡ misfit_at count g left
    → Fails g rest (whole reading ws) → count ≡ length ws → left ≡ length rest → Some it ≡ condition_misfit ws
told ws rest Unexpected count left it h e n l =
    h ∙ ap (λ (i : ℕ). misfit_at i Unexpected left) n ∙ ap (misfit_at (length ws) Unexpected) l
    ∙ ap (λ (x : Read Condition). misfit_by (length ws) x.0 x.1) (sym e)
told ws rest PastLimit count left it h e n l =
    h ∙ ap (λ (i : ℕ). misfit_at i PastLimit left) n ∙ ap (misfit_at (length ws) PastLimit) l
    ∙ ap (λ (x : Read Condition). misfit_by (length ws) x.0 x.1) (sym e)
told ws rest Memory count left it h e n l = absurd cc

pub fits : (ws rest : List Plain) (c : Condition) → whole reading ws ≡ (Ok c, rest) → None ≡ condition_misfit ws
fits ws rest c e = ap (λ (x : Read Condition). misfit_by (length ws) x.0 x.1) (sym e)

-- ---- expressions

pub expression_begins : ExpressionBegins
expression_begins e =
    let nought : Expr = expr None (term (digits 0) no_products) no_sums in
    let words = spell_expr e ++ mark (m.Sign s.Equal) ∷ number 0 ∷ [] in (
      condition (conjunction (compared e Equal nought) no_additions) no_alternatives,
      mark (m.Sign s.Equal) ∷ number 0 ∷ [],
      append-nil (words ++ []) ∙ append-nil words,
    )
