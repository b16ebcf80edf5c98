-- The counts of the reading of heads and of local DEFINEs at the word at which it stops, and how
-- many names a head has there.
use Rattle.std.proofs.Common.{◌≡◌, ℕ, zero, suc, ◌+◌, ◌-◌, ◌≤◌, Bool, true, false, List, [], ◌∷◌, ◌++◌, length, Option}
use Rattle.std.proofs.Common.{Some, None, Result, Ok, Err, refl, sym, ap, subst, ◌∙◌, append_assoc, arith}
use Rattle.ss_words.specs.declared.refusal.Refusal.{Refusal}
use Rattle.ss_words.specs.declared.refusal.Refusal.TheVariants.{Unexpected, PastLimit, Memory}
use Rattle.ss_words.specs.declared.mark.Mark.{Mark}
use Rattle.ss_words.specs.declared.mark.Mark.TheVariants as m
use Rattle.ss_words.specs.declared.word.Sign.TheVariants as s
use Rattle.ss_words.specs.declared.reserved.Reserved.TheVariants as r
use Rattle.ss_words.specs.Plain.{Plain, name, number, mark, picture, first}
use Rattle.ss_words.specs.Lists.{Name, Several, all_of, next_name, other_names, names}
use Rattle.ss_words.specs.Reading.{Reading, goes_on, bind, pure, refuse, look, skip}
use Rattle.ss_words.specs.Marks.{is, expect, eat, name_by, a_name}
use Rattle.ss_words.proofs.Marks.{is_mark}
use Rattle.ss_routines.specs.Simple.{Listing, Unwritten, BehindGiven, InParentheses}
use Rattle.ss_routines.specs.Tree.{MainHead, RoutineHead, EventHead, listing_names}
use Rattle.ss_routines.specs.SectionReading.{refusal_of, no_name, others_at, names_at, given_at, yielded_at, saving}
use Rattle.ss_routines.specs.SectionReading.{routine_at, event_at, head_by, head_at, as_variables, a_define, locals}
use Rattle.ss_routines.specs.OneTooMany.{asks, names_in_head}
use Rattle.std.proofs.lemmas.List.{append-nil}
use Rattle.ss_routines.proofs.Counting.{Settled, Tally, TallyAt, Encloses, anywhere, plain}
use Rattle.ss_routines.proofs.Counting.{pure_tally, refuse_tally, bind_tally, look_tally, skip_tally, expect_tally}
use Rattle.ss_routines.proofs.Counting.{eat_tally, name_tally, many_tally, bind_shuts, made_shuts, close_shuts}
use Rattle.ss_routines.proofs.Counting.{enclosed_tally}
use Rattle.ss_routines.proofs.BlockCounts.{pair_tally, behind_tally, made_tally, mark_tally, star_tally}

-- ---- parentheses, IFs and ENDs

encloses_open : (n i fs : ℕ) → Encloses Settled (mark (m.Sign s.Open)) (mark (m.Sign s.Close)) n i fs (suc n) i
encloses_open n i fs = record {
  even = record { parentheses = refl; ifs = refl; phrases = λ b os z. sym z; no_end = refl };
  inner = λ b os z. z;
  same = λ b os z. refl;
  parentheses = λ q h. omega (arith, h);
  open_ones = λ q h. omega (arith, h);
  ifs = λ q h. omega (arith, h);
  all_ifs = λ q h. omega (arith, h);
  no_end = λ q h. omega (arith, h);
}

module _ (n i fs : ℕ) where
  no_name_at : (A : Type 0) (w : Option Plain) → TallyAt {A = A} true n i fs w (refuse (refusal_of w))
  unfolding refuse
  no_name_at A (Some (name v)) [] e = absurd cc
  no_name_at A (Some (name v)) (u ∷ ws) e =
      let same : u ≡ name v = cc in ([], refl, record { full = rw same refl; no_end = refl })
  no_name_at A None ws e = anywhere true n i fs {A = A} None (refuse Unexpected) (refuse_tally true n i fs) ws e
  no_name_at A (Some (number v)) ws e =
      anywhere true n i fs {A = A} _ (refuse Unexpected) (refuse_tally true n i fs) ws e
  no_name_at A (Some (mark v)) ws e = anywhere true n i fs {A = A} _ (refuse Unexpected) (refuse_tally true n i fs) ws e
  no_name_at A (Some (picture v)) ws e =
      anywhere true n i fs {A = A} _ (refuse Unexpected) (refuse_tally true n i fs) ws e

  no_name_tally : (A : Type 0) → Tally {A = A} true n i fs no_name
  unfolding no_name
  no_name_tally A = look_tally true n i fs _ (no_name_at A)

  others_tally : (k : ℕ) → Tally true n i fs (others_at k)
  unfolding others_at
  others_tally zero =
      bind_tally true n i fs _ (elim [ true ↦ no_name_tally (List Name) | false ↦ pure_tally true n i fs [] ])
      (eat (m.Sign s.Comma)) (eat_tally true n i fs (m.Sign s.Comma) (plain _ refl refl refl refl refl refl))
  others_tally (suc k) =
      bind_tally true n i fs _ (elim [
        | true ↦ bind_tally true n i fs _ (λ v. bind_tally true n i fs _ (λ vs. pure_tally true n i fs (v ∷ vs))
            (others_at k)
            (others_tally k)) a_name (name_tally true n i fs)
        | false ↦ pure_tally true n i fs []
      ]) (eat (m.Sign s.Comma)) (eat_tally true n i fs (m.Sign s.Comma) (plain _ refl refl refl refl refl refl))

  names_tally : (k : ℕ) → Tally true n i fs (names_at k)
  unfolding names_at
  names_tally zero = no_name_tally (Several Name)
  names_tally (suc k) =
      bind_tally true n i fs _ (λ v. bind_tally true n i fs _ (λ vs. pure_tally true n i fs (record {
        first =
            v;
        others = vs;
      }))
      (others_at k) (others_tally k)) a_name (name_tally true n i fs)

  yielded_tally : (k : ℕ) → Tally true n i fs (yielded_at k)
  unfolding yielded_at
  yielded_tally k =
      bind_tally true n i fs _ (elim [
        | true ↦ bind_tally true n i fs _ (λ ns. pure_tally true n i fs (all_of ns)) (names_at k) (names_tally k)
        | false ↦ pure_tally true n i fs []
      ]) (eat (m.Reserved r.Yielding)) (eat_tally true n i fs (m.Reserved r.Yielding)
      (plain _ refl refl refl refl refl refl))

  saving_tally : Tally true n i fs saving
  unfolding saving
  saving_tally =
      bind_tally true n i fs _ (elim [
        | true ↦ bind_tally true n i fs _ (λ u. bind_tally true n i fs _ (λ v. pure_tally true n i fs true)
            (expect (m.Reserved r.Notices))
            (expect_tally true n i fs (m.Reserved r.Notices) (plain _ refl refl refl refl refl refl)))
            (expect (m.Reserved r.Event))
            (expect_tally true n i fs (m.Reserved r.Event) (plain _ refl refl refl refl refl refl))
        | false ↦ pure_tally true n i fs false
      ]) (eat (m.Reserved r.Saving)) (eat_tally true n i fs (m.Reserved r.Saving)
      (plain _ refl refl refl refl refl refl))

-- if at least one parenthesis may be open
module _ (n i fs : ℕ) where
  abbrev in_parentheses : ℕ → Bool → Reading (Listing Name)
  in_parentheses k b = elim b [
    | true ↦ bind (names_at k) (λ ns. bind (expect (m.Sign s.Close)) (λ u. pure (InParentheses ns)))
    | false ↦ pure Unwritten
  ]

  given_tally : (k : ℕ) → Tally true (suc n) i fs (given_at k)
  unfolding given_at
  given_tally k =
      let w : Plain = mark (m.Sign s.Open) in
      let c = m.Sign s.Close in
      let z = encloses_open n i fs in
      bind_tally true (suc n) i fs _ (elim [
        | true ↦ bind_tally true (suc n) i fs _ (λ ns. pure_tally true (suc n) i fs (BehindGiven ns)) (names_at k)
            (names_tally (suc n) i fs k)
        | false ↦ enclosed_tally true (m.Sign s.Open) c n i fs (suc n) i z (in_parentheses k)
            (bind_shuts true w c n i fs (suc n) i z _
            (λ ns. made_shuts true w c n i fs (suc n) i z (λ u. InParentheses ns) (expect c)
            (close_shuts true w c n i fs (suc n) i z)) (names_at k) (names_tally n i fs k))
            (pure_tally true (suc n) i fs Unwritten)
      ]) (eat (m.Reserved r.Given)) (eat_tally true (suc n) i fs (m.Reserved r.Given)
      (plain _ refl refl refl refl refl refl))

  routine_tally : (k : ℕ) → Tally true (suc n) i fs (routine_at k)
  unfolding routine_at
  routine_tally k =
      bind_tally true (suc n) i fs _ (λ v. bind_tally true (suc n) i fs _ (λ ps. bind_tally true (suc n) i fs _
      (λ ys. pure_tally true (suc n) i fs (RoutineHead v ps ys)) (yielded_at (k - length (listing_names ps)))
      (yielded_tally (suc n) i fs (k - length (listing_names ps)))) (given_at k) (given_tally k)) a_name
      (name_tally true (suc n) i fs)

  event_tally : (k : ℕ) → Tally true (suc n) i fs (event_at k)
  unfolding event_at
  event_tally k =
      bind_tally true (suc n) i fs _ (λ v. bind_tally true (suc n) i fs _ (λ ps. bind_tally true (suc n) i fs _
      (λ b. pure_tally true (suc n) i fs (EventHead v ps b)) saving (saving_tally (suc n) i fs)) (given_at k)
      (given_tally k)) a_name (name_tally true (suc n) i fs)

  head_at-tally : (k : ℕ) (w : Option Plain) → TallyAt true (suc n) i fs w (head_by k w)
  head_at-tally k (Some (mark (m.Reserved r.Main))) =
      skip_tally true (suc n) i fs _ (pure MainHead) (plain _ refl refl refl refl refl refl)
      (pure_tally true (suc n) i fs MainHead)
  head_at-tally k (Some (mark (m.Reserved r.Routine))) =
      skip_tally true (suc n) i fs _ (routine_at k) (plain _ refl refl refl refl refl refl) (routine_tally k)
  head_at-tally k (Some (mark (m.Reserved r.Event))) =
      skip_tally true (suc n) i fs _ (event_at k) (plain _ refl refl refl refl refl refl) (event_tally k)
  head_at-tally k _ = anywhere true (suc n) i fs _ _ (refuse_tally true (suc n) i fs)

  pub head_tally : (k : ℕ) → Tally true (suc n) i fs (head_at k)
  unfolding head_at
  head_tally k = look_tally true (suc n) i fs (head_by k) (head_at-tally k)

-- ---- local DEFINEs

module _ (n i fs : ℕ) where
  next_tally : Tally false n i fs next_name
  unfolding next_name
  next_tally =
      bind_tally false n i fs _ (elim [
        | true ↦ bind_tally false n i fs _ (λ v. pure_tally false n i fs (Some v)) a_name (name_tally false n i fs)
        | false ↦ pure_tally false n i fs None
      ]) (eat (m.Sign s.Comma)) (eat_tally false n i fs (m.Sign s.Comma) (plain _ refl refl refl refl refl refl))

  list_tally : Tally false n i fs names
  unfolding names other_names
  list_tally =
      bind_tally false n i fs _ (λ v. bind_tally false n i fs _
      (λ vs. pure_tally false n i fs (record { first = v; others = vs })) _
      (many_tally false n i fs next_name [] (λ v vs. v ∷ vs) next_tally)) a_name (name_tally false n i fs)

  pub locals_tally : Tally false n i fs locals
  unfolding locals a_define as_variables
  locals_tally =
      star_tally false n i fs _ (mark_tally false n i fs (m.Reserved r.Define) _ (plain _ refl refl refl refl refl refl)
      (made_tally false n i fs _ _ (pair_tally false n i fs names _ list_tally
      (behind_tally false n i fs (m.Reserved r.As) _ (plain _ refl refl refl refl refl refl)
      (behind_tally false n i fs (m.Reserved r.Integer) _ (plain _ refl refl refl refl refl refl)
      (behind_tally false n i fs (m.Reserved r.Variables) _ (plain _ refl refl refl refl refl refl)
      (pure_tally false n i fs tt)))))))

-- ---- names

-- a head that begins with these words has m names, and the next word is counted as due says
abbrev Has : Bool → ℕ → List Plain → Type 0
Has due k pre = (z : List Plain) → names_in_head false (pre ++ z) ≡ k + names_in_head due z

-- the word after a head with these words is a name past the limit on names
abbrev pub Last : ℕ → List Plain → Option Plain → Type 0
Last l pre (Some (name v)) = names_in_head false (pre ++ name v ∷ []) ≡ suc l
Last l pre _ = ⊥

-- after the words pre of a head that may have l names
abbrev pub Told : {A : Type 0} → ℕ → (A → List Plain → Type 0) → List Plain → Result A Refusal → List Plain
    → List Plain → Type 0
Told l has pre (Ok a) ws r = (q : List Plain) × (ws ≡ q ++ r) × has a (pre ++ q)
Told l has pre (Err Unexpected) ws r = Unit {0}
Told l has pre (Err Memory) ws r = Unit {0}
Told l has pre (Err PastLimit) ws r = (q : List Plain) × (ws ≡ q ++ r) × Last l (pre ++ q) (first r)

pub record Tells {A : Type 0} (l : ℕ) (has : A → List Plain → Type 0) (pre : List Plain) (p : Reading A) : Type 0 where
  pub at : (ws : List Plain) → Told l has pre (p ws).0 ws (p ws).1

abbrev pub Anyhow : {A : Type 0} → A → List Plain → Type 0
Anyhow a pre = Unit {0}

module _ (l : ℕ) where
  moved : {A : Type 0} (has : A → List Plain → Type 0) (pre : List Plain) (o : Result A Refusal)
      (ws r r' q : List Plain)
      → ws ≡ q ++ r → Told l has (pre ++ q) o r r' → Told l has pre o ws r'
  moved has pre (Ok a) ws r r' q e (q2, e2, x) = (
    q ++ q2,
    e ∙ ap (λ (u : List Plain). q ++ u) e2 ∙ sym (append_assoc q q2 r'),
    subst (has a) (append_assoc pre q q2) x,
  )
  moved has pre (Err Unexpected) ws r r' q e out = tt
  moved has pre (Err Memory) ws r r' q e out = tt
  moved has pre (Err PastLimit) ws r r' q e (q2, e2, x) = (
    q ++ q2,
    e ∙ ap (λ (u : List Plain). q ++ u) e2 ∙ sym (append_assoc q q2 r'),
    subst (λ (u : List Plain). Last l u (first r')) (append_assoc pre q q2) x,
  )

  module _ {A B : Type 0} (has : A → List Plain → Type 0) (has' : B → List Plain → Type 0) (pre : List Plain)
      (f : A → Reading B) (t : (a : A) (x : List Plain) → has a x → Tells l has' x (f a)) where
    bound : (o : Result A Refusal) (ws r : List Plain) → Told l has pre o ws r
        → Told l has' pre (goes_on f o r).0 ws (goes_on f o r).1
    bound (Ok a) ws r (q, e, x) =
        let g = t a (pre ++ q) x in moved has' pre (f a r).0 ws r (f a r).1 q e (g.at r)
    bound (Err Unexpected) ws r out = tt
    bound (Err Memory) ws r out = tt
    bound (Err PastLimit) ws r out = out

    bind_tells : (p : Reading A) → Tells l has pre p → Tells l has' pre (bind p f)
    unfolding bind
    bind_tells p g = record { at = λ ws. bound (p ws).0 ws (p ws).1 (g.at ws) }

  pure_tells : {A : Type 0} (has : A → List Plain → Type 0) (pre : List Plain) (a : A) → has a pre
      → Tells l has pre (pure a)
  unfolding pure
  pure_tells has pre a x = record { at = λ ws. ([], refl, subst (has a) (sym (append-nil pre)) x) }

  -- by the next word
  abbrev TellsAt : {A : Type 0} → (A → List Plain → Type 0) → List Plain → Option Plain → Reading A → Type 0
  TellsAt has pre w p = (ws : List Plain) → first ws ≡ w → Told l has pre (p ws).0 ws (p ws).1

  look_tells : {A : Type 0} (has : A → List Plain → Type 0) (pre : List Plain) (f : Option Plain → Reading A)
      → ((w : Option Plain) → TellsAt has pre w (f w)) → Tells l has pre (look f)
  unfolding look
  look_tells has pre f t = record { at = λ ws. t (first ws) ws refl }

  tells_at : {A : Type 0} (has : A → List Plain → Type 0) (pre : List Plain) (w : Option Plain) (p : Reading A)
      → Tells l has pre p → TellsAt has pre w p
  tells_at has pre w p t ws e = t.at ws

  refuse_tells : {A : Type 0} (has : A → List Plain → Type 0) (pre : List Plain) → Tells l has pre (refuse Unexpected)
  unfolding refuse
  refuse_tells has pre = record { at = λ ws. tt }

  skip_tells : {A : Type 0} (has : A → List Plain → Type 0) (pre : List Plain) (w : Plain) (p : Reading A)
      → Tells l has (pre ++ w ∷ []) p → TellsAt has pre (Some w) (skip p)
  unfolding skip
  skip_tells has pre w p t [] e = absurd cc
  skip_tells has pre w p t (v ∷ ws) e =
      let same : v ≡ w = cc in
      moved has pre (p ws).0 (v ∷ ws) ws (p ws).1 (w ∷ []) (ap (λ (u : Plain). u ∷ ws) same) (t.at ws)

  test_tells : {A : Type 0} (has : A → List Plain → Type 0) (pre : List Plain) (k : Mark) (p q : Reading A)
      → Tells l has (pre ++ mark k ∷ []) p → Tells l has pre q → (w : Option Plain) (b : Bool) → is k w ≡ b
      → TellsAt has pre w (elim b [ true ↦ skip p | false ↦ q ])
  test_tells has pre k p q tp tq None true e = absurd cc
  test_tells has pre k p q tp tq (Some w) true e =
      rw (is_mark k w e) (skip_tells has pre (mark k) p tp)
  test_tells has pre k p q tp tq w false e = tells_at has pre w q tq

  eat_anyhow : (pre : List Plain) (k : Mark) → Tells l Anyhow pre (eat k)
  unfolding eat
  eat_anyhow pre k =
      look_tells Anyhow pre _ (λ w. test_tells Anyhow pre k (pure true) (pure false)
      (pure_tells Anyhow (pre ++ mark k ∷ []) true tt) (pure_tells Anyhow pre false tt) w (is k w) refl)

  expect_anyhow : (pre : List Plain) (k : Mark) → Tells l Anyhow pre (expect k)
  unfolding expect
  expect_anyhow pre k =
      look_tells Anyhow pre _ (λ w. test_tells Anyhow pre k (pure tt) (refuse Unexpected)
      (pure_tells Anyhow (pre ++ mark k ∷ []) tt tt) (refuse_tells Anyhow pre) w (is k w) refl)

  -- a word after which a name is due
  asked : (k : Mark) (j : ℕ) (pre : List Plain) → asks (mark k) ≡ true → Has false j pre
      → Has true j (pre ++ mark k ∷ [])
  asked k j pre e h z =
      let go : names_in_head false (mark k ∷ z) ≡ names_in_head true z = rw e refl in
      ap (names_in_head false) (append_assoc pre (mark k ∷ []) z) ∙ h (mark k ∷ z) ∙ ap (λ (i : ℕ). j + i) go

  eat_tells : (k : Mark) (j : ℕ) (pre : List Plain) → asks (mark k) ≡ true → Has false j pre
      → Tells l (λ b x. Has b j x) pre (eat k)
  unfolding eat
  eat_tells k j pre e h =
      look_tells (λ b x. Has b j x) pre _ (λ w. test_tells (λ b x. Has b j x) pre k (pure true) (pure false)
      (pure_tells (λ b x. Has b j x) (pre ++ mark k ∷ []) true (asked k j pre e h))
      (pure_tells (λ b x. Has b j x) pre false h) w (is k w) refl)

  named : (v : Name) (j : ℕ) (pre : List Plain) → Has true j pre → Has false (suc j) (pre ++ name v ∷ [])
  named v j pre h z =
      let at : names_in_head false (pre ++ name v ∷ z) ≡ j + suc (names_in_head false z) = h (name v ∷ z) in
      omega (arith, at, ap (names_in_head false) (append_assoc pre (name v ∷ []) z))

  name_at : (j : ℕ) (pre : List Plain) → Has true j pre → (w : Option Plain)
      → TellsAt (λ v x. Has false (suc j) x) pre w (name_by w)
  name_at j pre h (Some (name v)) =
      skip_tells (λ v x. Has false (suc j) x) pre (name v) (pure v)
      (pure_tells (λ v x. Has false (suc j) x) (pre ++ name v ∷ []) v (named v j pre h))
  name_at j pre h _ = tells_at (λ v x. Has false (suc j) x) pre _ (refuse Unexpected)
      (refuse_tells (λ v x. Has false (suc j) x) pre)

  name_tells : (j : ℕ) (pre : List Plain) → Has true j pre → Tells l (λ v x. Has false (suc j) x) pre a_name
  unfolding a_name
  name_tells j pre h = look_tells (λ v x. Has false (suc j) x) pre name_by (name_at j pre h)

  -- a name, if there may be no more
  module _ (A : Type 0) (has : A → List Plain → Type 0) (pre : List Plain) (h : Has true l pre) where
    last_at : (w : Option Plain) → TellsAt has pre w (refuse (refusal_of w))
    unfolding refuse
    last_at (Some (name v)) [] e = absurd cc
    last_at (Some (name v)) (u ∷ ws) e =
        let same : u ≡ name v = cc in
        let at : names_in_head false (pre ++ name v ∷ []) ≡ l + suc 0 = h (name v ∷ []) in
        let there : Last l (pre ++ []) (Some (name v)) =
        omega (arith, at, ap (λ (x : List Plain). names_in_head false (x ++ name v ∷ [])) (append-nil pre)) in
        ([], refl, subst (λ (x : Plain). Last l (pre ++ []) (Some x)) (sym same) there)
    last_at None ws e = tt
    last_at (Some (number v)) ws e = tt
    last_at (Some (mark v)) ws e = tt
    last_at (Some (picture v)) ws e = tt

    no_name_tells : Tells l has pre no_name
    unfolding no_name
    no_name_tells = look_tells has pre _ last_at

  -- ---- the parts of a head

  abbrev HasOthers : ℕ → ℕ → List Name → List Plain → Type 0
  HasOthers k j ns x = (length ns ≤ k) × Has false (j + length ns) x

  none_more : (k j : ℕ) (x : List Plain) → Has false j x → HasOthers k j [] x
  none_more k j x h = (omega arith, λ z. let a = h z in omega (arith, a))

  one_more : (k j : ℕ) (v : Name) (vs : List Name) (x : List Plain) → HasOthers k (suc j) vs x
      → HasOthers (suc k) j (v ∷ vs) x
  one_more k j v vs x (le, h) = (omega (arith, le), λ z. let a = h z in omega (arith, a))

  others_tells : (k j : ℕ) (pre : List Plain) → Has false j pre → j + k ≡ l → Tells l (HasOthers k j) pre (others_at k)
  unfolding others_at
  others_tells zero j pre h e =
      bind_tells (λ b x. Has b j x) (HasOthers 0 j) pre _ (elim [
        | true ↦ (λ x g. no_name_tells (List Name) (HasOthers 0 j) x (λ z. let a = g z in omega (arith, a, e)))
        | false ↦ (λ x g. pure_tells (HasOthers 0 j) x [] (none_more 0 j x g))
      ]) (eat (m.Sign s.Comma)) (eat_tells (m.Sign s.Comma) j pre refl h)
  others_tells (suc k) j pre h e =
      bind_tells (λ b x. Has b j x) (HasOthers (suc k) j) pre _ (elim [
        | true ↦ (λ x g. bind_tells (λ v y. Has false (suc j) y) (HasOthers (suc k) j) x _
            (λ v y d. bind_tells (HasOthers k (suc j)) (HasOthers (suc k) j) y _
            (λ vs c f. pure_tells (HasOthers (suc k) j) c (v ∷ vs) (one_more k j v vs c f)) (others_at k)
            (others_tells k (suc j) y d (omega (arith, e)))) a_name (name_tells j x g))
        | false ↦ (λ x g. pure_tells (HasOthers (suc k) j) x [] (none_more (suc k) j x g))
      ]) (eat (m.Sign s.Comma)) (eat_tells (m.Sign s.Comma) j pre refl h)

  abbrev HasNames : ℕ → ℕ → Several Name → List Plain → Type 0
  HasNames k j ns x = HasOthers k j (all_of ns) x

  names_tells : (k j : ℕ) (pre : List Plain) → Has true j pre → j + k ≡ l → Tells l (HasNames k j) pre (names_at k)
  unfolding names_at
  names_tells zero j pre h e =
      no_name_tells (Several Name) (HasNames 0 j) pre (λ z. let a = h z in omega (arith, a, e))
  names_tells (suc k) j pre h e =
      bind_tells (λ v y. Has false (suc j) y) (HasNames (suc k) j) pre _
      (λ v y d. bind_tells (HasOthers k (suc j)) (HasNames (suc k) j) y _
      (λ vs c f. pure_tells (HasNames (suc k) j) c (record { first = v; others = vs }) (one_more k j v vs c f))
      (others_at k) (others_tells k (suc j) y d (omega (arith, e)))) a_name (name_tells j pre h)

  abbrev HasGiven : ℕ → ℕ → Listing Name → List Plain → Type 0
  HasGiven k j ps x = HasOthers k j (listing_names ps) x

  closed : (j : ℕ) (pre : List Plain) → Has false j pre → Has false j (pre ++ mark (m.Sign s.Close) ∷ [])
  closed j pre h z =
      ap (names_in_head false) (append_assoc pre (mark (m.Sign s.Close) ∷ []) z) ∙ h (mark (m.Sign s.Close) ∷ z)

  close_tells : (j : ℕ) (pre : List Plain) → Has false j pre
      → Tells l (λ u x. Has false j x) pre (expect (m.Sign s.Close))
  unfolding expect
  close_tells j pre h =
      let has : Unit {0} → List Plain → Type 0 = λ u x. Has false j x in
      look_tells has pre _ (λ w. test_tells has pre (m.Sign s.Close) (pure tt) (refuse Unexpected)
      (pure_tells has (pre ++ mark (m.Sign s.Close) ∷ []) tt (closed j pre h)) (refuse_tells has pre) w
      (is (m.Sign s.Close) w) refl)

  given_tells : (k j : ℕ) (pre : List Plain) → Has false j pre → j + k ≡ l → Tells l (HasGiven k j) pre (given_at k)
  unfolding given_at
  given_tells k j pre h e =
      bind_tells (λ b x. Has b j x) (HasGiven k j) pre _ (elim [
        | true ↦ (λ x g. bind_tells (HasNames k j) (HasGiven k j) x _
            (λ ns y d. pure_tells (HasGiven k j) y (BehindGiven ns) d) (names_at k) (names_tells k j x g e))
        | false ↦ (λ x g. bind_tells (λ b y. Has b j y) (HasGiven k j) x _ (elim [
          | true ↦ (λ y d. bind_tells (HasNames k j) (HasGiven k j) y _
              (λ ns c f. bind_tells (λ u b. Has false (j + length (all_of ns)) b) (HasGiven k j) c _
              (λ u b o. pure_tells (HasGiven k j) b (InParentheses ns) (f.0, o)) (expect (m.Sign s.Close))
              (close_tells (j + length (all_of ns)) c f.1)) (names_at k) (names_tells k j y d e))
          | false ↦ (λ y d. pure_tells (HasGiven k j) y Unwritten (none_more k j y d))
        ]) (eat (m.Sign s.Open)) (eat_tells (m.Sign s.Open) j x refl g))
      ]) (eat (m.Reserved r.Given)) (eat_tells (m.Reserved r.Given) j pre refl h)

  yielded_tells : (k j : ℕ) (pre : List Plain) → Has false j pre → j + k ≡ l → Tells l Anyhow pre (yielded_at k)
  unfolding yielded_at
  yielded_tells k j pre h e =
      bind_tells (λ b x. Has b j x) Anyhow pre _ (elim [
        | true ↦ (λ x g. bind_tells (HasNames k j) Anyhow x _
            (λ ns y d. pure_tells Anyhow y (all_of ns) tt) (names_at k) (names_tells k j x g e))
        | false ↦ (λ x g. pure_tells Anyhow x [] tt)
      ]) (eat (m.Reserved r.Yielding)) (eat_tells (m.Reserved r.Yielding) j pre refl h)

  saving_tells : (pre : List Plain) → Tells l Anyhow pre saving
  unfolding saving
  saving_tells pre =
      bind_tells Anyhow Anyhow pre _ (elim [
        | true ↦ (λ x g. bind_tells Anyhow Anyhow x _ (λ u y d. bind_tells Anyhow Anyhow y _
            (λ v c f. pure_tells Anyhow c true tt) (expect (m.Reserved r.Notices))
            (expect_anyhow y (m.Reserved r.Notices))) (expect (m.Reserved r.Event))
            (expect_anyhow x (m.Reserved r.Event)))
        | false ↦ (λ x g. pure_tells Anyhow x false tt)
      ]) (eat (m.Reserved r.Saving)) (eat_anyhow pre (m.Reserved r.Saving))

-- a head with at most k parameters has at most one name more
module _ (k : ℕ) where
  routine_tells : Tells (suc k) Anyhow (mark (m.Reserved r.Routine) ∷ []) (routine_at k)
  unfolding routine_at
  routine_tells =
      let pre : List Plain = mark (m.Reserved r.Routine) ∷ [] in
      bind_tells (suc k) (λ v y. Has false 1 y) Anyhow pre _
      (λ v y d. bind_tells (suc k) (HasGiven (suc k) k 1) Anyhow y _
      (λ ps c f. let le = f.0 in bind_tells (suc k) Anyhow Anyhow c _ (λ ys b o. pure_tells (suc k) Anyhow b
      (RoutineHead v ps ys) tt)
      (yielded_at (k - length (listing_names ps)))
      (yielded_tells (suc k) (k - length (listing_names ps)) (1 + length (listing_names ps)) c f.1 (omega (arith, le))))
      (given_at k) (given_tells (suc k) k 1 y d (omega arith))) a_name
      (name_tells (suc k) 0 pre (λ z. omega arith))

  event_tells : Tells (suc k) Anyhow (mark (m.Reserved r.Event) ∷ []) (event_at k)
  unfolding event_at
  event_tells =
      let pre : List Plain = mark (m.Reserved r.Event) ∷ [] in
      bind_tells (suc k) (λ v y. Has false 1 y) Anyhow pre _
      (λ v y d. bind_tells (suc k) (HasGiven (suc k) k 1) Anyhow y _
      (λ ps c f. bind_tells (suc k) Anyhow Anyhow c _ (λ b x o. pure_tells (suc k) Anyhow x (EventHead v ps b) tt)
      saving (saving_tells (suc k) c)) (given_at k) (given_tells (suc k) k 1 y d (omega arith))) a_name
      (name_tells (suc k) 0 pre (λ z. omega arith))

  head_tells_at : (w : Option Plain) → TellsAt (suc k) Anyhow [] w (head_by k w)
  head_tells_at (Some (mark (m.Reserved r.Main))) =
      skip_tells (suc k) Anyhow [] _ (pure MainHead) (pure_tells (suc k) Anyhow _ MainHead tt)
  head_tells_at (Some (mark (m.Reserved r.Routine))) =
      skip_tells (suc k) Anyhow [] _ (routine_at k) routine_tells
  head_tells_at (Some (mark (m.Reserved r.Event))) = skip_tells (suc k) Anyhow [] _ (event_at k) event_tells
  head_tells_at _ = tells_at (suc k) Anyhow [] _ (refuse Unexpected) (refuse_tells (suc k) Anyhow [])

  pub head_tells : Tells (suc k) Anyhow [] (head_at k)
  unfolding head_at
  head_tells = look_tells (suc k) Anyhow [] (head_by k) head_tells_at
