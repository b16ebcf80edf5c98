-- The counts of a reading at the word at which it stops. The part that is read closes each
-- parenthesis and rejoins each IF. A word that is refused by a limit is at a place at which all are
-- open that may be open.
use Rattle.std.proofs.Common.{◌≡◌, ℕ, zero, suc, ◌+◌, ◌-◌, ◌≤◌, ◌<◌, Bool, true, false, List, [], ◌∷◌, ◌++◌}
use Rattle.std.proofs.Common.{length}
use Rattle.std.proofs.Common.{length-append, take, drop, Option, Some, None, Result, Ok, Err, refl, sym, ap, subst, ◌∙◌}
use Rattle.std.proofs.Common.{append_assoc, arith}
use Rattle.ss_words.specs.declared.refusal.Refusal.{Refusal}
use Rattle.ss_words.specs.declared.refusal.Refusal.TheVariants.{Unexpected, PastLimit, Memory}
use Rattle.ss_words.specs.declared.mark.Mark.{Mark}
use Rattle.ss_words.specs.declared.mark.Mark.TheVariants as m
use Rattle.ss_words.specs.declared.word.Sign.TheVariants as sign
use Rattle.ss_words.specs.declared.reserved.Reserved.TheVariants as r
use Rattle.ss_words.specs.Plain.{Plain, name, mark, first}
use Rattle.ss_words.specs.Reading.{Read, Reading, goes_on, bind, pure, refuse, look, skip, many_from, many}
use Rattle.ss_words.specs.Marks.{is, expect, eat, name_by, a_name}
use Rattle.ss_words.proofs.Laws.{IsRead, Good}
use Rattle.ss_words.proofs.Local.{more, Local, Stops}
use Rattle.ss_words.proofs.Marks.{is_mark}
use Rattle.ss_words.proofs.Goal as goal
use Rattle.ss_routines.specs.Counts.{count, opens, closes}
use Rattle.ss_routines.specs.OneTooMany.{branches, rejoins, ends}
use Rattle.ss_routines.specs.OpenPhrases.{Open, without_inner_phrases, may_end, step, open_behind, phrases_of}
use Rattle.ss_routines.proofs.Tally as tally
use Rattle.ss_routines.proofs.Tally.{count-append, Leaves}
use Rattle.ss_routines.proofs.Inner.{builds, Inner, front}
use Rattle.ss_routines.proofs.OpenWords.{ended_by, behind_both, settled_less, changes, stays, same_behind}
use Rattle.ss_routines.proofs.OpenWords.{inner_stays, inner_opens_none}

-- the place at which words begin: anywhere; a place with no phrase innermost; directly after a
-- phrase
pub data Place : Type 0 where
  Anywhere Settled Behind : Place

-- a word that may end a phrase is before them or is not, as b says, and os is open there
abbrev pub At : Place → Bool → List Open → Type 0
At Anywhere b os = Unit {0}
At Settled b os = without_inner_phrases os ≡ os
At Behind b os = b ≡ true

-- as many parentheses are closed as opened and as many IFs rejoined as begun; every part that is
-- opened is closed; no section ends in these words
pub record EvenAt (from : Place) (q : List Plain) : Type 0 where
  pub parentheses : count opens q ≡ count closes q
  pub ifs : count branches q ≡ count rejoins q
  pub phrases : (b : Bool) (os : List Open) → At from b os → open_behind b os q ≡ without_inner_phrases os
  pub no_end : count ends q ≡ 0

abbrev pub Even : List Plain → Type 0
Even q = EvenAt Settled q

-- no more than n parentheses, i IFs and fs phrases are open after these words
pub record RoomAt (from : Place) (n i fs : ℕ) (q : List Plain) : Type 0 where
  pub parentheses : count opens q ≤ count closes q + n
  pub ifs : count branches q ≤ count rejoins q + i
  pub phrases : (b : Bool) (os : List Open) → At from b os → phrases_of (open_behind b os q) ≤ phrases_of os + fs
  pub no_end : count ends q ≡ 0

abbrev pub Room : ℕ → ℕ → ℕ → List Plain → Type 0
Room n i fs q = RoomAt Settled n i fs q

-- as many phrases are open after these words as may be
abbrev pub Filled : Place → ℕ → List Plain → Type 0
Filled from fs q = (b : Bool) (os : List Open) → At from b os → phrases_of (open_behind b os q) ≡ phrases_of os + fs

-- the word after q is refused by a limit: as many are open as may be; names are looked at elsewhere
abbrev pub FullAt : Place → Bool → ℕ → ℕ → ℕ → List Plain → Option Plain → Type 0
FullAt from h n i fs q (Some (mark (m.Sign sign.Open))) = count opens q ≡ count closes q + n
FullAt from h n i fs q (Some (mark (m.Reserved r.If))) = count branches q ≡ count rejoins q + i
FullAt from h n i fs q (Some (mark (m.Reserved r.For))) = Filled from fs q
FullAt from h n i fs q (Some (name v)) = h ≡ true
FullAt from h n i fs q _ = ⊥

abbrev pub Full : Bool → ℕ → ℕ → ℕ → List Plain → Option Plain → Type 0
Full h n i fs q w = FullAt Settled h n i fs q w

-- refused by a limit, within a section
pub record PastAt (from : Place) (h : Bool) (n i fs : ℕ) (q : List Plain) (w : Option Plain) : Type 0 where
  pub full : FullAt from h n i fs q w
  pub no_end : count ends q ≡ 0

abbrev pub Past : Bool → ℕ → ℕ → ℕ → List Plain → Option Plain → Type 0
Past h n i fs q w = PastAt Settled h n i fs q w

-- n parentheses, i IFs and fs phrases may be open; h says that names may be refused by a limit
abbrev pub OutAt : {A : Type 0} → Place → Bool → ℕ → ℕ → ℕ → Result A Refusal → List Plain → List Plain → Type 0
OutAt from h n i fs (Ok a) ws r = (q : List Plain) × (ws ≡ q ++ r) × EvenAt from q
OutAt from h n i fs (Err Unexpected) ws r = (q : List Plain) × (ws ≡ q ++ r) × RoomAt from n i fs q
OutAt from h n i fs (Err Memory) ws r = ⊥
OutAt from h n i fs (Err PastLimit) ws r = (q : List Plain) × (ws ≡ q ++ r) × PastAt from h n i fs q (first r)

abbrev pub Out : {A : Type 0} → Bool → ℕ → ℕ → ℕ → Result A Refusal → List Plain → List Plain → Type 0
Out h n i fs o ws r = OutAt Settled h n i fs o ws r

pub record Tally {A : Type 0} (h : Bool) (n i fs : ℕ) (p : Reading A) : Type 0 where
  pub at : (ws : List Plain) → Out h n i fs (p ws).0 ws (p ws).1

abbrev pub TallyAt : {A : Type 0} → Bool → ℕ → ℕ → ℕ → Option Plain → Reading A → Type 0
TallyAt h n i fs w p = (ws : List Plain) → first ws ≡ w → Out h n i fs (p ws).0 ws (p ws).1

-- ---- words joined

pub nothing : Even []
nothing = record { parentheses = refl; ifs = refl; phrases = λ b os e. sym e; no_end = refl }

pub room_of : (n i fs : ℕ) (q : List Plain) → Even q → Room n i fs q
room_of n i fs q e = let a = e.parentheses in let b = e.ifs in record {
  parentheses = omega (arith, a);
  ifs = omega (arith, b);
  phrases = λ c os x. let k = settled_less os in
      omega (arith, k, ap phrases_of (e.phrases c os x));
  no_end = e.no_end;
}

-- after words that close the parts that they open
both : (b : Bool) (os : List Open) (x y : List Plain) → Even x → without_inner_phrases os ≡ os
    → open_behind b os (x ++ y) ≡ open_behind (ended_by b x) os y
both b os x y h e =
    behind_both b os x y ∙ ap (λ (o : List Open). open_behind (ended_by b x) o y) (h.phrases b os e ∙ e)

pub joined : (a b : List Plain) → Even a → Even b → Even (a ++ b)
joined a b x y =
    let p = x.parentheses in let p' = y.parentheses in let i = x.ifs in let i' = y.ifs in let e = x.no_end in
    let e' = y.no_end in record {
      parentheses = omega (arith, p, p', count-append opens a b, count-append closes a b);
      ifs = omega (arith, i, i', count-append branches a b, count-append rejoins a b);
      phrases = λ c os z. both c os a b x z ∙ y.phrases (ended_by c a) os z;
      no_end = omega (arith, e, e', count-append ends a b);
    }

pub room_behind : (n i fs : ℕ) (a b : List Plain) → Even a → Room n i fs b → Room n i fs (a ++ b)
room_behind n i fs a b x y =
    let p = x.parentheses in let p' = y.parentheses in let g = x.ifs in let g' = y.ifs in let e = x.no_end in
    let e' = y.no_end in record {
      parentheses = omega (arith, p, p', count-append opens a b, count-append closes a b);
      ifs = omega (arith, g, g', count-append branches a b, count-append rejoins a b);
      phrases = λ c os z.
          let k = y.phrases (ended_by c a) os z in omega (arith, k, ap phrases_of (both c os a b x z));
      no_end = omega (arith, e, e', count-append ends a b);
    }

full_behind : (h : Bool) (n i fs : ℕ) (a b : List Plain) (w : Option Plain) → Even a → Full h n i fs b w
    → Full h n i fs (a ++ b) w
full_behind h n i fs a b (Some (mark (m.Sign sign.Open))) x f =
    let p = x.parentheses in omega (arith, p, f, count-append opens a b, count-append closes a b)
full_behind h n i fs a b (Some (mark (m.Reserved r.If))) x f =
    let g = x.ifs in omega (arith, g, f, count-append branches a b, count-append rejoins a b)
full_behind h n i fs a b (Some (mark (m.Reserved r.For))) x f =
    λ c os z. ap phrases_of (both c os a b x z) ∙ f (ended_by c a) os z
full_behind h n i fs a b (Some (name v)) x f = f
full_behind h n i fs a b _ x f = absurd f

pub past_behind : (h : Bool) (n i fs : ℕ) (a b : List Plain) (w : Option Plain) → Even a → Past h n i fs b w
    → Past h n i fs (a ++ b) w
past_behind h n i fs a b w x y =
    let e = x.no_end in let e' = y.no_end in record {
      full = full_behind h n i fs a b w x y.full;
      no_end = omega (arith, e, e', count-append ends a b);
    }

-- a word that counts to nothing
pub plain : (w : Plain) → opens w ≡ false → closes w ≡ false → branches w ≡ false → rejoins w ≡ false
    → changes w ≡ false
    → ends w ≡ false → Even (w ∷ [])
plain w a b c d e g = record {
  parentheses = rw (a, b) refl;
  ifs = rw (c, d) refl;
  phrases = λ c os z. stays c os w e z ∙ sym z;
  no_end = rw g refl;
}

-- ---- the steps of a reading

module _ (h : Bool) (n i fs : ℕ) where
  pub anywhere : {A : Type 0} (w : Option Plain) (p : Reading A) → Tally h n i fs p → TallyAt h n i fs w p
  anywhere w p t ws e = t.at ws

  pub pure_tally : {A : Type 0} (a : A) → Tally h n i fs (pure a)
  unfolding pure
  pure_tally a = record { at = λ ws. ([], refl, nothing) }

  pub refuse_tally : {A : Type 0} → Tally {A = A} h n i fs (refuse Unexpected)
  unfolding refuse
  refuse_tally = record { at = λ ws. ([], refl, room_of n i fs [] nothing) }

  pub behind : {A : Type 0} (o : Result A Refusal) (ws r r' q : List Plain) → ws ≡ q ++ r → Even q → Out h n i fs o r r'
      → Out h n i fs o ws r'
  behind (Ok a) ws r r' q e x (q2, e2, y) =
      (q ++ q2, e ∙ ap (λ (u : List Plain). q ++ u) e2 ∙ sym (append_assoc q q2 r'), joined q q2 x y)
  behind (Err Unexpected) ws r r' q e x (q2, e2, y) =
      (q ++ q2, e ∙ ap (λ (u : List Plain). q ++ u) e2 ∙ sym (append_assoc q q2 r'), room_behind n i fs q q2 x y)
  behind (Err Memory) ws r r' q e x out = out
  behind (Err PastLimit) ws r r' q e x (q2, e2, y) = (
    q ++ q2,
    e ∙ ap (λ (u : List Plain). q ++ u) e2 ∙ sym (append_assoc q q2 r'),
    past_behind h n i fs q q2 (first r') x y,
  )

  module _ {A B : Type 0} (f : A → Reading B) (t : (a : A) → Tally h n i fs (f a)) where
    bound : (o : Result A Refusal) (ws r : List Plain) → Out h n i fs o ws r
        → Out h n i fs (goes_on f o r).0 ws (goes_on f o r).1
    bound (Ok a) ws r (q, e, x) = behind (f a r).0 ws r (f a r).1 q e x ((t a).at r)
    bound (Err Unexpected) ws r out = out
    bound (Err Memory) ws r out = out
    bound (Err PastLimit) ws r out = out

    pub bind_tally : (p : Reading A) → Tally h n i fs p → Tally h n i fs (bind p f)
    unfolding bind
    bind_tally p g = record { at = λ ws. bound (p ws).0 ws (p ws).1 (g.at ws) }

  pub look_tally : {A : Type 0} (f : Option Plain → Reading A) → ((w : Option Plain) → TallyAt h n i fs w (f w))
      → Tally h n i fs (look f)
  unfolding look
  look_tally f t = record { at = λ ws. t (first ws) ws refl }

  pub skip_tally : {A : Type 0} (w : Plain) (p : Reading A) → Even (w ∷ []) → Tally h n i fs p
      → TallyAt h n i fs (Some w) (skip p)
  unfolding skip
  skip_tally w p x t [] e = absurd cc
  skip_tally w p x t (v ∷ ws) e =
      let same : w ≡ v = cc in
      behind (p ws).0 (v ∷ ws) ws (p ws).1 (v ∷ []) refl (subst (λ (u : Plain). Even (u ∷ [])) same x) (t.at ws)

  pub test_at : {A : Type 0} (k : Mark) (p q : Reading A) → Even (mark k ∷ []) → Tally h n i fs p → Tally h n i fs q
      → (w : Option Plain) (b : Bool) → is k w ≡ b → TallyAt h n i fs w (elim b [ true ↦ skip p | false ↦ q ])
  test_at k p q x tp tq None true e = absurd cc
  test_at k p q x tp tq (Some w) true e = rw (is_mark k w e) (skip_tally (mark k) p x tp)
  test_at k p q x tp tq w false e = anywhere w q tq

  pub expect_tally : (k : Mark) → Even (mark k ∷ []) → Tally h n i fs (expect k)
  unfolding expect
  expect_tally k x =
      look_tally _ (λ w. test_at k (pure tt) (refuse Unexpected) x (pure_tally tt) refuse_tally w (is k w) refl)

  pub eat_tally : (k : Mark) → Even (mark k ∷ []) → Tally h n i fs (eat k)
  unfolding eat
  eat_tally k x =
      look_tally _ (λ w. test_at k (pure true) (pure false) x (pure_tally true) (pure_tally false) w (is k w) refl)

  name_at : (w : Option Plain) → TallyAt h n i fs w (name_by w)
  name_at (Some (name v)) =
      skip_tally (name v) (pure v) (plain (name v) refl refl refl refl refl refl) (pure_tally v)
  name_at _ = anywhere _ _ refuse_tally

  pub name_tally : Tally h n i fs a_name
  unfolding a_name
  name_tally = look_tally name_by name_at

  module _ {A B : Type 0} (item : Reading (Option A)) (none : B) (one : A → B → B) (t : Tally h n i fs item) where
    from_tally : (k : ℕ) → Tally h n i fs (many_from item none one k)
    unfolding many_from
    from_tally zero = pure_tally none
    from_tally (suc k) = bind_tally _ (elim [
      | Some a ↦ bind_tally _ (λ b. pure_tally (one a b)) (many_from item none one k) (from_tally k)
      | None ↦ pure_tally none
    ]) item t

    pub many_tally : Tally h n i fs (many item none one)
    unfolding many
    many_tally = record { at = λ ws. (from_tally (suc (length ws))).at ws }

-- ---- a part between two words that are counted

-- how many may be open after word w, if n and i may be open before it; no phrase is innermost after
-- w
pub record Encloses (from : Place) (w c : Plain) (n i fs n' i' : ℕ) : Type 0 where
  pub even : EvenAt from (w ∷ c ∷ [])
  pub inner : (b : Bool) (os : List Open) → At from b os → without_inner_phrases (step b os w) ≡ step b os w
  pub same : (b : Bool) (os : List Open) → At from b os → phrases_of (step b os w) ≡ phrases_of os
  pub parentheses : (q : List Plain) → count opens q ≤ count closes q + n
      → count opens (w ∷ q) ≤ count closes (w ∷ q) + n'
  pub open_ones : (q : List Plain) → count opens q ≡ count closes q + n
      → count opens (w ∷ q) ≡ count closes (w ∷ q) + n'
  pub ifs : (q : List Plain) → count branches q ≤ count rejoins q + i
      → count branches (w ∷ q) ≤ count rejoins (w ∷ q) + i'
  pub all_ifs : (q : List Plain) → count branches q ≡ count rejoins q + i
      → count branches (w ∷ q) ≡ count rejoins (w ∷ q) + i'
  pub no_end : (q : List Plain) → count ends q ≡ 0 → count ends (w ∷ q) ≡ 0

module _ {from : Place} (h : Bool) (w : Plain) (k : Mark) (n i fs n' i' : ℕ)
    (z : Encloses from w (mark k) n i fs n' i') where
  -- after w, up to and with the closing word
  abbrev pub Shut : {A : Type 0} → Result A Refusal → List Plain → List Plain → Type 0
  Shut (Ok a) ws r = (q : List Plain) × (ws ≡ q ++ r) × EvenAt from (w ∷ q)
  Shut (Err Unexpected) ws r = (q : List Plain) × (ws ≡ q ++ r) × RoomAt from n' i' fs (w ∷ q)
  Shut (Err Memory) ws r = ⊥
  Shut (Err PastLimit) ws r = (q : List Plain) × (ws ≡ q ++ r) × PastAt from h n' i' fs (w ∷ q) (first r)

  pub record Shuts {A : Type 0} (p : Reading A) : Type 0 where
    pub at : (ws : List Plain) → Shut (p ws).0 ws (p ws).1

  -- the open parts after words after w
  open_within : (a b : List Plain) → Even a → (c : Bool) (os : List Open) → At from c os
      → open_behind c os (w ∷ (a ++ b)) ≡ open_behind c os (w ∷ b)
  open_within a b x c os e =
      let s = z.inner c os e in
      both (may_end w) (step c os w) a b x s
      ∙ same_behind (ended_by (may_end w) a) (may_end w) (step c os w) b s

  even_within : (a b : List Plain) → Even a → EvenAt from (w ∷ b) → EvenAt from (w ∷ (a ++ b))
  even_within a b x y =
      let p = x.parentheses in let p' = y.parentheses in let g = x.ifs in let g' = y.ifs in let e = x.no_end in
      let e' = y.no_end in record {
        parentheses = omega (arith, p, p', count-append opens a b, count-append closes a b);
        ifs = omega (arith, g, g', count-append branches a b, count-append rejoins a b);
        phrases = λ c os u. open_within a b x c os u ∙ y.phrases c os u;
        no_end = omega (arith, e, e', count-append ends a b);
      }

  room_within : (a b : List Plain) → Even a → RoomAt from n' i' fs (w ∷ b) → RoomAt from n' i' fs (w ∷ (a ++ b))
  room_within a b x y =
      let p = x.parentheses in let p' = y.parentheses in let g = x.ifs in let g' = y.ifs in let e = x.no_end in
      let e' = y.no_end in record {
        parentheses = omega (arith, p, p', count-append opens a b, count-append closes a b);
        ifs = omega (arith, g, g', count-append branches a b, count-append rejoins a b);
        phrases = λ c os u.
            let l = y.phrases c os u in omega (arith, l, ap phrases_of (open_within a b x c os u));
        no_end = omega (arith, e, e', count-append ends a b);
      }

  full_within : (a b : List Plain) (v : Option Plain) → Even a → FullAt from h n' i' fs (w ∷ b) v
      → FullAt from h n' i' fs (w ∷ (a ++ b)) v
  full_within a b (Some (mark (m.Sign sign.Open))) x f =
      let p = x.parentheses in omega (arith, p, f, count-append opens a b, count-append closes a b)
  full_within a b (Some (mark (m.Reserved r.If))) x f =
      let g = x.ifs in omega (arith, g, f, count-append branches a b, count-append rejoins a b)
  full_within a b (Some (mark (m.Reserved r.For))) x f =
      λ c os u. ap phrases_of (open_within a b x c os u) ∙ f c os u
  full_within a b (Some (name v)) x f = f
  full_within a b _ x f = absurd f

  past_within : (a b : List Plain) (v : Option Plain) → Even a → PastAt from h n' i' fs (w ∷ b) v
      → PastAt from h n' i' fs (w ∷ (a ++ b)) v
  past_within a b v x y =
      let e = x.no_end in let e' = y.no_end in record {
        full = full_within a b v x y.full;
        no_end = omega (arith, e, e', count-append ends a b);
      }

  -- a law of words holds with w before them
  room_with : (q : List Plain) → Room n i fs q → RoomAt from n' i' fs (w ∷ q)
  room_with q x = record {
    parentheses = z.parentheses q x.parentheses;
    ifs = z.ifs q x.ifs;
    phrases = λ c os u.
        let l = x.phrases (may_end w) (step c os w) (z.inner c os u) in omega (arith, l, z.same c os u);
    no_end = z.no_end q x.no_end;
  }

  full_with : (q : List Plain) (v : Option Plain) → Full h n i fs q v → FullAt from h n' i' fs (w ∷ q) v
  full_with q (Some (mark (m.Sign sign.Open))) f = z.open_ones q f
  full_with q (Some (mark (m.Reserved r.If))) f = z.all_ifs q f
  full_with q (Some (mark (m.Reserved r.For))) f =
      λ c os u. f (may_end w) (step c os w) (z.inner c os u) ∙ ap (λ (j : ℕ). j + fs) (z.same c os u)
  full_with q (Some (name v)) f = f
  full_with q _ f = absurd f

  shut_behind : {A : Type 0} (o : Result A Refusal) (ws r r' q : List Plain) → ws ≡ q ++ r → Even q → Shut o r r'
      → Shut o ws r'
  shut_behind (Ok a) ws r r' q e x (q2, e2, y) =
      (q ++ q2, e ∙ ap (λ (u : List Plain). q ++ u) e2 ∙ sym (append_assoc q q2 r'), even_within q q2 x y)
  shut_behind (Err Unexpected) ws r r' q e x (q2, e2, y) =
      (q ++ q2, e ∙ ap (λ (u : List Plain). q ++ u) e2 ∙ sym (append_assoc q q2 r'), room_within q q2 x y)
  shut_behind (Err Memory) ws r r' q e x out = out
  shut_behind (Err PastLimit) ws r r' q e x (q2, e2, y) = (
    q ++ q2,
    e ∙ ap (λ (u : List Plain). q ++ u) e2 ∙ sym (append_assoc q q2 r'),
    past_within q q2 (first r') x y,
  )

  -- a part before the closing word
  module _ {A B : Type 0} (f : A → Reading B) (t : (a : A) → Shuts (f a)) where
    shut_bound : (o : Result A Refusal) (ws r : List Plain) → Out h n i fs o ws r
        → Shut (goes_on f o r).0 ws (goes_on f o r).1
    shut_bound (Ok a) ws r (q, e, x) = shut_behind (f a r).0 ws r (f a r).1 q e x ((t a).at r)
    shut_bound (Err Unexpected) ws r (q, e, x) = (q, e, room_with q x)
    shut_bound (Err Memory) ws r out = out
    shut_bound (Err PastLimit) ws r (q, e, x) =
        (q, e, record { full = full_with q (first r) x.full; no_end = z.no_end q x.no_end })

    pub bind_shuts : (p : Reading A) → Tally h n i fs p → Shuts (bind p f)
    unfolding bind
    bind_shuts p g = record { at = λ ws. shut_bound (p ws).0 ws (p ws).1 (g.at ws) }

  -- the value that is made of the part before it
  module _ {A B : Type 0} (f : A → B) where
    shut_made : (o : Result A Refusal) (ws r : List Plain) → Shut o ws r
        → (let x : Read B = goes_on (λ a. pure (f a)) o r in Shut x.0 ws x.1)
    unfolding pure
    shut_made (Ok a) ws r out = out
    shut_made (Err Unexpected) ws r out = out
    shut_made (Err Memory) ws r out = out
    shut_made (Err PastLimit) ws r out = out

    pub made_shuts : (p : Reading A) → Shuts p → Shuts (bind p (λ a. pure (f a)))
    unfolding bind
    made_shuts p g = record { at = λ ws. shut_made (p ws).0 ws (p ws).1 (g.at ws) }

  -- the closing word itself
  shut_at : (ws : List Plain) (b : Bool) → is k (first ws) ≡ b
      → (let p : Reading (Unit {0}) = elim b [ true ↦ skip (pure tt) | false ↦ refuse Unexpected ] in
      Shut (p ws).0 ws (p ws).1)
  unfolding skip pure refuse
  shut_at [] true e = absurd cc
  shut_at (v ∷ ws) true e =
      (mark k ∷ [], ap (λ (u : Plain). u ∷ ws) (is_mark k v e), z.even)
  shut_at ws false e = ([], refl, room_with [] (room_of n i fs [] nothing))

  pub close_shuts : Shuts (expect k)
  unfolding expect look
  close_shuts = record { at = λ ws. shut_at ws (is k (first ws)) refl }

  -- and the opening one
  module _ {A : Type 0} (p : Reading A) (g : Shuts p) where
    opened_out : (o : Result A Refusal) (ws r : List Plain) → Shut o ws r → OutAt from h n' i' fs o (w ∷ ws) r
    opened_out (Ok a) ws r (q, e, x) = (w ∷ q, ap (λ (u : List Plain). w ∷ u) e, x)
    opened_out (Err Unexpected) ws r (q, e, x) = (w ∷ q, ap (λ (u : List Plain). w ∷ u) e, x)
    opened_out (Err Memory) ws r out = out
    opened_out (Err PastLimit) ws r (q, e, x) = (w ∷ q, ap (λ (u : List Plain). w ∷ u) e, x)

    pub enclosed_at : (ws : List Plain) → OutAt from h n' i' fs (p ws).0 (w ∷ ws) (p ws).1
    enclosed_at ws = opened_out (p ws).0 ws (p ws).1 (g.at ws)

module _ (h : Bool) (j k : Mark) (n i fs n' i' : ℕ) (z : Encloses Settled (mark j) (mark k) n i fs n' i') where
  module _ {A : Type 0} (f : Bool → Reading A) (g : Shuts h (mark j) k n i fs n' i' z (f true))
      (none : Tally h n' i' fs (f false)) where
    eaten : (ws : List Plain) (b : Bool) → is j (first ws) ≡ b
        → (let p : Reading Bool = elim b [ true ↦ skip (pure true) | false ↦ pure false ] in
        let x : Read A = goes_on f (p ws).0 (p ws).1 in Out h n' i' fs x.0 ws x.1)
    unfolding skip pure
    eaten [] true e = absurd cc
    eaten (v ∷ ws) true e = rw (is_mark j v e) (enclosed_at h (mark j) k n i fs n' i' z (f true) g ws)
    eaten ws false e = none.at ws

    -- the opening word, if it is here, and the part after it
    pub enclosed_tally : Tally h n' i' fs (bind (eat j) f)
    unfolding bind eat look
    enclosed_tally = record { at = λ ws. eaten ws (is j (first ws)) refl }

-- ---- parts of statements

-- a word that no statement is built of
none_at : (test : Plain → Bool) → ((w : Plain) → builds w ≡ false → test w ≡ false) → (w : Plain) (q : List Plain)
    → (Inner q → count test q ≡ 0) → (b : Bool) → builds w ≡ b → count builds (w ∷ q) ≡ 0 → count test (w ∷ q) ≡ 0
none_at test h w q rest true e k =
    let c : count builds (w ∷ q) ≡ suc (count builds q) = rw e (omega arith) in absurd (omega (arith, c, k))
none_at test h w q rest false e k =
    let c : count builds (w ∷ q) ≡ count builds q = rw e (omega arith) in
    let d = rest (record { none = omega (arith, c, k) }) in
    rw (h w e) (omega (arith, d))

pub none_of : (test : Plain → Bool) → ((w : Plain) → builds w ≡ false → test w ≡ false) → (q : List Plain) → Inner q
    → count test q ≡ 0
none_of test h [] x = refl
none_of test h (w ∷ q) x = let k = x.none in none_at test h w q (none_of test h q) (builds w) refl k

pub branches_build : (w : Plain) → builds w ≡ false → branches w ≡ false
branches_build (mark (m.Reserved r.If)) e = absurd cc
branches_build _ e = refl

pub rejoins_build : (w : Plain) → builds w ≡ false → rejoins w ≡ false
rejoins_build (mark (m.Reserved r.Always)) e = absurd cc
rejoins_build _ e = refl

pub ends_build : (w : Plain) → builds w ≡ false → ends w ≡ false
ends_build (mark (m.Reserved r.End)) e = absurd cc
ends_build _ e = refl

-- the parenthesis after q is one too many
abbrev pub Refused : ℕ → List Plain → Option Plain → Type 0
Refused n q (Some (mark (m.Sign sign.Open))) = count opens q ≡ count closes q + n
Refused n q _ = ⊥

-- the word at which a part of a statement stops; Says gives more about the part if it is read
abbrev pub PartOut : {A : Type 0} → ℕ → (A → List Plain → Type 0) → Result A Refusal → List Plain → List Plain → Type 0
PartOut n Says (Ok a) ws r = (q : List Plain) × (ws ≡ q ++ r) × Inner q × Leaves 0 q × Says a q
PartOut n Says (Err Unexpected) ws r = (q : List Plain) × (ws ≡ q ++ r) × Inner q × tally.Under n q
PartOut n Says (Err Memory) ws r = ⊥
PartOut n Says (Err PastLimit) ws r = (q : List Plain) × (ws ≡ q ++ r) × Inner q × Refused n q (first r)

pub record Part {A : Type 0} (n : ℕ) (Says : A → List Plain → Type 0) (p : Reading A) : Type 0 where
  pub at : (ws : List Plain) → PartOut n Says (p ws).0 ws (p ws).1

module _ {A : Type 0} (n : ℕ) (fits fits' : A → Type 0) (sp sp' : A → List Plain) (p p' : Reading A)
    (good : Good fits sp [] p) (near : Local more p p') (good' : Good fits' sp' [] p') (counted : tally.Tally n p)
    (inner : (a : A) → Inner (sp a)) (inner' : (a : A) → Inner (sp' a)) (Says : A → List Plain → Type 0)
    (said : (a : A) → Says a (sp a)) where
  InnerRead : List Plain → List Plain → Type 0
  InnerRead ws r = (q : List Plain) × (ws ≡ q ++ r) × Inner q

  read_by : (fits : A → Type 0) (sp : A → List Plain) → ((a : A) → Inner (sp a)) → (o : Result A Refusal)
      (ws r : List Plain) → IsRead fits sp [] o ws r → InnerRead ws r
  unfolding InnerRead
  read_by fits sp inner (Ok a) ws r (f, q, e, k) = (q, e, subst Inner k (inner a))
  read_by fits sp inner (Err g) ws r (q, e, a, f, x, k) = (q, e, front q x (subst Inner k (inner a)))

  same_words : (ws r a b : List Plain) → ws ≡ a ++ r → ws ≡ b ++ r → a ≡ b
  same_words ws r a b d e = sym (goal.front_is ws a r d) ∙ goal.front_is ws b r e

  -- the word that is refused, and those before it
  module _ (ws tail q : List Plain) (w : Plain) (split : ws ≡ q ++ w ∷ tail) where
    word_by : (r' : List Plain) → length r' < length (w ∷ tail) → InnerRead ws r' → Inner (q ++ w ∷ [])
    unfolding InnerRead
    word_by r' lt (q', e, x) =
        let j = length ws - length (w ∷ tail) + 1 in
        let le : j ≤ length q' = omega (
          arith,
          lt,
          ap length split,
          length-append q (w ∷ tail),
          ap length e,
          length-append q' r',
        ) in
        let back : take j ws ++ drop j q' ≡ q' = goal.longer ws q' r' j e le in
        subst Inner (goal.front_and ws q tail w split) (front (take j ws) (drop j q') (subst Inner (sym back) x))

  no_builder : (q : List Plain) (w : Plain) → builds w ≡ true → Inner (q ++ w ∷ []) → ⊥
  no_builder q w e x =
      let k = x.none in
      let one : count builds (w ∷ []) ≡ 1 = rw e (omega arith) in
      absurd (omega (arith, k, one, count-append builds q (w ∷ [])))

  refused_by : (q : List Plain) (w : Plain) → Inner (q ++ w ∷ []) → tally.Refused n q (Some w) → Refused n q (Some w)
  refused_by q (mark (m.Sign sign.Open)) x f = f.open_ones
  refused_by q (mark (m.Reserved r.If)) x f = absurd (no_builder q (mark (m.Reserved r.If)) refl x)
  refused_by q (mark (m.Reserved r.For)) x f = absurd (no_builder q (mark (m.Reserved r.For)) refl x)
  refused_by q _ x f = absurd f

  out_by : (o : Result A Refusal) (ws r : List Plain) → tally.Out n o ws r → IsRead fits sp [] o ws r
      → InnerRead ws r
      → Stops more p' o ws r → InnerRead ws (p' ws).1 → PartOut n Says o ws r
  unfolding InnerRead
  out_by (Ok a) ws r (q, e, l) (f, q2, e2, k) (q1, e1, x) s y = (
    q,
    e,
    subst Inner (same_words ws r q1 q e1 e) x,
    l,
    subst (Says a) (k ∙ same_words ws r q2 q e2 e) (said a),
  )
  out_by (Err Unexpected) ws r (q, e, l) g (q1, e1, x) s y = (q, e, subst Inner (same_words ws r q1 q e1 e) x, l)
  out_by (Err Memory) ws r out g x s y = out
  out_by (Err PastLimit) ws [] (q, e, l) g (q1, e1, x) s y = absurd l
  out_by (Err PastLimit) ws (w ∷ tail) (q, e, l) g (q1, e1, x) (q2, e2, le, further) y = (
    q,
    e,
    subst Inner (same_words ws (w ∷ tail) q1 q e1 e) x,
    refused_by q w (word_by ws tail q w e (p' ws).1 further.0 y) l,
  )

  -- a part of a statement
  pub part : Part n Says p
  part = record {
    at = λ ws. out_by (p ws).0 ws (p ws).1 (counted.at ws) (good.read ws)
        (read_by fits sp inner (p ws).0 ws (p ws).1 (good.read ws)) (near.at ws)
        (read_by fits' sp' inner' (p' ws).0 ws (p' ws).1 (good'.read ws));
  }

-- ---- the counts in a part

pub part_even : (from : Place) (q : List Plain) → Inner q → Leaves 0 q
    → ((b : Bool) (os : List Open) → At from b os → open_behind b os q ≡ without_inner_phrases os) → EvenAt from q
part_even from q x l keeps = let h = l.open_ones in record {
  parentheses = omega (arith, h);
  ifs = none_of branches branches_build q x ∙ sym (none_of rejoins rejoins_build q x);
  phrases = keeps;
  no_end = none_of ends ends_build q x;
}

pub part_room : (from : Place) (n i fs : ℕ) (q : List Plain) → Inner q → tally.Under n q → RoomAt from n i fs q
part_room from n i fs q x l = let h = l.open_ones in record {
  parentheses = h;
  ifs = omega (arith, none_of branches branches_build q x);
  phrases = λ b os e. let k = inner_opens_none b os q x in omega (arith, k);
  no_end = none_of ends ends_build q x;
}

pub part_past : (from : Place) (h : Bool) (n i fs : ℕ) (q : List Plain) (w : Option Plain) → Inner q → Refused n q w
    → PastAt from h n i fs q w
part_past from h n i fs q w x f = record { full = full_by w f; no_end = none_of ends ends_build q x }
  where
    full_by : (w : Option Plain) → Refused n q w → FullAt from h n i fs q w
    full_by (Some (mark (m.Sign sign.Open))) f = f
    full_by _ f = absurd f

-- if no phrase is innermost
module _ {A : Type 0} (h : Bool) (n i fs : ℕ) (Says : A → List Plain → Type 0) where
  settled_part : (o : Result A Refusal) (ws r : List Plain) → PartOut n Says o ws r → Out h n i fs o ws r
  settled_part (Ok a) ws r (q, e, x, l, s) =
      (q, e, part_even Settled q x l (λ b os z. inner_stays b os q x z ∙ sym z))
  settled_part (Err Unexpected) ws r (q, e, x, l) = (q, e, part_room Settled n i fs q x l)
  settled_part (Err Memory) ws r out = out
  settled_part (Err PastLimit) ws r (q, e, x, l) = (q, e, part_past Settled h n i fs q (first r) x l)

  pub part_tally : (p : Reading A) → Part n Says p → Tally h n i fs p
  part_tally p x = record { at = λ ws. settled_part (p ws).0 ws (p ws).1 (x.at ws) }
