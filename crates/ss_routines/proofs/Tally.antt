-- The counts of a reading at the word at which it stops. The part that is read closes each
-- parenthesis that it opens. A parenthesis that is refused is at a place at which all are open that
-- may be open.
use Rattle.std.proofs.Common.{◌≡◌, ℕ, zero, suc, ◌+◌, ◌≤◌, Bool, true, false, List, [], ◌∷◌, ◌++◌, length, Option, Some}
use Rattle.std.proofs.Common.{None, Result, Ok, Err, refl, sym, ap, subst, ◌∙◌, append_assoc, arith}
use Rattle.ss_words.specs.declared.refusal.Refusal.{Refusal}
use Rattle.ss_words.specs.declared.refusal.Refusal.TheVariants.{Unexpected, PastLimit, Memory}
use Rattle.ss_words.specs.declared.mark.Mark.{Mark}
use Rattle.ss_words.specs.declared.mark.Mark.TheVariants as m
use Rattle.ss_words.specs.declared.word.Sign.TheVariants as sign
use Rattle.ss_words.specs.declared.reserved.Reserved.TheVariants as r
use Rattle.ss_words.specs.Plain.{Plain, name, number, mark, picture, first}
use Rattle.ss_words.specs.Reading.{Reading, goes_on, bind, pure, refuse, look, skip, many_from, many}
use Rattle.ss_words.specs.Marks.{is, expect, eat, name_by, a_name, number_by, a_number, picture_by, a_picture}
use Rattle.ss_words.proofs.Marks.{is_mark}
use Rattle.ss_routines.specs.Counts.{count, opens, closes, heads}

pub count-append : (test : Plain → Bool) (xs ys : List Plain) → count test (xs ++ ys) ≡ count test xs + count test ys
count-append test [] ys = omega arith
count-append test (x ∷ xs) ys = let h = count-append test xs ys in omega (arith, h)

-- d parentheses are open after these words, and no word of a head is among them
pub record Leaves (d : ℕ) (q : List Plain) : Type 0 where
  pub open_ones : count opens q ≡ count closes q + d
  pub no_heads : count heads q ≡ 0

-- no more than n are open after these words, and no word of a head is among them
pub record Under (n : ℕ) (q : List Plain) : Type 0 where
  pub open_ones : count opens q ≤ count closes q + n
  pub no_heads : count heads q ≡ 0

under_joined : (n : ℕ) (a b : List Plain) → Leaves 0 a → Under n b → Under n (a ++ b)
under_joined n a b x y = record {
  open_ones =
      (let h = x.open_ones in let k = y.open_ones in omega
      (arith, h, k, count-append opens a b, count-append closes a b));
  no_heads = (let h = x.no_heads in let k = y.no_heads in omega (arith, h, k, count-append heads a b));
}

under_nothing : (n : ℕ) → Under n []
under_nothing n = record { open_ones = omega arith; no_heads = refl }

pub joined : (d : ℕ) (a b : List Plain) → Leaves 0 a → Leaves d b → Leaves d (a ++ b)
joined d a b x y = record {
  open_ones =
      (let h = x.open_ones in let k = y.open_ones in omega
      (arith, h, k, count-append opens a b, count-append closes a b));
  no_heads = (let h = x.no_heads in let k = y.no_heads in omega (arith, h, k, count-append heads a b));
}

-- the word after q is refused by a limit: a parenthesis that is one too many, or a word that counts
-- to another limit
abbrev pub Refused : ℕ → List Plain → Option Plain → Type 0
Refused n q (Some (mark (m.Sign sign.Open))) = Leaves n q
Refused n q (Some (mark (m.Reserved r.If))) = Unit {0}
Refused n q (Some (mark (m.Reserved r.For))) = Unit {0}
Refused n q _ = ⊥

refused_behind : (n : ℕ) (a b : List Plain) (w : Option Plain) → Leaves 0 a → Refused n b w → Refused n (a ++ b) w
refused_behind n a b (Some (mark (m.Sign sign.Open))) l h = joined n a b l h
refused_behind n a b (Some (mark (m.Reserved r.If))) l h = tt
refused_behind n a b (Some (mark (m.Reserved r.For))) l h = tt
refused_behind n a b _ l h = absurd h

-- if n parentheses may be open
abbrev pub Out : {A : Type 0} → ℕ → Result A Refusal → List Plain → List Plain → Type 0
Out n (Ok a) ws r = (q : List Plain) × (ws ≡ q ++ r) × Leaves 0 q
Out n (Err Unexpected) ws r = (q : List Plain) × (ws ≡ q ++ r) × Under n q
Out n (Err Memory) ws r = ⊥
Out n (Err PastLimit) ws r = (q : List Plain) × (ws ≡ q ++ r) × Refused n q (first r)

pub record Tally {A : Type 0} (n : ℕ) (p : Reading A) : Type 0 where
  pub at : (ws : List Plain) → Out n (p ws).0 ws (p ws).1

abbrev pub TallyAt : {A : Type 0} → ℕ → Option Plain → Reading A → Type 0
TallyAt n w p = (ws : List Plain) → first ws ≡ w → Out n (p ws).0 ws (p ws).1

pub anywhere : {A : Type 0} (n : ℕ) (w : Option Plain) (p : Reading A) → Tally n p → TallyAt n w p
anywhere n w p h ws e = h.at ws

pub nothing : Leaves 0 []
nothing = record { open_ones = refl; no_heads = refl }

pub pure_tally : {A : Type 0} (n : ℕ) (a : A) → Tally n (pure a)
unfolding pure
pure_tally n a = record { at = λ ws. ([], refl, nothing) }

pub refuse_tally : {A : Type 0} (n : ℕ) → Tally {A = A} n (refuse Unexpected)
unfolding refuse
refuse_tally n = record { at = λ ws. ([], refl, under_nothing n) }

front : {A : Type 0} (n : ℕ) (o : Result A Refusal) (ws r r' q : List Plain) → ws ≡ q ++ r → Leaves 0 q → Out n o r r'
    → Out n o ws r'
front n (Ok a) ws r r' q e l (q2, e2, l2) =
    (q ++ q2, e ∙ ap (λ (u : List Plain). q ++ u) e2 ∙ sym (append_assoc q q2 r'), joined 0 q q2 l l2)
front n (Err Unexpected) ws r r' q e l (q2, e2, u) =
    (q ++ q2, e ∙ ap (λ (u : List Plain). q ++ u) e2 ∙ sym (append_assoc q q2 r'), under_joined n q q2 l u)
front n (Err Memory) ws r r' q e l out = out
front n (Err PastLimit) ws r r' q e l (q2, e2, h) =
    (q ++ q2, e ∙ ap (λ (u : List Plain). q ++ u) e2 ∙ sym (append_assoc q q2 r'), refused_behind n q q2 (first r') l h)

module _ {A B : Type 0} (n : ℕ) (f : A → Reading B) (tally : (a : A) → Tally n (f a)) where
  bound : (o : Result A Refusal) (ws r : List Plain) → Out n o ws r → Out n (goes_on f o r).0 ws (goes_on f o r).1
  bound (Ok a) ws r (q, e, l) = front n (f a r).0 ws r (f a r).1 q e l ((tally a).at r)
  bound (Err Unexpected) ws r out = out
  bound (Err Memory) ws r out = out
  bound (Err PastLimit) ws r out = out

  pub bind_tally : (p : Reading A) → Tally n p → Tally n (bind p f)
  unfolding bind
  bind_tally p h = record { at = λ ws. bound (p ws).0 ws (p ws).1 (h.at ws) }

pub look_tally : {A : Type 0} (n : ℕ) (f : Option Plain → Reading A) → ((w : Option Plain) → TallyAt n w (f w))
    → Tally n (look f)
unfolding look
look_tally n f h = record { at = λ ws. h (first ws) ws refl }

-- a word that is no parenthesis and none of a head
pub skip_tally : {A : Type 0} (n : ℕ) (w : Plain) (p : Reading A) → Leaves 0 (w ∷ []) → Tally n p
    → TallyAt n (Some w) (skip p)
unfolding skip
skip_tally n w p l h [] e = absurd cc
skip_tally n w p l h (v ∷ ws) e =
    let same : w ≡ v = cc in
    front n (p ws).0 (v ∷ ws) ws (p ws).1 (v ∷ []) refl (subst (λ (u : Plain). Leaves 0 (u ∷ [])) same l) (h.at ws)

-- by a test of the next word, which is then passed
pub test_at : {A : Type 0} (n : ℕ) (k : Mark) (p q : Reading A) → Leaves 0 (mark k ∷ []) → Tally n p → Tally n q
    → (w : Option Plain) (b : Bool) → is k w ≡ b → TallyAt n w (elim b [ true ↦ skip p | false ↦ q ])
test_at n k p q l hp hq None true e = absurd cc
test_at n k p q l hp hq (Some w) true e = rw (is_mark k w e) (skip_tally n (mark k) p l hp)
test_at n k p q l hp hq w false e = anywhere n w q hq

pub expect_tally : (n : ℕ) (k : Mark) → Leaves 0 (mark k ∷ []) → Tally n (expect k)
unfolding expect
expect_tally n k l =
    look_tally n _ (λ w. test_at n k (pure tt) (refuse Unexpected) l (pure_tally n tt) (refuse_tally n) w (is k w) refl)

pub eat_tally : (n : ℕ) (k : Mark) → Leaves 0 (mark k ∷ []) → Tally n (eat k)
unfolding eat
eat_tally n k l =
    look_tally n _ (λ w. test_at n k (pure true) (pure false) l (pure_tally n true) (pure_tally n false) w (is k w)
    refl)

pub plain_word : (w : Plain) → opens w ≡ false → closes w ≡ false → heads w ≡ false → Leaves 0 (w ∷ [])
plain_word w a b c = record { open_ones = rw (a, b) refl; no_heads = rw c refl }

name_at : (n : ℕ) (w : Option Plain) → TallyAt n w (name_by w)
name_at n (Some (name v)) = skip_tally n (name v) (pure v) (plain_word _ refl refl refl) (pure_tally n v)
name_at n _ = anywhere n _ _ (refuse_tally n)

pub name_tally : (n : ℕ) → Tally n a_name
unfolding a_name
name_tally n = look_tally n name_by (name_at n)

number_at : (n : ℕ) (w : Option Plain) → TallyAt n w (number_by w)
number_at n (Some (number v)) = skip_tally n (number v) (pure v) (plain_word _ refl refl refl) (pure_tally n v)
number_at n _ = anywhere n _ _ (refuse_tally n)

pub number_tally : (n : ℕ) → Tally n a_number
unfolding a_number
number_tally n = look_tally n number_by (number_at n)

picture_at : (n : ℕ) (w : Option Plain) → TallyAt n w (picture_by w)
picture_at n (Some (picture v)) = skip_tally n (picture v) (pure v) (plain_word _ refl refl refl) (pure_tally n v)
picture_at n _ = anywhere n _ _ (refuse_tally n)

pub picture_tally : (n : ℕ) → Tally n a_picture
unfolding a_picture
picture_tally n = look_tally n picture_by (picture_at n)

module _ {A B : Type 0} (n : ℕ) (item : Reading (Option A)) (none : B) (one : A → B → B) (h : Tally n item) where
  from_tally : (k : ℕ) → Tally n (many_from item none one k)
  unfolding many_from
  from_tally zero = pure_tally n none
  from_tally (suc k) = bind_tally n _ (elim [
    | Some a ↦ bind_tally n _ (λ b. pure_tally n (one a b)) (many_from item none one k) (from_tally k)
    | None ↦ pure_tally n none
  ]) item h

  pub many_tally : Tally n (many item none one)
  unfolding many
  many_tally = record { at = λ ws. (from_tally (suc (length ws))).at ws }

-- one more parenthesis is open after the first word
pub opened_one : (d : ℕ) (q : List Plain) → Leaves d q → Leaves (suc d) (mark (m.Sign sign.Open) ∷ q)
opened_one d q l = record {
  open_ones = (let h = l.open_ones in omega (arith, h));
  no_heads = (let h = l.no_heads in omega (arith, h));
}

-- if one more is open than before
pub opened_refused : (n : ℕ) (q : List Plain) (w : Option Plain) → Refused n q w
    → Refused (suc n) (mark (m.Sign sign.Open) ∷ q) w
opened_refused n q (Some (mark (m.Sign sign.Open))) h = opened_one n q h
opened_refused n q (Some (mark (m.Reserved r.If))) h = tt
opened_refused n q (Some (mark (m.Reserved r.For))) h = tt
opened_refused n q _ h = absurd h

pub opened_under : (n : ℕ) (q : List Plain) → Under n q → Under (suc n) (mark (m.Sign sign.Open) ∷ q)
opened_under n q l = record {
  open_ones = (let h = l.open_ones in omega (arith, h));
  no_heads = (let h = l.no_heads in omega (arith, h));
}

pub opened_some : (n : ℕ) (q : List Plain) → Leaves 0 q → Under (suc n) (mark (m.Sign sign.Open) ∷ q)
opened_some n q l = record {
  open_ones = (let h = l.open_ones in omega (arith, h));
  no_heads = (let h = l.no_heads in omega (arith, h));
}

-- and none is open after its closing one
pub enclosed : (q : List Plain) → Leaves 0 q → Leaves 0 (mark (m.Sign sign.Open) ∷ (q ++ mark (m.Sign sign.Close) ∷ []))
enclosed q l = record {
  open_ones =
      (let h = l.open_ones in omega (
        arith,
        h,
        count-append opens q (mark (m.Sign sign.Close) ∷ []),
        count-append closes
            q (mark (m.Sign sign.Close) ∷ []),
      ));
  no_heads = (let h = l.no_heads in omega (arith, h, count-append heads q (mark (m.Sign sign.Close) ∷ [])));
}
