-- The part that is read in one more parenthesis, by how many more may be open; and lists that a
-- loop reads.
use Rattle.std.proofs.Common.{◌≡◌, ◌≢◌, ℕ, zero, suc, ◌-◌, ◌<◌, Bool, true, false, List, [], ◌∷◌, ◌++◌, length, map}
use Rattle.std.proofs.Common.{Option, Some, None, Ok, Err, refl, ap, ◌∙◌, arith}
use Rattle.ss_words.specs.declared.refusal.Refusal.TheVariants.{PastLimit}
use Rattle.ss_words.specs.declared.mark.Mark.TheVariants as m
use Rattle.ss_words.specs.declared.word.Sign.TheVariants as s
use Rattle.ss_words.specs.Plain.{Plain, first}
use Rattle.ss_words.specs.Marks.{is, eat}
use Rattle.ss_words.specs.Reading.{Read, Reading, pure, refuse, look}
use Rattle.ss_words.proofs.Loop.{Going, loop_begins, loop_turns, stops, prepend_list}
use Rattle.ss_routines.specs.Combined.{star, eat_open}
use Rattle.ss_routines.specs.ExprReading.{expr_with, expr_at, inner_at}

pub expr_at-is : (n : ℕ) → expr_at n ≡ expr_with n (inner_at n)
unfolding expr_at
expr_at-is zero = refl
expr_at-is (suc n) = refl

pub inner_shut : (n : ℕ) → n ≡ 0 → inner_at n ≡ refuse PastLimit
inner_shut n h = rw h refl

deeper : (n k : ℕ) → n ≡ suc k → inner_at n ≡ expr_with k (inner_at k)
deeper n k e = rw e (expr_at-is k)

pub inner_deeper : (n : ℕ) → n ≢ 0 → inner_at n ≡ expr_with (n - 1) (inner_at (n - 1))
inner_deeper n h = deeper n (n - 1) (omega arith)

-- ---- one item after the other

abbrev pub Listing : {A : Type 0} → Reading (Option A) → Read (List A) → List A → List Plain → Type 0
Listing i total xs ws = Going i [] (λ a ys. a ∷ ys) total xs ws

module _ {A X : Type 0} (i : Reading (Option A)) (view : X → A) where
  pub list_begins : (ws : List Plain) (xs : List X) → xs ≡ [] → Listing i (star i ws) (map view xs) ws
  unfolding star
  list_begins ws xs e = loop_begins i [] (λ a ys. a ∷ ys) (star i) ws view xs refl e

  pub list_turns : (total : Read (List A)) (xs : List X) (x : X) (ys : List X) (ws r : List Plain) → ys ≡ xs ++ x ∷ []
      → i ws ≡ (Ok (Some (view x)), r) → length r < length ws → Listing i total (map view xs) ws
      → Listing i total (map view ys) r
  list_turns total xs x ys ws r pushed e shorter going =
      loop_turns i [] (λ a ys. a ∷ ys) total view xs x ys ws r pushed e shorter going

  pub list_stops : (total : Read (List A)) (xs : List X) (ws r : List Plain) → i ws ≡ (Ok None, r)
      → Listing i total (map view xs) ws → total ≡ (Ok (map view xs), r)
  list_stops total xs ws r e going =
      stops i [] (λ a ys. a ∷ ys) total (map view xs) ws r e going
      ∙ ap (λ (zs : List A). let x : Read (List A) = (Ok zs, r) in x) (prepend_list (map view xs))

-- ---- a parenthesis that opens

pub open_more : (n : ℕ) → 0 < n → eat_open n ≡ eat (m.Sign s.Open)
unfolding eat_open
open_more zero lt = absurd (omega (arith, lt))
open_more (suc n) lt = refl

open_none : (n : ℕ) (b : Bool) (ws : List Plain) → n ≡ 0 → is (m.Sign s.Open) (first ws) ≡ b
    → eat_open n ws ≡ (let p : Reading Bool = elim b [ true ↦ refuse PastLimit | false ↦ pure false ] in p ws)
unfolding eat_open look
open_none zero b ws e h =
    ap (λ (c : Bool). let p : Reading Bool = elim c [ true ↦ refuse PastLimit | false ↦ pure false ] in p ws) h
open_none (suc n) b ws e h = absurd (omega (arith, e))

pub open_shut : (n : ℕ) (ws : List Plain) → n ≡ 0 → is (m.Sign s.Open) (first ws) ≡ true
    → eat_open n ws ≡ (Err PastLimit, ws)
unfolding refuse
open_shut n ws e h = open_none n true ws e h

pub open_not : (n : ℕ) (ws : List Plain) → n ≡ 0 → is (m.Sign s.Open) (first ws) ≡ false → eat_open n ws
    ≡ (Ok false, ws)
unfolding pure
open_not n ws e h = open_none n false ws e h
