-- Noting while reading is reading the tree and then writing it out.
use Rattle.std.proofs.Common.{◌≡◌, ℕ, zero, suc, ◌+◌, ◌-◌, ◌<◌, Bool, true, false, List, [], ◌∷◌, ◌++◌, length}
use Rattle.std.proofs.Common.{length-append, Option, Some, None, Result, Ok, Err, refl, sym, ap, ◌∙◌, append_assoc}
use Rattle.std.proofs.Common.{arith}
use Rattle.std.proofs.lemmas.List.{append-nil}
use Rattle.ss_words.specs.declared.refusal.Refusal.{Refusal}
use Rattle.ss_words.specs.Plain.{Plain, first}
use Rattle.ss_words.specs.Reading.{Read, Reading, goes_on, bind, pure, refuse, look, skip, many_from, many}
use Rattle.ss_words.specs.Noting.{Noting, repeat_from, repeat, line, here}
use Rattle.ss_words.proofs.Laws.{IsRead, Good, spell_option}
use Rattle.ss_words.proofs.Loop.{on_ok}

-- p' gives `out` of the result of p, from word number k on of a text with `words` words
pub record Writes {A B : Type 0} (words : ℕ) (out : A → B) (k : ℕ) (p : Reading A) (p' : Reading B) : Type 0 where
  pub at : (ws : List Plain) → k + length ws ≡ words → p' ws ≡ (on_ok out (p ws).0, (p ws).1)

abbrev pub WritesAt : {A B : Type 0} → ℕ → (A → B) → ℕ → Option Plain → Reading A → Reading B → Type 0
WritesAt words out k w p p' =
    (ws : List Plain) → first ws ≡ w → k + length ws ≡ words → p' ws ≡ (on_ok out (p ws).0, (p ws).1)

module _ {A B : Type 0} (words : ℕ) (out : A → B) (k : ℕ) where
  pub pure_writes : (a : A) (b : B) → b ≡ out a → Writes words out k (pure a) (pure b)
  unfolding pure
  pure_writes a b e = record { at = λ ws h. λ i. (Ok (e i), ws) }

  pub refuse_writes : (f : Refusal) → Writes words out k (refuse f) (refuse f)
  unfolding refuse
  refuse_writes f = record { at = λ ws h. refl }

  pub here_writes : (lines : List ℕ) (p : Reading A) (f : ℕ → Reading B) → length lines ≡ words
      → Writes words out k p (f (line lines k)) → Writes words out k p (here lines f)
  unfolding here
  here_writes lines p f e l = record {
    at = λ ws h.
        let same : length lines - length ws ≡ k = omega arith in
        ap (λ (j : ℕ). f (line lines j) ws) same ∙ l.at ws h;
  }

  pub here_at : (lines : List ℕ) (w : Option Plain) (p : Reading A) (f : ℕ → Reading B) → length lines ≡ words
      → WritesAt words out k w p (f (line lines k)) → WritesAt words out k w p (here lines f)
  unfolding here
  here_at lines w p f e l ws first_is h =
      let same : length lines - length ws ≡ k = omega arith in
      ap (λ (j : ℕ). f (line lines j) ws) same ∙ l ws first_is h

  pub look_writes : (f : Option Plain → Reading A) (f' : Option Plain → Reading B)
      → ((w : Option Plain) → WritesAt words out k w (f w) (f' w)) → Writes words out k (look f) (look f')
  unfolding look
  look_writes f f' l = record { at = λ ws h. l (first ws) ws refl h }

  pub skip_writes : (w : Plain) (p : Reading A) (p' : Reading B) → Writes words out (k + 1) p p'
      → WritesAt words out k (Some w) (skip p) (skip p')
  unfolding skip
  skip_writes w p p' l [] e h = absurd cc
  skip_writes w p p' l (v ∷ ws) e h = l.at ws (omega arith)

  pub all_writes : (w : Option Plain) (p : Reading A) (p' : Reading B) → Writes words out k p p'
      → WritesAt words out k w p p'
  all_writes w p p' l ws e h = l.at ws h

-- a part that notes
module _ {A A' B B' : Type 0} (words : ℕ) (fits : A → Type 0) (sp : A → List Plain) (outA : A → A') (out : B → B')
    (k : ℕ) (f : A → Reading B) (f' : A' → Reading B')
    (l : (a : A) → Writes words out (k + length (sp a)) (f a) (f' (outA a))) where
  bound : (o : Result A Refusal) (ws r : List Plain) → k + length ws ≡ words → IsRead fits sp [] o ws r
      → goes_on f' (on_ok outA o) r ≡ (on_ok out (goes_on f o r).0, (goes_on f o r).1)
  bound (Ok a) ws r h (fa, q, e, s) = (l a).at r (omega (arith, ap length e, ap length s, length-append q r))
  bound (Err e) ws r h read = refl

  pub bind_writes : (p : Reading A) (p' : Reading A') → Good fits sp [] p → Writes words outA k p p'
      → Writes words out k (bind p f) (bind p' f')
  unfolding bind
  bind_writes p p' good lp =
      record {
        at = λ ws h. ap (λ (x : Read A'). goes_on f' x.0 x.1) (lp.at ws h)
            ∙ bound (p ws).0 ws (p ws).1 h (good.read ws);
      }

-- a part that notes nothing
module _ {A B B' : Type 0} (words : ℕ) (fits : A → Type 0) (sp : A → List Plain) (out : B → B') (k : ℕ)
    (f : A → Reading B) (f' : A → Reading B')
    (l : (a : A) → Writes words out (k + length (sp a)) (f a) (f' a)) where
  alike : (o : Result A Refusal) (ws r : List Plain) → k + length ws ≡ words → IsRead fits sp [] o ws r
      → goes_on f' o r ≡ (on_ok out (goes_on f o r).0, (goes_on f o r).1)
  alike (Ok a) ws r h (fa, q, e, s) = (l a).at r (omega (arith, ap length e, ap length s, length-append q r))
  alike (Err e) ws r h read = refl

  pub same_writes : (p : Reading A) → Good fits sp [] p → Writes words out k (bind p f) (bind p f')
  unfolding bind
  same_writes p good = record { at = λ ws h. alike (p ws).0 ws (p ws).1 h (good.read ws) }

-- a part that is put into a larger one
module _ {A B B' : Type 0} (words : ℕ) (outA : A → B') (out : B → B') (k : ℕ) (g : A → B)
    (same : (a : A) → outA a ≡ out (g a)) where
  put : (o : Result A Refusal) (r : List Plain)
      → (let x : Read B' = (on_ok outA o, r) in x)
      ≡ (on_ok out (goes_on (λ a. pure (g a)) o r).0, (goes_on (λ a. pure (g a)) o r).1)
  unfolding pure
  put (Ok a) r = λ i. (Ok (same a i), r)
  put (Err e) r = refl

  pub map_writes : (p : Reading A) (p' : Reading B') → Writes words outA k p p'
      → Writes words out k (bind p (λ a. pure (g a))) p'
  unfolding bind
  map_writes p p' l = record { at = λ ws h. l.at ws h ∙ put (p ws).0 (p ws).1 }

-- one after the other
abbrev pub noted : {S A : Type 0} → (A → List S) → List S → Option A → Bool × List S
noted flat acc (Some a) = (true, acc ++ flat a)
noted flat acc None = (false, acc)

module _ {S A B : Type 0} (words : ℕ) (fits : Option A → Type 0) (spA : A → List Plain) (item : Reading (Option A))
    (none : B) (one : A → B → B) (item' : List S → Reading (Bool × List S))
    (flatA : ℕ → A → List S) (flatB : ℕ → B → List S) (good : Good fits (spell_option spA) [] item)
    (e0 : (k : ℕ) → flatB k none ≡ [])
    (e1 : (k : ℕ) (a : A) (b : B) → flatB k (one a b) ≡ flatA k a ++ flatB (k + length (spA a)) b)
    (l : (k : ℕ) (acc : List S) → Writes words (noted (flatA k) acc) k item (item' acc)) where
  pub many_from_writes : (n : ℕ) (k : ℕ) (acc : List S)
      → Writes words (λ b. acc ++ flatB k b) k (many_from item none one n) (repeat_from item' n acc)
  unfolding many_from repeat_from
  many_from_writes zero k acc =
      pure_writes words _ k none acc (sym (append-nil acc) ∙ ap (λ (u : List S). acc ++ u) (sym (e0 k)))
  many_from_writes (suc n) k acc = bind_writes words fits (spell_option spA) (noted (flatA k) acc) _ k _ _ (elim [
    | Some a ↦ map_writes words (λ b. (acc ++ flatA k a) ++ flatB (k + length (spA a)) b) _ _ (one a)
        (λ b. append_assoc acc (flatA k a) (flatB (k + length (spA a)) b)
        ∙ ap (λ (u : List S). acc ++ u) (sym (e1 k a b)))
        (many_from item none one n) _ (many_from_writes n (k + length (spA a)) (acc ++ flatA k a))
    | None ↦ pure_writes words _ _ none acc (sym (append-nil acc) ∙ ap (λ (u : List S). acc ++ u) (sym (e0 k)))
  ]) item (item' acc) good (l k acc)

  pub many_writes : (k : ℕ) (acc : List S)
      → Writes words (λ b. acc ++ flatB k b) k (many item none one) (repeat item' acc)
  unfolding many repeat
  many_writes k acc = record { at = λ ws h. (many_from_writes (suc (length ws)) k acc).at ws h }

-- ---- a loop that notes

abbrev pub Noted : {S : Type 0} → (List S → Reading (Bool × List S)) → Read (List S) → List S → List Plain → Type 0
Noted item total acc ws = (k : ℕ) × (length ws < k) × (total ≡ repeat_from item k acc ws)

module _ {S : Type 0} (item : List S → Reading (Bool × List S)) where
  pub noting_begins : (whole : Noting S) (acc : List S) (ws : List Plain) → whole ≡ repeat item
      → Noted item (whole acc ws) acc ws
  unfolding repeat
  noting_begins whole acc ws e = (suc (length ws), omega arith, ap (λ (p : Noting S). p acc ws) e)

  pub noting_turns : (total : Read (List S)) (acc new : List S) (ws r : List Plain) → item acc ws ≡ (Ok (true, new), r)
      → length r < length ws → Noted item total acc ws → Noted item total new r
  unfolding repeat_from bind
  noting_turns total acc new ws r e shorter (zero, lt, so_far) = absurd (omega arith)
  noting_turns total acc new ws r e shorter (suc k, lt, so_far) = (k, omega arith, so_far ∙ rw e refl)

  pub noting_stops : (total : Read (List S)) (acc new : List S) (ws r : List Plain) → item acc ws ≡ (Ok (false, new), r)
      → Noted item total acc ws → total ≡ (Ok new, r)
  unfolding repeat_from bind pure
  noting_stops total acc new ws r e (zero, lt, so_far) = absurd (omega arith)
  noting_stops total acc new ws r e (suc k, lt, so_far) = so_far ∙ rw e refl

  pub noting_fails : (total : Read (List S)) (acc : List S) (ws r : List Plain) (f : Refusal) → item acc ws ≡ (Err f, r)
      → Noted item total acc ws → total ≡ (Err f, r)
  unfolding repeat_from bind
  noting_fails total acc ws r f e (zero, lt, so_far) = absurd (omega arith)
  noting_fails total acc ws r f e (suc k, lt, so_far) = so_far ∙ rw e refl
