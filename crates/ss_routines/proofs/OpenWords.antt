-- The effect of the scan of open phrases over words.
use Rattle.std.proofs.Common.{◌≡◌, suc, ◌≤◌, Bool, true, false, if◌then◌else◌, List, [], ◌∷◌, ◌++◌}
use Rattle.std.proofs.Common.{refl, sym, ap, ◌∙◌, arith}
use Rattle.ss_words.specs.declared.mark.Mark.TheVariants as m
use Rattle.ss_words.specs.declared.reserved.Reserved.TheVariants as r
use Rattle.ss_words.specs.Plain.{Plain, name, mark}
use Rattle.ss_routines.specs.Counts.{count}
use Rattle.ss_routines.specs.OpenPhrases.{Open, For, Do, If, without_inner_phrases, begins, may_end, step, open_behind}
use Rattle.ss_routines.specs.OpenPhrases.{phrases_of}
use Rattle.ss_routines.proofs.Inner.{builds, Inner}

-- whether the last of these words may end a phrase; if there are none, whether the word before them
-- may
abbrev pub ended_by : Bool → List Plain → Bool
ended_by b [] = b
ended_by b (w ∷ ws) = ended_by (may_end w) ws

pub behind_both : (b : Bool) (os : List Open) (x y : List Plain)
    → open_behind b os (x ++ y) ≡ open_behind (ended_by b x) (open_behind b os x) y
behind_both b os [] y = refl
behind_both b os (w ∷ x) y = behind_both (may_end w) (step b os w) x y

pub ended_both : (b : Bool) (x y : List Plain) → ended_by b (x ++ y) ≡ ended_by (ended_by b x) y
ended_both b [] y = refl
ended_both b (w ∷ x) y = ended_both (may_end w) x y

pub settled_twice : (os : List Open) → without_inner_phrases (without_inner_phrases os) ≡ without_inner_phrases os
settled_twice [] = refl
settled_twice (For ∷ os) = settled_twice os
settled_twice (Do ∷ os) = refl
settled_twice (If ∷ os) = refl

pub settled_less : (os : List Open) → phrases_of (without_inner_phrases os) ≤ phrases_of os
settled_less [] = omega arith
settled_less (For ∷ os) = let h = settled_less os in omega (arith, h)
settled_less (Do ∷ os) = omega arith
settled_less (If ∷ os) = omega arith

-- a word that opens or closes
abbrev pub changes : Plain → Bool
changes (mark (m.Reserved r.For)) = true
changes (mark (m.Reserved r.Do)) = true
changes (mark (m.Reserved r.If)) = true
changes (mark (m.Reserved r.Loop)) = true
changes (mark (m.Reserved r.Always)) = true
changes _ = false

pub changes_build : (w : Plain) → builds w ≡ false → changes w ≡ false
changes_build (mark (m.Reserved r.For)) e = absurd cc
changes_build (mark (m.Reserved r.Do)) e = absurd cc
changes_build (mark (m.Reserved r.If)) e = absurd cc
changes_build (mark (m.Reserved r.Loop)) e = absurd cc
changes_build (mark (m.Reserved r.Always)) e = absurd cc
changes_build _ e = refl

-- ---- a word that neither opens nor closes

either_stays : (t : Bool) (os : List Open) → without_inner_phrases os ≡ os
    → (if t then without_inner_phrases os else os) ≡ os
either_stays true os e = e
either_stays false os e = refl

either_less : (t : Bool) (os : List Open) → phrases_of (if t then without_inner_phrases os else os) ≤ phrases_of os
either_less true os = settled_less os
either_less false os = omega arith

-- leaves the open parts as they are if no phrase is innermost
pub stays : (b : Bool) (os : List Open) (w : Plain) → changes w ≡ false → without_inner_phrases os ≡ os → step b os w
    ≡ os
stays b os (mark (m.Reserved r.For)) h e = absurd cc
stays b os (mark (m.Reserved r.Do)) h e = absurd cc
stays b os (mark (m.Reserved r.If)) h e = absurd cc
stays b os (mark (m.Reserved r.Loop)) h e = absurd cc
stays b os (mark (m.Reserved r.Always)) h e = absurd cc
stays b os (name n) h e = either_stays b os e
stays b os w h e = either_stays (begins w) os e

-- opens no phrase
pub opens_none : (b : Bool) (os : List Open) (w : Plain) → changes w ≡ false
    → phrases_of (step b os w) ≤ phrases_of os
opens_none b os (mark (m.Reserved r.For)) h = absurd cc
opens_none b os (mark (m.Reserved r.Do)) h = absurd cc
opens_none b os (mark (m.Reserved r.If)) h = absurd cc
opens_none b os (mark (m.Reserved r.Loop)) h = absurd cc
opens_none b os (mark (m.Reserved r.Always)) h = absurd cc
opens_none b os (name n) h = either_less b os
opens_none b os w h = either_less (begins w) os

-- ---- the word before words, if no phrase is innermost

same_step : (b c : Bool) (os : List Open) (w : Plain) → without_inner_phrases os ≡ os → step b os w ≡ step c os w
same_step b c os (mark (m.Reserved r.For)) e = refl
same_step b c os (mark (m.Reserved r.Do)) e = refl
same_step b c os (mark (m.Reserved r.If)) e = refl
same_step b c os (mark (m.Reserved r.Loop)) e = refl
same_step b c os (mark (m.Reserved r.Always)) e = refl
same_step b c os (name n) e = either_stays b os e ∙ sym (either_stays c os e)
same_step b c os w e = refl

pub same_behind : (b c : Bool) (os : List Open) (q : List Plain) → without_inner_phrases os ≡ os
    → open_behind b os q ≡ open_behind c os q
same_behind b c os [] e = refl
same_behind b c os (w ∷ q) e = ap (λ (x : List Open). open_behind (may_end w) x q) (same_step b c os w e)

-- ---- words within a part of a statement

module _ (P : List Plain → Type 0) (w : Plain) (q : List Plain) (f : builds w ≡ false → Inner q → P (w ∷ q)) where
  by_first : (b : Bool) → builds w ≡ b → Inner (w ∷ q) → P (w ∷ q)
  by_first true e x =
      let k = x.none in
      let c : count builds (w ∷ q) ≡ suc (count builds q) = rw e (omega arith) in absurd (omega (arith, c, k))
  by_first false e x =
      let k = x.none in
      let c : count builds (w ∷ q) ≡ count builds q = rw e (omega arith) in
      f e (record { none = omega (arith, c, k) })

pub inner_stays : (b : Bool) (os : List Open) (q : List Plain) → Inner q → without_inner_phrases os ≡ os
    → open_behind b os q ≡ os
inner_stays b os [] x e = refl
inner_stays b os (w ∷ q) x e =
    by_first (λ u. open_behind b os u ≡ os) w q
    (λ none y. ap (λ (z : List Open). open_behind (may_end w) z q) (stays b os w (changes_build w none) e)
    ∙ inner_stays (may_end w) os q y e) (builds w) refl x

pub inner_opens_none : (b : Bool) (os : List Open) (q : List Plain) → Inner q
    → phrases_of (open_behind b os q) ≤ phrases_of os
inner_opens_none b os [] x = omega arith
inner_opens_none b os (w ∷ q) x =
    by_first (λ u. phrases_of (open_behind b os u) ≤ phrases_of os) w q
    (λ none y. let h = inner_opens_none (may_end w) (step b os w) q y in
    let k = opens_none b os w (changes_build w none) in omega (arith, h, k)) (builds w) refl x

-- a first word that closes the innermost phrases
pub begun : (w : Plain) (q : List Plain) → ((os : List Open) → step true os w ≡ without_inner_phrases os)
    → Inner (w ∷ q)
    → (os : List Open) → open_behind true os (w ∷ q) ≡ without_inner_phrases os
begun w q h x os =
    by_first (λ u. open_behind true os u ≡ without_inner_phrases os) w q
    (λ none y. ap (λ (z : List Open). open_behind (may_end w) z q) (h os)
    ∙ inner_stays (may_end w) (without_inner_phrases os) q y (settled_twice os)) (builds w) refl x
