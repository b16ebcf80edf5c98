-- Reading one section after the other, as a loop does.
use Rattle.std.proofs.Common.{◌≡◌, ℕ, zero, suc, Bool, true, false, List, [], ◌∷◌, ◌++◌}
use Rattle.std.proofs.Common.{Result, Ok, Err, refl, sym, ap, ◌∙◌, append_assoc}
use Rattle.std.proofs.lemmas.List.{append-nil}
use Rattle.ss_words.specs.declared.refusal.Refusal.{Refusal}
use Rattle.ss_words.specs.declared.refusal.Refusal.TheVariants.{PastLimit}
use Rattle.ss_words.specs.Plain.{Plain, first}
use Rattle.ss_words.specs.Reading.{Read, Reading, goes_on, bind, pure, refuse, look}
use Rattle.ss_words.proofs.Loop.{on_ok}
use Rattle.ss_routines.specs.Places.{Section}
use Rattle.ss_routines.specs.Tree.{is_head}
use Rattle.ss_routines.specs.PlacesAtLines.{noting_section, noting_sections}

-- the sections in front, before the part that is read
abbrev with_front : List Section → Read (List Section) → Read (List Section)
with_front front r = (on_ok (λ b. front ++ b) r.0, r.1)

-- the rooms for parentheses, IFs, phrases and parameters
module _ (lines : List ℕ) (p i f q : ℕ) where
  abbrev one : Reading Section
  one = noting_section lines p i f q

  abbrev upto : ℕ → Reading (List Section)
  upto n = noting_sections lines p i f q n

  -- the part that was read before, and the part that is still read if n more may follow
  abbrev pub Gathered : Read (List Section) → List Section → ℕ → List Plain → Type 0
  Gathered total front n ws = total ≡ with_front front (upto n ws)

  same : (r : Result (List Section) Refusal) → r ≡ on_ok (λ b. b) r
  same (Ok b) = refl
  same (Err e) = refl

  pub starts : (n : ℕ) (ws : List Plain) (front : List Section) → front ≡ [] → Gathered (upto n ws) front n ws
  starts n ws front e = rw e (λ j. (same (upto n ws).0 j, (upto n ws).1))

  -- after a first section
  abbrev onward : ℕ → Section → Reading (List Section)
  onward n t = bind (upto n) (λ ts. pure (t ∷ ts))

  abbrev if_head : ℕ → Bool → Reading (List Section)
  if_head n b = elim b [ true ↦ bind one (onward n) | false ↦ pure [] ]

  abbrev if_none : Bool → Reading (List Section)
  if_none b = elim b [ true ↦ refuse PastLimit | false ↦ pure [] ]

  abbrev behind_one : ℕ → Read Section → Read (List Section)
  behind_one n y = goes_on (onward n) y.0 y.1

  headed : (n : ℕ) (ws : List Plain) → is_head (first ws) ≡ true → upto (suc n) ws ≡ behind_one n (one ws)
  unfolding noting_sections look bind
  headed n ws e = ap (λ (b : Bool). if_head n b ws) e

  joined : (front : List Section) (t : Section) (r : Read (List Section))
      → with_front front (goes_on (λ ts. pure (t ∷ ts)) r.0 r.1) ≡ with_front (front ++ t ∷ []) r
  unfolding pure
  joined front t (Ok ts, r) = λ j. (Ok (sym (append_assoc front (t ∷ []) ts) j), r)
  joined front t (Err e, r) = refl

  after_head : (n : ℕ) (t : Section) (ws r : List Plain) → is_head (first ws) ≡ true → one ws ≡ (Ok t, r)
      → upto (suc n) ws ≡ goes_on (λ ts. pure (t ∷ ts)) (upto n r).0 (upto n r).1
  unfolding bind
  after_head n t ws r e read = headed n ws e ∙ ap (behind_one n) read

  module _ (total : Read (List Section)) (front : List Section) where
    abbrev after : List Plain → ℕ → Read (List Section)
    after ws n = with_front front (upto n ws)

    pub turned : (n k : ℕ) (t : Section) (ws r : List Plain) → n ≡ suc k → is_head (first ws) ≡ true
        → one ws ≡ (Ok t, r)
        → Gathered total front n ws → Gathered total (front ++ t ∷ []) k r
    turned n k t ws r room e read so_far =
        so_far ∙ ap (after ws) room ∙ ap (with_front front) (after_head k t ws r e read) ∙ joined front t (upto k r)

    pub failed : (n k : ℕ) (g : Refusal) (ws r : List Plain) → n ≡ suc k → is_head (first ws) ≡ true
        → one ws ≡ (Err g, r)
        → Gathered total front n ws → total ≡ (Err g, r)
    failed n k g ws r room e read so_far =
        so_far ∙ ap (after ws) room ∙ ap (with_front front) (headed k ws e ∙ ap (behind_one k) read)

    none_left : (ws : List Plain) → is_head (first ws) ≡ true → upto 0 ws ≡ (Err PastLimit, ws)
    unfolding noting_sections look refuse
    none_left ws e = ap (λ (b : Bool). if_none b ws) e

    pub full : (n : ℕ) (ws : List Plain) → n ≡ 0 → is_head (first ws) ≡ true → Gathered total front n ws
        → total ≡ (Err PastLimit, ws)
    full n ws room e so_far = so_far ∙ ap (after ws) room ∙ ap (with_front front) (none_left ws e)

    no_more : (n : ℕ) (ws : List Plain) → is_head (first ws) ≡ false → upto n ws ≡ (Ok [], ws)
    unfolding noting_sections look pure
    no_more zero ws e = ap (λ (b : Bool). if_none b ws) e
    no_more (suc n) ws e = ap (λ (b : Bool). if_head n b ws) e

    pub ended : (n : ℕ) (ws : List Plain) → is_head (first ws) ≡ false → Gathered total front n ws
        → total ≡ (Ok front, ws)
    ended n ws e so_far =
        so_far ∙ ap (with_front front) (no_more n ws e)
        ∙ ap (λ (ts : List Section). let z : Read (List Section) = (Ok ts, ws) in z) (append-nil front)
