-- Reading one name after the other as a loop does, if n names may be there.
use Rattle.std.proofs.Common.{◌≡◌, ◌≢◌, ℕ, zero, suc, ◌-◌, List, [], ◌∷◌, ◌++◌, Bool, true, false, Result, Ok, Err}
use Rattle.std.proofs.Common.{refl, sym, ap, ◌∙◌, append_assoc, arith}
use Rattle.std.proofs.lemmas.List.{append-nil}
use Rattle.ss_words.specs.declared.mark.Mark.TheVariants as m
use Rattle.ss_words.specs.declared.word.Sign.TheVariants as s
use Rattle.ss_words.specs.declared.refusal.Refusal.{Refusal}
use Rattle.ss_words.specs.declared.refusal.Refusal.TheVariants.{Unexpected, PastLimit, Memory}
use Rattle.ss_words.specs.Plain.{Plain, first}
use Rattle.ss_words.specs.Lists.{Name, Several}
use Rattle.ss_words.specs.Marks.{eat, a_name}
use Rattle.ss_words.specs.Reading.{Read, Reading, Fails, goes_on, bind, pure, refuse, look}
use Rattle.ss_words.proofs.Loop.{on_ok}
use Rattle.ss_routines.specs.SectionReading.{refusal_of, no_name, others_at, names_at}

-- a name refused, of which there may be no more
pub refused : {A : Type 0} (ws : List Plain) (g : Refusal) → g ≡ refusal_of (first ws)
    → no_name {A = A} ws ≡ (Err g, ws)
unfolding no_name look refuse
refused ws g e = rw e refl

-- a function that answers as a reading does
pub fails_so : {A : Type 0} (g : Refusal) (ws : List Plain) (total : Read A) → total ≡ (Err g, ws) → Fails g ws total
fails_so Unexpected ws total e = e
fails_so PastLimit ws total e = e
fails_so Memory ws total e = tt

-- ---- names after commas

-- the part that was read before, and the part that is still read if k more may follow
abbrev pub Gathered : Read (List Name) → List Name → ℕ → List Plain → Type 0
Gathered total front k ws = total ≡ (on_ok (λ b. front ++ b) (others_at k ws).0, (others_at k ws).1)

-- the names in front, before the part that is read
abbrev with_front : List Name → Read (List Name) → Read (List Name)
with_front front r = (on_ok (λ b. front ++ b) r.0, r.1)

same : (r : Result (List Name) Refusal) → r ≡ on_ok (λ b. b) r
same (Ok b) = refl
same (Err e) = refl

pub starts : (k : ℕ) (ws : List Plain) (front : List Name) → front ≡ [] → Gathered (others_at k ws) front k ws
starts k ws front e = rw e (λ i. (same (others_at k ws).0 i, (others_at k ws).1))

-- after a comma, or if there is no comma
abbrev behind_comma : ℕ → Bool → Reading (List Name)
behind_comma zero b = elim b [ true ↦ no_name | false ↦ pure [] ]
behind_comma (suc k) b = elim b [ true ↦ bind a_name (λ n. bind (others_at k) (λ ns. pure (n ∷ ns))) | false ↦ pure [] ]

by_comma : (k : ℕ) (b : Bool) (ws z : List Plain) → eat (m.Sign s.Comma) ws ≡ (Ok b, z)
    → others_at k ws ≡ behind_comma k b z
unfolding others_at bind
by_comma zero b ws z e = ap (λ (x : Read Bool). goes_on (behind_comma zero) x.0 x.1) e
by_comma (suc k) b ws z e = ap (λ (x : Read Bool). goes_on (behind_comma (suc k)) x.0 x.1) e

no_more : (k : ℕ) (z : List Plain) → behind_comma k false z ≡ (Ok [], z)
unfolding pure
no_more zero z = refl
no_more (suc k) z = refl

pub ended : (total : Read (List Name)) (front : List Name) (k : ℕ) (ws z : List Plain)
    → eat (m.Sign s.Comma) ws ≡ (Ok false, z) → Gathered total front k ws → total ≡ (Ok front, z)
ended total front k ws z e so_far =
    so_far ∙ ap (with_front front) (by_comma k false ws z e ∙ no_more k z)
    ∙ ap (λ (ns : List Name). let x : Read (List Name) = (Ok ns, z) in x) (append-nil front)

pub full : (total : Read (List Name)) (front : List Name) (k : ℕ) (g : Refusal) (ws z : List Plain) → k ≡ 0
    → eat (m.Sign s.Comma) ws ≡ (Ok true, z) → g ≡ refusal_of (first z) → Gathered total front k ws → total ≡ (Err g, z)
full total front zero g ws z none e is so_far =
    so_far ∙ ap (with_front front) (by_comma zero true ws z e ∙ refused z g is)
full total front (suc k) g ws z none e is so_far = absurd (omega (arith, none))

-- after a name that is read
abbrev behind_name : ℕ → Read Name → Read (List Name)
behind_name k x = goes_on (λ n. bind (others_at k) (λ ns. pure (n ∷ ns))) x.0 x.1

by_name : (k : ℕ) (ws z : List Plain) → eat (m.Sign s.Comma) ws ≡ (Ok true, z)
    → others_at (suc k) ws ≡ behind_name k (a_name z)
unfolding bind
by_name k ws z e = by_comma (suc k) true ws z e

joined : (front : List Name) (n : Name) (r : Read (List Name))
    → with_front front (goes_on (λ ns. pure (n ∷ ns)) r.0 r.1) ≡ with_front (front ++ n ∷ []) r
unfolding pure
joined front n (Ok ns, r) = λ i. (Ok (sym (append_assoc front (n ∷ []) ns) i), r)
joined front n (Err e, r) = refl

named : (k : ℕ) (n : Name) (r : List Plain) → behind_name k (Ok n, r) ≡ goes_on (λ ns. pure (n ∷ ns)) (others_at k r).0
    (others_at k r).1
unfolding bind
named k n r = refl

pub turned : (total : Read (List Name)) (front : List Name) (k j : ℕ) (n : Name) (ws z r : List Plain) → k ≡ suc j
    → eat (m.Sign s.Comma) ws ≡ (Ok true, z) → a_name z ≡ (Ok n, r) → Gathered total front k ws
    → Gathered total (front ++ n ∷ []) j r
turned total front zero j n ws z r some e read so_far = absurd (omega (arith, some))
turned total front (suc k) j n ws z r some e read so_far =
    let same_room : k ≡ j = omega (arith, some) in
    so_far ∙ ap (with_front front) (by_name k ws z e ∙ ap (behind_name k) read ∙ named k n r)
    ∙ joined front n (others_at k r) ∙ ap (λ (i : ℕ). with_front (front ++ n ∷ []) (others_at i r)) same_room

pub failed : (total : Read (List Name)) (front : List Name) (k : ℕ) (g : Refusal) (ws z r : List Plain) → k ≢ 0
    → eat (m.Sign s.Comma) ws ≡ (Ok true, z) → a_name z ≡ (Err g, r) → Gathered total front k ws → total ≡ (Err g, r)
failed total front zero g ws z r some e read so_far = absurd (some refl)
failed total front (suc k) g ws z r some e read so_far =
    so_far ∙ ap (with_front front) (by_name k ws z e ∙ ap (behind_name k) read)

-- ---- a first name and those after it

pub names_none : (k : ℕ) (ws : List Plain) (g : Refusal) → k ≡ 0 → g ≡ refusal_of (first ws)
    → names_at k ws ≡ (Err g, ws)
unfolding names_at
names_none zero ws g none e = refused ws g e
names_none (suc k) ws g none e = absurd (omega (arith, none))

-- after the first name
abbrev behind_first : ℕ → Read Name → Read (Several Name)
behind_first j x = goes_on (λ n. bind (others_at j) (λ ns. pure (record { first = n; others = ns }))) x.0 x.1

names_suc : (k j : ℕ) (ws : List Plain) → k ≡ suc j → names_at k ws ≡ behind_first j (a_name ws)
unfolding names_at bind
names_suc zero j ws some = absurd (omega (arith, some))
names_suc (suc k) j ws some =
    let same_room : k ≡ j = omega (arith, some) in ap (λ (i : ℕ). behind_first i (a_name ws)) same_room

module _ (k : ℕ) (ws : List Plain) (some : k ≢ 0) where
  first_read : names_at k ws ≡ behind_first (k - 1) (a_name ws)
  first_read = names_suc k (k - 1) ws (omega (arith, some))

  pub first_fails : (g : Refusal) (r : List Plain) → a_name ws ≡ (Err g, r) → names_at k ws ≡ (Err g, r)
  first_fails g r e = first_read ∙ ap (behind_first (k - 1)) e

  module _ (n : Name) (z : List Plain) (e : a_name ws ≡ (Ok n, z)) where
    pub others_fail : (g : Refusal) (r : List Plain) → others_at (k - 1) z ≡ (Err g, r) → names_at k ws ≡ (Err g, r)
    unfolding bind
    others_fail g r h =
        first_read ∙ ap (behind_first (k - 1)) e ∙ ap (λ (x : Read (List Name)). goes_on
        (λ ns. pure (record { first = n; others = ns })) x.0 x.1) h

    pub names_read : (ns : List Name) (r : List Plain) → others_at (k - 1) z ≡ (Ok ns, r)
        → names_at k ws ≡ (Ok (record { first = n; others = ns }), r)
    unfolding bind pure
    names_read ns r h =
        first_read ∙ ap (behind_first (k - 1)) e ∙ ap (λ (x : Read (List Name)). goes_on
        (λ ns. pure (record { first = n; others = ns })) x.0 x.1) h
