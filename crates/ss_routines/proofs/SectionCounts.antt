-- The counts of the reading of sections at the word at which it stops.
use Rattle.std.proofs.Common.{◌≡◌, ℕ, zero, suc, ◌+◌, ◌≤◌, Bool, true, false, List, [], ◌∷◌, ◌++◌, length, Option}
use Rattle.std.proofs.Common.{Some, Result, Ok, Err, refl, sym, ap, subst, ◌∙◌, append_assoc, arith}
use Rattle.ss_words.specs.declared.refusal.Refusal.{Refusal}
use Rattle.ss_words.specs.declared.refusal.Refusal.TheVariants.{Unexpected, PastLimit, Memory}
use Rattle.ss_words.specs.declared.mark.Mark.TheVariants as m
use Rattle.ss_words.specs.declared.word.Sign.TheVariants as s
use Rattle.ss_words.specs.declared.reserved.Reserved.TheVariants as r
use Rattle.ss_words.specs.Plain.{Plain, name, mark, first}
use Rattle.ss_words.specs.Reading.{Read, Reading, goes_on, bind, pure, refuse, look, skip, end_of_words, whole}
use Rattle.ss_words.specs.Marks.{is, expect}
use Rattle.ss_words.proofs.Marks.{is_mark}
use Rattle.ss_words.proofs.Goal as goal
use Rattle.ss_routines.specs.Tree.{Head, SectionTree, Tree, spell_section}
use Rattle.ss_routines.specs.BlockReading.{block_at}
use Rattle.ss_routines.specs.SectionReading.{head_at, locals, section_at, sections_upto}
use Rattle.ss_routines.specs.Tree.{is_head}
use Rattle.ss_routines.specs.Counts.{count, opens, closes}
use Rattle.ss_routines.specs.OneTooMany.{branches, rejoins, ends, has_end, behind_end, names_in_head}
use Rattle.ss_routines.specs.OpenPhrases.{Open, open_behind, phrases_of}
use Rattle.ss_routines.proofs.Tally.{count-append}
use Rattle.ss_routines.proofs.Form.{Each}
use Rattle.ss_routines.proofs.AnnouncedParts.{IsKept}
use Rattle.ss_routines.proofs.SectionLaw.{FitsSection, of_parts, section_keeps}
use Rattle.ss_routines.proofs.OpenWords.{ended_by, behind_both}
use Rattle.ss_routines.proofs.Counting.{Even, Room, Full, Past, Out, Tally, joined, room_behind, past_behind, nothing}
use Rattle.ss_routines.proofs.Counting.{room_of}
use Rattle.ss_routines.proofs.BlockCounts.{block_tally}
use Rattle.ss_routines.proofs.HeadCounts.{Last, Told, Anyhow, head_tally, head_tells, locals_tally}

abbrev end : Plain
end = mark (m.Reserved r.End)

-- ---- the section that has not ended

ended_step : (w : Plain) (x : List Plain) → has_end x ≡ true → (b : Bool) → ends w ≡ b → has_end (w ∷ x) ≡ true
ended_step w x h true e = rw e refl
ended_step w x h false e = rw e h

ended_at : (q z : List Plain) → has_end (q ++ end ∷ z) ≡ true
ended_at [] z = refl
ended_at (w ∷ q) z = ended_step w (q ++ end ∷ z) (ended_at q z) (ends w) refl

pub behind_section : (q z : List Plain) → behind_end (q ++ end ∷ z) ≡ behind_end z
behind_section [] z = refl
behind_section (w ∷ q) z = rw (ended_at (w ∷ q) z) (behind_section q z)

open_step : (w : Plain) (x : List Plain) → (count ends x ≡ 0 → has_end x ≡ false) → count ends (w ∷ x) ≡ 0
    → (b : Bool) → ends w ≡ b → has_end (w ∷ x) ≡ false
open_step w x h k true e =
    let c : count ends (w ∷ x) ≡ suc (count ends x) = rw e (omega arith) in absurd (omega (arith, c, k))
open_step w x h k false e =
    let c : count ends (w ∷ x) ≡ count ends x = rw e (omega arith) in rw e (h (omega (arith, c, k)))

not_ended : (q : List Plain) → count ends q ≡ 0 → has_end q ≡ false
not_ended [] k = refl
not_ended (w ∷ q) k = open_step w q (not_ended q) k (ends w) refl

pub all_open : (q : List Plain) → count ends q ≡ 0 → behind_end q ≡ q
all_open [] k = refl
all_open (w ∷ q) k = rw (not_ended (w ∷ q) k) refl

-- ---- a section

-- the name after q in a head is past the limit
abbrev Named : ℕ → List Plain → Option Plain → Type 0
Named l q (Some (name v)) = names_in_head false (q ++ name v ∷ []) ≡ suc l
Named l q _ = Unit {0}

module _ (n i fs : ℕ) where
  -- after a head
  abbrev Body : {A : Type 0} → Result A Refusal → List Plain → List Plain → Type 0
  Body (Ok t) ws r = (q : List Plain) × (ws ≡ q ++ end ∷ r) × Even q
  Body (Err Unexpected) ws r = (q : List Plain) × (ws ≡ q ++ r) × Room n i fs q
  Body (Err Memory) ws r = ⊥
  Body (Err PastLimit) ws r = (q : List Plain) × (ws ≡ q ++ r) × Past false n i fs q (first r)

  record Bodies {A : Type 0} (p : Reading A) : Type 0 where
    at : (ws : List Plain) → Body (p ws).0 ws (p ws).1

  behind : {A : Type 0} (o : Result A Refusal) (ws r r' q : List Plain) → ws ≡ q ++ r → Even q → Body o r r'
      → Body o ws r'
  behind (Ok a) ws r r' q e x (q2, e2, y) =
      (q ++ q2, e ∙ ap (λ (u : List Plain). q ++ u) e2 ∙ sym (append_assoc q q2 (end ∷ r')), joined q q2 x y)
  behind (Err Unexpected) ws r r' q e x (q2, e2, y) =
      (q ++ q2, e ∙ ap (λ (u : List Plain). q ++ u) e2 ∙ sym (append_assoc q q2 r'), room_behind n i fs q q2 x y)
  behind (Err Memory) ws r r' q e x out = out
  behind (Err PastLimit) ws r r' q e x (q2, e2, y) = (
    q ++ q2,
    e ∙ ap (λ (u : List Plain). q ++ u) e2 ∙ sym (append_assoc q q2 r'),
    past_behind false n i fs q q2 (first r') x y,
  )

  module _ {A B : Type 0} (f : A → Reading B) (t : (a : A) → Bodies (f a)) where
    bound : (o : Result A Refusal) (ws r : List Plain) → Out false n i fs o ws r
        → Body (goes_on f o r).0 ws (goes_on f o r).1
    bound (Ok a) ws r (q, e, x) = let g = t a in behind (f a r).0 ws r (f a r).1 q e x (g.at r)
    bound (Err Unexpected) ws r out = out
    bound (Err Memory) ws r out = out
    bound (Err PastLimit) ws r out = out

    bind_bodies : (p : Reading A) → Tally false n i fs p → Bodies (bind p f)
    unfolding bind
    bind_bodies p g = record { at = λ ws. bound (p ws).0 ws (p ws).1 (g.at ws) }

  module _ {A : Type 0} (a : A) where
    end_at : (ws : List Plain) (b : Bool) → is (m.Reserved r.End) (first ws) ≡ b
        → (let p : Reading (Unit {0}) = elim b [ true ↦ skip (pure tt) | false ↦ refuse Unexpected ] in
        let x : Read A = goes_on (λ u. pure a) (p ws).0 (p ws).1 in Body x.0 ws x.1)
    unfolding skip pure refuse
    end_at [] true e = absurd cc
    end_at (v ∷ ws) true e = (
      [],
      ap (λ (u : Plain). u ∷ ws) (is_mark (m.Reserved r.End) v e),
      nothing,
    )
    end_at ws false e = ([], refl, room_of n i fs [] nothing)

    end_bodies : Bodies (bind (expect (m.Reserved r.End)) (λ u. pure a))
    unfolding bind expect look
    end_bodies = record { at = λ ws. end_at ws (is (m.Reserved r.End) (first ws)) refl }

  body : (h : Head) → Bodies (bind locals (λ ls. bind (block_at n i fs)
      (λ b. bind (expect (m.Reserved r.End)) (λ u. pure (of_parts h ls b)))))
  body h =
      bind_bodies _ (λ ls. bind_bodies _ (λ b. end_bodies (of_parts h ls b)) (block_at n i fs) (block_tally n i fs))
      locals (locals_tally n i fs)

  -- from its head on, if l names may be in it
  abbrev Section : ℕ → Result SectionTree Refusal → List Plain → List Plain → Type 0
  Section l (Ok t) ws r = (q : List Plain) × (ws ≡ q ++ end ∷ r) × Even q
  Section l (Err Unexpected) ws r = (q : List Plain) × (ws ≡ q ++ r) × Room n i fs q
  Section l (Err Memory) ws r = ⊥
  Section l (Err PastLimit) ws r =
      (q : List Plain) × (ws ≡ q ++ r) × Past true n i fs q (first r) × Named l q (first r)

  unnamed : (l : ℕ) (q : List Plain) (w : Option Plain) → Full false n i fs q w → Full true n i fs q w × Named l q w
  unnamed l q (Some (mark (m.Sign s.Open))) f = (f, tt)
  unnamed l q (Some (mark (m.Reserved r.If))) f = (f, tt)
  unnamed l q (Some (mark (m.Reserved r.For))) f = (f, tt)
  unnamed l q (Some (name v)) f = absurd cc
  unnamed l q _ f = absurd f

  of_body : (l : ℕ) (o : Result SectionTree Refusal) (ws r : List Plain) → Body o ws r → Section l o ws r
  of_body l (Ok t) ws r out = out
  of_body l (Err Unexpected) ws r out = out
  of_body l (Err Memory) ws r out = out
  of_body l (Err PastLimit) ws r (q, e, x) =
      let f = unnamed l q (first r) x.full in (q, e, record { full = f.0; no_end = x.no_end }, f.1)

  last_named : (l : ℕ) (q : List Plain) (w : Option Plain) → Last l q w → Named l q w
  last_named l q (Some (name v)) x = x
  last_named l q _ x = absurd x

  module _ (l : ℕ) (f : Head → Reading SectionTree) (t : (h : Head) → Bodies (f h)) where
    of_head : (o : Result Head Refusal) (ws r : List Plain) → Out true n i fs o ws r → Told l Anyhow [] o ws r
        → Section l (goes_on f o r).0 ws (goes_on f o r).1
    of_head (Ok h) ws r (q, e, x) told =
        let g = t h in of_body l (f h r).0 ws (f h r).1 (behind (f h r).0 ws r (f h r).1 q e x (g.at r))
    of_head (Err Unexpected) ws r out told = out
    of_head (Err Memory) ws r out told = out
    of_head (Err PastLimit) ws r (q, e, x) (q', e', y) =
        let same : q' ≡ q = sym (goal.front_is ws q' r e') ∙ goal.front_is ws q r e in
        (q, e, x, last_named l q (first r) (subst (λ (u : List Plain). Last l u (first r)) same y))

-- one parenthesis at least may be open
section_out : (n i f k : ℕ) (ws : List Plain)
    → (let x = section_at (suc n) i f k ws in Section (suc n) i f (suc k) x.0 ws x.1)
unfolding section_at bind
section_out n i f k ws =
    let a = head_tally n i f k in
    let b = head_tells k in
    of_head (suc n) i f (suc k) _ (body (suc n) i f) (head_at k ws).0 ws (head_at k ws).1 (a.at ws) (b.at ws)

-- ---- sections

-- the words of a section, without its END
abbrev pub Spelled : SectionTree → Type 0
Spelled t = (q : List Plain) × (spell_section t ≡ q ++ end ∷ []) × Even q

-- after j whole sections
pub record Balanced (j : ℕ) (q : List Plain) : Type 0 where
  pub parentheses : count opens q ≡ count closes q
  pub ifs : count branches q ≡ count rejoins q
  pub phrases : (b : Bool) → open_behind b [] q ≡ []
  pub sections : count ends q ≡ j

-- within the limits
pub record Kept (n i fs : ℕ) (q : List Plain) : Type 0 where
  pub parentheses : count opens q ≤ count closes q + n
  pub ifs : count branches q ≤ count rejoins q + i
  pub phrases : (b : Bool) → phrases_of (open_behind b [] q) ≤ fs

-- the word after q passes a limit
abbrev pub Passed : ℕ → ℕ → ℕ → ℕ → ℕ → List Plain → Option Plain → Type 0
Passed n i fs l j q (Some (mark (m.Sign s.Open))) = count opens q ≡ count closes q + n
Passed n i fs l j q (Some (mark (m.Reserved r.If))) = count branches q ≡ count rejoins q + i
Passed n i fs l j q (Some (mark (m.Reserved r.For))) =
    (b : Bool) → phrases_of (open_behind b [] q) ≡ fs
Passed n i fs l j q (Some (mark (m.Reserved r.Main))) = count ends q ≡ j
Passed n i fs l j q (Some (mark (m.Reserved r.Routine))) = count ends q ≡ j
Passed n i fs l j q (Some (mark (m.Reserved r.Event))) = count ends q ≡ j
Passed n i fs l j q (Some (name v)) = names_in_head false (behind_end (q ++ name v ∷ [])) ≡ suc l
Passed n i fs l j q _ = ⊥

-- a section leaves nothing open
next_section : (a q : List Plain) → Even a → (b : Bool) → open_behind b [] (a ++ end ∷ q) ≡ open_behind false [] q
next_section a q x b =
    behind_both b [] a (end ∷ q)
    ∙ ap (λ (os : List Open). open_behind (ended_by b a) os (end ∷ q)) (x.phrases b [] refl)

module _ (n i fs l : ℕ) where
  abbrev pub Program : ℕ → Result Tree Refusal → List Plain → List Plain → Type 0
  Program j (Ok ts) ws r = (q : List Plain) × (ws ≡ q ++ r) × Balanced (length ts) q × Each Spelled ts
  Program j (Err Unexpected) ws r = (q : List Plain) × (ws ≡ q ++ r) × Kept n i fs q
  Program j (Err Memory) ws r = ⊥
  Program j (Err PastLimit) ws r = (q : List Plain) × (ws ≡ q ++ r) × Passed n i fs l j q (first r)

  -- within the first section
  passed_first : (j : ℕ) (q : List Plain) (w : Option Plain) → Past true n i fs q w → Named l q w
      → Passed n i fs l j q w
  passed_first j q (Some (mark (m.Sign s.Open))) x y = x.full
  passed_first j q (Some (mark (m.Reserved r.If))) x y = x.full
  passed_first j q (Some (mark (m.Reserved r.For))) x y =
      λ b. let f = x.full b [] refl in omega (arith, f)
  passed_first j q (Some (name v)) x y =
      let none = x.no_end in
      let going : count ends (q ++ name v ∷ []) ≡ 0 = omega (arith, none, count-append ends q (name v ∷ [])) in
      ap (names_in_head false) (all_open (q ++ name v ∷ []) going) ∙ y
  passed_first j q _ x y = absurd (x.full)

  -- after a first section
  passed_next : (j : ℕ) (a q : List Plain) (w : Option Plain) → Even a → Passed n i fs l j q w
      → Passed n i fs l (suc j) (a ++ end ∷ q) w
  passed_next j a q (Some (mark (m.Sign s.Open))) x y =
      let p = x.parentheses in omega (arith, p, y, count-append opens a (end ∷ q), count-append closes a (end ∷ q))
  passed_next j a q (Some (mark (m.Reserved r.If))) x y =
      let p = x.ifs in omega (arith, p, y, count-append branches a (end ∷ q), count-append rejoins a (end ∷ q))
  passed_next j a q (Some (mark (m.Reserved r.For))) x y =
      λ b. ap phrases_of (next_section a q x b) ∙ y false
  passed_next j a q (Some (mark (m.Reserved r.Main))) x y =
      let p = x.no_end in omega (arith, p, y, count-append ends a (end ∷ q))
  passed_next j a q (Some (mark (m.Reserved r.Routine))) x y =
      let p = x.no_end in omega (arith, p, y, count-append ends a (end ∷ q))
  passed_next j a q (Some (mark (m.Reserved r.Event))) x y =
      let p = x.no_end in omega (arith, p, y, count-append ends a (end ∷ q))
  passed_next j a q (Some (name v)) x y =
      ap (λ (u : List Plain). names_in_head false (behind_end u)) (append_assoc a (end ∷ q) (name v ∷ []))
      ∙ ap (names_in_head false) (behind_section a (q ++ name v ∷ [])) ∙ y
  passed_next j a q _ x y = absurd y

  balanced_next : (j : ℕ) (a q : List Plain) → Even a → Balanced j q → Balanced (suc j) (a ++ end ∷ q)
  balanced_next j a q x y =
      let p = x.parentheses in let p' = y.parentheses in let g = x.ifs in let g' = y.ifs in let e = x.no_end in
      let e' = y.sections in record {
        parentheses = omega (arith, p, p', count-append opens a (end ∷ q), count-append closes a (end ∷ q));
        ifs = omega (arith, g, g', count-append branches a (end ∷ q), count-append rejoins a (end ∷ q));
        phrases = λ b. next_section a q x b ∙ y.phrases false;
        sections = omega (arith, e, e', count-append ends a (end ∷ q));
      }

  kept_next : (a q : List Plain) → Even a → Kept n i fs q → Kept n i fs (a ++ end ∷ q)
  kept_next a q x y =
      let p = x.parentheses in let p' = y.parentheses in let g = x.ifs in let g' = y.ifs in record {
        parentheses = omega (arith, p, p', count-append opens a (end ∷ q), count-append closes a (end ∷ q));
        ifs = omega (arith, g, g', count-append branches a (end ∷ q), count-append rejoins a (end ∷ q));
        phrases = λ b. let h = y.phrases false in omega (arith, h, ap phrases_of (next_section a q x b));
      }

  kept_of : (j : ℕ) (q : List Plain) → Balanced j q → Kept n i fs q
  kept_of j q x =
      let p = x.parentheses in let g = x.ifs in record {
        parentheses = omega (arith, p);
        ifs = omega (arith, g);
        phrases = λ b. omega (arith, ap phrases_of (x.phrases b));
      }

  next : (j : ℕ) (t : SectionTree) → Spelled t → (o : Result Tree Refusal) (ws r r' a : List Plain)
      → ws ≡ a ++ end ∷ r → Even a → Program j o r r'
      → (let x : Read Tree = goes_on (λ ts. pure (t ∷ ts)) o r' in Program (suc j) x.0 ws x.1)
  unfolding pure
  next j t sp (Ok ts) ws r r' a e x (q, e2, y, each) = (
    a ++ end ∷ q,
    e ∙ ap (λ (u : List Plain). a ++ end ∷ u) e2 ∙ sym (append_assoc a (end ∷ q) r'),
    balanced_next (length ts) a q x y,
    (sp, each),
  )
  next j t sp (Err Unexpected) ws r r' a e x (q, e2, y) = (
    a ++ end ∷ q,
    e ∙ ap (λ (u : List Plain). a ++ end ∷ u) e2 ∙ sym (append_assoc a (end ∷ q) r'),
    kept_next a q x y,
  )
  next j t sp (Err Memory) ws r r' a e x out = out
  next j t sp (Err PastLimit) ws r r' a e x (q, e2, y) = (
    a ++ end ∷ q,
    e ∙ ap (λ (u : List Plain). a ++ end ∷ u) e2 ∙ sym (append_assoc a (end ∷ q) r'),
    passed_next j a q (first r') x y,
  )

  first_one : (k j : ℕ) (fits : SectionTree → Type 0) (rest : Reading Tree)
      → ((ws : List Plain) → Program j (rest ws).0 ws (rest ws).1)
      → (o : Result SectionTree Refusal) (ws r : List Plain)
      → Section n i fs l o ws r → IsKept fits spell_section [] o ws r
      → (let x : Read Tree = goes_on (λ t. bind rest (λ ts. pure (t ∷ ts))) o r in Program (suc j) x.0 ws x.1)
  unfolding bind
  first_one k j fits rest h (Ok t) ws r (a, e, x) (f, q, e2, sp) =
      let split : ws ≡ (a ++ end ∷ []) ++ r = e ∙ sym (append_assoc a (end ∷ []) r) in
      let same : q ≡ a ++ end ∷ [] = sym (goal.front_is ws q r e2) ∙ goal.front_is ws (a ++ end ∷ []) r split in
      next j t (a, sp ∙ same, x) (rest r).0 ws r (rest r).1 a e x (h r)
  first_one k j fits rest h (Err Unexpected) ws r (q, e, x) kept = (
    q,
    e,
    record {
      parentheses = x.parentheses;
      ifs = x.ifs;
      phrases = λ b. let h = x.phrases b [] refl in omega (arith, h);
    },
  )
  first_one k j fits rest h (Err Memory) ws r out kept = out
  first_one k j fits rest h (Err PastLimit) ws r (q, e, x, y) kept = (q, e, passed_first (suc j) q (first r) x y)

  -- if no more may be there
  head_passed : (w : Plain) → is_head (Some w) ≡ true → Passed n i fs l 0 [] (Some w)
  head_passed (mark (m.Reserved r.Main)) e = refl
  head_passed (mark (m.Reserved r.Routine)) e = refl
  head_passed (mark (m.Reserved r.Event)) e = refl
  head_passed _ e = absurd cc

  none_at : (ws : List Plain) (b : Bool) → is_head (first ws) ≡ b
      → (let p : Reading Tree = elim b [ true ↦ refuse PastLimit | false ↦ pure [] ] in Program 0 (p ws).0 ws (p ws).1)
  unfolding refuse pure
  none_at [] true e = absurd cc
  none_at (w ∷ ws) true e = ([], refl, head_passed w e)
  none_at ws false e = ([], refl, record { parentheses = refl; ifs = refl; phrases = λ b. refl; sections = refl }, tt)

  whole_of : (j : ℕ) (o : Result Tree Refusal) (ws r : List Plain) → Program j o ws r
      → (let x : Read Tree = goes_on (λ t. bind end_of_words (λ u. pure t)) o r in Program j x.0 ws x.1)
  unfolding bind end_of_words look pure refuse
  whole_of j (Ok ts) ws [] out = out
  whole_of j (Ok ts) ws (w ∷ r) (q, e, y, each) = (q, e, kept_of (length ts) q y)
  whole_of j (Err Unexpected) ws r out = out
  whole_of j (Err Memory) ws r out = out
  whole_of j (Err PastLimit) ws r out = out

module _ (n i f k : ℕ) where
  pub sections_out : (j : ℕ) (ws : List Plain)
      → (let x = sections_upto (suc n) i f (suc k) j ws in Program (suc n) i f (suc (suc k)) j x.0 ws x.1)
  unfolding sections_upto look pure bind
  sections_out zero ws = none_at (suc n) i f (suc (suc k)) ws (is_head (first ws)) refl
  sections_out (suc j) ws = (elim (is_head (first ws)) as (λ b. let p : Reading Tree = elim b [
    | true ↦ bind (section_at (suc n) i f (suc k)) (λ t. bind (sections_upto (suc n) i f (suc k) j)
        (λ ts. pure (t ∷ ts)))
    | false ↦ pure []
  ] in Program (suc n) i f (suc (suc k)) (suc j) (p ws).0 ws (p ws).1) [
    | true ↦ (let kept = section_keeps (suc n) i f k (omega arith) in
        first_one (suc n) i f (suc (suc k)) k j (FitsSection (suc n) i f k) (sections_upto (suc n) i f (suc k) j)
        (sections_out j) (section_at (suc n) i f (suc k) ws).0 ws (section_at (suc n) i f (suc k) ws).1
        (section_out n i f (suc k) ws) (kept.at ws))
    | false ↦ ([], refl, record { parentheses = refl; ifs = refl; phrases = λ b. refl; sections = refl }, tt)
  ])

  pub whole_out : (j : ℕ) (ws : List Plain)
      → (let x = whole (sections_upto (suc n) i f (suc k) j) ws in Program (suc n) i f (suc (suc k)) j x.0 ws x.1)
  unfolding whole bind
  whole_out j ws =
      let x = sections_upto (suc n) i f (suc k) j ws in
      whole_of (suc n) i f (suc (suc k)) j x.0 ws x.1 (sections_out j ws)
