-- The counts of the reading of statements at the word at which it stops.
use Rattle.std.proofs.Common.{◌≡◌, ◌⊎◌, ℕ, zero, suc, ◌≤◌, ◌<◌, Bool, true, false, List, [], ◌∷◌, ◌++◌, Option}
use Rattle.std.proofs.Common.{Some, None, Result, Ok, Err, refl, sym, ap, subst, ◌∙◌, append_assoc, arith}
use mathlib.Core.Logic.{inl, inr}
use Rattle.ss_words.specs.declared.refusal.Refusal.{Refusal}
use Rattle.ss_words.specs.declared.refusal.Refusal.TheVariants.{Unexpected, PastLimit, Memory}
use Rattle.ss_words.specs.declared.mark.Mark.{Mark}
use Rattle.ss_words.specs.declared.mark.Mark.TheVariants as m
use Rattle.ss_words.specs.declared.word.Sign.TheVariants as sign
use Rattle.ss_words.specs.declared.reserved.Reserved.TheVariants as r
use Rattle.ss_words.specs.Plain.{Plain, name, mark, first}
use Rattle.ss_words.specs.Reading.{Read, Reading, goes_on, bind, pure, refuse, look, skip}
use Rattle.ss_words.specs.Marks.{is, expect, eat}
use Rattle.ss_words.proofs.Laws.{fits_option, spell_option}
use Rattle.ss_words.proofs.Local.{same, more}
use Rattle.ss_words.proofs.Marks.{is_mark}
use Rattle.ss_routines.specs.Combined.{pair, behind, before, made, if_mark, either, star, eat_allowed, if_allowed}
use Rattle.ss_routines.specs.Combined.{either_of}
use Rattle.ss_routines.specs.Combined.{made_of, must}
use Rattle.ss_routines.specs.Simple.{Simple}
use Rattle.ss_routines.specs.SimpleSpelling.{spell_simple, depth_simple}
use Rattle.ss_routines.specs.SimpleReading.{simple_at}
use Rattle.ss_routines.specs.Loops.{Phrase, spell_question, depth_phrase, depth_question}
use Rattle.ss_routines.specs.LoopReading.{phrase_at, compute_at, question_at}
use Rattle.ss_routines.specs.Tree.{Block, Controlled}
use Rattle.ss_routines.specs.BlockReading.{Branching, Looping, otherwise_of, one_of, statement_of, block_of}
use Rattle.ss_routines.specs.BlockReading.{controlled_of, branch_with, one_with, statement_with, block_with}
use Rattle.ss_routines.specs.BlockReading.{controlled_with, loop_in, branch_at, block_at}
use Rattle.ss_routines.specs.Counts.{opens, closes}
use Rattle.ss_routines.specs.OneTooMany.{branches, rejoins, ends}
use Rattle.ss_routines.specs.OpenPhrases.{Open, For, without_inner_phrases, step, open_behind, phrases_of}
use Rattle.ss_routines.proofs.SimpleLaw.{simple_law}
use Rattle.ss_routines.proofs.LoopLaw.{question_law, compute_law, phrase_law, ComputeWords, ComputeFits, PhraseWords}
use Rattle.ss_routines.proofs.Form.{Form, behind_form, nothing_form}
use Rattle.ss_routines.proofs.Tally as tally
use Rattle.ss_routines.proofs.Tally.{count-append, Leaves, plain_word}
use Rattle.ss_routines.proofs.Inner.{builds, Inner, also, inner_simple, inner_phrase, inner_compute, inner_question}
use Rattle.ss_routines.proofs.OpenWords.{ended_by, behind_both, inner_stays, inner_opens_none, begun}
use Rattle.ss_routines.proofs.Operands.{Walks, a_phrase, begun_simple}
use Rattle.ss_routines.proofs.Counting.{Place, Anywhere, Settled, Behind, At, EvenAt, Even, RoomAt, FullAt, PastAt}
use Rattle.ss_routines.proofs.Counting.{OutAt, Out, Tally, nothing, plain, pure_tally, bind_tally, expect_tally}
use Rattle.ss_routines.proofs.Counting.{eat_tally, many_tally, Encloses, Shuts, bind_shuts, made_shuts, close_shuts}
use Rattle.ss_routines.proofs.Counting.{none_of, branches_build, rejoins_build, ends_build, Refused, PartOut, Part}
use Rattle.ss_routines.proofs.Counting.{part}
use Rattle.ss_routines.proofs.Counting.{enclosed_at, part_even, part_room, part_past, part_tally}

-- ---- readings that are made of readings

module _ (h : Bool) (n i fs : ℕ) where
  pub pair_tally : {A B : Type 0} (p : Reading A) (q : Reading B) → Tally h n i fs p → Tally h n i fs q
      → Tally h n i fs (pair p q)
  unfolding pair
  pair_tally p q x y =
      bind_tally h n i fs _ (λ a. bind_tally h n i fs _ (λ b. pure_tally h n i fs (a, b)) q y) p x

  pub behind_tally : {A : Type 0} (k : Mark) (p : Reading A) → Even (mark k ∷ []) → Tally h n i fs p
      → Tally h n i fs (behind k p)
  unfolding behind
  behind_tally k p e x = bind_tally h n i fs _ (λ u. x) (expect k) (expect_tally h n i fs k e)

  pub before_tally : {A : Type 0} (p : Reading A) (k : Mark) → Even (mark k ∷ []) → Tally h n i fs p
      → Tally h n i fs (before p k)
  unfolding before
  before_tally p k e x =
      bind_tally h n i fs _ (λ a. bind_tally h n i fs _ (λ u. pure_tally h n i fs a) (expect k)
      (expect_tally h n i fs k e)) p x

  pub made_tally : {A B : Type 0} (f : A → B) (p : Reading A) → Tally h n i fs p → Tally h n i fs (made f p)
  unfolding made
  made_tally f p x = bind_tally h n i fs _ (λ a. pure_tally h n i fs (f a)) p x

  pub mark_tally : {A : Type 0} (k : Mark) (p : Reading A) → Even (mark k ∷ []) → Tally h n i fs p
      → Tally h n i fs (if_mark k p)
  unfolding if_mark
  mark_tally k p e x =
      bind_tally h n i fs _ (elim [
        | true ↦ bind_tally h n i fs _ (λ a. pure_tally h n i fs (Some a)) p x
        | false ↦ pure_tally h n i fs None
      ]) (eat k) (eat_tally h n i fs k e)

  pub star_tally : {A : Type 0} (p : Reading (Option A)) → Tally h n i fs p → Tally h n i fs (star p)
  unfolding star
  star_tally p x = many_tally h n i fs p [] (λ a xs. a ∷ xs) x

-- ---- a part that may be there or not

module _ (from : Place) (n i fs : ℕ) where
  -- if it is not there, nothing is read
  abbrev pub FoundAt : {A : Type 0} → Result (Option A) Refusal → List Plain → List Plain → Type 0
  FoundAt (Ok None) ws r = ws ≡ r
  FoundAt (Ok (Some a)) ws r = (q : List Plain) × (ws ≡ q ++ r) × EvenAt from q
  FoundAt (Err Unexpected) ws r = (q : List Plain) × (ws ≡ q ++ r) × RoomAt from n i fs q
  FoundAt (Err Memory) ws r = ⊥
  FoundAt (Err PastLimit) ws r = (q : List Plain) × (ws ≡ q ++ r) × PastAt from false n i fs q (first r)

  pub record Finds {A : Type 0} (p : Reading (Option A)) : Type 0 where
    pub at : (ws : List Plain) → FoundAt (p ws).0 ws (p ws).1

  pub record Reads {A : Type 0} (p : Reading A) : Type 0 where
    pub at : (ws : List Plain) → OutAt from false n i fs (p ws).0 ws (p ws).1

  module _ {A B : Type 0} (f : A → B) where
    made_of-found : (o : Result (Option A) Refusal) (ws r : List Plain) → FoundAt o ws r
        → (let x : Read (Option B) = goes_on (λ u. elim u [ Some a ↦ pure (Some (f a)) | None ↦ pure None ]) o r in
        FoundAt x.0 ws x.1)
    unfolding pure
    made_of-found (Ok None) ws r out = out
    made_of-found (Ok (Some a)) ws r out = out
    made_of-found (Err Unexpected) ws r out = out
    made_of-found (Err Memory) ws r out = out
    made_of-found (Err PastLimit) ws r out = out

    pub made_of-finds : (p : Reading (Option A)) → Finds p → Finds (made_of f p)
    unfolding made_of bind
    made_of-finds p x = record { at = λ ws. made_of-found (p ws).0 ws (p ws).1 (x.at ws) }

    made_read : (o : Result A Refusal) (ws r : List Plain) → OutAt from false n i fs o ws r
        → (let x : Read B = goes_on (λ a. pure (f a)) o r in OutAt from false n i fs x.0 ws x.1)
    unfolding pure
    made_read (Ok a) ws r out = out
    made_read (Err Unexpected) ws r out = out
    made_read (Err Memory) ws r out = out
    made_read (Err PastLimit) ws r out = out

    pub made_reads : (p : Reading A) → Reads p → Reads (made f p)
    unfolding made bind
    made_reads p x = record { at = λ ws. made_read (p ws).0 ws (p ws).1 (x.at ws) }

  -- the part that is read is there
  some_found : {A : Type 0} (o : Result A Refusal) (ws r : List Plain) → OutAt from false n i fs o ws r
      → (let x : Read (Option A) = goes_on (λ a. pure (Some a)) o r in FoundAt x.0 ws x.1)
  unfolding pure
  some_found (Ok a) ws r out = out
  some_found (Err Unexpected) ws r out = out
  some_found (Err Memory) ws r out = out
  some_found (Err PastLimit) ws r out = out

  module _ {A : Type 0} where
    must_read : (o : Result (Option A) Refusal) (ws r : List Plain) → FoundAt o ws r
        → (let x : Read A = goes_on (λ u. elim u [ Some a ↦ pure a | None ↦ refuse Unexpected ]) o r in
        OutAt from false n i fs x.0 ws x.1)
    unfolding pure refuse
    must_read (Ok None) ws r e = (
      [],
      e,
      record {
        parentheses = omega arith;
        ifs = omega arith;
        phrases = λ b os z. omega arith;
        no_end = refl;
      },
    )
    must_read (Ok (Some a)) ws r out = out
    must_read (Err Unexpected) ws r out = out
    must_read (Err Memory) ws r out = out
    must_read (Err PastLimit) ws r out = out

    must_reads : (p : Reading (Option A)) → Finds p → Reads (must p)
    unfolding must bind
    must_reads p x = record { at = λ ws. must_read (p ws).0 ws (p ws).1 (x.at ws) }

  other_found : (A B : Type 0) (o : Result (Option B) Refusal) (ws r : List Plain) → FoundAt o ws r
      → (let x : Read (Option (A ⊎ B)) = goes_on (λ u. elim u [
        | Some b ↦ pure (Some (inr b))
        | None ↦ pure None
      ]) o r in FoundAt x.0 ws x.1)
  unfolding pure
  other_found A B (Ok None) ws r out = out
  other_found A B (Ok (Some b)) ws r out = out
  other_found A B (Err Unexpected) ws r out = out
  other_found A B (Err Memory) ws r out = out
  other_found A B (Err PastLimit) ws r out = out

  module _ {A B : Type 0} where
    module _ (q : Reading (Option B)) (y : Finds q) where
      abbrev or_other : Option A → Reading (Option (A ⊎ B))
      or_other u = elim u [
        | Some a ↦ pure (Some (inl a))
        | None ↦ bind q (λ v. elim v [ Some b ↦ pure (Some (inr b)) | None ↦ pure None ])
      ]

      either_of-found : (o : Result (Option A) Refusal) (ws r : List Plain) → FoundAt o ws r
          → (let x : Read (Option (A ⊎ B)) = goes_on or_other o r in FoundAt x.0 ws x.1)
      unfolding pure bind
      either_of-found (Ok None) ws r e =
          subst (λ (u : List Plain). let x : Read (Option (A ⊎ B)) = or_other None u in FoundAt x.0 ws x.1) e
          (other_found A B (q ws).0 ws (q ws).1 (y.at ws))
      either_of-found (Ok (Some a)) ws r out = out
      either_of-found (Err Unexpected) ws r out = out
      either_of-found (Err Memory) ws r out = out
      either_of-found (Err PastLimit) ws r out = out

      either_of-finds : (p : Reading (Option A)) → Finds p → Finds (either_of p q)
      unfolding either_of bind
      either_of-finds p x = record { at = λ ws. either_of-found (p ws).0 ws (p ws).1 (x.at ws) }

    module _ (q : Reading B) (y : Reads q) where
      abbrev or_else : Option A → Reading (A ⊎ B)
      or_else u = elim u [ Some a ↦ pure (inl a) | None ↦ bind q (λ b. pure (inr b)) ]

      either_read : (o : Result (Option A) Refusal) (ws r : List Plain) → FoundAt o ws r
          → (let x : Read (A ⊎ B) = goes_on or_else o r in OutAt from false n i fs x.0 ws x.1)
      unfolding pure bind
      either_read (Ok None) ws r e =
          subst (λ (u : List Plain). let x : Read (A ⊎ B) = or_else None u in OutAt from false n i fs x.0 ws x.1) e
          (made_read (λ b. inr b) (q ws).0 ws (q ws).1 (y.at ws))
      either_read (Ok (Some a)) ws r out = out
      either_read (Err Unexpected) ws r out = out
      either_read (Err Memory) ws r out = out
      either_read (Err PastLimit) ws r out = out

      either_reads : (p : Reading (Option A)) → Finds p → Reads (either p q)
      unfolding either bind
      either_reads p x = record { at = λ ws. either_read (p ws).0 ws (p ws).1 (x.at ws) }

  -- a mark and the part after it, if the mark is there
  module _ {A : Type 0} (k : Mark) (p : Reading A)
      (x : (ws : List Plain) → OutAt from false n i fs (p ws).0 (mark k ∷ ws) (p ws).1) where
    abbrev if_there : Bool → Reading (Option A)
    if_there b = elim b [ true ↦ bind p (λ a. pure (Some a)) | false ↦ pure None ]

    mark_found : (ws : List Plain) (b : Bool) → is k (first ws) ≡ b
        → (let e : Reading Bool = elim b [ true ↦ skip (pure true) | false ↦ pure false ] in
        let y : Read (Option A) = goes_on if_there (e ws).0 (e ws).1 in FoundAt y.0 ws y.1)
    unfolding skip pure bind
    mark_found [] true e = absurd cc
    mark_found (v ∷ ws) true e = rw (is_mark k v e) (some_found (p ws).0 (mark k ∷ ws) (p ws).1 (x ws))
    mark_found ws false e = refl

    pub mark_finds : Finds (bind (eat k) if_there)
    unfolding bind eat look
    mark_finds = record { at = λ ws. mark_found ws (is k (first ws)) refl }

module _ (n i fs : ℕ) where
  full_at : (from : Place) (q : List Plain) (w : Option Plain) → FullAt Anywhere false n i fs q w
      → FullAt from false n i fs q w
  full_at from q (Some (mark (m.Sign sign.Open))) f = f
  full_at from q (Some (mark (m.Reserved r.If))) f = f
  full_at from q (Some (mark (m.Reserved r.For))) f = λ b os z. f b os tt
  full_at from q (Some (name v)) f = f
  full_at from q _ f = absurd f

  -- a part that may begin anywhere
  at_place : {A : Type 0} (from : Place) (o : Result (Option A) Refusal) (ws r : List Plain)
      → FoundAt Anywhere n i fs o ws r → FoundAt from n i fs o ws r
  at_place from (Ok None) ws r out = out
  at_place from (Ok (Some a)) ws r (q, e, x) = (
    q,
    e,
    record {
      parentheses = x.parentheses;
      ifs = x.ifs;
      phrases = λ b os z. x.phrases b os tt;
      no_end = x.no_end;
    },
  )
  at_place from (Err Unexpected) ws r (q, e, x) = (
    q,
    e,
    record {
      parentheses = x.parentheses;
      ifs = x.ifs;
      phrases = λ b os z. x.phrases b os tt;
      no_end = x.no_end;
    },
  )
  at_place from (Err Memory) ws r out = out
  at_place from (Err PastLimit) ws r (q, e, x) =
      (q, e, record { full = full_at from q (first r) x.full; no_end = x.no_end })

  found_at : {A : Type 0} (from : Place) (p : Reading (Option A)) → Finds Anywhere n i fs p → Finds from n i fs p
  found_at from p x = record { at = λ ws. at_place from (p ws).0 ws (p ws).1 (x.at ws) }

  -- if no phrase is innermost
  out_of : {A : Type 0} (o : Result (Option A) Refusal) (ws r : List Plain) → FoundAt Settled n i fs o ws r
      → Out false n i fs o ws r
  out_of (Ok None) ws r e = ([], e, nothing)
  out_of (Ok (Some a)) ws r out = out
  out_of (Err Unexpected) ws r out = out
  out_of (Err Memory) ws r out = out
  out_of (Err PastLimit) ws r out = out

  found_tally : {A : Type 0} (p : Reading (Option A)) → Finds Settled n i fs p → Tally false n i fs p
  found_tally p x = record { at = λ ws. out_of (p ws).0 ws (p ws).1 (x.at ws) }

-- ---- a mark of which no more may be open

module _ (A : Type 0) (k : Mark) where
  -- the answer if no more may be open
  abbrev shut_answer : Bool → List Plain → Read (Option A)
  shut_answer true ws = (Err PastLimit, ws)
  shut_answer false ws = (Ok None, ws)

  abbrev behind_allowed : Reading A → Bool → Reading (Option A)
  behind_allowed q b = elim b [ true ↦ bind q (λ a. pure (Some a)) | false ↦ pure None ]

  shut_is : (q : Reading A) (ws : List Plain) → if_allowed 0 k q ws ≡ shut_answer (is k (first ws)) ws
  unfolding if_allowed eat_allowed look bind pure refuse
  shut_is q ws =
      (elim (is k (first ws)) as (λ b. goes_on (behind_allowed q)
      (let h : Reading Bool = elim b [ true ↦ refuse PastLimit | false ↦ pure false ] in h ws).0
      (let h : Reading Bool = elim b [ true ↦ refuse PastLimit | false ↦ pure false ] in h ws).1 ≡ shut_answer b ws)
      [ true ↦ refl | false ↦ refl ])

  module _ (n i fs : ℕ) (full : FullAt Anywhere false n i fs [] (Some (mark k))) where
    shut_out : (ws : List Plain) (b : Bool) → is k (first ws) ≡ b
        → FoundAt Anywhere n i fs (shut_answer b ws).0 ws (shut_answer b ws).1
    shut_out [] true e = absurd cc
    shut_out (v ∷ ws) true e = (
      [],
      refl,
      record {
        full = subst (λ (u : Plain). FullAt Anywhere false n i fs [] (Some u)) (sym
            (is_mark k v e)) full;
        no_end = refl;
      },
    )
    shut_out ws false e = refl

    shut_finds : (q : Reading A) → Finds Anywhere n i fs (if_allowed 0 k q)
    shut_finds q = record { at = λ ws. rw (shut_is q ws) (shut_out ws (is k (first ws)) refl) }

-- ---- IF up to ALWAYS, DO up to LOOP

encloses_if : (n i fs : ℕ) → Encloses Anywhere (mark (m.Reserved r.If)) (mark (m.Reserved r.Always)) n i fs n (suc i)
encloses_if n i fs = record {
  even = record { parentheses = refl; ifs = refl; phrases = λ b os z. refl; no_end = refl };
  inner = λ b os z. refl;
  same = λ b os z. refl;
  parentheses = λ q h. omega (arith, h);
  open_ones = λ q h. omega (arith, h);
  ifs = λ q h. omega (arith, h);
  all_ifs = λ q h. omega (arith, h);
  no_end = λ q h. omega (arith, h);
}

encloses_do : (n i fs : ℕ) → Encloses Anywhere (mark (m.Reserved r.Do)) (mark (m.Reserved r.Loop)) n i fs n i
encloses_do n i fs = record {
  even = record { parentheses = refl; ifs = refl; phrases = λ b os z. refl; no_end = refl };
  inner = λ b os z. refl;
  same = λ b os z. refl;
  parentheses = λ q h. omega (arith, h);
  open_ones = λ q h. omega (arith, h);
  ifs = λ q h. omega (arith, h);
  all_ifs = λ q h. omega (arith, h);
  no_end = λ q h. omega (arith, h);
}

-- ---- parts of statements

less : (n : ℕ) → n < suc n
less n = omega arith

inner_option : {A : Type 0} (sp : A → List Plain) → ((a : A) → Inner (sp a)) → (o : Option A)
    → Inner (spell_option sp o)
inner_option sp h None = record { none = refl }
inner_option sp h (Some a) = h a

abbrev Anyhow : {A : Type 0} → A → List Plain → Type 0
Anyhow a q = Unit {0}

-- nothing, or words that close the innermost phrases
abbrev Begun : Option Simple → List Plain → Type 0
Begun None q = q ≡ []
Begun (Some a) q = (os : List Open) → open_behind true os q ≡ without_inner_phrases os

begun_option : (a : Option Simple) → Begun a (spell_option spell_simple a)
begun_option None = refl
begun_option (Some a) = begun_simple a

module _ (n : ℕ) where
  simple_part : Part n Begun (simple_at n)
  simple_part =
      let l = simple_law more n (suc n) (less n) in
      let w = simple_law same (suc n) (suc n) refl in
      part n (fits_option (λ a. depth_simple a ≤ n)) (fits_option (λ a. depth_simple a ≤ suc n))
      (spell_option spell_simple) (spell_option spell_simple) (simple_at n) (simple_at (suc n)) l.good l.near w.good
      l.counted (inner_option spell_simple inner_simple) (inner_option spell_simple inner_simple) Begun begun_option

  question_part : Part n Anyhow (question_at n)
  question_part =
      let l = question_law more n (suc n) (less n) in
      let w = question_law same (suc n) (suc n) refl in
      part n (λ q. depth_question q ≤ n) (λ q. depth_question q ≤ suc n) spell_question spell_question
      (question_at n) (question_at (suc n)) l.good l.near w.good l.counted inner_question inner_question Anyhow
      (λ a. tt)

  phrase_part : Part n (λ f q. Walks false q true) (phrase_at n)
  phrase_part =
      let l = phrase_law more n (suc n) (less n) in
      let w = phrase_law same (suc n) (suc n) refl in
      part n (λ f. depth_phrase f ≤ n) (λ f. depth_phrase f ≤ suc n) (PhraseWords more n (suc n) (less n))
      (PhraseWords same (suc n) (suc n) refl) (phrase_at n) (phrase_at (suc n)) l.good l.near w.good l.counted
      inner_phrase inner_phrase (λ f q. Walks false q true) a_phrase

  compute_part : Part n Anyhow (compute_at n)
  compute_part =
      let l = compute_law more n (suc n) (less n) in
      let w = compute_law same (suc n) (suc n) refl in
      part n (ComputeFits more n (suc n) (less n)) (ComputeFits same (suc n) (suc n) refl)
      (ComputeWords more n (suc n) (less n)) (ComputeWords same (suc n) (suc n) refl) (compute_at n)
      (compute_at (suc n)) l.good l.near w.good l.counted inner_compute inner_compute Anyhow (λ a. tt)

  abbrev find_form : Form more n (Unit {0})
  find_form =
      behind_form (m.Reserved r.First) (plain_word _ refl refl refl)
      (behind_form (m.Reserved r.Case) (plain_word _ refl refl refl) (nothing_form more n))

  find_part : Part {A = Unit {0}} n Anyhow (behind (m.Reserved r.First) (behind (m.Reserved r.Case) (pure tt)))
  find_part =
      part n find_form.fits find_form.fits find_form.sp find_form.sp find_form.p find_form.p find_form.good
      find_form.near find_form.good find_form.counted (λ u. inner_find) (λ u. inner_find) (Anyhow {A = Unit {0}})
      (λ (u : Unit {0}). let t : Unit {0} = tt in t)
    where
      inner_find : Inner (mark (m.Reserved r.First) ∷ mark (m.Reserved r.Case) ∷ [])
      inner_find = record { none = refl }

  -- ---- statements

  module _ (i fs : ℕ) where
    -- a statement that holds no other, after a phrase or if no phrase is innermost
    simple_found : (from : Place)
        → ((q : List Plain) → Inner q → ((os : List Open) → open_behind true os q ≡ without_inner_phrases os)
        → (b : Bool) (os : List Open) → At from b os → open_behind b os q ≡ without_inner_phrases os)
        → (o : Result (Option Simple) Refusal) (ws r : List Plain) → PartOut n Begun o ws r
        → FoundAt from n i fs o ws r
    simple_found from keeps (Ok None) ws r (q, e, x, l, s) = e ∙ ap (λ (u : List Plain). u ++ r) s
    simple_found from keeps (Ok (Some a)) ws r (q, e, x, l, s) = (q, e, part_even from q x l (keeps q x s))
    simple_found from keeps (Err Unexpected) ws r (q, e, x, l) = (q, e, part_room from n i fs q x l)
    simple_found from keeps (Err Memory) ws r out = out
    simple_found from keeps (Err PastLimit) ws r (q, e, x, l) = (q, e, part_past from false n i fs q (first r) x l)

    simple_behind : Finds Behind n i fs (simple_at n)
    simple_behind = let p = simple_part in record {
      at = λ ws. simple_found Behind (λ q x s b os z. ap (λ (c : Bool). open_behind c os q) z ∙ s os)
          (simple_at n ws).0 ws (simple_at n ws).1 (p.at ws);
    }

    simple_settled : Finds Settled n i fs (simple_at n)
    simple_settled = let p = simple_part in record {
      at = λ ws. simple_found Settled (λ q x s b os z. inner_stays b os q x z ∙ sym z)
          (simple_at n ws).0 ws (simple_at n ws).1 (p.at ws);
    }

    -- a word that closes the innermost phrases, and a part after it
    module _ {A : Type 0} (k : Mark) (one : Leaves 0 (mark k ∷ [])) (none : builds (mark k) ≡ false)
        (shuts : (os : List Open) → step true os (mark k) ≡ without_inner_phrases os) where
      started : (o : Result A Refusal) (ws r : List Plain) → PartOut n Anyhow o ws r
          → OutAt Behind false n i fs o (mark k ∷ ws) r
      started (Ok a) ws r (q, e, x, l, s) = (
        mark k ∷ q,
        ap (λ (u : List Plain). mark k ∷ u) e,
        part_even Behind (mark k ∷ q) (also (mark k) none x) (tally.joined 0 (mark k ∷ []) q one l)
            (λ b os z. ap (λ (c : Bool). open_behind c os (mark k ∷ q)) z
            ∙ begun (mark k) q shuts (also (mark k) none x) os),
      )
      started (Err Unexpected) ws r (q, e, x, l) = (
        mark k ∷ q,
        ap (λ (u : List Plain). mark k ∷ u) e,
        part_room Behind n i fs (mark k ∷ q) (also (mark k) none x) (record {
          open_ones = (let g = one.open_ones in let j = l.open_ones in omega (arith, g, j));
          no_heads = (let g = one.no_heads in let j = l.no_heads in omega (arith, g, j));
        }),
      )
      started (Err Memory) ws r out = out
      started (Err PastLimit) ws r (q, e, x, l) = (
        mark k ∷ q,
        ap (λ (u : List Plain). mark k ∷ u) e,
        part_past Behind false n i fs (mark k ∷ q) (first r) (also (mark k) none x) (refused q (first r) l),
      )
        where
          refused : (q : List Plain) (w : Option Plain) → Refused n q w → Refused n (mark k ∷ q) w
          refused q (Some (mark (m.Sign sign.Open))) f = let g = one.open_ones in omega (arith, g, f)
          refused q _ f = absurd f

      started_finds : (p : Reading A) → Part n Anyhow p → Finds Behind n i fs (if_mark k p)
      unfolding if_mark
      started_finds p x = mark_finds Behind n i fs k p (λ ws. started (p ws).0 ws (p ws).1 (x.at ws))

    -- IF and the part after it
    module _ (inside : Reading Block) (x : Tally false n i fs inside) where
      branch_shuts : Shuts false (mark (m.Reserved r.If)) (m.Reserved r.Always) n i fs n (suc i) (encloses_if n i fs)
          (branch_with n inside)
      unfolding branch_with pair before
      branch_shuts =
          let w : Plain = mark (m.Reserved r.If) in
          let k = m.Reserved r.Always in
          let z = encloses_if n i fs in
          let o = made otherwise_of (if_mark (m.Reserved r.Else) inside) in
          let ended = bind_shuts false w k n i fs n (suc i) z _
          (λ a. made_shuts false w k n i fs n (suc i) z (λ u. a) (expect k)
          (close_shuts false w k n i fs n (suc i) z)) o
          (made_tally false n i fs otherwise_of (if_mark (m.Reserved r.Else) inside)
          (mark_tally false n i fs (m.Reserved r.Else) inside (plain _ refl refl refl refl refl refl) x)) in
          let filled = bind_shuts false w k n i fs n (suc i) z _
          (λ b. made_shuts false w k n i fs n (suc i) z (λ e. (b, e)) _ ended) inside x in
          bind_shuts false w k n i fs n (suc i) z _
          (λ q. made_shuts false w k n i fs n (suc i) z (λ b. (q, b)) _ filled) (question_at n)
          (part_tally false n i fs Anyhow (question_at n) question_part)

      branch_more : (j : ℕ) → Finds Anywhere n (suc i) fs (if_allowed (suc j) (m.Reserved r.If) (branch_with n inside))
      unfolding if_allowed eat_allowed
      branch_more j =
          mark_finds Anywhere n (suc i) fs (m.Reserved r.If) (branch_with n inside)
          (enclosed_at false (mark (m.Reserved r.If)) (m.Reserved r.Always) n i fs n (suc i) (encloses_if n i fs)
          (branch_with n inside) branch_shuts)

    module _ (b : Reading (Option Branching)) (l : Reading (Option Looping)) (tb : Finds Anywhere n i fs b)
        (tl : Finds Anywhere n i fs l) where
      one_finds : (from : Place) → Finds from n i fs (simple_at n) → Finds from n i fs (one_with n b l)
      unfolding one_with
      one_finds from x =
          made_of-finds from n i fs one_of _ (either_of-finds from n i fs b (found_at n i fs from b tb) (simple_at n) x)

      statement_tally : Tally false n i fs (statement_with n b l)
      unfolding statement_with
      statement_tally =
          found_tally n i fs _ (made_of-finds Settled n i fs statement_of _
          (either_of-finds Settled n i fs l (found_at n i fs Settled l tl) (one_with n b l)
          (one_finds Settled simple_settled)))

      level_tally : Tally false n i fs (block_with n b l)
      unfolding block_with
      level_tally =
          made_tally false n i fs block_of _ (star_tally false n i fs (statement_with n b l) statement_tally)

      -- DO and the part after it
      do_finds : Finds Anywhere n i fs (if_mark (m.Reserved r.Do) (before (block_with n b l) (m.Reserved r.Loop)))
      unfolding if_mark before
      do_finds =
          let w : Plain = mark (m.Reserved r.Do) in
          let k = m.Reserved r.Loop in
          let z = encloses_do n i fs in
          mark_finds Anywhere n i fs (m.Reserved r.Do) _ (enclosed_at false w k n i fs n i z _
          (bind_shuts false w k n i fs n i z _
          (λ a. made_shuts false w k n i fs n i z (λ u. a) (expect k) (close_shuts false w k n i fs n i z))
          (block_with n b l) level_tally))

      -- the part after a phrase
      controlled_reads : Reads Behind n i fs (controlled_with n b l)
      unfolding controlled_with
      controlled_reads =
          made_reads Behind n i fs controlled_of _ (either_reads Behind n i fs _
          (either_reads Behind n i fs _
          (either_reads Behind n i fs _
          (either_reads Behind n i fs _ (must_reads Behind n i fs (one_with n b l) (one_finds Behind simple_behind)) _
          (started_finds (m.Reserved r.Compute) (plain_word _ refl refl refl) refl (λ os. refl) (compute_at n)
          compute_part)) _
          (started_finds (m.Reserved r.Find) (plain_word _ refl refl refl) refl (λ os. refl) _ find_part)) l
          (found_at n i fs Behind l tl)) _
          (found_at n i fs Behind _ do_finds))

      -- ---- FOR, a phrase, and the part after it

      abbrev the_for : Plain
      the_for = mark (m.Reserved r.For)

      module _ (a : List Plain) (x : Inner a) (l0 : Leaves 0 a) (y : Walks false a true) where
        -- the open parts after words after the phrase
        led : (c : Bool) (os : List Open) (q : List Plain)
            → open_behind c os (the_for ∷ (a ++ q)) ≡ open_behind true (For ∷ os) q
        led c os q =
            behind_both false (For ∷ os) a q
            ∙ ap (λ (o : List Open). open_behind (ended_by false a) o q) (y.stays (For ∷ os))
            ∙ ap (λ (d : Bool). open_behind d (For ∷ os) q) y.ends

        led_full : (q : List Plain) (w : Option Plain) → FullAt Behind false n i fs q w
            → FullAt Anywhere false n i (suc fs) (the_for ∷ (a ++ q)) w
        led_full q (Some (mark (m.Sign sign.Open))) f =
            let g = l0.open_ones in omega (arith, g, f, count-append opens a q, count-append closes a q)
        led_full q (Some (mark (m.Reserved r.If))) f =
            omega (
              arith,
              f,
              none_of branches branches_build a x,
              none_of rejoins rejoins_build a x,
              count-append branches a q,
              count-append rejoins a q,
            )
        led_full q (Some (mark (m.Reserved r.For))) f =
            λ c os z. let g = f true (For ∷ os) refl in omega (arith, g, ap phrases_of (led c os q))
        led_full q (Some (name v)) f = absurd cc
        led_full q _ f = absurd f

        words : (ws r r' q : List Plain) → ws ≡ a ++ r → r ≡ q ++ r' → the_for ∷ ws ≡ (the_for ∷ (a ++ q)) ++ r'
        words ws r r' q e e2 =
            ap (λ (u : List Plain). the_for ∷ u)
            (e ∙ ap (λ (u : List Plain). a ++ u) e2 ∙ sym (append_assoc a q r'))

        led_out : {A : Type 0} (o : Result A Refusal) (ws r r' : List Plain) → ws ≡ a ++ r
            → OutAt Behind false n i fs o r r' → OutAt Anywhere false n i (suc fs) o (the_for ∷ ws) r'
        led_out (Ok b) ws r r' e (q, e2, u) = (
          the_for ∷ (a ++ q),
          words ws r r' q e e2,
          record {
            parentheses = (let g = l0.open_ones in let p = u.parentheses in
                omega (arith, g, p, count-append opens a q, count-append closes a q));
            ifs = (let p = u.ifs in omega (
              arith,
              p,
              none_of branches branches_build a x,
              none_of rejoins rejoins_build a x,
              count-append branches a q,
              count-append rejoins a q,
            ));
            phrases = λ c os z. led c os q ∙ u.phrases true (For ∷ os) refl;
            no_end = (let p = u.no_end in omega (arith, p, none_of ends ends_build a x, count-append ends a q));
          },
        )
        led_out (Err Unexpected) ws r r' e (q, e2, u) = (
          the_for ∷ (a ++ q),
          words ws r r' q e e2,
          record {
            parentheses = (let g = l0.open_ones in let p = u.parentheses in
                omega (arith, g, p, count-append opens a q, count-append closes a q));
            ifs = (let p = u.ifs in omega (
              arith,
              p,
              none_of branches branches_build a x,
              none_of rejoins rejoins_build a x,
              count-append branches a q,
              count-append rejoins a q,
            ));
            phrases = λ c os z. let g = u.phrases true (For ∷ os) refl in
                omega (arith, g, ap phrases_of (led c os q));
            no_end = (let p = u.no_end in omega (arith, p, none_of ends ends_build a x, count-append ends a q));
          },
        )
        led_out (Err Memory) ws r r' e out = out
        led_out (Err PastLimit) ws r r' e (q, e2, u) = (
          the_for ∷ (a ++ q),
          words ws r r' q e e2,
          record {
            full = led_full q (first r') u.full;
            no_end = (let p = u.no_end in omega (arith, p, none_of ends ends_build a x, count-append ends a q));
          },
        )

      abbrev controls : Phrase → Reading Looping
      controls f = bind (controlled_with n b l) (λ c. pure (f, c))

      loop_out : (o : Result Phrase Refusal) (ws r : List Plain) → PartOut n (λ f q. Walks false q true) o ws r
          → (let x : Read Looping = goes_on controls o r in
          OutAt Anywhere false n i (suc fs) x.0 (the_for ∷ ws) x.1)
      unfolding bind
      loop_out (Ok f) ws r (q, e, x, l0, y) =
          let c = controlled_reads in
          let x' = controls f r in
          led_out q x l0 y x'.0 ws r x'.1 e
          (made_read Behind n i fs (λ (c : Controlled). let u : Looping = (f, c) in u) (controlled_with n b l r).0 r
          (controlled_with n b l r).1 (c.at r))
      loop_out (Err Unexpected) ws r (q, e, x, l0) = (
        the_for ∷ q,
        ap (λ (u : List Plain). the_for ∷ u) e,
        record {
          parentheses = (let g = l0.open_ones in omega (arith, g));
          ifs = omega (arith, none_of branches branches_build q x);
          phrases = λ c os z. let g = inner_opens_none false (For ∷ os) q x in omega (arith, g);
          no_end = omega (arith, none_of ends ends_build q x);
        },
      )
      loop_out (Err Memory) ws r out = out
      loop_out (Err PastLimit) ws r (q, e, x, f) = (
        the_for ∷ q,
        ap (λ (u : List Plain). the_for ∷ u) e,
        record { full = full_by q (first r) f; no_end = omega (arith, none_of ends ends_build q x) },
      )
        where
          full_by : (q : List Plain) (w : Option Plain) → Refused n q w
              → FullAt Anywhere false n i (suc fs) (the_for ∷ q) w
          full_by q (Some (mark (m.Sign sign.Open))) f = omega (arith, f)
          full_by q _ f = absurd f

      loop_more : (j : ℕ) → Finds Anywhere n i (suc fs) (if_allowed (suc j) (m.Reserved r.For)
          (pair (phrase_at n) (controlled_with n b l)))
      unfolding if_allowed eat_allowed pair bind
      loop_more j =
          let p = phrase_part in
          mark_finds Anywhere n i (suc fs) (m.Reserved r.For) _
          (λ ws. loop_out (phrase_at n ws).0 ws (phrase_at n ws).1 (p.at ws))

  loop_finds : (i : ℕ) (b : ℕ → Reading (Option Branching)) → ((f : ℕ) → Finds Anywhere n i f (b f)) → (f : ℕ)
      → Finds Anywhere n i f (loop_in n b f)
  unfolding loop_in
  loop_finds i b tb zero =
      shut_finds _ (m.Reserved r.For) n i 0 (λ c os z. omega arith) (pair (phrase_at n) (refuse PastLimit))
  loop_finds i b tb (suc f) = loop_more i f (b f) (loop_in n b f) (tb f) (loop_finds i b tb f) f

  branch_finds : (i f : ℕ) → Finds Anywhere n i f (branch_at n i f)
  unfolding branch_at
  branch_finds zero f = shut_finds _ (m.Reserved r.If) n 0 f refl (branch_with n (refuse PastLimit))
  branch_finds (suc i) f =
      branch_more i f (block_with n (branch_at n i f) (loop_in n (branch_at n i) f))
      (level_tally i f (branch_at n i f) (loop_in n (branch_at n i) f) (branch_finds i f)
      (loop_finds i (branch_at n i) (branch_finds i) f)) i

  pub block_tally : (i f : ℕ) → Tally false n i f (block_at n i f)
  unfolding block_at
  block_tally i f =
      level_tally i f (branch_at n i f) (loop_in n (branch_at n i) f) (branch_finds i f)
      (loop_finds i (branch_at n i) (branch_finds i) f)
