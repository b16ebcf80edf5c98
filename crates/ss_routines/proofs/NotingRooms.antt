-- IF and FOR by how many more may be open, if it is known whether the word is there.
use Rattle.std.proofs.Common.{◌≡◌, ℕ, zero, suc, ◌-◌, ◌<◌, Bool, true, false, List, length}
use Rattle.std.proofs.Common.{Ok, Err, refl, sym, ap, ◌∙◌, arith}
use Rattle.ss_words.specs.declared.mark.Mark.{Mark}
use Rattle.ss_words.specs.declared.mark.Mark.TheVariants as m
use Rattle.ss_words.specs.declared.reserved.Reserved.TheVariants as r
use Rattle.ss_words.specs.declared.refusal.Refusal.{Refusal}
use Rattle.ss_words.specs.declared.refusal.Refusal.TheVariants.{PastLimit}
use Rattle.std.proofs.lemmas.List.{length-map}
use Rattle.ss_words.specs.declared.plain_word.PlainWord.{PlainWord}
use Rattle.ss_words.specs.Plain.{Plain, first, word_lines}
use Rattle.ss_words.specs.Reading.{Read, Reading, goes_on, bind, pure, refuse, look}
use Rattle.ss_words.specs.Marks.{is, eat}
use Rattle.ss_words.specs.Noting.{line, here}
use Rattle.ss_routines.specs.Combined.{eat_allowed}
use Rattle.ss_routines.specs.Loops.{Phrase}
use Rattle.ss_routines.specs.LoopReading.{phrase_at}
use Rattle.ss_routines.specs.Places.{Spot}
use Rattle.ss_routines.specs.PlacesAtLines.{NotingItem, noting_branch, noting_controlled, noting_loop, noting_if}
use Rattle.ss_routines.specs.PlacesAtLines.{noting_statements}

-- ---- a mark of which n may be open

pub allowed_more : (n : ℕ) (k : Mark) → 0 < n → eat_allowed n k ≡ eat k
unfolding eat_allowed
allowed_more zero k lt = absurd (omega (arith, lt))
allowed_more (suc n) k lt = refl

allowed_none : (n : ℕ) (k : Mark) (b : Bool) (ws : List Plain) → n ≡ 0 → is k (first ws) ≡ b
    → eat_allowed n k ws ≡ (let p : Reading Bool = elim b [ true ↦ refuse PastLimit | false ↦ pure false ] in p ws)
unfolding eat_allowed look
allowed_none zero k b ws e h =
    ap (λ (c : Bool). let p : Reading Bool = elim c [ true ↦ refuse PastLimit | false ↦ pure false ] in p ws) h
allowed_none (suc n) k b ws e h = absurd (omega (arith, e))

pub allowed_shut : (n : ℕ) (k : Mark) (ws : List Plain) → n ≡ 0 → is k (first ws) ≡ true
    → eat_allowed n k ws ≡ (Err PastLimit, ws)
unfolding refuse
allowed_shut n k ws e h = allowed_none n k true ws e h

pub allowed_not : (n : ℕ) (k : Mark) (ws : List Plain) → n ≡ 0 → is k (first ws) ≡ false
    → eat_allowed n k ws ≡ (Ok false, ws)
unfolding pure
allowed_not n k ws e h = allowed_none n k false ws e h

-- ---- IF and FOR

module _ (lines : List ℕ) (n : ℕ) where
  -- the line of the next word
  abbrev here_line : List Plain → ℕ
  here_line ws = line lines (length lines - length ws)

  pub if_fails : (i f : ℕ) (acc : List Spot) (ws z : List Plain) (g : Refusal)
      → eat_allowed i (m.Reserved r.If) ws ≡ (Err g, z) → noting_if lines n i f acc ws ≡ (Err g, z)
  unfolding noting_if here bind
  if_fails zero f acc ws z g e =
      ap (λ (x : Read Bool). goes_on (λ b. elim b [ true ↦ refuse PastLimit | false ↦ pure (false, acc) ]) x.0 x.1) e
  if_fails (suc i) f acc ws z g e =
      ap (λ (x : Read Bool). goes_on (λ b. elim b [
        | true ↦ (λ v. goes_on (λ a. pure (true, a))
            (noting_branch lines n (noting_statements lines n i f) (here_line ws) acc v).0
            (noting_branch lines n (noting_statements lines n i f) (here_line ws) acc v).1)
        | false ↦ pure (false, acc)
      ]) x.0
      x.1) e

  pub if_absent : (i f : ℕ) (acc : List Spot) (ws z : List Plain) → eat_allowed i (m.Reserved r.If) ws ≡ (Ok false, z)
      → noting_if lines n i f acc ws ≡ (Ok (false, acc), z)
  unfolding noting_if here bind pure
  if_absent zero f acc ws z e =
      ap (λ (x : Read Bool). goes_on (λ b. elim b [ true ↦ refuse PastLimit | false ↦ pure (false, acc) ]) x.0 x.1) e
  if_absent (suc i) f acc ws z e =
      ap (λ (x : Read Bool). goes_on (λ b. elim b [
        | true ↦ (λ v. goes_on (λ a. pure (true, a))
            (noting_branch lines n (noting_statements lines n i f) (here_line ws) acc v).0
            (noting_branch lines n (noting_statements lines n i f) (here_line ws) acc v).1)
        | false ↦ pure (false, acc)
      ]) x.0
      x.1) e

  if_suc : (i f : ℕ) (acc : List Spot) (ws z : List Plain) → eat_allowed (suc i) (m.Reserved r.If) ws ≡ (Ok true, z)
      → noting_if lines n (suc i) f acc ws ≡ bind (noting_branch lines n (noting_statements lines n i f) (here_line ws)
      acc) (λ a. pure (true, a)) z
  unfolding noting_if here bind
  if_suc i f acc ws z e =
      ap (λ (x : Read Bool). goes_on (λ b. elim b [
        | true ↦ (λ v. goes_on (λ a. pure (true, a))
            (noting_branch lines n (noting_statements lines n i f) (here_line ws) acc v).0
            (noting_branch lines n (noting_statements lines n i f) (here_line ws) acc v).1)
        | false ↦ pure (false, acc)
      ]) x.0
      x.1) e

  if_at : (i j f : ℕ) (acc : List Spot) (ws z : List Plain) → i ≡ suc j → eat_allowed i (m.Reserved r.If) ws
      ≡ (Ok true, z)
      → noting_if lines n i f acc ws ≡ bind (noting_branch lines n (noting_statements lines n j f) (here_line ws) acc)
      (λ a. pure (true, a)) z
  if_at zero j f acc ws z h e = absurd (omega (arith, h))
  if_at (suc i) j f acc ws z h e =
      let same_room : i ≡ j = omega (arith, h) in if_suc i f acc ws z e
      ∙ ap (λ (k : ℕ). bind (noting_branch lines n (noting_statements lines n k f) (here_line ws) acc)
      (λ a. pure (true, a)) z) same_room

  pub if_there : (i f : ℕ) (acc : List Spot) (ws z : List Plain) → 0 < i → eat_allowed i (m.Reserved r.If) ws
      ≡ (Ok true, z)
      → noting_if lines n i f acc ws ≡ bind (noting_branch lines n (noting_statements lines n (i - 1) f) (here_line ws)
      acc) (λ a. pure (true, a)) z
  if_there i f acc ws z lt e = if_at i (i - 1) f acc ws z (omega (arith, lt)) e

  module _ (b : ℕ → NotingItem) where
    abbrev behind_for : ℕ → List Spot → List Plain → Bool → Reading (Bool × List Spot)
    behind_for f acc ws c =
        elim c [
          | true ↦ bind (phrase_at n) (λ g. bind (noting_controlled lines n (b f) (noting_loop lines n b f)
              (here_line ws) g acc) (λ a. pure (true, a)))
          | false ↦ pure (false, acc)
        ]

    pub for_fails : (f : ℕ) (acc : List Spot) (ws z : List Plain) (g : Refusal)
        → eat_allowed f (m.Reserved r.For) ws ≡ (Err g, z) → noting_loop lines n b f acc ws ≡ (Err g, z)
    unfolding noting_loop here bind
    for_fails zero acc ws z g e =
        ap (λ (x : Read Bool). goes_on (λ b. elim b [ true ↦ refuse PastLimit | false ↦ pure (false, acc) ]) x.0 x.1) e
    for_fails (suc f) acc ws z g e = ap (λ (x : Read Bool). goes_on (behind_for f acc ws) x.0 x.1) e

    pub for_absent : (f : ℕ) (acc : List Spot) (ws z : List Plain) → eat_allowed f (m.Reserved r.For) ws ≡ (Ok false, z)
        → noting_loop lines n b f acc ws ≡ (Ok (false, acc), z)
    unfolding noting_loop here bind pure
    for_absent zero acc ws z e =
        ap (λ (x : Read Bool). goes_on (λ b. elim b [ true ↦ refuse PastLimit | false ↦ pure (false, acc) ]) x.0 x.1) e
    for_absent (suc f) acc ws z e = ap (λ (x : Read Bool). goes_on (behind_for f acc ws) x.0 x.1) e

    for_suc : (f : ℕ) (acc : List Spot) (ws z : List Plain) → eat_allowed (suc f) (m.Reserved r.For) ws ≡ (Ok true, z)
        → noting_loop lines n b (suc f) acc ws ≡ behind_for f acc ws true z
    unfolding noting_loop here bind
    for_suc f acc ws z e = ap (λ (x : Read Bool). goes_on (behind_for f acc ws) x.0 x.1) e

    for_at : (f g : ℕ) (acc : List Spot) (ws z : List Plain) → f ≡ suc g
        → eat_allowed f (m.Reserved r.For) ws ≡ (Ok true, z) → noting_loop lines n b f acc ws
        ≡ behind_for g acc ws true z
    for_at zero g acc ws z h e = absurd (omega (arith, h))
    for_at (suc f) g acc ws z h e =
        let same_room : f ≡ g = omega (arith, h) in for_suc f acc ws z e
        ∙ ap (λ (k : ℕ). behind_for k acc ws true z) same_room

    pub for_there : (f : ℕ) (acc : List Spot) (ws z : List Plain) → 0 < f
        → eat_allowed f (m.Reserved r.For) ws ≡ (Ok true, z)
        → noting_loop lines n b f acc ws ≡ bind (phrase_at n)
        (λ g. bind (noting_controlled lines n (b (f - 1)) (noting_loop lines n b (f - 1)) (here_line ws) g acc)
        (λ a. pure (true, a))) z
    for_there f acc ws z lt e = for_at f (f - 1) acc ws z (omega (arith, lt)) e

-- ---- the same of a text's words

module _ (text : List PlainWord) (n : ℕ) where
  abbrev lines : List ℕ
  lines = word_lines text

  -- the line of the next word
  abbrev line_of : List Plain → ℕ
  line_of ws = line lines (length text - length ws)

  same_line : (ws : List Plain) (l : ℕ) → l ≡ line_of ws → line lines (length lines - length ws) ≡ l
  same_line ws l e = ap (λ (k : ℕ). line lines (k - length ws)) (length-map text (λ w. w.word.now.line)) ∙ sym e

  module _ (i f : ℕ) (acc : List Spot) (ws z : List Plain) (lt : 0 < i)
      (e : eat_allowed i (m.Reserved r.If) ws ≡ (Ok true, z)) (l : ℕ) (at : l ≡ line_of ws) where
    if_behind : noting_if lines n i f acc ws ≡ bind (noting_branch lines n (noting_statements lines n (i - 1) f) l acc)
        (λ a. pure (true, a)) z
    if_behind =
        if_there lines n i f acc ws z lt e ∙ ap (λ (k : ℕ). bind
        (noting_branch lines n (noting_statements lines n (i - 1) f) k acc) (λ a. pure (true, a)) z) (same_line ws l at)

    pub if_done : (new : List Spot) (y : List Plain) → noting_branch lines n (noting_statements lines n (i - 1) f) l acc
        z ≡ (Ok new, y) → noting_if lines n i f acc ws ≡ (Ok (true, new), y)
    unfolding bind pure
    if_done new y h = if_behind ∙ ap (λ (x : Read (List Spot)). goes_on (λ a. pure (true, a)) x.0 x.1) h

    pub if_undone : (g : Refusal) (y : List Plain) → noting_branch lines n (noting_statements lines n (i - 1) f) l acc
        z ≡ (Err g, y) → noting_if lines n i f acc ws ≡ (Err g, y)
    unfolding bind
    if_undone g y h = if_behind ∙ ap (λ (x : Read (List Spot)). goes_on (λ a. pure (true, a)) x.0 x.1) h

  module _ (b : ℕ → NotingItem) (f : ℕ) (acc : List Spot) (ws z : List Plain) (lt : 0 < f)
      (e : eat_allowed f (m.Reserved r.For) ws ≡ (Ok true, z)) where
    pub for_unread : (g : Refusal) (y : List Plain) → phrase_at n z ≡ (Err g, y)
        → noting_loop lines n b f acc ws ≡ (Err g, y)
    unfolding bind
    for_unread g y h =
        for_there lines n b f acc ws z lt e ∙ ap (λ (x : Read Phrase). goes_on
        (λ g. bind (noting_controlled lines n (b (f - 1)) (noting_loop lines n b (f - 1))
        (line lines (length lines - length ws)) g acc) (λ a. pure (true, a))) x.0 x.1) h

    module _ (l : ℕ) (at : l ≡ line_of ws) (g : Phrase) (y : List Plain) (read : phrase_at n z ≡ (Ok g, y)) where
      for_behind : noting_loop lines n b f acc ws ≡ bind
          (noting_controlled lines n (b (f - 1)) (noting_loop lines n b (f - 1)) l g acc) (λ a. pure (true, a)) y
      unfolding bind
      for_behind =
          for_there lines n b f acc ws z lt e ∙ ap (λ (x : Read Phrase). goes_on
          (λ g. bind (noting_controlled lines n (b (f - 1)) (noting_loop lines n b (f - 1))
          (line lines (length lines - length ws)) g acc) (λ a. pure (true, a))) x.0 x.1) read
          ∙ ap (λ (k : ℕ). bind (noting_controlled lines n (b (f - 1)) (noting_loop lines n b (f - 1)) k g acc)
          (λ a. pure (true, a)) y) (same_line ws l at)

      pub for_done : (new : List Spot) (u : List Plain)
          → noting_controlled lines n (b (f - 1)) (noting_loop lines n b (f - 1)) l g acc y ≡ (Ok new, u)
          → noting_loop lines n b f acc ws ≡ (Ok (true, new), u)
      unfolding bind pure
      for_done new u h = for_behind ∙ ap (λ (x : Read (List Spot)). goes_on (λ a. pure (true, a)) x.0 x.1) h

      pub for_undone : (q : Refusal) (u : List Plain) → noting_controlled lines n (b (f - 1))
          (noting_loop lines n b (f - 1)) l g acc y ≡ (Err q, u) → noting_loop lines n b f acc ws ≡ (Err q, u)
      unfolding bind
      for_undone q u h = for_behind ∙ ap (λ (x : Read (List Spot)). goes_on (λ a. pure (true, a)) x.0 x.1) h
