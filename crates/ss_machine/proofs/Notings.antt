-- the notes that several pieces of a step leave in the journal
use Rattle.std.proofs.Common.{◌≡◌, ℕ, ◌+◌, ◌≤◌, List, [], ◌∷◌, length, arith, refl, ap, sym, subst, ◌∙◌}
use Rattle.ss_journal.specs.Log.{Log}
use Rattle.ss_journal.specs.Undoing.{unapply_all, FitsAll, WorkKeepsOrigin}
use Rattle.ss_state.specs.Change.{Change}
use Rattle.ss_state.specs.Change.{Fits, unapply}
use Rattle.ss_state.specs.Held.{Held}
use Rattle.ss_machine.specs.declared.executor.Executor.{Executor}
use Rattle.ss_machine.specs.Noting.{Notes}

pub notes_both : {S : Type 0} (m n k : ℕ) (a b c : Executor S) → Notes m a b → Notes n b c → m + n ≤ k → Notes k a c
notes_both m n k a b c f g h = record {
  origin = g.origin ∙ f.origin;
  fitting = λ x. g.fitting (f.fitting x);
  steps = g.steps ∙ f.steps;
  closes = omega (arith, f.closes, g.closes);
  noted = omega (arith, f.noted, g.noted, h);
  room = omega (arith, f.room, g.room, h);
}

pub notes_within : {S : Type 0} (m n : ℕ) (a b : Executor S) → Notes m a b → m ≤ n → Notes n a b
notes_within m n a b f h = record {
  origin = f.origin;
  fitting = f.fitting;
  steps = f.steps;
  closes = f.closes;
  noted = omega (arith, f.noted, h);
  room = omega (arith, f.room, h);
}

-- nothing was done, and nothing noted
pub notes_none : (n : ℕ) (h k : Held) (j : Log Change) → k ≡ h → WorkKeepsOrigin Fits unapply n h j k j
notes_none n h k j e = record {
  origin = ap (λ (x : Held). unapply_all unapply j.current x) e;
  fitting = λ f. subst (λ (x : Held). FitsAll Fits unapply j.current x) (sym e) f;
  steps = refl;
  closes = omega arith;
  noted = omega arith;
  room = omega arith;
}

-- room was made, and nothing noted
pub noted_room : (n : ℕ) (h : Held) (i j : Log Change) → j.steps ≡ i.steps → j.current ≡ i.current →
    i.notes ≤ j.notes → i.closes ≤ j.closes → WorkKeepsOrigin Fits unapply n h i h j
noted_room n h i j steps current notes closes = record {
  origin = ap (λ (cs : List Change). unapply_all unapply cs h) current;
  fitting = λ f. subst (λ (cs : List Change). FitsAll Fits unapply cs h) (sym current) f;
  steps = steps;
  closes = closes;
  noted = omega (arith, ap length current);
  room = omega (arith, notes);
}

-- one change was noted
pub noted_one : (c : Change) (h k : Held) (i j : Log Change) → Fits c k → unapply c k ≡ h → j.steps ≡ i.steps →
    j.current ≡ c ∷ i.current → i.notes ≤ j.notes + 1 → j.closes ≡ i.closes → WorkKeepsOrigin Fits unapply 1 h i k j
noted_one c h k i j fit back steps current notes closes = record {
  origin = ap (λ (cs : List Change). unapply_all unapply cs k) current ∙ ap (unapply_all unapply i.current) back;
  fitting =
      λ before. subst (λ (cs : List Change). FitsAll Fits unapply cs k) (sym current)
      (fit, subst (FitsAll Fits unapply i.current) (sym back) before);
  steps = steps;
  closes = omega (arith, closes);
  noted = omega (arith, ap length current);
  room = omega (arith, notes);
}

-- the open step is taken back first
pub noted_anew : {S : Type 0} (n : ℕ) (a b c : Executor S) →
    b.held ≡ unapply_all unapply a.journal.current a.held → b.journal.steps ≡ a.journal.steps →
    b.journal.current ≡ [] → a.journal.notes ≤ b.journal.notes → b.journal.closes ≡ a.journal.closes → Notes n b c →
    Notes n a c
noted_anew n a b c held steps current notes closes f = record {
  origin = f.origin ∙ ap (λ (cs : List Change). unapply_all unapply cs b.held) current ∙ held;
  fitting = λ x. f.fitting (subst (λ (cs : List Change). FitsAll Fits unapply cs b.held) (sym current) tt);
  steps = f.steps ∙ steps;
  closes = omega (arith, f.closes, closes);
  noted = omega (arith, f.noted, ap length current);
  room = omega (arith, f.room, notes);
}

-- one change more was noted
pub noted_more : (n : ℕ) (h k l : Held) (i j m : Log Change) → WorkKeepsOrigin Fits unapply n h i k j →
    WorkKeepsOrigin Fits unapply 1 k j l m → WorkKeepsOrigin Fits unapply (n + 1) h i l m
noted_more n h k l i j m f g = record {
  origin = g.origin ∙ f.origin;
  fitting = λ x. g.fitting (f.fitting x);
  steps = g.steps ∙ f.steps;
  closes = omega (arith, f.closes, g.closes);
  noted = omega (arith, f.noted, g.noted);
  room = omega (arith, f.room, g.room);
}
