-- The laws of the reading of heads.
use Rattle.std.proofs.Common.{◌≡◌, ℕ, zero, suc, ◌-◌, ◌≤◌, Bool, true, false, List, [], ◌∷◌}
use Rattle.std.proofs.Common.{length, Option, Some, Err, refl, sym, ap, subst}
use Rattle.std.proofs.Common.{arith}
use Rattle.std.proofs.lemmas.List.{append-nil}
use mathlib.Core.Logic.{inr}
use Rattle.ss_words.specs.declared.mark.Mark.{Mark}
use Rattle.ss_words.specs.declared.mark.Mark.TheVariants as m
use Rattle.ss_words.specs.declared.word.Sign.TheVariants as s
use Rattle.ss_words.specs.declared.reserved.Reserved.TheVariants as r
use Rattle.ss_words.specs.declared.refusal.Refusal.{Refusal}
use Rattle.ss_words.specs.declared.refusal.Refusal.TheVariants.{Unexpected, PastLimit}
use Rattle.ss_words.specs.Plain.{Plain, name, number, mark, picture, first}
use Rattle.ss_words.specs.Lists.{Name, Several, all_of, spell_others, spell_several}
use Rattle.ss_words.specs.Reading.{Read, Reading, goes_on, bind, pure, refuse, look, skip}
use Rattle.ss_words.specs.Marks.{is, expect, eat, a_name}
use Rattle.ss_words.proofs.Laws.{Good, Any, pure_good, refuse_good, bind_good}
use Rattle.ss_words.proofs.Marks.{is_mark, spell_mark, spell_eaten, spell_name, expect_good, eat_good, name_good}
use Rattle.ss_routines.specs.Simple.{Listing, Unwritten, BehindGiven, InParentheses}
use Rattle.ss_routines.specs.SimpleSpelling.{spell_behind, spell_listing}
use Rattle.ss_routines.specs.Loops as loops
use Rattle.ss_routines.specs.Tree.{Head, MainHead, RoutineHead, EventHead, listing_names, parameters_head, spell_saving}
use Rattle.ss_routines.specs.Tree.{spell_head}
use Rattle.ss_routines.specs.Refused.{announces}
use Rattle.ss_routines.specs.SectionReading.{no_name, others_at, names_at, given_at, yielded_at, saving, routine_at}
use Rattle.ss_routines.specs.SectionReading.{event_at, head_by, head_at}
use Rattle.ss_routines.proofs.AnnouncedParts.{IsKept, Keeps, KeepsAt, keeps_of, bind_keeps, keeps_at}
use Rattle.ss_routines.proofs.AnnouncedParts.{look_keeps, skip_keeps}

-- ---- the part that is read keeps the limits

-- a name, if there may be no more
refused_name : {A : Type 0} (ws : List Plain) → (g : Refusal) × (no_name {A = A} ws ≡ (Err g, ws))
unfolding no_name look refuse
refused_name [] = (Unexpected, refl)
refused_name (name v ∷ ws) = (PastLimit, refl)
refused_name (number i ∷ ws) = (Unexpected, refl)
refused_name (mark k ∷ ws) = (Unexpected, refl)
refused_name (picture ls ∷ ws) = (Unexpected, refl)

-- after a word that announces a name there is none; without that word, a is there
module _ {A : Type 0} (fits : A → Type 0) (sp : A → List Plain) (k : Mark) (tells : announces (mark k) ≡ true) (a b : A)
    (f : fits a) (e : sp a ≡ []) (y : List Plain) (h : sp b ≡ mark k ∷ y)
    (p : Reading A) (refuses : (ws : List Plain) → (g : Refusal) × (p ws ≡ (Err g, ws))) where
  abbrev full : Bool → Reading A
  full c = elim c [ true ↦ p | false ↦ pure a ]

  refused_at : (ws : List Plain) (x : Read A) → (g : Refusal) × (x ≡ (Err g, ws))
      → IsKept fits sp [] x.0 (mark k ∷ ws) x.1
  refused_at ws x (g, is) =
      let there : IsKept fits sp [] (Err g) (mark k ∷ ws) ws = (
        mark k ∷ [],
        refl,
        inr (record {
          front = [];
          last = mark k;
          words = refl;
          counts_not = tells;
          within = (a, f, [], e);
          begins = (b, tt, y, h);
        }),
      ) in
      subst (λ (z : Read A). IsKept fits sp [] z.0 (mark k ∷ ws) z.1) (sym is) there

  full_at : (c : Bool) (ws : List Plain) → is k (first ws) ≡ c
      → (let t : Reading Bool = elim c [ true ↦ skip (pure true) | false ↦ pure false ] in IsKept fits sp []
      (goes_on full (t ws).0 (t ws).1).0 ws (goes_on full (t ws).0 (t ws).1).1)
  unfolding skip pure
  full_at true [] eq = absurd cc
  full_at true (v ∷ ws) eq = rw (is_mark k v eq) (refused_at ws (p ws) (refuses ws))
  full_at false ws eq = (f, [], refl, e)

  pub full_keeps : Keeps fits sp [] (bind (eat k) full)
  unfolding bind eat look
  full_keeps = record { at = λ ws. full_at (is k (first ws)) ws refl; some = (a, f, [], e) }

-- ---- lists of names

abbrev pub spell_more : List Name → List Plain
spell_more ns = spell_others loops.spell_name ns

abbrev pub spell_list : Several Name → List Plain
spell_list ns = spell_several loops.spell_name ns

abbrev AtMost : ℕ → List Name → Type 0
AtMost k ns = length ns ≤ k

others_keep : (k : ℕ) → Keeps (AtMost k) spell_more [] (others_at k)
unfolding others_at
others_keep zero =
    full_keeps (AtMost 0) spell_more (m.Sign s.Comma) refl [] ([] ∷ []) (omega arith) refl (name [] ∷ []) refl no_name
    refused_name
others_keep (suc k) = bind_keeps Any (AtMost (suc k)) (spell_eaten (m.Sign s.Comma)) spell_more [] _ (elim [
  | true ↦ (λ u. bind_keeps Any (AtMost (suc k)) spell_name spell_more (mark (m.Sign s.Comma) ∷ []) _
      (λ n u. bind_keeps (AtMost k) (AtMost (suc k)) spell_more spell_more (mark (m.Sign s.Comma) ∷ name n ∷ []) _
      (λ ns h. keeps_of (AtMost (suc k)) spell_more _ (pure (n ∷ ns))
      (pure_good (AtMost (suc k)) spell_more _ (n ∷ ns) (omega (arith, h)) refl))
      (λ ns. (n ∷ ns, tt, [], sym (append-nil (spell_more (n ∷ ns))))) (others_at k) (others_keep k))
      (λ n. (n ∷ [], tt, [], refl)) a_name (keeps_of Any spell_name [] a_name name_good))
  | false ↦ (λ u. keeps_of (AtMost (suc k)) spell_more _ (pure [])
      (pure_good (AtMost (suc k)) spell_more _ [] (omega arith) refl))
]) (elim [ true ↦ ([] ∷ [], tt, name [] ∷ [], refl) | false ↦ ([], tt, [], refl) ]) (eat (m.Sign s.Comma))
    (keeps_of Any (spell_eaten (m.Sign s.Comma)) [] (eat (m.Sign s.Comma)) (eat_good (m.Sign s.Comma)))

abbrev AtMostOf : ℕ → Several Name → Type 0
AtMostOf k ns = length (all_of ns) ≤ k

abbrev named : Name → List Name → Several Name
named n ns = record { first = n; others = ns }

names_keep : (k : ℕ) → Keeps (AtMostOf (suc k)) spell_list [] (names_at (suc k))
unfolding names_at
names_keep k =
    bind_keeps Any (AtMostOf (suc k)) spell_name spell_list [] _
    (λ n u. bind_keeps (AtMost k) (AtMostOf (suc k)) spell_more spell_list (name n ∷ []) _
    (λ ns h. keeps_of (AtMostOf (suc k)) spell_list _ (pure (named n ns))
    (pure_good (AtMostOf (suc k)) spell_list _ (named n ns) (omega (arith, h)) refl))
    (λ ns. (named n ns, tt, [], sym (append-nil (spell_list (named n ns))))) (others_at k) (others_keep k))
    (λ n. (named n [], tt, [], refl)) a_name (keeps_of Any spell_name [] a_name name_good)

-- ---- parameters

abbrev pub AtMostGiven : ℕ → Listing Name → Type 0
AtMostGiven k ps = length (listing_names ps) ≤ k

abbrev pub spell_given : Listing Name → List Plain
spell_given ps = spell_listing loops.spell_name ps

pub given_keep : (k : ℕ) → Keeps (AtMostGiven (suc k)) spell_given [] (given_at (suc k))
unfolding given_at
given_keep k = bind_keeps Any (AtMostGiven (suc k)) (spell_eaten (m.Reserved r.Given)) spell_given [] _ (elim [
  | true ↦ (λ u. bind_keeps (AtMostOf (suc k)) (AtMostGiven (suc k)) spell_list spell_given
      (mark (m.Reserved r.Given) ∷ []) _
      (λ ns h. keeps_of (AtMostGiven (suc k)) spell_given _ (pure (BehindGiven ns))
      (pure_good (AtMostGiven (suc k)) spell_given _ (BehindGiven ns) h refl))
      (λ ns. (BehindGiven ns, tt, [], sym (append-nil (spell_given (BehindGiven ns))))) (names_at (suc k))
      (names_keep k))
  | false ↦ (λ u. bind_keeps Any (AtMostGiven (suc k)) (spell_eaten (m.Sign s.Open)) spell_given [] _ (elim [
    | true ↦ (λ u. bind_keeps (AtMostOf (suc k)) (AtMostGiven (suc k)) spell_list spell_given
        (mark (m.Sign s.Open) ∷ []) _ (λ ns h. bind_keeps Any (AtMostGiven (suc k)) (spell_mark (m.Sign s.Close))
        spell_given (mark (m.Sign s.Open) ∷ spell_list ns) _
        (λ v u. keeps_of (AtMostGiven (suc k)) spell_given _ (pure (InParentheses ns))
        (pure_good (AtMostGiven (suc k)) spell_given _ (InParentheses ns) h refl))
        (λ v. (InParentheses ns, tt, [], sym (append-nil (spell_given (InParentheses ns)))))
        (expect (m.Sign s.Close)) (keeps_of Any (spell_mark (m.Sign s.Close)) [] (expect (m.Sign s.Close))
        (expect_good (m.Sign s.Close))))
        (λ ns. (InParentheses ns, tt, mark (m.Sign s.Close) ∷ [], refl)) (names_at (suc k)) (names_keep k))
    | false ↦ (λ u. keeps_of (AtMostGiven (suc k)) spell_given _ (pure Unwritten)
        (pure_good (AtMostGiven (suc k)) spell_given _ Unwritten (omega arith) refl))
  ]) (elim [
    | true ↦ (InParentheses (named [] []), tt, name [] ∷ mark (m.Sign s.Close) ∷ [], refl)
    | false ↦ (
      Unwritten,
      tt,
      [],
      refl,
    )
  ]) (eat (m.Sign s.Open)) (keeps_of Any (spell_eaten (m.Sign s.Open)) [] (eat (m.Sign s.Open))
      (eat_good (m.Sign s.Open))))
]) (elim [ true ↦ (BehindGiven (named [] []), tt, name [] ∷ [], refl) | false ↦ (Unwritten, tt, [], refl) ])
    (eat (m.Reserved r.Given)) (keeps_of Any (spell_eaten (m.Reserved r.Given)) [] (eat (m.Reserved r.Given))
    (eat_good (m.Reserved r.Given)))

abbrev pub spell_yielded : List Name → List Plain
spell_yielded ys = spell_behind (m.Reserved r.Yielding) loops.spell_name ys

refused_names : (ws : List Plain) → (g : Refusal) × (bind (names_at 0) (λ ns. pure (all_of ns)) ws ≡ (Err g, ws))
unfolding names_at bind
refused_names ws =
    let (g, e) = refused_name ws in (g, ap (λ (x : Read (Several Name)). goes_on (λ ns. pure (all_of ns)) x.0 x.1) e)

pub yielded_keep : (k : ℕ) → Keeps (AtMost k) spell_yielded [] (yielded_at k)
unfolding yielded_at
yielded_keep zero =
    full_keeps (AtMost 0) spell_yielded (m.Reserved r.Yielding) refl [] ([] ∷ []) (omega arith) refl (name [] ∷ []) refl
    (bind (names_at 0) (λ ns. pure (all_of ns))) refused_names
yielded_keep (suc k) = bind_keeps Any (AtMost (suc k)) (spell_eaten (m.Reserved r.Yielding)) spell_yielded [] _ (elim [
  | true ↦ (λ u. bind_keeps (AtMostOf (suc k)) (AtMost (suc k)) spell_list spell_yielded
      (mark (m.Reserved r.Yielding) ∷ []) _
      (λ ns h. keeps_of (AtMost (suc k)) spell_yielded _ (pure (all_of ns))
      (pure_good (AtMost (suc k)) spell_yielded _ (all_of ns) h refl))
      (λ ns. (all_of ns, tt, [], sym (append-nil (spell_yielded (all_of ns))))) (names_at (suc k)) (names_keep k))
  | false ↦ (λ u. keeps_of (AtMost (suc k)) spell_yielded _ (pure [])
      (pure_good (AtMost (suc k)) spell_yielded _ [] (omega arith) refl))
]) (elim [ true ↦ ([] ∷ [], tt, name [] ∷ [], refl) | false ↦ ([], tt, [], refl) ]) (eat (m.Reserved r.Yielding))
    (keeps_of Any (spell_eaten (m.Reserved r.Yielding)) [] (eat (m.Reserved r.Yielding))
    (eat_good (m.Reserved r.Yielding)))

saving_good : Good Any spell_saving [] saving
unfolding saving
saving_good = bind_good Any Any (spell_eaten (m.Reserved r.Saving)) spell_saving [] _ (elim [
  | true ↦ (λ u. bind_good Any Any (spell_mark (m.Reserved r.Event)) spell_saving (mark (m.Reserved r.Saving) ∷ []) _
      (λ v h. bind_good Any Any (spell_mark (m.Reserved r.Notices)) spell_saving
      (mark (m.Reserved r.Saving) ∷ mark (m.Reserved r.Event) ∷ []) _
      (λ v h. pure_good Any spell_saving _ true tt refl) (expect (m.Reserved r.Notices))
      (expect_good (m.Reserved r.Notices))) (expect (m.Reserved r.Event)) (expect_good (m.Reserved r.Event)))
  | false ↦ (λ u. pure_good Any spell_saving _ false tt refl)
]) (eat (m.Reserved r.Saving)) (eat_good (m.Reserved r.Saving))

-- a head has at most n parameters
abbrev pub AtMostHead : ℕ → Head → Type 0
AtMostHead k h = parameters_head h ≤ k

routine_keep : (k : ℕ) → Keeps (AtMostHead (suc k)) spell_head (mark (m.Reserved r.Routine) ∷ []) (routine_at (suc k))
unfolding routine_at
routine_keep k =
    let fits = AtMostHead (suc k) in
    let word : Plain = mark (m.Reserved r.Routine) in
    bind_keeps Any fits spell_name spell_head (word ∷ []) _
    (λ n u. bind_keeps (AtMostGiven (suc k)) fits spell_given spell_head (word ∷ name n ∷ []) _ (λ ps h.
    bind_keeps (AtMost (suc k - length (listing_names ps))) fits spell_yielded spell_head
    (word ∷ name n ∷ spell_given ps) _
    (λ ys g. keeps_of fits spell_head _ (pure (RoutineHead n ps ys))
    (pure_good fits spell_head _ (RoutineHead n ps ys) (omega (arith, h, g)) refl))
    (λ ys. (RoutineHead n ps ys, tt, [], sym (append-nil (spell_head (RoutineHead n ps ys)))))
    (yielded_at (suc k - length (listing_names ps))) (yielded_keep (suc k - length (listing_names ps))))
    (λ ps. (RoutineHead n ps [], tt, [], refl)) (given_at (suc k)) (given_keep k))
    (λ n. (RoutineHead n Unwritten [], tt, [], refl)) a_name (keeps_of Any spell_name [] a_name name_good)

event_keep : (k : ℕ) → Keeps (AtMostHead (suc k)) spell_head (mark (m.Reserved r.Event) ∷ []) (event_at (suc k))
unfolding event_at
event_keep k =
    let fits = AtMostHead (suc k) in
    let word : Plain = mark (m.Reserved r.Event) in
    bind_keeps Any fits spell_name spell_head (word ∷ []) _
    (λ n u. bind_keeps (AtMostGiven (suc k)) fits spell_given spell_head (word ∷ name n ∷ []) _ (λ ps h.
    bind_keeps Any fits spell_saving spell_head (word ∷ name n ∷ spell_given ps) _
    (λ b g. keeps_of fits spell_head _ (pure (EventHead n ps b))
    (pure_good fits spell_head _ (EventHead n ps b) h refl))
    (λ b. (EventHead n ps b, tt, [], sym (append-nil (spell_head (EventHead n ps b))))) saving
    (keeps_of Any spell_saving [] saving saving_good))
    (λ ps. (EventHead n ps false, tt, [], refl)) (given_at (suc k)) (given_keep k))
    (λ n. (EventHead n Unwritten false, tt, [], refl)) a_name (keeps_of Any spell_name [] a_name name_good)

head_keep_at : (k : ℕ) (w : Option Plain) → KeepsAt (AtMostHead (suc k)) spell_head [] w (head_by (suc k) w)
head_keep_at k (Some (mark (m.Reserved r.Main))) =
    skip_keeps (AtMostHead (suc k)) spell_head [] (mark (m.Reserved r.Main)) (pure MainHead)
    (keeps_of (AtMostHead (suc k)) spell_head _ (pure MainHead)
    (pure_good (AtMostHead (suc k)) spell_head _ MainHead (omega arith) refl))
head_keep_at k (Some (mark (m.Reserved r.Routine))) =
    skip_keeps (AtMostHead (suc k)) spell_head [] (mark (m.Reserved r.Routine)) (routine_at (suc k)) (routine_keep k)
head_keep_at k (Some (mark (m.Reserved r.Event))) =
    skip_keeps (AtMostHead (suc k)) spell_head [] (mark (m.Reserved r.Event)) (event_at (suc k)) (event_keep k)
head_keep_at k _ =
    keeps_at (AtMostHead (suc k)) spell_head [] _ _ (keeps_of (AtMostHead (suc k)) spell_head [] (refuse Unexpected)
    (refuse_good (AtMostHead (suc k)) spell_head [] Unexpected MainHead (omega arith) (mark (m.Reserved r.Main) ∷ [])
    refl))

pub head_keep : (k : ℕ) → Keeps (AtMostHead (suc k)) spell_head [] (head_at (suc k))
unfolding head_at
head_keep k =
    look_keeps (AtMostHead (suc k)) spell_head [] (head_by (suc k))
    (MainHead, omega arith, mark (m.Reserved r.Main) ∷ [], refl) (head_keep_at k)
