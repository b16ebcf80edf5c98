-- a step keeps the open loops of each frame those of the phrases around its place
use Rattle.std.proofs.Common.{◌≡◌, ◌+◌, ℕ, ℤ, List, [], ◌∷◌, drop, Bool, true, false, nat_eq, Option, Some, None}
use Rattle.std.proofs.Common.{Result, Ok, Err, refl, sym, ap, subst, ◌∙◌}
use Rattle.std.proofs.Math.Logic.{inl, inr}
use Rattle.std.proofs.lemmas.Bool.{eqb-true, eq-eqb, and_parts}
use Rattle.std.specs.Prelude.{if◌then◌else◌, slice_get, pos, int_lt, length}
use Rattle.ss_words.specs.declared.fault.RunFault.{RunFault}
use Rattle.ss_words.specs.declared.fault.RunFault.TheVariants.{StepBelowOne, OutsideEntry, TimeBeforeClock}
use Rattle.ss_program.specs.declared.variable.Variable.TheVariants.{Global}
use Rattle.ss_program.specs.declared.branch.Branch.TheVariants.{If, Else, Always}
use Rattle.ss_words.specs.declared.terms.Direction.{Direction}
use Rattle.ss_words.specs.declared.terms.Direction.TheVariants.{Onward}
use Rattle.ss_program.specs.declared.looping.Phrase.{Phrase}
use Rattle.ss_program.specs.declared.looping.Phrase.TheVariants.{Counting, Each, Walking}
use Rattle.ss_program.specs.declared.looping.ForPhrase.{ForPhrase}
use Rattle.ss_program.specs.declared.looping.Looping.TheVariants.{For, Loop, Find, Gather, Tell}
use Rattle.ss_program.specs.declared.place.Output.TheVariants.{Print, Skip}
use Rattle.ss_program.specs.declared.place.Control.TheVariants.{Stop, Return, End}
use Rattle.ss_program.specs.declared.place.Place.{Place}
use Rattle.ss_program.specs.declared.place.Place.TheVariants.{Assign, Making, Filing, Output, Control, Branch, Looping}
use Rattle.ss_program.specs.declared.place.Place.TheVariants.{Call, Timing, Read}
use Rattle.ss_program.specs.declared.place.Spot.{Spot}
use Rattle.ss_program.specs.declared.timing.Timing.TheVariants.{Schedule, Cancel, Start}
use Rattle.ss_program.specs.declared.ways.Resets.{Resets}
use Rattle.ss_program.specs.declared.ways.Resets.TheVariants as resets
use Rattle.ss_program.specs.declared.ways.Ways.{Ways}
use Rattle.ss_program.specs.declared.kinds.SectionKind.{SectionKind}
use Rattle.ss_program.specs.declared.kinds.SectionKind.TheVariants as kinds
use Rattle.ss_program.specs.Match.{is_at, passes}
use Rattle.ss_program.specs.Nesting.{is_phrase, phrases_around, may_be_open, is_nested}
use Rattle.ss_program.specs.Program.{ProgramTable, has_external, places_of, section_of, spot_at}
use Rattle.ss_program.specs.ProgramSound.{IsSound}
use Rattle.std.specs.List.{range_with_len}
use Rattle.ss_store.specs.Tables.{Tables, tables_of, class_of}
use Rattle.ss_store.specs.Store.{Store, last_reference, with_new}
use Rattle.ss_events.specs.Rules.{rules_of}
use Rattle.ss_events.specs.Agenda.{Pending, least}
use Rattle.ss_state.proofs.Rests.{LeavesRest, assigned_rest, assign_rest, making_rest, filing_rest, telling_rest}
use Rattle.ss_state.proofs.Rests.{values_rest, scheduling_rest, schedule_rest, cancel_rest}
use Rattle.ss_state.specs.State.{State, FrameState, new_frame, is_waiting}
use Rattle.ss_values.specs.Faults.{◌>>=◌, ◌>>◌, refuse_if}
use Rattle.ss_values.specs.Values.{Readings, variable_value, value_of, values_of, subscript_value, number_value}
use Rattle.ss_state.specs.Readings.{readings}
use Rattle.ss_state.specs.Loops.{OpenLoop, Numbers, Verdict, Runs, Passes, Closes, innermost, loop_of_phrase}
use Rattle.ss_state.specs.Loops.{loops_with_candidate, next_candidate, candidate_within, candidate_at_begin}
use Rattle.ss_state.specs.Loops.{loop_variable, number_loop, loop_at_entry, step_value, verdict_of}
use Rattle.ss_state.specs.Statements.{state_after_result, state_at_place, state_with_taken, state_with_values}
use Rattle.ss_state.specs.Statements.{ways_here, state_with_store}
use Rattle.ss_state.specs.Statements.Reading.{values_taken}
use Rattle.ss_state.specs.Statements.Looping.{state_with_loops, state_with_statistics, state_after_reset}
use Rattle.ss_state.specs.Statements.Looping.{state_after_closing, state_with_candidate, candidate_tried}
use Rattle.ss_state.specs.Statements.Looping.{state_after_verdict, state_after_turn, state_after_phrase}
use Rattle.ss_state.specs.Statements.Calling.{room_for_frame, state_behind_call, state_behind_place}
use Rattle.ss_state.specs.Statements.Calling.{state_after_return, state_after_event, state_after_section}
use Rattle.ss_state.specs.Statements.Timing.{attributes_now, event_section, store_at_start, state_after_start}
use Rattle.ss_state.specs.Statements.Timing.{step_simulation, state_after_scheduling, arrival_asked, state_after_load}
use Rattle.ss_state.specs.Statements.Timing.{loads}
use Rattle.ss_state.specs.Step.{step, step_by, step_at}
use Rattle.ss_state.specs.Well.{phrases_of, HasItsLoops, HaveTheirLoops}
use Rattle.ss_state.proofs.Ranges.{Got, after_got, anything}
use Rattle.ss_state.proofs.Sounds.{spot_nested}
use Rattle.ss_state.proofs.Openings.{Enters, IsNotFirst, around_first, enters, kept, opens, phrases_drop}
use Rattle.ss_state.proofs.Openings.{phrases_moved}

module _ (p : ProgramTable) where
  abbrev Places : ℕ → List Spot
  Places s = places_of (slice_get p.sections s)

  -- both the last frame and those below
  abbrev AreNested : State → Type 0
  AreNested s = HasItsLoops p s.frame × HaveTheirLoops p s.below

  -- an assignment touches none of these
  abbrev Like : State → State → Type 0
  Like s t = (t.frame.section ≡ s.frame.section) × (t.frame.loops ≡ s.frame.loops) × (t.below ≡ s.below)
      × (t.frame.place ≡ s.frame.place)

  like : (s t : State) → LeavesRest s t → Like s t
  like s t h = (h.section, h.loops, h.below, h.place)

  settled_nested : {A : Type 0} (s : State) (r : Result A RunFault) (f : A → State) → AreNested s →
      ((x : A) → AreNested (f x)) →
      AreNested (state_after_result s r f)
  settled_nested s (Ok x) f h k = k x
  settled_nested s (Err e) f h k = h

  got_nested : {A : Type 0} (P : A → Type 0) (s : State) (r : Result A RunFault) (f : A → State) → Got P r →
      AreNested s →
      ((x : A) → P x → AreNested (f x)) → AreNested (state_after_result s r f)
  got_nested P s (Ok x) f g h k = k x g
  got_nested P s (Err e) f g h k = h

  -- a state with the section and the frames below of another one and these loops, at place n
  went : (s t : State) (js : List ℕ) (n : ℕ) → t.frame.section ≡ s.frame.section → phrases_of t.frame.loops ≡ js →
      t.below ≡ s.below →
      may_be_open (Places s.frame.section) js n ≡ true → HaveTheirLoops p s.below → AreNested (state_at_place n t)
  went s t js n a b c h k = (
    subst (λ (x : ℕ). may_be_open (Places x) (phrases_of t.frame.loops) n ≡ true) (sym a)
        (subst (λ (ls : List ℕ). may_be_open (Places s.frame.section) ls n ≡ true) (sym b) h),
    subst (λ (fs : List FrameState). HaveTheirLoops p fs) (sym c) k,
  )

  -- the phrases around the place of the last frame
  abbrev Around : State → List ℕ
  Around s = phrases_around (Places s.frame.section) s.frame.place

  -- whether the place of the last frame is a phrase
  abbrev IsAtPhrase : State → Bool → Type 0
  IsAtPhrase s b = is_at (Places s.frame.section) is_phrase s.frame.place ≡ b

  around_here : (s : State) → HasItsLoops p s.frame → IsAtPhrase s false → phrases_of s.frame.loops ≡ Around s
  around_here s h f = kept (Places s.frame.section) _ s.frame.place (enters _ _ _ h) f

  -- from a place that is no phrase, on with all loops as they are
  on : (s t : State) (n : ℕ) → Like s t → IsAtPhrase s false →
      may_be_open (Places s.frame.section) (Around s) n ≡ true → AreNested s →
      AreNested (state_at_place n t)
  on s t n l f e h = went s t (Around s) n l.0 (ap phrases_of l.1 ∙ around_here s h.0 f) l.2 e h.1

  -- ---- a phrase

  -- with no loop of it on top the loops are those around it
  entry : (s i : ℕ) (ls : List OpenLoop) → loop_of_phrase i (innermost ls) ≡ None →
      Enters (Places s) (phrases_of ls) i →
      phrases_of ls ≡ phrases_around (Places s) i
  entry s i ls n (inl e) = e
  entry s i [] n (inr h) = absurd (none (h.1))
    where
      none : {x : ℕ} {xs : List ℕ} → [] ≡ x ∷ xs → ⊥
      none e = cc
  entry s i (l ∷ ls) n (inr h) = absurd (found (nat_eq l.phrase i) (same l.phrase i (first h.1)) n)
    where
      first : {x y : ℕ} {xs ys : List ℕ} → x ∷ xs ≡ y ∷ ys → x ≡ y
      first e = cc

      same : (x y : ℕ) → x ≡ y → nat_eq x y ≡ true
      same x y e = eq-eqb x y e

      found : (b : Bool) → b ≡ true → (if b then Some l else None) ≡ None → ⊥
      found true e m = cc
      found false e m = cc

  -- with its loop on top they are that loop and those around it
  turn : (s i : ℕ) (ls : List OpenLoop) (l : OpenLoop) → loop_of_phrase i (innermost ls) ≡ Some l →
      IsNotFirst i (phrases_around (Places s) i) →
      Enters (Places s) (phrases_of ls) i → phrases_of ls ≡ i ∷ phrases_around (Places s) i
  turn s i ls l n f (inr h) = h.1
  turn s i [] l n f (inl e) = cc
  turn s i (m ∷ ls) l n f (inl e) =
      absurd (not_first (phrases_around (Places s) i) f e (top (nat_eq m.phrase i) refl n))
    where
      top : (b : Bool) → nat_eq m.phrase i ≡ b → (if b then Some m else None) ≡ Some l → m.phrase ≡ i
      top true h k = eqb-true _ _ h
      top false h k = cc

      not_first : (xs : List ℕ) → IsNotFirst i xs → m.phrase ∷ phrases_of ls ≡ xs → m.phrase ≡ i → ⊥
      not_first [] g h k = cc
      not_first (x ∷ xs) g h k = let a : m.phrase ≡ x = cc in g (sym a ∙ k)

  -- the loop that an entry opens is that of the phrase
  abbrev IsOf : ℕ → OpenLoop → Type 0
  IsOf place l = l.phrase ≡ place

  number_loop_of : (place : ℕ) (d : Direction) (first last by : ℤ) →
      Got (IsOf place) (number_loop place d first last by)
  number_loop_of place d first last by = chosen (int_lt by (pos 1))
    where
      chosen : (b : Bool) → Got (IsOf place)
          (refuse_if b StepBelowOne >> Ok (record {
            phrase = place;
            candidate = candidate_within d last first;
            walk = Numbers d last by;
          }))
      chosen true = tt
      chosen false = refl

  entry_of : (v : Readings) (place : ℕ) (f : Phrase) → Got (IsOf place) (loop_at_entry v place f)
  entry_of v place (Counting d x first last by) =
      after_got (λ (_ : ℤ). Unit {0}) (IsOf place) (value_of v first) _ (anything _) (λ a _.
      after_got (λ (_ : ℤ). Unit {0}) (IsOf place) (value_of v last) _ (anything _) (λ b _.
      after_got (λ (_ : ℤ). Unit {0}) (IsOf place) (step_value v by) _ (anything _)
      (λ c _. number_loop_of place d a b c)))
  entry_of v place (Each class is_called x count) =
      number_loop_of place Onward (pos 1) (variable_value v (Global count)) (pos 1)
  entry_of v place (Walking d x r begin) =
      after_got (λ (_ : ℤ). Unit {0}) (IsOf place) (subscript_value v r.owner) _ (anything _) (λ o _.
      after_got (λ (_ : Option ℤ). Unit {0}) (IsOf place) (candidate_at_begin v d r.set o begin) _ (anything _)
      (λ c _. refl))

  opened_loops : (x y : ℕ) (xs ys : List ℕ) → x ≡ y → xs ≡ ys → x ∷ xs ≡ y ∷ ys
  opened_loops x y xs ys e f = λ i. e i ∷ f i

  opened_nested : (s : State) (r : Result OpenLoop RunFault) (w : Resets) → Got (IsOf s.frame.place) r →
      IsAtPhrase s true →
      phrases_of s.frame.loops ≡ Around s → AreNested s →
      AreNested (state_after_result s r (λ l. state_after_reset (state_with_loops s (l ∷ s.frame.loops)) w))
  opened_nested s (Err e) w g t k h = h
  opened_nested s (Ok l) resets.Nothing g t k h =
      (opens _ _ _ (inr (t, opened_loops l.phrase s.frame.place _ _ g k)), h.1)
  opened_nested s (Ok l) resets.Found g t k h =
      (opens _ _ _ (inr (t, opened_loops l.phrase s.frame.place _ _ g k)), h.1)
  opened_nested s (Ok l) resets.Statistics g t k h =
      (opens _ _ _ (inr (t, opened_loops l.phrase s.frame.place _ _ g k)), h.1)

  -- the innermost loop closes
  closed_nested : (s t : State) (n : ℕ) → t.frame.section ≡ s.frame.section →
      phrases_of t.frame.loops ≡ s.frame.place ∷ Around s → t.below ≡ s.below →
      may_be_open (Places s.frame.section) (Around s) n ≡ true → HaveTheirLoops p s.below →
      AreNested (state_after_closing n t)
  closed_nested s t n a b c h k =
      went s (state_with_loops t (drop 1 t.frame.loops)) (Around s) n a
      (phrases_drop 1 t.frame.loops ∙ ap (λ (ls : List ℕ). drop 1 ls) b) c h k

  verdict_nested : (s t : State) (w : Ways) (v : Verdict) → t.frame.section ≡ s.frame.section →
      phrases_of t.frame.loops ≡ phrases_of s.frame.loops →
      t.below ≡ s.below → t.frame.place ≡ s.frame.place → phrases_of s.frame.loops ≡ s.frame.place ∷ Around s →
      may_be_open (Places s.frame.section) (s.frame.place ∷ Around s) w.next ≡ true →
      may_be_open (Places s.frame.section) (Around s) w.exit ≡ true →
      AreNested s → AreNested (state_after_verdict w t v)
  verdict_nested s t w Runs a b c d e n x k = went s t (s.frame.place ∷ Around s) w.next a (b ∙ e) c n k.1
  verdict_nested s t w Passes a b c d e n x k = (
    subst (λ (i : ℕ). may_be_open (Places i) (phrases_of t.frame.loops) t.frame.place ≡ true) (sym a)
        (subst (λ (i : ℕ). may_be_open (Places s.frame.section) (phrases_of t.frame.loops) i ≡ true) (sym d)
        (subst (λ (ls : List ℕ). may_be_open (Places s.frame.section) ls s.frame.place ≡ true) (sym b) k.0)),
    subst (λ (fs : List FrameState). HaveTheirLoops p fs) (sym c) k.1,
  )
  verdict_nested s t w Closes a b c d e n x k = closed_nested s t w.exit a (b ∙ e) c x k.1

  -- a state with a candidate tried
  abbrev IsTried : State → (State × Verdict) → Type 0
  IsTried s r =
      (r.0.frame.section ≡ s.frame.section) × (phrases_of r.0.frame.loops ≡ phrases_of s.frame.loops)
      × (r.0.below ≡ s.below)
      × (r.0.frame.place ≡ s.frame.place)

  tried : (t : Tables) (s : State) (f : ForPhrase) (l : OpenLoop) (z : ℤ) → Got (IsTried s) (candidate_tried t s f l z)
  tried t s f l z =
      after_got (λ (_ : Option ℤ). Unit {0}) (IsTried s) (next_candidate (readings t s) l.walk z) _ (anything _) (λ c _.
      after_got (λ (_ : Verdict). Unit {0}) (IsTried s) (verdict_of (readings t (state_with_candidate s f c z))
      f.qualifiers)
      (λ v. Ok (state_with_candidate s f c z, v)) (anything _) (λ v _.
      let a = assigned_rest (state_with_loops s (loops_with_candidate c s.frame.loops)) (loop_variable f.phrase) z in
      (a.section, ap phrases_of a.loops ∙ phrases_moved c s.frame.loops, a.below, a.place)))

  turn_nested : (t : Tables) (s : State) (w : Ways) (f : ForPhrase) (l : OpenLoop) (c : Option ℤ) →
      phrases_of s.frame.loops ≡ s.frame.place ∷ Around s →
      may_be_open (Places s.frame.section) (s.frame.place ∷ Around s) w.next ≡ true →
      may_be_open (Places s.frame.section) (Around s) w.exit ≡ true →
      AreNested s → AreNested (state_after_turn t s w f l c)
  turn_nested t s w f l None e n x k = closed_nested s s w.exit refl e refl x k.1
  turn_nested t s w f l (Some z) e n x k =
      got_nested (IsTried s) s (candidate_tried t s f l z) _ (tried t s f l z) k
      (λ r a. verdict_nested s r.0 w r.1 a.0 a.1 a.2 a.3 e n x k)

  phrase_nested : (t : Tables) (s : State) (w : Ways) (f : ForPhrase) (o : Option OpenLoop) →
      loop_of_phrase s.frame.place (innermost s.frame.loops) ≡ o →
      IsAtPhrase s true → may_be_open (Places s.frame.section) (s.frame.place ∷ Around s) w.next ≡ true →
      may_be_open (Places s.frame.section) (Around s) w.exit ≡ true → AreNested s →
      AreNested (state_after_phrase t s w f o)
  phrase_nested t s w f None e a n x h =
      opened_nested s _ w.resets (entry_of (readings t s) s.frame.place f.phrase) a
      (entry s.frame.section s.frame.place s.frame.loops e (enters _ _ _ h.0)) h
  phrase_nested t s w f (Some l) e a n x h =
      turn_nested t s w f l l.candidate
      (turn s.frame.section s.frame.place s.frame.loops l e (around_first (Places s.frame.section) s.frame.place)
      (enters _ _ _ h.0)) n x h

  -- ---- the other places

  -- the nesting of a place with its ways, at the place of the last frame
  abbrev IsNestedHere : State → Ways → Place → Type 0
  IsNestedHere s w x = is_nested (Places s.frame.section) s.frame.place w x ≡ true

  behind_call_nested : (t : Tables) (s : State) (vs : List ℤ) (k : ℕ) (w : Ways) (x : Place) →
      IsAtPhrase s (is_phrase x) → IsNestedHere s w x →
      AreNested s → Got AreNested (state_behind_call t vs k w.next s x)
  behind_call_nested t s vs k w (Assign a) f n h = h
  behind_call_nested t s vs k w (Making m) f n h = h
  behind_call_nested t s vs k w (Filing g) f n h = h
  behind_call_nested t s vs k w (Output o) f n h = h
  behind_call_nested t s vs k w (Control c) f n h = h
  behind_call_nested t s vs k w (Branch b) f n h = h
  behind_call_nested t s vs k w (Looping l) f n h = h
  behind_call_nested t s vs k w (Call c) f n h =
      after_got (LeavesRest s) AreNested (state_with_values t vs s k c.targets) _ (values_rest t vs s k c.targets)
      (λ r g. on s r w.next (like s r g) f n h)
  behind_call_nested t s vs k w (Timing x) f n h = h
  behind_call_nested t s vs k w (Read ts) f n h = h

  nested_spot : (s : State) (spot : Spot) → IsSound p → spot_at p s.frame.section s.frame.place ≡ Some spot →
      IsNestedHere s (ways_here p s spot.place) spot.place
  nested_spot s spot sound e = spot_nested p s.frame.section s.frame.place spot sound e

  behind_place_nested : (s : State) (vs : List ℤ) (k : ℕ) (o : Option Spot) → IsSound p →
      spot_at p s.frame.section s.frame.place ≡ o → AreNested s →
      Got AreNested (state_behind_place p vs k s o)
  behind_place_nested s vs k None sound e h = h
  behind_place_nested s vs k (Some spot) sound e h =
      behind_call_nested (tables_of p) s vs k (ways_here p s spot.place) spot.place (ap (passes is_phrase) e)
      (nested_spot s spot sound e) h

  return_nested : (s : State) (bs : List FrameState) → IsSound p → s.below ≡ bs → AreNested s →
      AreNested (state_after_return p s bs)
  return_nested s [] sound e h = h
  return_nested s (f ∷ fs) sound e h =
      got_nested AreNested s _ _
      (behind_place_nested (record s { frame = f; below = fs }) s.frame.locals (section_of p s.frame.section).given
      (spot_at p f.section f.place) sound
      refl (subst (λ (gs : List FrameState). HaveTheirLoops p gs) e h.1)) h (λ r g. g)

  event_nested : (s : State) (bs : List FrameState) → s.below ≡ bs → AreNested s → AreNested (state_after_event s bs)
  event_nested s [] e h = h
  event_nested s (f ∷ fs) e h =
      settled_nested s _ _ h (λ r. subst (λ (gs : List FrameState). HaveTheirLoops p gs) e h.1)

  section_nested : (s : State) (k : SectionKind) → IsSound p → AreNested s → AreNested (state_after_section p s k)
  section_nested s kinds.Main sound h = h
  section_nested s kinds.Routine sound h = return_nested s s.below sound refl h
  section_nested s kinds.Event sound h = event_nested s s.below refl h

  start_nested : (s : State) (k c : ℕ) (time : ℤ) → AreNested s → Got AreNested (state_after_start p s k c time)
  start_nested s k c time h =
      after_got (λ (_ : List ℤ). Unit {0}) AreNested (attributes_now s.store c k
      (range_with_len 0 (section_of p (event_section p c)).given)) _ (anything _) (λ xs _.
      after_got (λ (_ : Store). Unit {0}) AreNested (store_at_start p s.store c k) _ (anything _) (λ st _.
      after_got (λ (_ : ℤ). Unit {0}) AreNested (number_value k) _ (anything _) (λ x _. (refl, h))))

  simulation_nested : (s : State) (next : ℕ) (o : Option Pending) → IsAtPhrase s false →
      may_be_open (Places s.frame.section) (Around s) next ≡ true →
      AreNested s → AreNested (step_simulation p s next o)
  simulation_nested s next None f n h = on s s next (refl, refl, refl, refl) f n h
  simulation_nested s next (Some x) f n h =
      got_nested AreNested s _ _ (start_nested s x.notice x.class x.time h) h (λ r g. g)

  load_nested : (s : State) → AreNested s → Got AreNested (state_after_load p s)
  load_nested s h =
      after_got (λ (_ : ℕ × ℤ). Unit {0}) AreNested (arrival_asked p s) _ (anything _) (λ a _.
      let t = state_with_taken s (s.feed.taken + 2) in
      after_got (λ (_ : Store). Unit {0}) AreNested (refuse_if (int_lt a.1 t.clock) TimeBeforeClock >> with_new t.store
      a.0 (class_of (tables_of p) a.0)) _ (anything _) (λ st _.
      let u = state_with_store t st in
      after_got (LeavesRest u) AreNested (state_after_scheduling p u a.0 (last_reference st) a.1 []) _
      (scheduling_rest p u a.0 (last_reference st) a.1 [])
      (λ r g. stays u r g h)))
    where
      stays : (u r : State) → LeavesRest u r → AreNested u → AreNested r
      stays u r g h = (
        subst (λ (i : ℕ). may_be_open (Places i) (phrases_of r.frame.loops) r.frame.place ≡ true) (sym g.section)
            (subst (λ (ls : List OpenLoop). may_be_open (Places u.frame.section) (phrases_of ls) r.frame.place ≡ true)
            (sym g.loops)
            (subst (λ (i : ℕ). may_be_open (Places u.frame.section) (phrases_of u.frame.loops) i ≡ true) (sym g.place)
            h.0)),
        subst (λ (fs : List FrameState). HaveTheirLoops p fs) (sym g.below) h.1,
      )

  started_nested : (s : State) (next : ℕ) (b : Bool) → IsAtPhrase s false →
      may_be_open (Places s.frame.section) (Around s) next ≡ true → AreNested s →
      AreNested (if b then state_after_result s (state_after_load p s) (λ r. r) else step_simulation p s next
      (least (rules_of p) s.agenda.pending))
  started_nested s next true f n h = got_nested AreNested s _ _ (load_nested s h) h (λ r g. g)
  started_nested s next false f n h = simulation_nested s next (least (rules_of p) s.agenda.pending) f n h

  place_nested : (s : State) (w : Ways) (x : Place) → IsSound p → IsAtPhrase s (is_phrase x) → IsNestedHere s w x →
      AreNested s → AreNested (step_at p s w x)
  place_nested s w (Assign a) sound f n h =
      got_nested (LeavesRest s) s _ _ (assign_rest (tables_of p) s a) h (λ r g. on s r w.next (like s r g) f n h)
  place_nested s w (Making m) sound f n h =
      got_nested (LeavesRest s) s _ _ (making_rest (tables_of p) s m) h (λ r g. on s r w.next (like s r g) f n h)
  place_nested s w (Filing x) sound f n h =
      got_nested (LeavesRest s) s _ _ (filing_rest (tables_of p) s x) h (λ r g. on s r w.next (like s r g) f n h)
  place_nested s w (Output (Print count values picture)) sound f n h =
      settled_nested s _ _ h (λ report. on s (record s { report = report }) w.next (refl, refl, refl, refl) f n h)
  place_nested s w (Output (Skip e)) sound f n h =
      settled_nested s _ _ h (λ report. on s (record s { report = report }) w.next (refl, refl, refl, refl) f n h)
  place_nested s w (Control Stop) sound f n h = h
  place_nested s w (Control Return) sound f n h = section_nested s (section_of p s.frame.section).kind sound h
  place_nested s w (Control End) sound f n h = section_nested s (section_of p s.frame.section).kind sound h
  place_nested s w (Branch (If q)) sound f n h =
      settled_nested s _ _ h (λ b. on s s (if b then w.next else w.exit) (refl, refl, refl, refl) f (either b) h)
    where
      parts : (may_be_open (Places s.frame.section) (Around s) w.next ≡ true)
          × (may_be_open (Places s.frame.section) (Around s) w.exit ≡ true)
      parts = and_parts (may_be_open (Places s.frame.section) (Around s) w.next)
          (may_be_open (Places s.frame.section) (Around s) w.exit) n

      either : (b : Bool) → may_be_open (Places s.frame.section) (Around s) (if b then w.next else w.exit) ≡ true
      either true = parts.0
      either false = parts.1
  place_nested s w (Branch Else) sound f n h = on s s w.next (refl, refl, refl, refl) f n h
  place_nested s w (Branch Always) sound f n h = on s s w.next (refl, refl, refl, refl) f n h
  place_nested s w (Looping (For g)) sound f n h =
      let parts = and_parts (may_be_open (Places s.frame.section) (s.frame.place ∷ Around s) w.next)
      (may_be_open (Places s.frame.section) (Around s) w.exit) n in
      phrase_nested (tables_of p) s w g (loop_of_phrase s.frame.place (innermost s.frame.loops)) refl f parts.0 parts.1
      h
  place_nested s w (Looping Loop) sound f n h = on s s w.next (refl, refl, refl, refl) f n h
  place_nested s w (Looping Find) sound f n h =
      let e : phrases_of (drop w.chain s.frame.loops) ≡ drop w.chain (Around s) =
      phrases_drop w.chain s.frame.loops ∙ ap (λ (ls : List ℕ). drop w.chain ls) (around_here s h.0 f) in
      (subst (λ (ls : List ℕ). may_be_open (Places s.frame.section) ls w.next ≡ true) (sym e) n, h.1)
  place_nested s w (Looping (Gather e)) sound f n h =
      settled_nested s _ _ h (λ g. on s (state_with_statistics s g) w.next (refl, refl, refl, refl) f n h)
  place_nested s w (Looping (Tell ts)) sound f n h =
      got_nested (LeavesRest s) s _ _ (telling_rest (tables_of p) s.frame.statistics s ts) h
      (λ r g. on s r w.next (like s r g) f n h)
  place_nested s w (Call c) sound f n h =
      settled_nested s (values_of (readings (tables_of p) s) c.given >>= room_for_frame s.below)
      (λ (xs : List ℤ). record s { frame = new_frame p c.section xs; below = s.frame ∷ s.below }) h (λ xs. (refl, h))
  place_nested s w (Timing (Schedule x)) sound f n h =
      got_nested (LeavesRest s) s _ _ (schedule_rest p s x) h (λ r g. on s r w.next (like s r g) f n h)
  place_nested s w (Timing (Cancel c is_called e)) sound f n h =
      got_nested (LeavesRest s) s _ _ (cancel_rest (tables_of p) s c e) h (λ r g. on s r w.next (like s r g) f n h)
  place_nested s w (Timing Start) sound f n h = started_nested s w.next (loads p s) f n h
  place_nested s w (Read ts) sound f n h =
      let u = state_with_taken s (s.feed.taken + length ts) in
      got_nested (LeavesRest u) s _ _
      (after_got (λ (_ : List ℤ). Unit {0}) (LeavesRest u) (refuse_if (is_waiting s.entry) OutsideEntry >> values_taken
      (has_external p) s.feed.items s.feed.taken ts) _ (anything _)
      (λ xs _. values_rest (tables_of p) xs u 0 ts)) h (λ r g. on s r w.next (g.section, g.loops, g.below, g.place) f n
      h)

  spot_kept : (s : State) (o : Option Spot) → IsSound p → spot_at p s.frame.section s.frame.place ≡ o → AreNested s →
      AreNested (step_by p s o)
  spot_kept s None sound e h = h
  spot_kept s (Some spot) sound e h =
      place_nested s (ways_here p s spot.place) spot.place sound (ap (passes is_phrase) e) (nested_spot s spot sound e)
      h

  -- a step keeps it
  pub nested_step : (s : State) → IsSound p → AreNested s → AreNested (step p s)
  nested_step s sound h = spot_kept s (spot_at p s.frame.section s.frame.place) sound refl h
