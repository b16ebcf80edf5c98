-- so do FOR, LOOP, FIND and COMPUTE
use Rattle.std.proofs.Common.{◌≡◌, ℕ, ℤ, zero, suc, ◌<◌, List, length, Bool, true, false, Option, Some, None, Result}
use Rattle.std.proofs.Common.{Ok, Err, refl, sym, subst}
use Rattle.std.specs.Prelude.{slice_get, int_lt, int_le, nat_eq, pos, [], ◌∷◌, drop, not, ◌+ℤ◌, if◌then◌else◌}
use Rattle.std.specs.Int.{int_min, int_max}
use Rattle.ss_words.specs.declared.fault.RunFault.{RunFault}
use Rattle.ss_words.specs.declared.fault.RunFault.TheVariants.{StepBelowOne, NotInList}
use Rattle.ss_program.specs.declared.looping.Begin.{Begin}
use Rattle.ss_program.specs.declared.looping.Begin.TheVariants.{AtTheEnd, From, After}
use Rattle.ss_program.specs.declared.variable.Variable.TheVariants.{Global}
use Rattle.ss_program.specs.declared.place.Place.TheVariants as places
use Rattle.ss_words.specs.declared.terms.Direction.{Direction}
use Rattle.ss_words.specs.declared.terms.Direction.TheVariants.{Onward, Backward}
use Rattle.ss_program.specs.declared.looping.Phrase.{Phrase}
use Rattle.ss_program.specs.declared.looping.Phrase.TheVariants.{Counting, Each, Walking}
use Rattle.ss_program.specs.declared.looping.ForPhrase.{ForPhrase}
use Rattle.ss_program.specs.declared.looping.Telling.{Telling}
use Rattle.ss_words.specs.declared.terms.Statistic.{Statistic}
use Rattle.ss_words.specs.declared.terms.Statistic.TheVariants.{Number, Sum, Maximum, Minimum}
use Rattle.ss_program.specs.declared.looping.Looping.{Looping}
use Rattle.ss_program.specs.declared.looping.Looping.TheVariants.{For, Loop, Find, Gather, Tell}
use Rattle.ss_program.specs.declared.ways.Resets.{Resets}
use Rattle.ss_program.specs.declared.ways.Resets.TheVariants as resets
use Rattle.ss_program.specs.declared.ways.Ways.{Ways}
use Rattle.ss_program.specs.Program.{ProgramTable, places_of}
use Rattle.ss_program.specs.ProgramSound.{Scope, IsSoundPhrase, IsSoundLooping}
use Rattle.ss_state.specs.State.{State, Statistics, no_statistics}
use Rattle.ss_store.specs.Tables.{Tables, tables_of}
use Rattle.ss_values.specs.Faults.{◌>>◌, refuse_if}
use Rattle.ss_values.specs.Values.{Readings, variable_value, value_of, subscript_value, number_value}
use Rattle.ss_words.specs.Ranges.{in_range}
use Rattle.ss_state.specs.Readings.{readings}
use Rattle.ss_state.specs.Loops.{OpenLoop, Walk, Numbers, Members, Verdict, Runs, Passes, Closes, innermost}
use Rattle.ss_state.specs.Loops.{loop_of_phrase, loops_with_candidate, candidate_within, number_behind, next_number}
use Rattle.ss_state.specs.Loops.{end_member, member_behind, as_candidate, unless_left, IsSoundWalk, AreSoundWalks}
use Rattle.ss_state.specs.Loops.{next_candidate, step_value, number_loop, member_named, candidate_at_begin}
use Rattle.ss_state.specs.Loops.{loop_at_entry, loop_variable, verdict_of}
use Rattle.ss_state.specs.Statements.{state_with_value}
use Rattle.ss_state.specs.Statements.Looping.{state_with_loops, state_with_found, state_with_statistics}
use Rattle.ss_state.specs.Statements.Looping.{state_after_reset, state_after_closing, state_with_candidate}
use Rattle.ss_state.specs.Statements.Looping.{candidate_tried, state_after_verdict, state_after_turn}
use Rattle.ss_state.specs.Statements.Looping.{state_after_phrase, statistics_with, statistic_value}
use Rattle.ss_state.specs.Statements.Looping.{state_after_telling, step_looping}
use Rattle.ss_state.specs.Step.{step}
use Rattle.ss_state.specs.Well.{IsInBounds, AreLoopsInRange, IsNoneOrInRange, AreStatisticsInRange}
use Rattle.ss_state.proofs.Ranges.{Got, after_got, anything, IsIn, AreIn, ranged_in, either_in, max_in, min_in}
use Rattle.ss_state.proofs.ValuesIn.{value_in}
use Rattle.ss_state.proofs.Rests.{assigned_rest, telling_rest}
use Rattle.ss_state.proofs.Wells.Shared.{IsPlace, LeadsHere, assigned_well, found_well, loops_well, readings_in}
use Rattle.ss_state.proofs.Wells.Shared.{settled_well, state_at_place_well, statistics_well, went_well}
use Rattle.ss_state.proofs.Wells.Assigning.{value_well}

-- ---- loops

within_in : (d : Direction) (last x : ℤ) → IsIn x → IsNoneOrInRange (candidate_within d last x)
within_in Onward last x h = chosen (int_le x last)
  where
    chosen : (b : Bool) → IsNoneOrInRange (if b then Some x else None)
    chosen true = h
    chosen false = tt
within_in Backward last x h = chosen (int_le last x)
  where
    chosen : (b : Bool) → IsNoneOrInRange (if b then Some x else None)
    chosen true = h
    chosen false = tt

next_number_in : (d : Direction) (last step x : ℤ) → IsNoneOrInRange (next_number d last step x)
next_number_in d last step x = chosen (in_range (number_behind d step x)) refl
  where
    chosen : (b : Bool) → in_range (number_behind d step x) ≡ b →
        IsNoneOrInRange (if b then candidate_within d last (number_behind d step x) else None)
    chosen true e = within_in d last (number_behind d step x) e
    chosen false e = tt

candidate_in : (k : Option ℕ) → Got IsNoneOrInRange (as_candidate k)
candidate_in None = tt
candidate_in (Some k) = after_got IsIn IsNoneOrInRange (number_value k) _ (ranged_in (pos k)) (λ x h. h)

unless_left_in : (r : Result (Option ℕ) RunFault) → Got IsNoneOrInRange (unless_left r)
unless_left_in (Ok k) = candidate_in k
unless_left_in (Err f) = tt

next_in : (v : Readings) (w : Walk) (x : ℤ) → Got IsNoneOrInRange (next_candidate v w x)
next_in v (Numbers d last step) x = next_number_in d last step x
next_in v (Members d set o) x = unless_left_in (member_behind v d set o x)

moved_walks : (n : ℕ) (c : Option ℤ) (ls : List OpenLoop) → AreSoundWalks n ls →
    AreSoundWalks n (loops_with_candidate c ls)
moved_walks n c [] h = tt
moved_walks n c (l ∷ ls) h = h

drop_walks : (n k : ℕ) (ls : List OpenLoop) → AreSoundWalks n ls → AreSoundWalks n (drop k ls)
drop_walks n zero ls h = h
drop_walks n (suc k) [] h = tt
drop_walks n (suc k) (l ∷ ls) h = drop_walks n k ls h.1

moved_in : (c : Option ℤ) (ls : List OpenLoop) → IsNoneOrInRange c → AreLoopsInRange ls →
    AreLoopsInRange (loops_with_candidate c ls)
moved_in c [] h k = tt
moved_in c (l ∷ ls) h k = (h, k.1)

drop_in : (n : ℕ) (ls : List OpenLoop) → AreLoopsInRange ls → AreLoopsInRange (drop n ls)
drop_in zero ls h = h
drop_in (suc n) [] h = tt
drop_in (suc n) (l ∷ ls) h = drop_in n ls h.1

-- an open loop whose candidate is in range and whose walk is of one of n sets
abbrev IsOpened : ℕ → OpenLoop → Type 0
IsOpened n l = IsNoneOrInRange l.candidate × IsSoundWalk n l.walk

abbrev HasCandidateIn : OpenLoop → Type 0
HasCandidateIn l = IsNoneOrInRange l.candidate

number_loop_in : (n place : ℕ) (d : Direction) (first last step : ℤ) → IsIn first →
    Got (IsOpened n) (number_loop place d first last step)
number_loop_in n place d first last step h = chosen (int_lt step (pos 1))
  where
    chosen : (b : Bool) → Got (IsOpened n)
        (refuse_if b StepBelowOne >> Ok (record {
          phrase = place;
          candidate = candidate_within d last first;
          walk = Numbers d last step;
        }))
    chosen true = tt
    chosen false = (within_in d last first h, tt)

named_in : (v : Readings) (s : ℕ) (o y : ℤ) → IsIn y → Got IsIn (member_named v s o y)
named_in v s o y h = after_got (λ (_ : Bool). Unit {0}) IsIn _ _ (anything _) (λ b _. chosen (not b))
  where
    chosen : (b : Bool) → Got IsIn (refuse_if b NotInList >> Ok y)
    chosen true = tt
    chosen false = h

begin_in : (v : Readings) (d : Direction) (s : ℕ) (o : ℤ) (b : Begin) → AreIn v →
    Got IsNoneOrInRange (candidate_at_begin v d s o b)
begin_in v d s o AtTheEnd h =
    after_got (λ (_ : Option ℕ). Unit {0}) IsNoneOrInRange (end_member v d s o) as_candidate (anything _)
    (λ k _. candidate_in k)
begin_in v d s o (From e) h =
    after_got IsIn IsNoneOrInRange (value_of v e) _ (value_in v e h) (λ y k.
    after_got IsIn IsNoneOrInRange (member_named v s o y) _ (named_in v s o y k) (λ z i. i))
begin_in v d s o (After e) h =
    after_got (λ (_ : ℤ). Unit {0}) IsNoneOrInRange (value_of v e) _ (anything _) (λ y _.
    after_got (λ (_ : ℤ). Unit {0}) IsNoneOrInRange (member_named v s o y) _ (anything _) (λ z _.
    after_got (λ (_ : Option ℕ). Unit {0}) IsNoneOrInRange (member_behind v d s o z) as_candidate (anything _)
    (λ k _. candidate_in k)))

entry_in : (sc : Scope) (v : Readings) (place : ℕ) (f : Phrase) → IsSoundPhrase sc f → AreIn v →
    Got (IsOpened sc.sets) (loop_at_entry v place f)
entry_in sc v place (Counting d x first last step) sound h =
    after_got IsIn (IsOpened sc.sets) (value_of v first) _ (value_in v first h) (λ a k.
    after_got (λ (_ : ℤ). Unit {0}) (IsOpened sc.sets) (value_of v last) _ (anything _) (λ b _.
    after_got (λ (_ : ℤ). Unit {0}) (IsOpened sc.sets) (step_value v step) _ (anything _)
    (λ c _. number_loop_in sc.sets place d a b c k)))
entry_in sc v place (Each class is_called x count) sound h =
    number_loop_in sc.sets place Onward (pos 1) (variable_value v (Global count)) (pos 1) refl
entry_in sc v place (Walking d x r begin) sound h =
    after_got (λ (_ : ℤ). Unit {0}) (IsOpened sc.sets) (subscript_value v r.owner) _ (anything _) (λ o _.
    after_got IsNoneOrInRange (IsOpened sc.sets) (candidate_at_begin v d r.set o begin) _ (begin_in v d r.set o begin h)
    (λ c k. (k, sound.1.0)))

abbrev IsOpenIn : Option OpenLoop → Type 0
IsOpenIn None = Unit {0}
IsOpenIn (Some l) = HasCandidateIn l

loop_in : (place : ℕ) (ls : List OpenLoop) → AreLoopsInRange ls → IsOpenIn (loop_of_phrase place (innermost ls))
loop_in place [] h = tt
loop_in place (l ∷ ls) h = chosen (nat_eq l.phrase place)
  where
    chosen : (b : Bool) → IsOpenIn (if b then Some l else None)
    chosen true = h.0
    chosen false = tt

reset_well : (p : ProgramTable) (s : State) (r : Resets) → IsInBounds p s → IsInBounds p (state_after_reset s r)
reset_well p s resets.Nothing w = w
reset_well p s resets.Found w = found_well p s false w
reset_well p s resets.Statistics w =
    statistics_well p s no_statistics (record { number = refl; sum = refl; greatest = refl; least = refl }) w

closed_well : (p : ProgramTable) (s : State) (n : ℕ) → IsPlace p s n → IsInBounds p s →
    IsInBounds p (state_after_closing n s)
closed_well p s n h w =
    state_at_place_well p (state_with_loops s (drop 1 s.frame.loops)) n h
    (loops_well p s (drop 1 s.frame.loops) (
      drop_in 1 s.frame.loops w.frame.loops,
      drop_walks (length p.sets) 1
          s.frame.loops w.frame.walks,
    ) w)

verdict_well : (p : ProgramTable) (s : State) (y : Ways) (v : Verdict) → IsPlace p s y.next → IsPlace p s y.exit →
    IsInBounds p s →
    IsInBounds p (state_after_verdict y s v)
verdict_well p s y Runs n b w = state_at_place_well p s y.next n w
verdict_well p s y Passes n b w = w
verdict_well p s y Closes n b w = closed_well p s y.exit b w

-- the state with a candidate tried, and its verdict: in bounds, and of the section of the old state
abbrev IsTried : ProgramTable → State → (State × Verdict) → Type 0
IsTried p s r = IsInBounds p r.0 × (r.0.frame.section ≡ s.frame.section)

tried_well : (t : Tables) (p : ProgramTable) (s : State) (f : ForPhrase) (l : OpenLoop) (x : ℤ) → IsIn x →
    IsInBounds p s →
    Got (IsTried p s) (candidate_tried t s f l x)
tried_well t p s f l x h w =
    after_got IsNoneOrInRange (IsTried p s) (next_candidate (readings t s) l.walk x) _ (next_in (readings t s) l.walk x)
    (λ c k.
    after_got (λ (_ : Verdict). Unit {0}) (IsTried p s) (verdict_of (readings t (state_with_candidate s f c x))
    f.qualifiers) _ (anything _) (λ v _.
    let u = state_with_loops s (loops_with_candidate c s.frame.loops) in (
      assigned_well p u (loop_variable f.phrase) x h
          (loops_well p s (loops_with_candidate c s.frame.loops)
          (moved_in c s.frame.loops k w.frame.loops, moved_walks (length p.sets) c s.frame.loops w.frame.walks) w),
      (assigned_rest u (loop_variable f.phrase) x).section,
    )))

turn_well : (t : Tables) (p : ProgramTable) (s : State) (y : Ways) (f : ForPhrase) (l : OpenLoop) (c : Option ℤ) →
    IsNoneOrInRange c →
    IsPlace p s y.next → IsPlace p s y.exit → IsInBounds p s → IsInBounds p (state_after_turn t s y f l c)
turn_well t p s y f l None h n b w = closed_well p s y.exit b w
turn_well t p s y f l (Some x) h n b w =
    settled_well (IsTried p s) p s (candidate_tried t s f l x) _ w (tried_well t p s f l x h w)
    (λ r k. verdict_well p r.0 y r.1
    (subst (λ (i : ℕ). y.next < length (places_of (slice_get p.sections i))) (sym k.1) n)
    (subst (λ (i : ℕ). y.exit < length (places_of (slice_get p.sections i))) (sym k.1) b) k.0)

phrase_well : (t : Tables) (p : ProgramTable) (s : State) (y : Ways) (f : ForPhrase) (sc : Scope) (o : Option OpenLoop)
    → IsSoundPhrase sc f.phrase →
    sc.sets ≡ length p.sets → IsOpenIn o → IsPlace p s y.next → IsPlace p s y.exit → IsInBounds p s →
    IsInBounds p (state_after_phrase t s y f o)
phrase_well t p s y f sc None sound e h n b w =
    settled_well (IsOpened sc.sets) p s (loop_at_entry (readings t s) s.frame.place f.phrase) _ w
    (entry_in sc (readings t s) s.frame.place f.phrase sound (readings_in t p s w))
    (λ l k. reset_well p (state_with_loops s (l ∷ s.frame.loops)) y.resets
    (loops_well p s (l ∷ s.frame.loops) (
      (k.0, w.frame.loops),
      (subst (λ (m : ℕ). IsSoundWalk m l.walk) e k.1, w.frame.walks),
    ) w))
phrase_well t p s y f sc (Some l) sound e h n b w = turn_well t p s y f l l.candidate h n b w

-- ---- FIND and COMPUTE

statistics_in : (g : Statistics) (x : ℤ) → AreStatisticsInRange g → IsIn x →
    Got AreStatisticsInRange (statistics_with g x)
statistics_in g x h k =
    after_got IsIn AreStatisticsInRange _ _ (ranged_in (g.number +ℤ pos 1)) (λ n a.
    after_got IsIn AreStatisticsInRange _ _ (ranged_in (g.sum +ℤ x)) (λ total b. record {
      number = a;
      sum = b;
      greatest = either_in (int_lt (pos 0) g.number) (int_max g.greatest x) x (max_in g.greatest x h.greatest k) k;
      least = either_in (int_lt (pos 0) g.number) (int_min g.least x) x (min_in g.least x h.least k) k;
    }))

statistic_in : (g : Statistics) (m : Statistic) → AreStatisticsInRange g → IsIn (statistic_value g m)
statistic_in g Number h = h.number
statistic_in g Sum h = h.sum
statistic_in g Maximum h = h.greatest
statistic_in g Minimum h = h.least

telling_well : (t : Tables) (p : ProgramTable) (g : Statistics) (s : State) (xs : List Telling) →
    AreStatisticsInRange g → IsInBounds p s →
    Got (IsInBounds p) (state_after_telling t g s xs)
telling_well t p g s [] h w = w
telling_well t p g s (x ∷ xs) h w =
    after_got (IsInBounds p) (IsInBounds p) (state_with_value t s x.target (statistic_value g x.statistic)) _
    (value_well t p s x.target (statistic_value g x.statistic) (statistic_in g x.statistic h) w)
    (λ r k. telling_well t p g r xs h k)

-- ---- each kind of place

pub looping_well : (p : ProgramTable) (s : State) (y : Ways) (sc : Scope) (x : Looping) → IsSoundLooping sc x →
    sc.sets ≡ length p.sets →
    LeadsHere p s y (places.Looping x) → IsInBounds p s → IsInBounds p (step_looping (tables_of p) s y x)
looping_well p s y sc (For f) sound e l w =
    phrase_well (tables_of p) p s y f sc (loop_of_phrase s.frame.place (innermost s.frame.loops)) sound.0 e
    (loop_in s.frame.place s.frame.loops w.frame.loops) l.next l.leads w
looping_well p s y sc Loop sound e l w = state_at_place_well p s y.next l.next w
looping_well p s y sc Find sound e l w =
    state_at_place_well p (state_with_loops (state_with_found s true) (drop y.chain s.frame.loops)) y.next l.next
    (loops_well p (state_with_found s true) (drop y.chain s.frame.loops)
    (drop_in y.chain s.frame.loops w.frame.loops, drop_walks (length p.sets) y.chain s.frame.loops w.frame.walks)
    (found_well p s true w))
looping_well p s y sc (Gather g) sound e l w =
    settled_well AreStatisticsInRange p s _ _ w
    (after_got IsIn AreStatisticsInRange (value_of (readings (tables_of p) s) g) _
    (value_in (readings (tables_of p) s) g (readings_in (tables_of p) p s w))
    (λ x h. statistics_in s.frame.statistics x w.frame.statistics h))
    (λ z h. state_at_place_well p (state_with_statistics s z) y.next l.next (statistics_well p s z h w))
looping_well p s y sc (Tell ts) sound e l w =
    went_well p s _ y.next (telling_rest (tables_of p) s.frame.statistics s ts)
    (telling_well (tables_of p) p s.frame.statistics s ts w.frame.statistics w) l.next w
