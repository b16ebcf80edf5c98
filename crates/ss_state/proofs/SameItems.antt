-- no step changes the items of the data
use Rattle.std.proofs.Common.{◌≡◌, ℕ, ℤ, zero, suc, ◌+◌, Bool, true, false, List, [], ◌∷◌, Option, Some, None, Result}
use Rattle.std.proofs.Common.{Ok, Err, refl, ap, ◌∙◌}
use Rattle.std.specs.Prelude.{int_lt, length, if◌then◌else◌}
use Rattle.std.specs.List.{range_with_len}
use Rattle.ss_words.specs.declared.fault.RunFault.{RunFault}
use Rattle.ss_program.specs.declared.place.Output.TheVariants.{Print, Skip}
use Rattle.ss_program.specs.declared.place.Control.TheVariants.{Stop, Return, End}
use Rattle.ss_program.specs.declared.place.Place.{Place}
use Rattle.ss_program.specs.declared.place.Place.TheVariants.{Assign, Making, Filing, Output, Control, Branch, Looping}
use Rattle.ss_program.specs.declared.place.Place.TheVariants.{Call, Timing, Read}
use Rattle.ss_program.specs.declared.place.Spot.{Spot}
use Rattle.ss_program.specs.declared.branch.Branch.TheVariants.{If, Else, Always}
use Rattle.ss_program.specs.declared.looping.ForPhrase.{ForPhrase}
use Rattle.ss_program.specs.declared.looping.Looping.TheVariants.{For, Loop, Find, Gather, Tell}
use Rattle.ss_program.specs.declared.timing.Timing.TheVariants.{Schedule, Cancel, Start}
use Rattle.ss_program.specs.declared.ways.Resets.{Resets}
use Rattle.ss_program.specs.declared.ways.Resets.TheVariants as resets
use Rattle.ss_program.specs.declared.ways.Ways.{Ways}
use Rattle.ss_program.specs.declared.kinds.SectionKind.{SectionKind}
use Rattle.ss_program.specs.declared.kinds.SectionKind.TheVariants as kinds
use Rattle.ss_program.specs.Program.{ProgramTable, has_external, section_of, spot_at}
use Rattle.ss_words.specs.declared.fault.RunFault.TheVariants.{OutsideEntry, TimeBeforeClock}
use Rattle.ss_data.specs.Items.{DataRead}
use Rattle.ss_data.specs.Entries.{place_behind_mark}
use Rattle.ss_state.specs.declared.entry.Entry.{Entry}
use Rattle.ss_state.specs.declared.entry.Entry.TheVariants.{Absent, Waiting, Running}
use Rattle.ss_values.specs.Faults.{◌>>◌, refuse_if}
use Rattle.ss_store.specs.Tables.{Tables, tables_of, class_of}
use Rattle.ss_store.specs.Store.{Store, last_reference, with_new}
use Rattle.ss_events.specs.Rules.{rules_of}
use Rattle.ss_events.specs.Agenda.{Pending, least}
use Rattle.ss_values.specs.Values.{number_value}
use Rattle.ss_state.specs.State.{State, FrameState, is_ready, is_waiting}
use Rattle.ss_state.specs.Loops.{OpenLoop, Verdict, Runs, Passes, Closes, innermost, loop_of_phrase, loop_variable}
use Rattle.ss_state.specs.Loops.{loops_with_candidate, next_candidate, verdict_of}
use Rattle.ss_state.specs.Statements.{state_after_result, state_with_store, state_with_taken, state_with_values}
use Rattle.ss_state.specs.Statements.{ways_here}
use Rattle.ss_state.specs.Statements.Reading.{values_taken}
use Rattle.ss_state.specs.Statements.Looping.{state_after_phrase, state_after_reset, candidate_tried}
use Rattle.ss_state.specs.Statements.Looping.{state_after_turn, state_after_verdict, state_with_candidate}
use Rattle.ss_state.specs.Statements.Looping.{state_with_loops}
use Rattle.ss_state.specs.Statements.Calling.{state_behind_mark, state_without_entry, state_after_event}
use Rattle.ss_state.specs.Statements.Calling.{state_after_return, state_after_section, state_behind_call}
use Rattle.ss_state.specs.Statements.Calling.{state_behind_place}
use Rattle.ss_state.specs.Statements.Timing.{state_after_scheduling, state_after_arrival, arrival_asked}
use Rattle.ss_state.specs.Statements.Timing.{state_after_load, loads, attributes_now, event_section, store_at_start}
use Rattle.ss_state.specs.Statements.Timing.{state_after_start, step_simulation}
use Rattle.ss_state.specs.Step.{step, step_at, step_by}
use Rattle.ss_state.specs.Readings.{readings}
use Rattle.ss_state.proofs.Ranges.{Got, after_got, anything}
use Rattle.ss_state.proofs.Rests.{LeavesRest, assigned_rest, assign_rest, making_rest, filing_rest, telling_rest}
use Rattle.ss_state.proofs.Rests.{values_rest, scheduling_rest, schedule_rest, cancel_rest}
use Rattle.ss_state.specs.Run.{Input, run}
use Rattle.ss_state.specs.Laws.{StepsKeepItems}

-- two states have the same items
abbrev HasItemsOf : State → State → Type 0
HasItemsOf s t = t.feed.items ≡ s.feed.items

settled_items : {A : Type 0} (s : State) (r : Result A RunFault) (f : A → State) → ((x : A) → HasItemsOf s (f x)) →
    HasItemsOf s (state_after_result s r f)
settled_items s (Ok x) f h = h x
settled_items s (Err e) f h = refl

got_items : {A : Type 0} (P : A → Type 0) (s : State) (r : Result A RunFault) (f : A → State) → Got P r →
    ((x : A) → P x → HasItemsOf s (f x)) →
    HasItemsOf s (state_after_result s r f)
got_items P s (Ok x) f g h = h x g
got_items P s (Err e) f g h = refl

-- states of which one leaves the data of the other
same_items : (s t : State) → LeavesRest s t → HasItemsOf s t
same_items s t h = ap (λ (d : DataRead). d.items) h.feed

read_items : (s u : State) (r : Result State RunFault) → HasItemsOf s u → Got (LeavesRest u) r → Got (HasItemsOf s) r
read_items s u (Ok t) e h = same_items u t h ∙ e
read_items s u (Err f) e h = tt

reset_items : (s : State) (r : Resets) → HasItemsOf s (state_after_reset s r)
reset_items s resets.Nothing = refl
reset_items s resets.Found = refl
reset_items s resets.Statistics = refl

verdict_items : (w : Ways) (s : State) (v : Verdict) → HasItemsOf s (state_after_verdict w s v)
verdict_items w s Runs = refl
verdict_items w s Passes = refl
verdict_items w s Closes = refl

turn_items : (t : Tables) (s : State) (w : Ways) (f : ForPhrase) (l : OpenLoop) (c : Option ℤ) →
    HasItemsOf s (state_after_turn t s w f l c)
turn_items t s w f l None = refl
turn_items t s w f l (Some x) =
    got_items (λ (r : State × Verdict). HasItemsOf s r.0) s (candidate_tried t s f l x) _
    (after_got (λ (_ : Option ℤ). Unit {0}) (λ (r : State × Verdict). HasItemsOf s r.0)
    (next_candidate (readings t s) l.walk x) _ (anything _) (λ c _.
    after_got (λ (_ : Verdict). Unit {0}) (λ (r : State × Verdict). HasItemsOf s r.0)
    (verdict_of (readings t (state_with_candidate s f c x)) f.qualifiers) _ (anything _)
    (λ v _. same_items (state_with_loops s (loops_with_candidate c s.frame.loops)) _
    (assigned_rest (state_with_loops s (loops_with_candidate c s.frame.loops)) (loop_variable f.phrase) x))))
    (λ r h. verdict_items w r.0 r.1 ∙ h)

phrase_items : (t : Tables) (s : State) (w : Ways) (f : ForPhrase) (o : Option OpenLoop) →
    HasItemsOf s (state_after_phrase t s w f o)
phrase_items t s w f None = settled_items s _ _ (λ l. reset_items (state_with_loops s (l ∷ s.frame.loops)) w.resets)
phrase_items t s w f (Some l) = turn_items t s w f l l.candidate

behind_call_items : (t : Tables) (vs : List ℤ) (k next : ℕ) (s : State) (x : Place) →
    Got (HasItemsOf s) (state_behind_call t vs k next s x)
behind_call_items t vs k next s (Assign a) = refl
behind_call_items t vs k next s (Making m) = refl
behind_call_items t vs k next s (Filing f) = refl
behind_call_items t vs k next s (Output o) = refl
behind_call_items t vs k next s (Control c) = refl
behind_call_items t vs k next s (Branch b) = refl
behind_call_items t vs k next s (Looping l) = refl
behind_call_items t vs k next s (Call c) =
    after_got (LeavesRest s) (HasItemsOf s) (state_with_values t vs s k c.targets) _ (values_rest t vs s k c.targets)
    (λ r h. same_items s r h)
behind_call_items t vs k next s (Timing x) = refl
behind_call_items t vs k next s (Read ts) = refl

behind_place_items : (p : ProgramTable) (vs : List ℤ) (k : ℕ) (s : State) (o : Option Spot) →
    Got (HasItemsOf s) (state_behind_place p vs k s o)
behind_place_items p vs k s None = refl
behind_place_items p vs k s (Some spot) =
    behind_call_items (tables_of p) vs k (ways_here p s spot.place).next s spot.place

return_items : (p : ProgramTable) (s : State) (fs : List FrameState) → HasItemsOf s (state_after_return p s fs)
return_items p s [] = refl
return_items p s (f ∷ fs) =
    got_items (HasItemsOf s) s _ _
    (behind_place_items p s.frame.locals (section_of p s.frame.section).given (record s { frame = f; below = fs })
    (spot_at p f.section f.place)) (λ r h. h)

mark_items : (s : State) (o : Option ℕ) → Got (HasItemsOf s) (state_behind_mark s o)
mark_items s None = tt
mark_items s (Some n) = refl

entry_items : (s : State) (e : Entry) → Got (HasItemsOf s) (state_without_entry s e)
entry_items s Absent = refl
entry_items s (Waiting c k) = refl
entry_items s (Running c k) = mark_items s (place_behind_mark s.feed)

event_items : (s : State) (fs : List FrameState) → HasItemsOf s (state_after_event s fs)
event_items s [] = refl
event_items s (f ∷ fs) = got_items (HasItemsOf s) s _ _ (entry_items s s.entry) (λ r h. h)

section_items : (p : ProgramTable) (s : State) (k : SectionKind) → HasItemsOf s (state_after_section p s k)
section_items p s kinds.Main = refl
section_items p s kinds.Routine = return_items p s s.below
section_items p s kinds.Event = event_items s s.below

start_items : (p : ProgramTable) (s : State) (k c : ℕ) (time : ℤ) → Got (HasItemsOf s) (state_after_start p s k c time)
start_items p s k c time =
    after_got (λ (_ : List ℤ). Unit {0}) (HasItemsOf s) (attributes_now s.store c k
    (range_with_len 0 (section_of p (event_section p c)).given)) _ (anything _) (λ xs _.
    after_got (λ (_ : Store). Unit {0}) (HasItemsOf s) (store_at_start p s.store c k) _ (anything _) (λ st _.
    after_got (λ (_ : ℤ). Unit {0}) (HasItemsOf s) (number_value k) _ (anything _) (λ x _. refl)))

simulation_items : (p : ProgramTable) (s : State) (next : ℕ) (o : Option Pending) →
    HasItemsOf s (step_simulation p s next o)
simulation_items p s next None = refl
simulation_items p s next (Some n) = got_items (HasItemsOf s) s _ _ (start_items p s n.notice n.class n.time) (λ r h. h)

-- the result after a load, which takes a name and a time
arrival_items : (p : ProgramTable) (s : State) (c : ℕ) (time : ℤ) → Got (HasItemsOf s) (state_after_arrival p s c time)
arrival_items p s c time =
    after_got (λ (_ : Store). Unit {0}) (HasItemsOf s) (refuse_if (int_lt time s.clock) TimeBeforeClock >> with_new
    s.store c (class_of (tables_of p) c)) _ (anything _) (λ st _.
    let u = state_with_store s st in
    after_got (LeavesRest u) (HasItemsOf s) (state_after_scheduling p u c (last_reference st) time []) _
    (scheduling_rest p u c (last_reference st) time [])
    (λ r h. same_items u r h))

load_items : (p : ProgramTable) (s : State) → Got (HasItemsOf s) (state_after_load p s)
load_items p s =
    after_got (λ (_ : ℕ × ℤ). Unit {0}) (HasItemsOf s) (arrival_asked p s) _ (anything _)
    (λ a _. arrival_items p (state_with_taken s (s.feed.taken + 2)) a.0 a.1)

started_items : (p : ProgramTable) (s : State) (next : ℕ) (b : Bool) →
    HasItemsOf s (if b then state_after_result s (state_after_load p s) (λ r. r) else step_simulation p s next
    (least (rules_of p) s.agenda.pending))
started_items p s next true = got_items (HasItemsOf s) s _ _ (load_items p s) (λ r h. h)
started_items p s next false = simulation_items p s next (least (rules_of p) s.agenda.pending)

place_items : (p : ProgramTable) (s : State) (w : Ways) (x : Place) → HasItemsOf s (step_at p s w x)
place_items p s w (Assign a) = got_items (LeavesRest s) s _ _ (assign_rest (tables_of p) s a) (λ r h. same_items s r h)
place_items p s w (Making m) = got_items (LeavesRest s) s _ _ (making_rest (tables_of p) s m) (λ r h. same_items s r h)
place_items p s w (Filing f) = got_items (LeavesRest s) s _ _ (filing_rest (tables_of p) s f) (λ r h. same_items s r h)
place_items p s w (Output (Print count values picture)) = settled_items s _ _ (λ report. refl)
place_items p s w (Output (Skip e)) = settled_items s _ _ (λ report. refl)
place_items p s w (Control Stop) = refl
place_items p s w (Control Return) = section_items p s (section_of p s.frame.section).kind
place_items p s w (Control End) = section_items p s (section_of p s.frame.section).kind
place_items p s w (Branch (If q)) = settled_items s _ _ (λ b. refl)
place_items p s w (Branch Else) = refl
place_items p s w (Branch Always) = refl
place_items p s w (Looping (For f)) =
    phrase_items (tables_of p) s w f (loop_of_phrase s.frame.place (innermost s.frame.loops))
place_items p s w (Looping Loop) = refl
place_items p s w (Looping Find) = refl
place_items p s w (Looping (Gather e)) = settled_items s _ _ (λ g. refl)
place_items p s w (Looping (Tell ts)) =
    got_items (LeavesRest s) s _ _ (telling_rest (tables_of p) s.frame.statistics s ts) (λ r h. same_items s r h)
place_items p s w (Call c) = settled_items s _ _ (λ xs. refl)
place_items p s w (Timing (Schedule x)) = got_items (LeavesRest s) s _ _ (schedule_rest p s x) (λ r h. same_items s r h)
place_items p s w (Timing (Cancel c is_called e)) =
    got_items (LeavesRest s) s _ _ (cancel_rest (tables_of p) s c e) (λ r h. same_items s r h)
place_items p s w (Timing Start) = started_items p s w.next (loads p s)
place_items p s w (Read ts) =
    let u = state_with_taken s (s.feed.taken + length ts) in
    got_items (HasItemsOf s) s _ _
    (after_got (λ (_ : List ℤ). Unit {0}) (HasItemsOf s) (refuse_if (is_waiting s.entry) OutsideEntry >> values_taken
    (has_external p) s.feed.items s.feed.taken ts) _ (anything _) (λ xs _.
    read_items s u (state_with_values (tables_of p) xs u 0 ts) refl (values_rest (tables_of p) xs u 0 ts))) (λ r h. h)

spot_items : (p : ProgramTable) (s : State) (o : Option Spot) → HasItemsOf s (step_by p s o)
spot_items p s None = refl
spot_items p s (Some spot) = place_items p s (ways_here p s spot.place) spot.place

pub step_items : StepsKeepItems
step_items p s = spot_items p s (spot_at p s.frame.section s.frame.place)

next_items : (p : ProgramTable) (s : State) (goes_on : Bool) → HasItemsOf s (if goes_on then step p s else s)
next_items p s true = step_items p s
next_items p s false = refl

-- so all states of a run have those of its data
pub run_items : (i : Input) (k : ℕ) → (run i k).feed.items ≡ i.items
run_items i zero = refl
run_items i (suc k) = next_items i.program (run i k) (is_ready (run i k).status) ∙ run_items i k
