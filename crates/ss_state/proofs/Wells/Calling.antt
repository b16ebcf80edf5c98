-- so do CALL, RETURN and END
use Rattle.std.proofs.Common.{◌≡◌, ℕ, ℤ, ◌+◌, ◌<◌, ◌≤◌, List, ◌++◌, length, length-append, Bool, true, false, Option}
use Rattle.std.proofs.Common.{Some, None, Ok, Err, arith, refl, sym, subst, ◌∙◌}
use Rattle.std.specs.Prelude.{slice_get, position, option_map, nat_lt, pos, [], ◌∷◌, drop, replicate, unwrap_or, ◌-◌}
use Rattle.std.specs.Prelude.{if◌then◌else◌}
use Rattle.std.proofs.lemmas.List.{length-replicate, length-drop}
use borrow.Author.Tests.{ltb-true}
use Rattle.ss_words.specs.declared.fault.RunFault.TheVariants.{TooManyFrames}
use Rattle.ss_program.specs.declared.kinds.ClassKind.{ClassKind}
use Rattle.ss_program.specs.declared.kinds.ClassKind.TheVariants.{Permanent, Temporary, Event as OfEvent}
use Rattle.ss_data.specs.Items.{Item}
use Rattle.ss_data.specs.Entries as entries
use Rattle.ss_data.specs.Entries.{behind_mark, place_behind_mark}
use Rattle.ss_state.specs.declared.entry.Entry.{Entry}
use Rattle.ss_state.specs.declared.entry.Entry.TheVariants.{Absent, Waiting, Running}
use Rattle.std.proofs.lemmas.List.Quantifiers.{position-Some}
use Rattle.ss_program.specs.declared.place.Place.{Place}
use Rattle.ss_program.specs.declared.place.Place.TheVariants as places
use Rattle.ss_program.specs.declared.place.Spot.{Spot}
use Rattle.ss_program.specs.declared.call.Call.{Call}
use Rattle.ss_program.specs.declared.kinds.SectionKind.{SectionKind}
use Rattle.ss_program.specs.declared.kinds.SectionKind.TheVariants.{Main, Routine, Event}
use Rattle.ss_program.specs.ProgramExpr.{Expr}
use Rattle.ss_program.specs.Program as program
use Rattle.ss_program.specs.Program.{SectionTable, ProgramTable, event_of, event_of_kind, is_event, is_event_kind}
use Rattle.ss_program.specs.Program.{is_routine_kind, no_section, section_of, places_of, locals_of, spot_at}
use Rattle.ss_program.specs.ProgramSound.{IsSound, is_end, GoesOn, IsCalledBy}
use Rattle.ss_state.specs.declared.status.Status.TheVariants.{Finished}
use Rattle.ss_state.specs.declared.limits.TheConstants.{MOST_BELOW}
use Rattle.ss_state.specs.State.{State, FrameState, new_frame}
use Rattle.ss_store.specs.Tables.{Tables, tables_of}
use Rattle.ss_values.specs.Values.{Readings, value_of, values_of}
use Rattle.ss_state.specs.Readings.{readings}
use Rattle.ss_state.specs.Statements.{state_with_values, ways_here}
use Rattle.ss_state.specs.Statements.Calling.{room_for_frame, step_call, state_behind_call, state_behind_place}
use Rattle.ss_state.specs.Statements.Calling.{state_after_return, state_after_event, state_after_section}
use Rattle.ss_state.specs.Statements.Calling.{state_behind_mark, state_without_entry}
use Rattle.ss_state.specs.Well.{IsInBounds, IsWellFrame, AreWellFrames, AreInRange, Calls, CallsAt, StandsOn, IsStack}
use Rattle.ss_state.specs.Well.{IsWellEntry}
use Rattle.ss_state.proofs.Sounds.{there, section_sound, spot_linked, ended_some, called_there, called_few}
use Rattle.ss_state.proofs.Sounds.{event_there}
use Rattle.ss_state.proofs.Ranges.{Got, after_got, IsIn, AreIn, zeros_in}
use Rattle.ss_state.proofs.ValuesIn.{value_in}
use Rattle.ss_state.proofs.Rests.{LeavesRest, values_rest}
use Rattle.ss_state.proofs.ValueCounts.{values_counted}
use Rattle.ss_state.proofs.Entries.{IsIdle, entry_pushed, entry_popped, entry_idle}
use Rattle.ss_state.proofs.Wells.Shared.{both_got, marked_well, readings_in, rest_place, settled_well}
use Rattle.ss_state.proofs.Wells.Shared.{state_at_place_well, taken_well}
use Rattle.ss_state.proofs.Wells.Assigning.{values_well}

pub values_in : (v : Readings) (es : List Expr) → AreIn v → Got AreInRange (values_of v es)
values_in v [] h = tt
values_in v (e ∷ es) h =
    after_got IsIn AreInRange (value_of v e) _ (value_in v e h)
    (λ x a. after_got AreInRange AreInRange (values_of v es) _ (values_in v es h) (λ xs b. (a, b)))

append_in : (xs ys : List ℤ) → AreInRange xs → AreInRange ys → AreInRange (xs ++ ys)
append_in [] ys h k = k
append_in (x ∷ xs) ys h k = (h.0, append_in xs ys h.1 k)

-- values for a new frame: in range, as many as are given, and room for the frame
abbrev IsGiven : List FrameState → ℕ → List ℤ → Type 0
IsGiven below n xs = AreInRange xs × (length xs ≡ n) × (length below < MOST_BELOW)

few_in : (below : List FrameState) (n : ℕ) (xs : List ℤ) → AreInRange xs → length xs ≡ n →
    Got (IsGiven below n) (room_for_frame below xs)
few_in below n xs h e = chosen (nat_lt (length below) MOST_BELOW) refl
  where
    chosen : (b : Bool) → nat_lt (length below) MOST_BELOW ≡ b →
        Got (IsGiven below n) (if b then Ok xs else Err TooManyFrames)
    chosen true f = (h, e, ltb-true _ _ f)
    chosen false f = tt

called_locals : (n : ℕ) (xs : List ℤ) → length xs ≤ n → length (xs ++ replicate (n - length xs) (pos 0)) ≡ n
called_locals n xs h =
    omega (arith, length-append xs (replicate (n - length xs) (pos 0)), length-replicate (n - length xs) (pos 0), h)

section_place : (p : ProgramTable) (i : ℕ) (o : Option SectionTable) → IsSound p → i < length p.sections →
    slice_get p.sections i ≡ o →
    0 < length (places_of o)
section_place p i None sound l e = absurd (none_there (there p.sections i l) e)
  where
    none_there : (x : SectionTable) × (slice_get p.sections i ≡ Some x) → slice_get p.sections i ≡ None → ⊥
    none_there h e = let f : slice_get p.sections i ≡ Some h.0 = h.1 in cc
section_place p i (Some s) sound l e = ended_some s.places (section_sound _ p.sections i s sound.sections e).ended

pub frame_well : (p : ProgramTable) (i : ℕ) (xs : List ℤ) → IsSound p → i < length p.sections →
    length xs ≤ length (locals_of (slice_get p.sections i)) → AreInRange xs → IsWellFrame p (new_frame p i xs)
frame_well p i xs sound l f h = record {
  section = l;
  place = section_place p i (slice_get p.sections i) sound l refl;
  locals = called_locals _ xs f;
  values = append_in xs _ h (zeros_in _);
  loops = tt;
  walks = tt;
  statistics = record { number = refl; sum = refl; greatest = refl; least = refl };
}

-- the frame below a routine's frame is at the CALL of it
routine_stands : (p : ProgramTable) (k : SectionKind) (section : ℕ) (f : FrameState) → is_routine_kind k ≡ true →
    CallsAt section (spot_at p f.section f.place) → StandsOn p k section f
routine_stands p Main section f e h = cc
routine_stands p Routine section f e h = h
routine_stands p Event section f e h = cc

called_routine_by : (c : Call) (o : Option SectionTable) → IsCalledBy c o →
    is_routine_kind (unwrap_or o no_section).kind ≡ true
called_routine_by c None h = absurd h
called_routine_by c (Some t) h = h.0

called_routine : (p : ProgramTable) (c : Call) → IsCalledBy c (slice_get p.sections c.section) →
    is_routine_kind (section_of p c.section).kind ≡ true
called_routine p c h = called_routine_by c (slice_get p.sections c.section) h

pub call_well : (p : ProgramTable) (s : State) (spot : Spot) (c : Call) → IsSound p →
    spot_at p s.frame.section s.frame.place ≡ Some spot →
    spot.place ≡ places.Call c → IsCalledBy c (slice_get p.sections c.section) → IsInBounds p s →
    IsInBounds p (step_call p s c)
call_well p s spot c sound at is called w =
    let stands : CallsAt c.section (spot_at p s.frame.section s.frame.place) =
    rw at (subst (λ (x : Place). Calls c.section x) (sym is) refl) in
    settled_well (IsGiven s.below (length c.given)) p s _ _ w
    (after_got (λ (xs : List ℤ). AreInRange xs × (length xs ≡ length c.given)) (IsGiven s.below (length c.given))
    (values_of (readings (tables_of p) s) c.given) _
    (both_got AreInRange (λ (xs : List ℤ). length xs ≡ length c.given) (values_of (readings (tables_of p) s) c.given)
    (values_in (readings (tables_of p) s) c.given (readings_in (tables_of p) p s w))
    (values_counted (readings (tables_of p) s) c.given))
    (λ xs h. few_in s.below (length c.given) xs h.0 h.1))
    (λ xs h. record {
      variables = w.variables;
      values = w.values;
      frame = frame_well p c.section xs sound (called_there p.sections c called)
          (subst (λ (n : ℕ). n ≤ length (locals_of (slice_get p.sections c.section))) (sym h.1)
          (called_few p c sound called)) h.0;
      below = (w.frame, w.below);
      stack = (
        routine_stands p (section_of p c.section).kind c.section s.frame (called_routine p c called) stands,
        w.stack,
      );
      few = h.2;
      clock = w.clock;
      store = w.store;
      items = w.items;
      taken = w.taken;
      report = w.report;
      due = w.due;
      entry = entry_pushed p s.agenda.pending c.section s.frame s.below s.entry w.entry;
    })

-- a state that a place may lead on from
behind_call_well : (t : Tables) (p : ProgramTable) (vs : List ℤ) (k next : ℕ) (s : State) (x : Place) → AreInRange vs →
    GoesOn (length (places_of (slice_get p.sections s.frame.section))) (is_end x) next → IsInBounds p s →
    Got (IsInBounds p) (state_behind_call t vs k next s x)
behind_call_well t p vs k next s (places.Assign a) h g w = w
behind_call_well t p vs k next s (places.Making m) h g w = w
behind_call_well t p vs k next s (places.Filing f) h g w = w
behind_call_well t p vs k next s (places.Output o) h g w = w
behind_call_well t p vs k next s (places.Control c) h g w = w
behind_call_well t p vs k next s (places.Branch b) h g w = w
behind_call_well t p vs k next s (places.Looping l) h g w = w
behind_call_well t p vs k next s (places.Call c) h g w =
    after_got (λ r. LeavesRest s r × IsInBounds p r) (IsInBounds p) (state_with_values t vs s k c.targets) _
    (both_got (LeavesRest s) (IsInBounds p) _ (values_rest t vs s k c.targets) (values_well t p vs s k c.targets h w))
    (λ r b. state_at_place_well p r next (rest_place p s r next b.0 g) b.1)
behind_call_well t p vs k next s (places.Timing x) h g w = w
behind_call_well t p vs k next s (places.Read ts) h g w = w

behind_place_well : (p : ProgramTable) (vs : List ℤ) (k : ℕ) (s : State) (o : Option Spot) → IsSound p → AreInRange vs →
    spot_at p s.frame.section s.frame.place ≡ o → IsInBounds p s → Got (IsInBounds p) (state_behind_place p vs k s o)
behind_place_well p vs k s None sound h e w = w
behind_place_well p vs k s (Some spot) sound h e w =
    behind_call_well (tables_of p) p vs k (ways_here p s spot.place).next s spot.place h
    (spot_linked p s.frame.section s.frame.place spot sound e).next w

-- a state whose last frame is dropped
dropped_well : (p : ProgramTable) (s : State) (f : FrameState) (fs : List FrameState) → s.below ≡ f ∷ fs →
    IsWellEntry p s.agenda.pending f.section fs s.entry → IsInBounds p s →
    IsInBounds p (record s { frame = f; below = fs })
dropped_well p s f fs e x w =
    let b : AreWellFrames p (f ∷ fs) = subst (λ (gs : List FrameState). AreWellFrames p gs) e w.below in
    let m : IsStack p s.frame.section (f ∷ fs) =
    subst (λ (gs : List FrameState). IsStack p s.frame.section gs) e w.stack in
    let l : length (f ∷ fs) ≤ MOST_BELOW = subst (λ (gs : List FrameState). length gs ≤ MOST_BELOW) e w.few in
    record {
      variables = w.variables;
      values = w.values;
      frame = b.0;
      below = b.1;
      stack = m.1;
      few = omega (arith, l);
      clock = w.clock;
      store = w.store;
      items = w.items;
      taken = w.taken;
      report = w.report;
      due = w.due;
      entry = x;
    }

pub external_event : (k : ClassKind) → (event_of_kind k).external ≡ true → is_event k ≡ true
external_event (Permanent n) h = cc
external_event Temporary h = cc
external_event (OfEvent e) h = refl

-- the section of an external class is that of an event
external_kind : (p : ProgramTable) → IsSound p → (c : ℕ) → (event_of p c).external ≡ true →
    is_event_kind (section_of p (event_of p c).section).kind ≡ true
external_kind p sound c h = (event_there p c sound (external_event (program.class_of p c).kind h)).kind

return_well : (p : ProgramTable) (s : State) (bs : List FrameState) → IsSound p →
    (section_of p s.frame.section).kind ≡ Routine → s.below ≡ bs → IsInBounds p s →
    IsInBounds p (state_after_return p s bs)
return_well p s [] sound k e w = w
return_well p s (f ∷ fs) sound k e w =
    let x = entry_popped p s.agenda.pending s.frame.section f fs s.entry k (external_kind p sound)
    (subst (λ (gs : List FrameState). IsWellEntry p s.agenda.pending s.frame.section gs s.entry) e w.entry) in
    settled_well (IsInBounds p) p s _ _ w
    (behind_place_well p s.frame.locals (section_of p s.frame.section).given (record s { frame = f; below = fs })
    (spot_at p f.section f.place) sound
    w.frame.values refl (dropped_well p s f fs e x w)) (λ r h. h)

-- a state in bounds with the frames of another one
abbrev IsBehindMark : ProgramTable → State → State → Type 0
IsBehindMark p s r = IsInBounds p r × (r.below ≡ s.below) × IsIdle r.entry

mark_within : (xs : List Item) (i n : ℕ) → i ≤ length xs → behind_mark xs i ≡ Some n → n ≤ length xs
mark_within xs i n l h = found (position (λ x. entries.is_mark x.bytes) (drop i xs)) refl h
  where
    found : (o : Option ℕ) → position (λ x. entries.is_mark x.bytes) (drop i xs) ≡ o →
        option_map (λ k. i + k + 1) o ≡ Some n → n ≤ length xs
    found None e g = cc
    found (Some k) e g =
        let d : Item = record { bytes = []; value = None } in
        let m : i + k + 1 ≡ n = cc in
        omega (
          arith,
          m,
          l,
          (position-Some (λ (x : Item). entries.is_mark x.bytes) (drop i xs) k d e).0,
          length-drop i
              xs,
        )

behind_mark_well : (p : ProgramTable) (s : State) (o : Option ℕ) → place_behind_mark s.feed ≡ o → IsInBounds p s →
    Got (IsBehindMark p s) (state_behind_mark s o)
behind_mark_well p s None e w = tt
behind_mark_well p s (Some n) e w =
    let t = taken_well p s n (mark_within s.feed.items s.feed.taken n w.taken e) w in (
      record {
        variables = t.variables;
        values = t.values;
        frame = t.frame;
        below = t.below;
        stack = t.stack;
        few = t.few;
        clock = t.clock;
        store = t.store;
        items = t.items;
        taken = t.taken;
        report = t.report;
        due = t.due;
        entry = tt;
      },
      refl,
      tt,
    )

entry_well : (p : ProgramTable) (s : State) (e : Entry) → s.entry ≡ e → IsInBounds p s →
    Got (IsBehindMark p s) (state_without_entry s e)
entry_well p s (Running c k) i w = behind_mark_well p s (place_behind_mark s.feed) refl w
entry_well p s Absent i w = (w, refl, rw i tt)
entry_well p s (Waiting c k) i w = (w, refl, rw i tt)

event_well : (p : ProgramTable) (s : State) (bs : List FrameState) → s.below ≡ bs → IsInBounds p s →
    IsInBounds p (state_after_event s bs)
event_well p s [] e w = w
event_well p s (f ∷ fs) e w =
    settled_well (IsBehindMark p s) p s _ _ w (entry_well p s s.entry refl w)
    (λ r h. dropped_well p r f fs (h.1 ∙ e) (entry_idle p r.agenda.pending r.frame.section f.section r.below fs r.entry
    h.2 h.0.entry) h.0)

pub section_well : (p : ProgramTable) (s : State) (k : SectionKind) → IsSound p → (section_of p s.frame.section).kind ≡ k →
    IsInBounds p s →
    IsInBounds p (state_after_section p s k)
section_well p s Main sound e w = marked_well p s Finished w
section_well p s Routine sound e w = return_well p s s.below sound e refl w
section_well p s Event sound e w = event_well p s s.below refl w
