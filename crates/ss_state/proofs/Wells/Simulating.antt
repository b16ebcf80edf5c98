-- so do the load of an entry and the start of an event
use Rattle.std.proofs.Common.{◌≡◌, ℕ, ℤ, get_or, ◌+◌, ◌≤◌, List, length, length-set, Bool, true, false, Option, Some}
use Rattle.std.proofs.Common.{None, Ok, arith, refl, sym, subst, ◌∙◌}
use Rattle.std.specs.Prelude.{slice_get, is_some, ◌&&◌, int_lt, pos, [], ◌∷◌, if◌then◌else◌}
use Rattle.std.specs.List.{range_with_len}
use Rattle.std.proofs.lemmas.List.FromFn.{length-range_with_len}
use Rattle.ss_words.specs.declared.fault.RunFault.TheVariants.{TimeBeforeClock}
use Rattle.ss_program.specs.declared.kinds.ClassKind.TheVariants.{Temporary}
use Rattle.ss_data.specs.Items.{Item, value_or_fault}
use Rattle.ss_data.specs.Entries.{item_writes}
use Rattle.ss_state.specs.declared.entry.Entry.{Entry}
use Rattle.ss_state.specs.declared.entry.Entry.TheVariants.{Waiting}
use Rattle.std.proofs.lemmas.List.Quantifiers.{position-Some}
use Rattle.std.proofs.lemmas.Option.{unwrap_or-slice_get}
use Rattle.std.proofs.lemmas.Bool.{and_parts}
use Rattle.ss_program.specs.declared.kinds.SectionKind.{SectionKind}
use Rattle.ss_program.specs.declared.kinds.SectionKind.TheVariants.{Main, Routine, Event}
use Rattle.ss_program.specs.Program as program
use Rattle.ss_program.specs.Program.{ClassTable, ProgramTable, event_of, event_of_kind, is_main, is_main_kind, is_event}
use Rattle.ss_program.specs.Program.{is_event_kind, section_of, locals_of, spot_at}
use Rattle.ss_program.specs.ProgramSound.{IsSound}
use Rattle.ss_state.specs.State.{State, FrameState}
use Rattle.ss_store.specs.Tables.{tables_of, class_of}
use Rattle.ss_store.specs.Store.{Store, last_reference, with_new, without_entity}
use Rattle.ss_events.specs.Rules.{rules_of}
use Rattle.ss_events.specs.Agenda.{Pending, pending_at, least, may_schedule, without_notice}
use Rattle.ss_values.specs.Faults.{◌>>=◌, ◌>>◌, refuse_if}
use Rattle.ss_values.specs.Values.{number_value}
use Rattle.ss_state.specs.Statements.{state_after_result, state_with_store, state_with_taken}
use Rattle.ss_state.specs.Statements.Timing.{attributes_now, tie_attributes, state_with_attributes, state_with_notice}
use Rattle.ss_state.specs.Statements.Timing.{state_after_scheduling, event_section, store_at_start, state_after_start}
use Rattle.ss_state.specs.Statements.Timing.{step_simulation, external_class, class_named, arrival_asked}
use Rattle.ss_state.specs.Statements.Timing.{state_after_arrival, state_after_load}
use Rattle.ss_state.specs.Well.{IsInBounds, IsStoreInRange, StartsAt, StandsOn, IsStack, AreOfClass, IsWellEntry}
use Rattle.ss_state.proofs.Sounds.{event_there, given_few}
use Rattle.ss_state.proofs.Ranges.{Got, after_got, anything, IsIn, set_in, ranged_in}
use Rattle.ss_state.proofs.Items.{IsThere, item_there}
use Rattle.ss_state.proofs.Staying.{StaysBut, ended_stays}
use Rattle.ss_state.proofs.Stores.{without_in}
use Rattle.ss_state.proofs.Dues.{due_but, due_less, due_later, others_of, others_left, left_not_before}
use Rattle.ss_state.proofs.Dues.{least_not_before, least_due, least_each}
use Rattle.ss_state.proofs.Entries.{entry_started, pending_new, class_more, class_none, class_each}
use Rattle.ss_state.proofs.Wells.Shared.{IsPlace, both_got, settled_well, state_at_place_well, store_well, taken_well}
use Rattle.ss_state.proofs.Wells.Calling.{external_event, frame_well}
use Rattle.ss_state.proofs.Wells.Timing.{AreCounted, IsNew, MayBe, after_passed, attributes_in, new_store, not_late}
use Rattle.ss_state.proofs.Wells.Timing.{scheduling_well}

-- the frame below an event's frame is MAIN's at START SIMULATION
event_stands : (p : ProgramTable) (k : SectionKind) (section : ℕ) (f : FrameState) → is_event_kind k ≡ true →
    is_main (section_of p f.section) ≡ true → StartsAt (spot_at p f.section f.place) → StandsOn p k section f
event_stands p Main section f e m h = cc
event_stands p Routine section f e m h = cc
event_stands p Event section f e m h = (m, h)

-- MAIN's frame has none below it
main_alone_by : (p : ProgramTable) (k : SectionKind) (section : ℕ) (f : FrameState) → is_main_kind k ≡ true →
    StandsOn p k section f → ⊥
main_alone_by p Main section f e h = h
main_alone_by p Routine section f e h = cc
main_alone_by p Event section f e h = cc

pub main_alone : (p : ProgramTable) (section : ℕ) (fs : List FrameState) → is_main (section_of p section) ≡ true →
    IsStack p section fs → fs ≡ []
main_alone p section [] m h = refl
main_alone p section (f ∷ fs) m h = absurd (main_alone_by p (section_of p section).kind section f m h.0)

-- a store without notice k, or with it
abbrev IsLeft : ℕ → Store → Store → Type 0
IsLeft k st new = IsStoreInRange new × StaysBut k st new

left_at_start : (p : ProgramTable) (st : Store) (c k : ℕ) → IsStoreInRange st →
    Got (IsLeft k st) (store_at_start p st c k)
left_at_start p st c k h = chosen (section_of p (event_section p c)).saving
  where
    chosen : (b : Bool) → Got (IsLeft k st) (if b then Ok st else without_entity (tables_of p) st c k)
    chosen true = (h, λ d j n g. g)
    chosen false = both_got IsStoreInRange (StaysBut k st) (without_entity (tables_of p) st c k)
        (without_in (tables_of p) st c k h) (ended_stays (tables_of p) st c k)

start_well : (p : ProgramTable) (s : State) (n : Pending) → IsSound p → is_main (section_of p s.frame.section) ≡ true →
    StartsAt (spot_at p s.frame.section s.frame.place) → least (rules_of p) s.agenda.pending ≡ Some n → IsInBounds p s →
    Got (IsInBounds p) (state_after_start p s n.notice n.class n.time)
start_well p s n sound m at l w =
    let i = event_section p n.class in
    let given = range_with_len 0 (section_of p i).given in
    let d = least_due p s.clock s.store (rules_of p) s.agenda.pending n l w.due in
    let event = event_there p n.class sound d.event in
    let below : s.below ≡ [] = main_alone p s.frame.section s.below m w.stack in
    let stands = event_stands p (section_of p i).kind i s.frame event.kind m at in
    after_got (AreCounted given) (IsInBounds p) (attributes_now s.store n.class n.notice given) _
    (attributes_in s.store n.class n.notice given w.store) (λ xs h.
    let few : length xs ≤ length (locals_of (slice_get p.sections i)) =
    omega (arith, h.1, length-range_with_len 0 (section_of p i).given, given_few p i sound event.section) in
    after_got (IsLeft n.notice s.store) (IsInBounds p) (store_at_start p s.store n.class n.notice) _
    (left_at_start p s.store n.class n.notice w.store) (λ st g.
    after_got IsIn (IsInBounds p) (number_value n.notice) _ (ranged_in (pos n.notice)) (λ x r. record {
      variables = length-set s.variables (program.class_of p n.class).variable x ∙ w.variables;
      values = set_in s.variables (program.class_of p n.class).variable x w.values r;
      frame = frame_well p i xs sound event.section few h.0;
      below = (w.frame, w.below);
      stack = (stands, w.stack);
      few = rw below (omega arith);
      clock = d.time;
      store = g.0;
      items = w.items;
      taken = w.taken;
      report = w.report;
      due = due_but p n.time n.notice s.store st (without_notice n.notice s.agenda.pending)
          (others_left n.notice s.agenda.pending) g.1
          (due_later p s.clock n.time s.store (without_notice n.notice s.agenda.pending)
          (left_not_before n.time n.notice s.agenda.pending (least_not_before (rules_of p) s.agenda.pending n l))
          (due_less p s.clock s.store n.notice s.agenda.pending w.due));
      entry = entry_started p n s.agenda.pending s.frame.section s.frame s.below s.entry
          (λ k c a. least_each (λ x. x.notice ≡ k → x.class ≡ c) (rules_of p) s.agenda.pending n l
          (class_each k c s.agenda.pending a)) below w.entry;
    })))

simulation_well : (p : ProgramTable) (s : State) (next : ℕ) (o : Option Pending) → IsSound p →
    is_main (section_of p s.frame.section) ≡ true →
    StartsAt (spot_at p s.frame.section s.frame.place) → least (rules_of p) s.agenda.pending ≡ o → IsPlace p s next →
    IsInBounds p s →
    IsInBounds p (step_simulation p s next o)
simulation_well p s next None sound m at l k w = state_at_place_well p s next k w
simulation_well p s next (Some n) sound m at l k w =
    settled_well (IsInBounds p) p s _ _ w (start_well p s n sound m at l w) (λ r h. h)

-- a class and a time that the data may give
abbrev IsArrival : ProgramTable → State → ℕ × ℤ → Type 0
IsArrival p s a = ((event_of p a.0).external ≡ true) × IsIn a.1 × (s.feed.taken + 2 ≤ length s.feed.items)

pub named_external : (p : ProgramTable) (o : Option Item) (c : ℕ) → external_class p o ≡ Some c →
    (event_of p c).external ≡ true
named_external p o c h =
    let none : ClassTable = record { name = []; kind = Temporary; variable = 0; attributes = [] } in
    let f = position-Some (λ (x : ClassTable). (event_of_kind x.kind).external && item_writes x.name o) p.classes c none
    h in
    let k : (event_of_kind (get_or p.classes c none).kind).external ≡ true =
    (and_parts (event_of_kind (get_or p.classes c none).kind).external (item_writes (get_or p.classes c none).name o)
    f.1).0 in
    subst (λ (x : ClassTable). (event_of_kind x.kind).external ≡ true) (sym (unwrap_or-slice_get p.classes c none)) k

pub named_well : (p : ProgramTable) (o : Option Item) (c : ℕ) → external_class p o ≡ Some c →
    is_event (program.class_of p c).kind ≡ true
named_well p o c h = external_event (program.class_of p c).kind (named_external p o c h)

asked_well : (p : ProgramTable) (s : State) → IsInBounds p s → Got (IsArrival p s) (arrival_asked p s)
asked_well p s w = found (external_class p (slice_get s.feed.items s.feed.taken)) refl
  where
    found : (o : Option ℕ) → external_class p (slice_get s.feed.items s.feed.taken) ≡ o →
        Got (IsArrival p s) (class_named o >>= λ c. value_or_fault (slice_get s.feed.items (s.feed.taken + 1)) >>=
        λ time. Ok (c, time))
    found None e = tt
    found (Some c) e =
        after_got (IsThere s.feed.items (s.feed.taken + 1)) (IsArrival p s)
        (value_or_fault (slice_get s.feed.items (s.feed.taken + 1))) _
        (item_there s.feed.items (s.feed.taken + 1) w.items) (λ x h. (named_external p _ c e, h.0, omega (arith, h.1)))

entered_well : (p : ProgramTable) (s : State) (e : Entry) → IsWellEntry p s.agenda.pending s.frame.section s.below e →
    IsInBounds p s → IsInBounds p (record s { entry = e })
entered_well p s e x w =
    record {
      variables = w.variables;
      values = w.values;
      frame = w.frame;
      below = w.below;
      stack = w.stack;
      few = w.few;
      clock = w.clock;
      store = w.store;
      items = w.items;
      taken = w.taken;
      report = w.report;
      due = w.due;
      entry = x;
    }

-- a notice of class c that is pending, all with its reference being of that class
abbrev IsArrived : ℕ → ℕ → State → Type 0
IsArrived c k s = (is_some (pending_at s.agenda.pending k) ≡ true) × AreOfClass k c s.agenda.pending

noticed_arrived : (s : State) (c k : ℕ) (time : ℤ) (keys : List ℤ) →
    Got (IsArrived c k) (state_with_notice s c k time keys)
noticed_arrived s c k time keys =
    let n : Pending = record { notice = k; time = time; class = c; keys = keys; filing = s.agenda.next_filing } in
    after_passed (IsArrived c k) (MayBe s.agenda k time s.clock tt) (may_schedule s.agenda k time s.clock) _
    (not_late s.agenda k time s.clock) (λ l. (
      pending_new n s.agenda.pending,
      class_more k c n s.agenda.pending (λ _. refl)
          (class_none k c s.agenda.pending (others_of k s.agenda.pending l.1)),
    ))

scheduling_arrived : (p : ProgramTable) (s : State) (c k : ℕ) (time : ℤ) (xs : List ℤ) →
    Got (IsArrived c k) (state_after_scheduling p s c k time xs)
scheduling_arrived p s c k time xs =
    after_got (λ (_ : State). Unit {0}) (IsArrived c k) (state_with_attributes s c k 0 xs) _ (anything _) (λ r _.
    after_got (λ (_ : List ℤ). Unit {0}) (IsArrived c k) (attributes_now r.store c k (tie_attributes p c))
    (state_with_notice r c k time) (anything _)
    (λ keys _. noticed_arrived r c k time keys))

arrival_well : (p : ProgramTable) (s : State) (c : ℕ) (time : ℤ) → (event_of p c).external ≡ true → IsIn time →
    IsInBounds p s →
    Got (IsInBounds p) (state_after_arrival p s c time)
arrival_well p s c time x t w =
    let e = external_event (program.class_of p c).kind x in
    after_got (IsNew c s.store) (IsInBounds p) (refuse_if (int_lt time s.clock) TimeBeforeClock >> with_new s.store c
    (class_of (tables_of p) c)) _
    (new_store s.store c (class_of (tables_of p) c) (int_lt time s.clock) w.store) (λ st n.
    let u = state_with_store s st in
    after_got (λ r. IsInBounds p r × IsArrived c (last_reference st) r) (IsInBounds p)
    (state_after_scheduling p u c (last_reference st) time []) _
    (both_got (IsInBounds p) (IsArrived c (last_reference st)) _
    (scheduling_well p u c (last_reference st) time [] e t tt (store_well p s st n.0 w, n.1.there))
    (scheduling_arrived p u c (last_reference st) time []))
    (λ r g. entered_well p r (Waiting c (last_reference st)) (x, g.1.0, g.1.1) g.0))

load_well : (p : ProgramTable) (s : State) → IsInBounds p s → Got (IsInBounds p) (state_after_load p s)
load_well p s w =
    after_got (IsArrival p s) (IsInBounds p) (arrival_asked p s) _ (asked_well p s w)
    (λ a h. arrival_well p (state_with_taken s (s.feed.taken + 2)) a.0 a.1 h.0 h.1
    (taken_well p s (s.feed.taken + 2) h.2 w))

pub started_well : (p : ProgramTable) (s : State) (next : ℕ) (b : Bool) → IsSound p →
    is_main (section_of p s.frame.section) ≡ true →
    StartsAt (spot_at p s.frame.section s.frame.place) → IsPlace p s next → IsInBounds p s →
    IsInBounds p (if b then state_after_result s (state_after_load p s) (λ r. r) else step_simulation p s next
    (least (rules_of p) s.agenda.pending))
started_well p s next true sound m at k w = settled_well (IsInBounds p) p s _ _ w (load_well p s w) (λ r h. h)
started_well p s next false sound m at k w =
    simulation_well p s next (least (rules_of p) s.agenda.pending) sound m at refl k w
