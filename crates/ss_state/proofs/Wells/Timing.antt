-- so do SCHEDULE and CANCEL
use Rattle.std.proofs.Common.{◌≡◌, ℕ, ℤ, suc, ◌+◌, List, length, Bool, true, false, Result, Ok, Err, refl, ap}
use Rattle.std.specs.Prelude.{◌||◌, int_lt, nat_lt, pos, [], ◌∷◌, not, ◌+ℤ◌, if◌then◌else◌}
use Rattle.ss_words.specs.declared.fault.RunFault.{RunFault}
use Rattle.ss_words.specs.declared.fault.RunFault.TheVariants.{NoEntity, TimeBeforeClock, AlreadyScheduled}
use Rattle.ss_words.specs.declared.fault.RunFault.TheVariants.{NotScheduled, TooManyReferences}
use Rattle.ss_program.specs.declared.target.Target.{Target}
use Rattle.ss_program.specs.declared.timing.Notice.{Notice}
use Rattle.ss_program.specs.declared.timing.Notice.TheVariants.{New, Known}
use Rattle.ss_program.specs.declared.timing.Listing.{Listing}
use Rattle.ss_program.specs.declared.timing.Listing.TheVariants.{InParentheses, Given}
use Rattle.ss_program.specs.declared.timing.When.{When}
use Rattle.ss_program.specs.declared.timing.When.TheVariants.{At, Now, In}
use Rattle.ss_program.specs.declared.timing.Schedule.{Schedule}
use Rattle.ss_program.specs.ProgramExpr.{Expr}
use Rattle.ss_program.specs.Program as program
use Rattle.ss_program.specs.Program.{ProgramTable, is_event}
use Rattle.ss_state.specs.State.{State, waits_for}
use Rattle.ss_store.specs.declared.shape.ClassShape.{ClassShape}
use Rattle.ss_store.specs.Tables.{Tables, tables_of, class_of}
use Rattle.ss_store.specs.Store.{Store, number_of, exists, attribute_of, last_reference, with_attribute, with_new}
use Rattle.ss_events.specs.declared.limits.TheConstants.{MOST_SCHEDULINGS}
use Rattle.ss_events.specs.Agenda.{Agenda, is_pending, may_schedule, agenda_after_scheduling, agenda_after_taking}
use Rattle.ss_values.specs.Faults.{◌>>=◌, ◌>>◌, refuse_if}
use Rattle.ss_values.specs.Values.{Readings, value_of, values_of, number_value}
use Rattle.ss_state.specs.Readings.{readings}
use Rattle.ss_state.specs.Statements.{state_with_store, state_with_value, entity_named}
use Rattle.ss_state.specs.Statements.Timing.{notice_named, arguments_asked, time_asked, attributes_now}
use Rattle.ss_state.specs.Statements.Timing.{tie_attributes, state_with_attributes, state_with_agenda}
use Rattle.ss_state.specs.Statements.Timing.{state_with_notice, state_after_scheduling, state_after_new}
use Rattle.ss_state.specs.Statements.Timing.{state_after_notice, state_after_schedule, agenda_without}
use Rattle.ss_state.specs.Statements.Timing.{state_after_cancel}
use Rattle.ss_state.specs.Well.{IsInBounds, AreInRange, IsStoreInRange, AreDue, IsWellEntry}
use Rattle.ss_state.proofs.Ranges.{Got, after_got, anything, IsIn, AreIn, ranged_in}
use Rattle.ss_state.proofs.ValuesIn.{value_in}
use Rattle.ss_state.proofs.Stores.{set_attribute_in, attribute_value_in, new_in}
use Rattle.ss_state.proofs.Staying.{IsLast, attribute_stays, new_stays}
use Rattle.ss_state.proofs.Staying.{new_last}
use Rattle.ss_state.proofs.Dues.{due_more, due_less}
use Rattle.ss_state.proofs.Entries.{entry_more, entry_less}
use Rattle.ss_state.proofs.Wells.Shared.{IsNext, both_got, next_store, readings_in, store_well}
use Rattle.ss_state.proofs.Wells.Assigning.{value_well}
use Rattle.ss_state.proofs.Wells.Calling.{values_in}

-- the state with other pending notices
agenda_well : (p : ProgramTable) (s : State) (a : Agenda) → AreDue p s.clock s.store a.pending →
    IsWellEntry p a.pending s.frame.section s.below s.entry → IsInBounds p s → IsInBounds p (state_with_agenda s a)
agenda_well p s a h x w =
    record {
      variables = w.variables;
      values = w.values;
      frame = w.frame;
      below = w.below;
      stack = w.stack;
      few = w.few;
      clock = w.clock;
      store = w.store;
      items = w.items;
      taken = w.taken;
      report = w.report;
      due = h;
      entry = x;
    }

-- as many values in range as there are attributes
abbrev pub AreCounted : List ℕ → List ℤ → Type 0
AreCounted rest xs = AreInRange xs × (length xs ≡ length rest)

pub attributes_in : (st : Store) (c k : ℕ) (rest : List ℕ) → IsStoreInRange st →
    Got (AreCounted rest) (attributes_now st c k rest)
attributes_in st c k [] h = (tt, refl)
attributes_in st c k (a ∷ rest) h =
    after_got IsIn (AreCounted (a ∷ rest)) (attribute_of st c a k) _ (attribute_value_in st c a k h) (λ x i.
    after_got (AreCounted rest) (AreCounted (a ∷ rest)) (attributes_now st c k rest) _ (attributes_in st c k rest h)
    (λ xs j. ((i, j.0), ap suc j.1)))

-- a state in bounds in which entity number k of class c exists
abbrev HasEntity : ProgramTable → ℕ → ℕ → State → Type 0
HasEntity p c k s = IsInBounds p s × (exists s.store c k ≡ true)

attributes_well : (p : ProgramTable) (s : State) (c k a : ℕ) (xs : List ℤ) → AreInRange xs → HasEntity p c k s →
    Got (HasEntity p c k) (state_with_attributes s c k a xs)
attributes_well p s c k a [] h w = w
attributes_well p s c k a (x ∷ xs) h w =
    after_got (IsNext s.store) (HasEntity p c k) (with_attribute s.store c a k x) _
    (next_store s.store _ (set_attribute_in s.store c a k x h.0 w.0.store) (attribute_stays s.store c a k x))
    (λ st n. attributes_well p (state_with_store s st) c k (a + 1) xs h.1 (store_well p s st n w.0, n.1 c k w.1))

-- a time is not before the clock, and a notice not pending
abbrev pub MayBe : Agenda → ℕ → ℤ → ℤ → Unit {0} → Type 0
MayBe a k time clock u = (int_lt time clock ≡ false) × (is_pending a k ≡ false)

-- this holds if the notice may be scheduled
pub not_late : (a : Agenda) (k : ℕ) (time clock : ℤ) → Got (MayBe a k time clock) (may_schedule a k time clock)
not_late a k time clock = chosen (int_lt time clock) refl
  where
    last : (c : Bool) → int_lt time clock ≡ false → is_pending a k ≡ false →
        Got (MayBe a k time clock) (if c then Err TooManyReferences else Ok tt)
    last true e f = tt
    last false e f = (e, f)

    second : (c : Bool) → is_pending a k ≡ c → int_lt time clock ≡ false → Got (MayBe a k time clock)
        (if c then Err AlreadyScheduled else if nat_lt MOST_SCHEDULINGS a.next_filing then Err TooManyReferences else Ok tt)
    second true f e = tt
    second false f e = last (nat_lt MOST_SCHEDULINGS a.next_filing) e f

    chosen : (b : Bool) → int_lt time clock ≡ b → Got (MayBe a k time clock)
        (if b then Err TimeBeforeClock else if is_pending a k then Err AlreadyScheduled else if nat_lt MOST_SCHEDULINGS
        a.next_filing then Err TooManyReferences else Ok tt)
    chosen true e = tt
    chosen false e = second (is_pending a k) refl e

-- the result after a test that was passed
pub after_passed : (P : State → Type 0) (Q : Type 0) (r : Result (Unit {0}) RunFault) (q : Result State RunFault) →
    Got (λ (_ : Unit {0}). Q) r → (Q → Got P q) → Got P (r >> q)
after_passed P Q (Ok x) q h k = k h
after_passed P Q (Err e) q h k = tt

noticed_well : (p : ProgramTable) (s : State) (c k : ℕ) (time : ℤ) (keys : List ℤ) →
    is_event (program.class_of p c).kind ≡ true → IsIn time →
    AreInRange keys → HasEntity p c k s → Got (IsInBounds p) (state_with_notice s c k time keys)
noticed_well p s c k time keys e t h w =
    after_passed (IsInBounds p) (MayBe s.agenda k time s.clock tt) (may_schedule s.agenda k time s.clock) _
    (not_late s.agenda k time s.clock) (λ l.
    agenda_well p s (agenda_after_scheduling s.agenda k time c keys)
    (due_more p s.clock s.store _ s.agenda.pending (record { event = e; exists = w.1; time = t; due = l.0; keys = h })
    w.0.due)
    (entry_more p _ s.agenda.pending s.frame.section s.below s.entry l.1 w.0.entry) w.0)

pub scheduling_well : (p : ProgramTable) (s : State) (c k : ℕ) (time : ℤ) (xs : List ℤ) →
    is_event (program.class_of p c).kind ≡ true → IsIn time →
    AreInRange xs → HasEntity p c k s → Got (IsInBounds p) (state_after_scheduling p s c k time xs)
scheduling_well p s c k time xs e t h w =
    after_got (HasEntity p c k) (IsInBounds p) (state_with_attributes s c k 0 xs) _ (attributes_well p s c k 0 xs h w)
    (λ r g.
    after_got (AreCounted (tie_attributes p c)) (IsInBounds p) (attributes_now r.store c k (tie_attributes p c))
    (state_with_notice r c k time)
    (attributes_in r.store c k (tie_attributes p c) g.0.store) (λ keys i. noticed_well p r c k time keys e t i.0 g))

-- a store with an entity more, which has the last reference
abbrev pub IsNew : ℕ → Store → Store → Type 0
IsNew c st new = IsNext st new × IsLast new c

pub new_store : (st : Store) (c : ℕ) (shape : ClassShape) (b : Bool) → IsStoreInRange st →
    Got (IsNew c st) (refuse_if b TimeBeforeClock >> with_new st c shape)
new_store st c shape true h = tt
new_store st c shape false h =
    both_got (IsNext st) (λ (r : Store). IsLast r c) (with_new st c shape)
    (next_store st _ (new_in st c shape h) (new_stays st c shape)) (new_last st c shape)

new_well : (p : ProgramTable) (s : State) (c : ℕ) (target : Target) (time : ℤ) (xs : List ℤ) →
    is_event (program.class_of p c).kind ≡ true → IsIn time →
    AreInRange xs → IsInBounds p s → Got (IsInBounds p) (state_after_new p s c target time xs)
new_well p s c target time xs e t h w =
    after_got (IsNew c s.store) (IsInBounds p) (refuse_if (int_lt time s.clock) TimeBeforeClock >> with_new s.store c
    (class_of (tables_of p) c)) _
    (new_store s.store c (class_of (tables_of p) c) (int_lt time s.clock) w.store) (λ st n.
    after_got (IsInBounds p) (IsInBounds p) (state_after_scheduling p (state_with_store s st) c (last_reference st) time
    xs) _
    (scheduling_well p (state_with_store s st) c (last_reference st) time xs e t h (store_well p s st n.0 w, n.1.there))
    (λ r g.
    after_got IsIn (IsInBounds p) (number_value (last_reference st)) (state_with_value (tables_of p) r target)
    (ranged_in (pos (last_reference st)))
    (λ x i. value_well (tables_of p) p r target x i g)))

existing_there : (st : Store) (c : ℕ) (x : ℤ) → Got (λ (k : ℕ). exists st c k ≡ true) (entity_named st c x)
existing_there st c x = chosen (exists st c (number_of x)) refl
  where
    chosen : (b : Bool) → exists st c (number_of x) ≡ b →
        Got (λ (k : ℕ). exists st c k ≡ true) (refuse_if (not b) NoEntity >> Ok (number_of x))
    chosen true e = e
    chosen false e = tt

notice_well : (p : ProgramTable) (s : State) (c : ℕ) (n : Notice) (x time : ℤ) (xs : List ℤ) →
    is_event (program.class_of p c).kind ≡ true → IsIn time →
    AreInRange xs → IsInBounds p s → Got (IsInBounds p) (state_after_notice p s c n x time xs)
notice_well p s c (New is_called target) x time xs e t h w = new_well p s c target time xs e t h w
notice_well p s c (Known is_called y) x time xs e t h w =
    after_got (λ (k : ℕ). exists s.store c k ≡ true) (IsInBounds p) (entity_named s.store c x) _
    (existing_there s.store c x)
    (λ k i. scheduling_well p s c k time xs e t h (w, i))

-- arguments in range
abbrev HasArguments : ℤ × List ℤ → Type 0
HasArguments a = AreInRange a.1

arguments_in : (v : Readings) (n : Notice) (es : List Expr) (l : Listing) → AreIn v →
    Got HasArguments (arguments_asked v n es l)
arguments_in v n es InParentheses h =
    after_got AreInRange HasArguments (values_of v es) _ (values_in v es h) (λ xs i.
    after_got (λ (_ : ℤ). Unit {0}) HasArguments (notice_named v n) _ (anything _) (λ x _. i))
arguments_in v n es Given h =
    after_got (λ (_ : ℤ). Unit {0}) HasArguments (notice_named v n) _ (anything _) (λ x _.
    after_got AreInRange HasArguments (values_of v es) _ (values_in v es h) (λ xs i. i))

time_in : (v : Readings) (x : When) → AreIn v → Got IsIn (time_asked v x)
time_in v (At e) h = value_in v e h
time_in v Now h = h.clock
time_in v (In e) h =
    after_got (λ (_ : ℤ). Unit {0}) IsIn (value_of v e) _ (anything _) (λ n _. ranged_in (v.clock +ℤ n))

pub schedule_well : (p : ProgramTable) (s : State) (x : Schedule) → is_event (program.class_of p x.class).kind ≡ true →
    IsInBounds p s →
    Got (IsInBounds p) (state_after_schedule p s x)
schedule_well p s x e w =
    let v = readings (tables_of p) s in
    after_got HasArguments (IsInBounds p) (arguments_asked v x.notice x.arguments x.listing) _
    (arguments_in v x.notice x.arguments x.listing (readings_in (tables_of p) p s w)) (λ a h.
    after_got IsIn (IsInBounds p) (time_asked v x.when) _ (time_in v x.when (readings_in (tables_of p) p s w))
    (λ time t. notice_well p s x.class x.notice a.0 time a.1 e t h w))

-- a part of the pending notices
abbrev IsPart : ProgramTable → State → Agenda → Type 0
IsPart p s a = AreDue p s.clock s.store a.pending × IsWellEntry p a.pending s.frame.section s.below s.entry

without_part : (p : ProgramTable) (s : State) (k : ℕ) → IsInBounds p s → Got (IsPart p s) (agenda_without s k)
without_part p s k w = chosen (waits_for k s.entry) (not (is_pending s.agenda k)) refl
  where
    chosen : (b c : Bool) → waits_for k s.entry ≡ b →
        Got (IsPart p s) (refuse_if (b || c) NotScheduled >> Ok (agenda_after_taking s.agenda k))
    chosen true c e = tt
    chosen false true e = tt
    chosen false false e = (
      due_less p s.clock s.store k s.agenda.pending w.due,
      entry_less p k s.agenda.pending s.frame.section s.below
          s.entry e w.entry,
    )

pub cancel_well : (t : Tables) (p : ProgramTable) (s : State) (c : ℕ) (e : Expr) → IsInBounds p s →
    Got (IsInBounds p) (state_after_cancel t s c e)
cancel_well t p s c e w =
    after_got (IsPart p s) (IsInBounds p) (value_of (readings t s) e >>= entity_named s.store c >>= agenda_without s) _
    (after_got (λ (_ : ℕ). Unit {0}) (IsPart p s) (value_of (readings t s) e >>= entity_named s.store c)
    (agenda_without s)
    (anything _)
    (λ k _. without_part p s k w)) (λ a h. agenda_well p s a h.0 h.1 w)
