-- The part of a state that a step leaves as it is, if its place makes a store, or changes the
-- pending notices and the clock.
use Rattle.std.proofs.Common.{ℕ, ℤ, ◌+◌, Bool, true, false, List, [], ◌∷◌, Option, Some, None, Result, Ok, Err}
use Rattle.std.specs.Prelude.{int_lt, if◌then◌else◌}
use Rattle.std.specs.List.{range_with_len}
use Rattle.ss_words.specs.declared.fault.RunFault.{RunFault}
use Rattle.ss_words.specs.declared.fault.RunFault.TheVariants.{EndedInUse, TimeBeforeClock}
use Rattle.ss_program.specs.Program as program
use Rattle.ss_program.specs.Program.{ProgramTable, section_of}
use Rattle.ss_program.specs.ProgramExpr.{Expr}
use Rattle.ss_program.specs.declared.timing.Notice.{Notice}
use Rattle.ss_program.specs.declared.timing.Notice.TheVariants.{New, Known}
use Rattle.ss_program.specs.declared.timing.Schedule.{Schedule}
use Rattle.ss_program.specs.declared.timing.Timing.{Timing}
use Rattle.ss_program.specs.declared.timing.Timing.TheVariants as timings
use Rattle.ss_program.specs.declared.filing.Filing.TheVariants.{File, FileAt, RemoveAt, Remove}
use Rattle.ss_program.specs.declared.filing.Filing.{Filing}
use Rattle.ss_program.specs.declared.making.Making.TheVariants.{Create, CreateEvery, Destroy}
use Rattle.ss_program.specs.declared.place.Place.TheVariants as places
use Rattle.ss_program.specs.declared.target.SetRef.{SetRef}
use Rattle.ss_program.specs.declared.target.Target.{Target}
use Rattle.ss_program.specs.declared.variable.Variable.TheVariants.{Global}
use Rattle.ss_program.specs.declared.ways.Ways.{Ways}
use Rattle.ss_data.specs.Items.{with_taken}
use Rattle.ss_store.specs.declared.shape.How.{How}
use Rattle.ss_store.specs.declared.shape.ClassShape.{ClassShape}
use Rattle.ss_store.specs.declared.shape.SetShape.{SetShape}
use Rattle.ss_store.specs.declared.shape.Which.{Which}
use Rattle.ss_store.specs.declared.shape.Which.TheVariants as which
use Rattle.ss_events.specs.Rules.{rules_of}
use Rattle.ss_events.specs.Agenda.{Agenda, Pending, is_pending, least, may_schedule}
use Rattle.ss_store.specs.Filing.{after_filing, after_removing}
use Rattle.ss_store.specs.Store.{Store, number_of, last_reference, with_attribute, with_new, with_class, without_entity}
use Rattle.ss_store.specs.Tables.{Tables, tables_of, class_of, set_of}
use Rattle.ss_values.specs.Faults.{◌>>=◌, ◌>>◌}
use Rattle.ss_values.specs.Values.{value_of, subscript_value, number_value}
use Rattle.ss_state.proofs.Ranges.{Got, after_got, unless_refused}
use Rattle.ss_state.specs.Readings.{readings}
use Rattle.ss_state.specs.State.{State}
use Rattle.ss_state.specs.Statements.{state_after_result, state_with_store}
use Rattle.ss_state.specs.Statements.{state_with_taken, entity_named}
use Rattle.ss_state.specs.Statements.Entities.{state_after_create, number_asked, state_after_create_every}
use Rattle.ss_state.specs.Statements.Entities.{state_after_destroy, store_without}
use Rattle.ss_state.specs.Statements.Filing.{state_after_filing}
use Rattle.ss_state.specs.Statements.Filing.{which_at, how_at, how_asked, state_after_file}
use Rattle.ss_state.specs.Step.{step_at}
use Rattle.ss_state.specs.Statements.Timing.{arguments_asked, time_asked, attributes_now, tie_attributes}
use Rattle.ss_state.specs.Statements.Timing.{state_with_attributes, state_with_agenda, state_after_scheduling}
use Rattle.ss_state.specs.Statements.Timing.{state_after_notice, state_after_schedule}
use Rattle.ss_state.specs.Statements.Timing.{agenda_without, state_after_cancel}
use Rattle.ss_state.specs.Statements.Timing.{event_section, store_at_start}
use Rattle.ss_state.specs.Statements.Timing.{state_at_time, state_after_start, step_simulation}
use Rattle.ss_state.specs.Statements.Timing.{arrival_asked, state_after_arrival, state_after_load, loads}
use Rattle.ss_trace.proofs.PlaceSteps.{Ignores, IgnoresAttributes, got, then_got, then_any, placed, assigned, value}

-- a property of a state holds of it with the store that a statement makes of its own
pub record KeepsStores (P : State → Type 0) (s : State) : Type 0 where
  pub filed : (shape : SetShape) (o k : ℕ) (how : How) →
      Got (λ (st : Store). P (state_with_store s st)) (after_filing shape s.store o k how)
  pub removed : (shape : SetShape) (o : ℕ) (w : Which) →
      Got (λ (r : ℕ × Store). P (state_with_store s r.1)) (after_removing shape s.store o w)
  pub made : (c : ℕ) (shape : ClassShape) →
      Got (λ (st : Store). P (state_with_store s st)) (with_new s.store c shape)
  pub ended : (t : Tables) (c k : ℕ) → Got (λ (st : Store). P (state_with_store s st)) (without_entity t s.store c k)

-- a property of a state says nothing of its store
abbrev pub IgnoresStore : (State → Type 0) → Type 0
IgnoresStore P = (s : State) (st : Store) → P s → P (state_with_store s st)

-- nor of the pending notices and the clock
pub record IgnoresTime (P : State → Type 0) : Type 0 where
  pub agenda : (s : State) (a : Agenda) → P s → P (state_with_agenda s a)
  pub clock : (s : State) (x : ℤ) → P s → P (record s { clock = x })

all_got : {A : Type 0} (Q : A → Type 0) (r : Result A RunFault) → ((x : A) → Q x) → Got Q r
all_got Q (Ok x) h = h x
all_got Q (Err e) h = tt

pub any_store : (P : State → Type 0) (s : State) → IgnoresStore P → P s → KeepsStores P s
any_store P s h p = record {
  filed = λ shape o k how. all_got _ (after_filing shape s.store o k how) (λ st. h s st p);
  removed = λ shape o w. all_got _ (after_removing shape s.store o w) (λ r. h s r.1 p);
  made = λ c shape. all_got _ (with_new s.store c shape) (λ st. h s st p);
  ended = λ t c k. all_got _ (without_entity t s.store c k) (λ st. h s st p);
}

module _ {P : State → Type 0} (i : Ignores P) (att : IgnoresAttributes P) where
  -- ---- if the property holds of stores that statements make

  -- after a test that was passed
  then_past : {A B : Type 0} (Q : B → Type 0) (r : Result A RunFault) (n : Result B RunFault) → Got Q n →
      Got Q (r >> n)
  then_past Q (Ok x) n h = h
  then_past Q (Err e) n h = tt

  -- over a store
  over : (s : State) (r : Result Store RunFault) (f : Store → Result State RunFault) →
      Got (λ (st : Store). P (state_with_store s st)) r → ((st : Store) → P (state_with_store s st) → Got P (f st)) →
      Got P (r >>= f)
  over s r f g h = after_got (λ (st : Store). P (state_with_store s st)) P r f g h

  create : (t : Tables) (s : State) (c : ℕ) (target : Target) → KeepsStores P s →
      Got P (state_after_create t s c target)
  create t s c target k =
      over s (with_new s.store c (class_of t c)) _ (k.made c (class_of t c)) (λ st h.
      then_got i (number_value (last_reference st)) _ (λ x. value i att t (state_with_store s st) target x h))

  every : (t : Tables) (s : State) (c count : ℕ) (e : Option Expr) → IgnoresStore P → P s →
      Got P (number_asked (readings t s) e count >>= state_after_create_every t s c count)
  every t s c count e h p =
      then_got i (number_asked (readings t s) e count) _ (λ n.
      then_got i (with_class s.store c (class_of t c) n) _ (λ st.
      assigned i (state_with_store s st) (Global count) n (h s st p)))

  destroy : (t : Tables) (s : State) (c : ℕ) (e : Expr) → KeepsStores P s → Got P (state_after_destroy t s c e)
  destroy t s c e k =
      over s _ _ (then_any i _ (value_of (readings t s) e >>= entity_named s.store c) (store_without t s c) (λ n.
      unless_refused _ (is_pending s.agenda n) EndedInUse (without_entity t s.store c n) (k.ended t c n)))
      (λ st h. h)

  file : (t : Tables) (s : State) (r : SetRef) (x : ℤ) (how : How) → KeepsStores P s →
      Got P (state_after_file t s r x how)
  file t s r x how k =
      then_got i (subscript_value (readings t s) r.owner) _ (λ o.
      over s (after_filing (set_of t r.set) s.store (number_of o) (number_of x) how) _
      (k.filed (set_of t r.set) (number_of o) (number_of x) how) (λ st h. h))

  filing : (t : Tables) (s : State) (f : Filing) → KeepsStores P s → Got P (state_after_filing t s f)
  filing t s (File e position r) k =
      then_got i (value_of (readings t s) e) _ (λ x.
      then_got i (how_asked (readings t s) position) _ (λ how. file t s r x how k))
  filing t s (FileAt end e r) k = then_got i (value_of (readings t s) e) _ (λ x. file t s r x (how_at end) k)
  filing t s (RemoveAt end target r) k =
      then_got i (subscript_value (readings t s) r.owner) _ (λ o.
      after_got (λ (m : ℕ × Store). P (state_with_store s m.1)) P
      (after_removing (set_of t r.set) s.store (number_of o) (which_at end)) _
      (k.removed (set_of t r.set) (number_of o) (which_at end)) (λ m h.
      then_got i (number_value m.0) _ (λ x. value i att t (state_with_store s m.1) target x h)))
  filing t s (Remove e r) k =
      then_got i (value_of (readings t s) e) _ (λ x.
      then_got i (subscript_value (readings t s) r.owner) _ (λ o.
      after_got (λ (m : ℕ × Store). P (state_with_store s m.1)) P
      (after_removing (set_of t r.set) s.store (number_of o) (which.Member x)) _
      (k.removed (set_of t r.set) (number_of o) (which.Member x)) (λ m h. h)))

  -- a statement that makes one entity leaves it
  pub by_create : (q : ProgramTable) (s : State) (w : Ways) (c : ℕ) (b : Bool) (target : Target) → KeepsStores P s →
      P s → P (step_at q s w (places.Making (Create c b target)))
  by_create q s w c b target k p = got i P s _ _ p (create (tables_of q) s c target k) (λ r g. placed i r w.next g)

  -- a statement that makes all entities of a class, if the property ignores the store
  pub by_every : (q : ProgramTable) (s : State) (w : Ways) (c : ℕ) (e : Option Expr) (count : ℕ) → IgnoresStore P →
      P s → P (step_at q s w (places.Making (CreateEvery c e count)))
  by_every q s w c e count h p = got i P s _ _ p (every (tables_of q) s c count e h p) (λ r g. placed i r w.next g)

  -- a statement that ends one
  pub by_destroy : (q : ProgramTable) (s : State) (w : Ways) (c : ℕ) (b : Bool) (e : Expr) → KeepsStores P s →
      P s → P (step_at q s w (places.Making (Destroy c b e)))
  by_destroy q s w c b e k p = got i P s _ _ p (destroy (tables_of q) s c e k) (λ r g. placed i r w.next g)

  -- and a statement that files or removes
  pub by_filing : (q : ProgramTable) (s : State) (w : Ways) (f : Filing) → KeepsStores P s → P s →
      P (step_at q s w (places.Filing f))
  by_filing q s w f k p = got i P s _ _ p (filing (tables_of q) s f k) (λ r g. placed i r w.next g)

  -- ---- if the property ignores the time, too

  attributes : (s : State) (c k a : ℕ) (xs : List ℤ) → P s → Got P (state_with_attributes s c k a xs)
  attributes s c k a [] p = p
  attributes s c k a (x ∷ xs) p =
      over s (with_attribute s.store c a k x) _ (att s c a k x p)
      (λ st h. attributes (state_with_store s st) c k (a + 1) xs h)

  scheduling : (q : ProgramTable) (s : State) (c k : ℕ) (time : ℤ) (xs : List ℤ) → IgnoresTime P → P s →
      Got P (state_after_scheduling q s c k time xs)
  scheduling q s c k time xs a p =
      after_got P P (state_with_attributes s c k 0 xs) _ (attributes s c k 0 xs p) (λ r h.
      then_got i (attributes_now r.store c k (tie_attributes q c)) _ (λ keys.
      then_past P (may_schedule r.agenda k time r.clock) _ (a.agenda r _ h)))

  notice : (q : ProgramTable) (s : State) (c : ℕ) (n : Notice) (x time : ℤ) (xs : List ℤ) → KeepsStores P s →
      IgnoresTime P → P s → Got P (state_after_notice q s c n x time xs)
  notice q s c (New b target) x time xs k a p =
      over s _ _ (unless_refused _ (int_lt time s.clock) TimeBeforeClock (with_new s.store c (class_of (tables_of q) c))
      (k.made c (class_of (tables_of q) c))) (λ st h.
      after_got P P (state_after_scheduling q (state_with_store s st) c (last_reference st) time xs) _
      (scheduling q (state_with_store s st) c (last_reference st) time xs a h) (λ r g.
      then_got i (number_value (last_reference st)) _ (λ z. value i att (tables_of q) r target z g)))
  notice q s c (Known b e) x time xs k a p =
      then_got i (entity_named s.store c x) _ (λ j. scheduling q s c j time xs a p)

  schedule : (q : ProgramTable) (s : State) (x : Schedule) → KeepsStores P s → IgnoresTime P → P s →
      Got P (state_after_schedule q s x)
  schedule q s x k a p =
      then_got i (arguments_asked (readings (tables_of q) s) x.notice x.arguments x.listing) _ (λ xs.
      then_got i (time_asked (readings (tables_of q) s) x.when) _ (λ time.
      notice q s x.class x.notice xs.0 time xs.1 k a p))

  cancel : (t : Tables) (s : State) (c : ℕ) (e : Expr) → IgnoresTime P → P s → Got P (state_after_cancel t s c e)
  cancel t s c e a p =
      then_got i (value_of (readings t s) e >>= entity_named s.store c >>= agenda_without s) _ (λ n. a.agenda s n p)

  at_start : (s : State) (b : Bool) (r : Result Store RunFault) → P s →
      Got (λ (st : Store). P (state_with_store s st)) r →
      Got (λ (st : Store). P (state_with_store s st)) (if b then Ok s.store else r)
  at_start s true r p g = p
  at_start s false r p g = g

  start : (q : ProgramTable) (s : State) (k c : ℕ) (time : ℤ) → KeepsStores P s → IgnoresTime P → P s →
      Got P (state_after_start q s k c time)
  start q s k c time h a p =
      then_got i (attributes_now s.store c k (range_with_len 0 (section_of q (event_section q c)).given)) _ (λ xs.
      over s (store_at_start q s.store c k) _
      (at_start s (section_of q (event_section q c)).saving _ p (h.ended (tables_of q) c k)) (λ st g.
      then_got i (number_value k) _ (λ x.
      let u = state_at_time s k time st in
      i.frames _ _ _ (assigned i u (Global (program.class_of q c).variable) x
      (i.entry _ _ (a.agenda (record (state_with_store s st) { clock = time }) _
      (a.clock (state_with_store s st) time g)))))))

  arrival : (q : ProgramTable) (s : State) (n c : ℕ) (time : ℤ) → KeepsStores P s → IgnoresTime P → P s →
      Got P (state_after_arrival q (state_with_taken s n) c time)
  arrival q s n c time k a p =
      let u = state_with_taken s n in
      over s _ _ (unless_refused _ (int_lt time s.clock) TimeBeforeClock (with_new s.store c (class_of (tables_of q) c))
      (k.made c (class_of (tables_of q) c))) (λ st h.
      after_got P P (state_after_scheduling q (state_with_store u st) c (last_reference st) time []) _
      (scheduling q (state_with_store u st) c (last_reference st) time [] a
      (i.feed (state_with_store s st) (with_taken s.feed n) h)) (λ r g. i.entry r _ g))

  load : (q : ProgramTable) (s : State) → KeepsStores P s → IgnoresTime P → P s → Got P (state_after_load q s)
  load q s k a p = then_got i (arrival_asked q s) _ (λ x. arrival q s (s.feed.taken + 2) x.0 x.1 k a p)

  simulation : (q : ProgramTable) (s : State) (next : ℕ) (o : Option Pending) → KeepsStores P s → IgnoresTime P → P s →
      P (step_simulation q s next o)
  simulation q s next None k a p = placed i s next p
  simulation q s next (Some n) k a p = got i P s _ _ p (start q s n.notice n.class n.time k a p) (λ r h. h)

  started : (q : ProgramTable) (s : State) (next : ℕ) (b : Bool) → KeepsStores P s → IgnoresTime P → P s →
      P (if b then state_after_result s (state_after_load q s) (λ r. r)
      else step_simulation q s next (least (rules_of q) s.agenda.pending))
  started q s next true k a p = got i P s _ _ p (load q s k a p) (λ r h. h)
  started q s next false k a p = simulation q s next (least (rules_of q) s.agenda.pending) k a p

  -- and a statement that schedules, takes off or starts
  pub by_timing : (q : ProgramTable) (s : State) (w : Ways) (x : Timing) → KeepsStores P s → IgnoresTime P → P s →
      P (step_at q s w (places.Timing x))
  by_timing q s w (timings.Schedule x) k a p = got i P s _ _ p (schedule q s x k a p) (λ r g. placed i r w.next g)
  by_timing q s w (timings.Cancel c b e) k a p =
      got i P s _ _ p (cancel (tables_of q) s c e a p) (λ r g. placed i r w.next g)
  by_timing q s w timings.Start k a p = started q s w.next (loads q s) k a p
