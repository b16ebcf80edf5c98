-- The parts of a state that assignments, entities and sets leave as they were.
use Rattle.std.proofs.Common.{◌≡◌, ℕ, ℤ, ◌+◌, List, [], ◌∷◌, Result, Ok, Err, refl, ◌∙◌}
use Rattle.std.specs.Prelude.{pos, slice_index_or, int_lt}
use Rattle.ss_words.specs.declared.fault.RunFault.{RunFault}
use Rattle.ss_program.specs.declared.variable.Variable.{Variable}
use Rattle.ss_program.specs.declared.variable.Variable.TheVariants.{Global, Local, Clock}
use Rattle.ss_program.specs.declared.target.SetRef.{SetRef}
use Rattle.ss_program.specs.declared.target.Target.{Target}
use Rattle.ss_program.specs.declared.target.Target.TheVariants as targets
use Rattle.ss_program.specs.declared.place.Assign.{Assign}
use Rattle.ss_program.specs.declared.making.Making.{Making}
use Rattle.ss_program.specs.declared.making.Making.TheVariants.{Create, CreateEvery, Destroy}
use Rattle.ss_program.specs.declared.filing.Filing.{Filing}
use Rattle.ss_program.specs.declared.filing.Filing.TheVariants.{File, FileAt, RemoveAt, Remove}
use Rattle.ss_program.specs.declared.looping.Telling.{Telling}
use Rattle.ss_program.specs.declared.timing.Notice.{Notice}
use Rattle.ss_program.specs.declared.timing.Notice.TheVariants.{New, Known}
use Rattle.ss_program.specs.declared.timing.Schedule.{Schedule}
use Rattle.ss_program.specs.Program.{ProgramTable}
use Rattle.ss_words.specs.declared.fault.RunFault.TheVariants.{TimeBeforeClock}
use Rattle.ss_program.specs.ProgramExpr.{Expr}
use Rattle.ss_store.specs.declared.shape.How.{How}
use Rattle.ss_store.specs.declared.shape.Which.TheVariants as which
use Rattle.ss_store.specs.Tables.{Tables, tables_of, class_of, set_of}
use Rattle.ss_store.specs.Store.{Store, number_of, last_reference, with_attribute, with_new, with_class}
use Rattle.ss_store.specs.Filing.{after_filing, after_removing}
use Rattle.ss_events.specs.Agenda.{Agenda, may_schedule, agenda_after_scheduling}
use Rattle.ss_values.specs.Faults.{◌>>=◌, ◌>>◌, refuse_if}
use Rattle.ss_values.specs.Values.{value_of, subscript_value, assigned_value, number_value}
use Rattle.ss_state.specs.State.{State, Statistics}
use Rattle.ss_state.specs.Readings.{readings}
use Rattle.ss_state.specs.Statements.{state_after_assignment, state_with_store, state_with_value, state_with_values}
use Rattle.ss_state.specs.Statements.{entity_named}
use Rattle.ss_state.specs.Statements.Assigning.{target_of, state_after_assign}
use Rattle.ss_state.specs.Statements.Entities.{number_asked}
use Rattle.ss_state.specs.Statements.Entities.{state_after_making, store_without}
use Rattle.ss_state.specs.Statements.Filing.{which_at, how_at, how_asked, state_after_file}
use Rattle.ss_state.specs.Statements.Filing.{state_after_filing}
use Rattle.ss_state.specs.Statements.Looping.{statistic_value, state_after_telling}
use Rattle.ss_state.specs.Statements.Timing.{arguments_asked, time_asked, attributes_now, tie_attributes}
use Rattle.ss_state.specs.Statements.Timing.{state_with_attributes, state_with_agenda, state_with_notice}
use Rattle.ss_state.specs.Statements.Timing.{state_after_scheduling, state_after_new, state_after_notice}
use Rattle.ss_state.specs.Statements.Timing.{state_after_schedule, agenda_without, state_after_cancel}
use Rattle.ss_state.proofs.Ranges.{Got, after_got, anything}

-- the section, place and open loops of the last frame, the frames below it, and the data stay
pub record LeavesRest (s t : State) : Type 0 where
  pub section : t.frame.section ≡ s.frame.section
  pub place : t.frame.place ≡ s.frame.place
  pub loops : t.frame.loops ≡ s.frame.loops
  pub below : t.below ≡ s.below
  pub feed : t.feed ≡ s.feed

pub same_rest : (s : State) → LeavesRest s s
same_rest s = record { section = refl; place = refl; loops = refl; below = refl; feed = refl }

pub rest_then : (s t u : State) → LeavesRest s t → LeavesRest t u → LeavesRest s u
rest_then s t u h k = record {
  section = k.section ∙ h.section;
  place = k.place ∙ h.place;
  loops = k.loops ∙ h.loops;
  below = k.below ∙ h.below;
  feed = k.feed ∙ h.feed;
}

then_got : (s t : State) (r : Result State RunFault) → LeavesRest s t → Got (LeavesRest t) r → Got (LeavesRest s) r
then_got s t (Ok u) h k = rest_then s t u h k
then_got s t (Err e) h k = tt

-- the result after a value that was read
after_value : {A : Type 0} (s : State) (r : Result A RunFault) (f : A → Result State RunFault) →
    ((x : A) → Got (LeavesRest s) (f x)) →
    Got (LeavesRest s) (r >>= f)
after_value s r f h = after_got (λ _. Unit {0}) (LeavesRest s) r f (anything r) (λ x _. h x)

store_rest : (s : State) (st : Store) → LeavesRest s (state_with_store s st)
store_rest s st = record { section = refl; place = refl; loops = refl; below = refl; feed = refl }

pub assigned_rest : (s : State) (v : Variable) (x : ℤ) → LeavesRest s (state_after_assignment s v x)
assigned_rest s (Global i) x = record { section = refl; place = refl; loops = refl; below = refl; feed = refl }
assigned_rest s (Local i) x = record { section = refl; place = refl; loops = refl; below = refl; feed = refl }
assigned_rest s Clock x = same_rest s

pub value_rest : (t : Tables) (s : State) (x : Target) (z : ℤ) → Got (LeavesRest s) (state_with_value t s x z)
value_rest t s (targets.Variable v) z = assigned_rest s v z
value_rest t s (targets.Attribute c a i) z =
    after_value s (subscript_value (readings t s) i) _ (λ x. after_value s (with_attribute s.store c a (number_of x) z)
    _ (λ st. store_rest s st))

pub assign_rest : (t : Tables) (s : State) (a : Assign) → Got (LeavesRest s) (state_after_assign t s a)
assign_rest t s a = after_value s (assigned_value (readings t s) a) _ (λ x. value_rest t s (target_of a) x)

pub values_rest : (t : Tables) (vs : List ℤ) (s : State) (k : ℕ) (xs : List Target) →
    Got (LeavesRest s) (state_with_values t vs s k xs)
values_rest t vs s k [] = same_rest s
values_rest t vs s k (x ∷ xs) =
    after_got (LeavesRest s) (LeavesRest s) (state_with_value t s x (slice_index_or vs k (pos 0))) _
    (value_rest t s x (slice_index_or vs k (pos 0)))
    (λ r h. then_got s r _ h (values_rest t vs r (k + 1) xs))

pub telling_rest : (t : Tables) (g : Statistics) (s : State) (xs : List Telling) →
    Got (LeavesRest s) (state_after_telling t g s xs)
telling_rest t g s [] = same_rest s
telling_rest t g s (x ∷ xs) =
    after_got (LeavesRest s) (LeavesRest s) (state_with_value t s x.target (statistic_value g x.statistic)) _
    (value_rest t s x.target (statistic_value g x.statistic))
    (λ r h. then_got s r _ h (telling_rest t g r xs))

pub making_rest : (t : Tables) (s : State) (m : Making) → Got (LeavesRest s) (state_after_making t s m)
making_rest t s (Create c is_called target) =
    after_value s (with_new s.store c (class_of t c)) _ (λ st. after_value s (number_value (last_reference st)) _
    (λ x. then_got s (state_with_store s st) _ (store_rest s st) (value_rest t (state_with_store s st) target x)))
making_rest t s (CreateEvery c e count) =
    after_value s (number_asked (readings t s) e count) _ (λ n. after_value s (with_class s.store c (class_of t c) n) _
    (λ st. rest_then s (state_with_store s st) _ (store_rest s st)
    (assigned_rest (state_with_store s st) (Global count) n)))
making_rest t s (Destroy c is_called e) =
    after_value s (value_of (readings t s) e >>= entity_named s.store c >>= store_without t s c) _
    (λ st. store_rest s st)

file_rest : (t : Tables) (s : State) (r : SetRef) (x : ℤ) (h : How) → Got (LeavesRest s) (state_after_file t s r x h)
file_rest t s r x h =
    after_value s (subscript_value (readings t s) r.owner) _
    (λ o. after_value s (after_filing (set_of t r.set) s.store (number_of o) (number_of x) h) _ (λ st. store_rest s st))

pub filing_rest : (t : Tables) (s : State) (f : Filing) → Got (LeavesRest s) (state_after_filing t s f)
filing_rest t s (File e position r) =
    after_value s (value_of (readings t s) e) _ (λ x. after_value s (how_asked (readings t s) position) _
    (λ h. file_rest t s r x h))
filing_rest t s (FileAt end e r) = after_value s (value_of (readings t s) e) _ (λ x. file_rest t s r x (how_at end))
filing_rest t s (RemoveAt end target r) =
    after_value s (subscript_value (readings t s) r.owner) _
    (λ o. after_value s (after_removing (set_of t r.set) s.store (number_of o) (which_at end)) _
    (λ k. after_value s (number_value k.0) _
    (λ x. then_got s (state_with_store s k.1) _ (store_rest s k.1) (value_rest t (state_with_store s k.1) target x))))
filing_rest t s (Remove e r) =
    after_value s (value_of (readings t s) e) _ (λ x. after_value s (subscript_value (readings t s) r.owner) _
    (λ o. after_value s (after_removing (set_of t r.set) s.store (number_of o) (which.Member x)) _ (λ k. store_rest s k.1)))

-- ---- event notices

agenda_rest : (s : State) (a : Agenda) → LeavesRest s (state_with_agenda s a)
agenda_rest s a = record { section = refl; place = refl; loops = refl; below = refl; feed = refl }

-- the result after a test that was passed
after_test : (s : State) (r : Result (Unit {0}) RunFault) (q : Result State RunFault) → Got (LeavesRest s) q →
    Got (LeavesRest s) (r >> q)
after_test s (Ok x) q h = h
after_test s (Err e) q h = tt

attributes_rest : (s : State) (c k a : ℕ) (xs : List ℤ) → Got (LeavesRest s) (state_with_attributes s c k a xs)
attributes_rest s c k a [] = same_rest s
attributes_rest s c k a (x ∷ xs) =
    after_value s (with_attribute s.store c a k x) _
    (λ st. then_got s (state_with_store s st) _ (store_rest s st)
    (attributes_rest (state_with_store s st) c k (a + 1) xs))

pub scheduling_rest : (p : ProgramTable) (s : State) (c k : ℕ) (time : ℤ) (xs : List ℤ) →
    Got (LeavesRest s) (state_after_scheduling p s c k time xs)
scheduling_rest p s c k time xs =
    after_got (LeavesRest s) (LeavesRest s) (state_with_attributes s c k 0 xs) _ (attributes_rest s c k 0 xs) (λ r h.
    then_got s r _ h (after_value r (attributes_now r.store c k (tie_attributes p c)) (state_with_notice r c k time)
    (λ keys.
    after_test r (may_schedule r.agenda k time r.clock) _ (agenda_rest r (agenda_after_scheduling r.agenda k time c keys)))))

new_rest : (p : ProgramTable) (s : State) (c : ℕ) (target : Target) (time : ℤ) (xs : List ℤ) →
    Got (LeavesRest s) (state_after_new p s c target time xs)
new_rest p s c target time xs =
    after_value s (refuse_if (int_lt time s.clock) TimeBeforeClock >> with_new s.store c (class_of (tables_of p) c)) _
    (λ st.
    let u = state_with_store s st in
    then_got s u _ (store_rest s st)
    (after_got (LeavesRest u) (LeavesRest u) (state_after_scheduling p u c (last_reference st) time xs) _
    (scheduling_rest p u c (last_reference st) time xs)
    (λ r h. then_got u r _ h (after_value r (number_value (last_reference st)) _
    (λ x. value_rest (tables_of p) r target x)))))

notice_rest : (p : ProgramTable) (s : State) (c : ℕ) (n : Notice) (x time : ℤ) (xs : List ℤ) →
    Got (LeavesRest s) (state_after_notice p s c n x time xs)
notice_rest p s c (New is_called target) x time xs = new_rest p s c target time xs
notice_rest p s c (Known is_called e) x time xs =
    after_value s (entity_named s.store c x) _ (λ k. scheduling_rest p s c k time xs)

pub schedule_rest : (p : ProgramTable) (s : State) (x : Schedule) → Got (LeavesRest s) (state_after_schedule p s x)
schedule_rest p s x =
    after_value s (arguments_asked (readings (tables_of p) s) x.notice x.arguments x.listing) _ (λ a.
    after_value s (time_asked (readings (tables_of p) s) x.when) _
    (λ time. notice_rest p s x.class x.notice a.0 time a.1))

pub cancel_rest : (t : Tables) (s : State) (c : ℕ) (e : Expr) → Got (LeavesRest s) (state_after_cancel t s c e)
cancel_rest t s c e =
    after_value s (value_of (readings t s) e >>= entity_named s.store c >>= agenda_without s) _ (λ a. agenda_rest s a)
