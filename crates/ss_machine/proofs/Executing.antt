-- the results of the statements on entities, by the result of the store
use Rattle.std.proofs.Common.{◌≡◌, ℕ, ℤ, pos, List, [], Bool, true, false, Option, Result, Ok, Err, refl}
use Rattle.std.proofs.Common.{ap, sym, ◌∙◌}
use Rattle.std.specs.Prelude.{not, int_lt, if◌then◌else◌}
use Rattle.ss_words.specs.declared.fault.RunFault.{RunFault}
use Rattle.ss_words.specs.declared.fault.RunFault.TheVariants.{NoEntity}
use Rattle.ss_words.specs.declared.fault.StepFault.{StepFault}
use Rattle.ss_words.specs.declared.fault.StepFault.TheVariants.{Fault, Memory}
use Rattle.ss_program.specs.declared.making.Making.TheVariants.{CreateEvery}
use Rattle.ss_program.specs.declared.variable.Variable.TheVariants.{Global}
use Rattle.ss_program.specs.declared.target.Target.{Target}
use Rattle.ss_program.specs.declared.target.Target.TheVariants.{Attribute}
use Rattle.ss_program.specs.declared.timing.Schedule.{Schedule}
use Rattle.ss_program.specs.ProgramExpr.{Expr, Subscript}
use Rattle.ss_program.specs.Program.{ProgramTable}
use Rattle.ss_store.specs.Tables.{Tables, tables_of, class_of}
use Rattle.ss_store.specs.Store.{Store, number_of, exists, last_reference, with_new, with_class, with_attribute}
use Rattle.ss_store.specs.Store.{without_entity}
use Rattle.ss_events.specs.Agenda.{Agenda, is_pending}
use Rattle.ss_values.specs.Faults.{◌>>◌, refuse_if}
use Rattle.ss_values.specs.Values.{value_of, subscript_value, number_value, FaultIs}
use Rattle.ss_state.specs.State.{State}
use Rattle.ss_state.specs.Held.{Held}
use Rattle.ss_state.specs.Readings.{readings}
use Rattle.ss_state.specs.Statements.{state_after_result, state_at_place, state_with_store, state_after_assignment}
use Rattle.ss_state.specs.Statements.{entity_named, state_with_value}
use Rattle.ss_state.specs.Statements.Entities.{number_asked, state_after_making, state_after_destroy}
use Rattle.ss_state.specs.Statements.Entities.{state_after_create}
use Rattle.ss_state.specs.Statements.Timing.{state_after_scheduling, state_after_new, state_after_arrival}
use Rattle.ss_state.specs.Statements.Timing.{attributes_now, state_with_attributes, state_with_notice, tie_attributes}
use Rattle.ss_state.specs.Statements.Timing.{state_with_agenda, agenda_without, state_after_cancel, arguments_asked}
use Rattle.ss_state.specs.Statements.Timing.{time_asked, state_after_notice, state_after_schedule}
use Rattle.ss_machine.specs.declared.state.change.Change.{Change}
use Rattle.ss_state.specs.declared.entry.Entry.TheVariants.{Waiting}
use Rattle.ss_machine.specs.Outcome.{LeadsTo, LeadsToOrRefuses, IsSettled}
use Rattle.ss_machine.specs.Storing.{LeavesStore, IsRefused, IsCreating, IsMakingAll, IsScheduling, IsCancelling}

-- ---- the result of the store

pub refused_is : (e : StepFault) (q : Result Store RunFault) (h k : Held) → IsRefused e q h k → FaultIs e q × (k ≡ h)
refused_is (Fault e) (Err f) h k o = (ap Err (sym o.0), o.1)
refused_is Memory (Ok s) h k o = (tt, o)
refused_is (Fault e) (Ok s) h k o = absurd o
refused_is Memory (Err f) h k o = absurd o

pub making_all_is : (change : Change) (q : Result Store RunFault) (h k : Held) → IsMakingAll (Ok change) q h k →
    (st : Store) × (q ≡ Ok st) × LeavesStore change st h k
making_all_is change (Ok st) h k o = (st, refl, o)
making_all_is change (Err f) h k o = absurd o

pub creating_is : (n : ℕ) (change : Change) (q : Result Store RunFault) (h k : Held) →
    IsCreating (Ok (n, change)) q h k →
    (st : Store) × (q ≡ Ok st) × (n ≡ last_reference st) × LeavesStore change st h k
creating_is n change (Ok st) h k o = (st, refl, o.0, o.1)
creating_is n change (Err f) h k o = absurd o

-- ---- CREATE EVERY

pub create_every_fails : (t : Tables) (s : State) (class count : ℕ) (number : Option Expr) (n : ℤ) (e : StepFault) →
    number_asked (readings t s) number count ≡ Ok n → FaultIs e (with_class s.store class (class_of t class) n) →
    FaultIs e (state_after_making t s (CreateEvery class number count))
create_every_fails t s class count number n (Fault f) a b = rw (a, b) refl
create_every_fails t s class count number n Memory a b = tt

pub create_every_ends : (t : Tables) (s u new : State) (class count : ℕ) (number : Option Expr) (n : ℤ) (st : Store) →
    number_asked (readings t s) number count ≡ Ok n → with_class s.store class (class_of t class) n ≡ Ok st →
    u ≡ state_with_store s st → new ≡ state_after_assignment u (Global count) n →
    state_after_making t s (CreateEvery class number count) ≡ Ok new
create_every_ends t s u new class count number n st a b d e = rw (a, b, e, d) refl

-- ---- DESTROY

pub existing_is : (st : Store) (class k : ℕ) (x : ℤ) → entity_named st class x ≡ Ok k → k ≡ number_of x
existing_is st class k x h = chosen (not (exists st class (number_of x))) h
  where
    chosen : (b : Bool) → (refuse_if b NoEntity >> Ok (number_of x)) ≡ Ok k → k ≡ number_of x
    chosen true e = cc
    chosen false e = cc

pub destroy_fails : (t : Tables) (s : State) (class k : ℕ) (e : Expr) (x : ℤ) (f : RunFault) →
    value_of (readings t s) e ≡ Ok x → entity_named s.store class x ≡ Ok k → is_pending s.agenda k ≡ false →
    without_entity t s.store class (number_of x) ≡ Err f →
    state_after_destroy t s class e ≡ Err f
destroy_fails t s class k e x f a b d w =
    let n : k ≡ number_of x = existing_is s.store class k x b in
    rw (a, b, d, n, w) refl

pub destroy_ends : (t : Tables) (s new : State) (class k : ℕ) (e : Expr) (x : ℤ) (st : Store) →
    value_of (readings t s) e ≡ Ok x → entity_named s.store class x ≡ Ok k → is_pending s.agenda k ≡ false →
    without_entity t s.store class (number_of x) ≡ Ok st → new ≡ state_with_store s st →
    state_after_destroy t s class e ≡ Ok new
destroy_ends t s new class k e x st a b d w z =
    let n : k ≡ number_of x = existing_is s.store class k x b in
    rw (a, b, d, n, w, z) refl

-- ---- SCHEDULE A

made_there : (p : ProgramTable) (t : Tables) (st : Store) (class : ℕ) (q : Result Store RunFault) → t ≡ tables_of p →
    with_new st class (class_of t class) ≡ q → with_new st class (class_of (tables_of p) class) ≡ q
made_there p t st class q a w = ap (λ (v : Tables). with_new st class (class_of v class)) (sym a) ∙ w

scheduled_there : (p : ProgramTable) (s m : State) (class k : ℕ) (time : ℤ) (xs : List ℤ) (st : Store)
    (q : Result State RunFault) → k ≡ last_reference st → m ≡ state_with_store s st →
    state_after_scheduling p m class k time xs ≡ q →
    state_after_scheduling p (state_with_store s st) class (last_reference st) time xs ≡ q
scheduled_there p s m class k time xs st q l n z =
    ap (λ (x : State). state_after_scheduling p x class (last_reference st) time xs) (sym n)
    ∙ ap (λ (i : ℕ). state_after_scheduling p m class i time xs) (sym l)
    ∙ z

pub new_refused : (p : ProgramTable) (t : Tables) (s : State) (class : ℕ) (target : Target) (time : ℤ) (xs : List ℤ)
    (e : StepFault) → t ≡ tables_of p → int_lt time s.clock ≡ false →
    FaultIs e (with_new s.store class (class_of t class)) →
    FaultIs e (state_after_new p s class target time xs)
new_refused p t s class target time xs (Fault f) a b w =
    let v = made_there p t s.store class (Err f) a w in
    rw (b, v) refl
new_refused p t s class target time xs Memory a b w = tt

pub new_unscheduled : (p : ProgramTable) (t : Tables) (s m : State) (class k : ℕ) (target : Target) (time : ℤ)
    (xs : List ℤ) (st : Store) (e : StepFault) → t ≡ tables_of p → int_lt time s.clock ≡ false →
    with_new s.store class (class_of t class) ≡ Ok st → k ≡ last_reference st → m ≡ state_with_store s st →
    FaultIs e (state_after_scheduling p m class k time xs) →
    FaultIs e (state_after_new p s class target time xs)
new_unscheduled p t s m class k target time xs st (Fault f) a b w l n z =
    let v = made_there p t s.store class (Ok st) a w in
    let y = scheduled_there p s m class k time xs st (Err f) l n z in
    rw (b, v, y) refl
new_unscheduled p t s m class k target time xs st Memory a b w l n z = tt

pub new_assigned : (p : ProgramTable) (t u : Tables) (s m r : State) (class k : ℕ) (target : Target) (time x : ℤ)
    (xs : List ℤ) (st : Store) (q : Result State RunFault) → t ≡ tables_of p → int_lt time s.clock ≡ false →
    with_new s.store class (class_of t class) ≡ Ok st → k ≡ last_reference st → m ≡ state_with_store s st →
    state_after_scheduling p m class k time xs ≡ Ok r → number_value k ≡ Ok (pos k) → u ≡ t → x ≡ pos k →
    state_with_value u r target x ≡ q →
    state_after_new p s class target time xs ≡ q
new_assigned p t u s m r class k target time x xs st q a b w l n z d e f g =
    let v = made_there p t s.store class (Ok st) a w in
    let y = scheduled_there p s m class k time xs st (Ok r) l n z in
    let i : number_value (last_reference st) ≡ Ok (pos (last_reference st)) =
    ap number_value (sym l) ∙ d ∙ ap (λ (j : ℕ). Ok (pos j)) l in
    let o : state_with_value (tables_of p) r target (pos (last_reference st)) ≡ q =
    ap (λ (j : Tables). state_with_value j r target (pos (last_reference st))) (sym (e ∙ a))
    ∙ ap (λ (j : ℤ). state_with_value u r target j) (sym (f ∙ ap pos l))
    ∙ g in
    rw (b, v, y, i) o

-- ---- an entry of the data for which a notice waits

pub arrival_refused : (p : ProgramTable) (t : Tables) (s : State) (class : ℕ) (time : ℤ) (e : StepFault) →
    t ≡ tables_of p → int_lt time s.clock ≡ false → FaultIs e (with_new s.store class (class_of t class)) →
    FaultIs e (state_after_arrival p s class time)
arrival_refused p t s class time (Fault f) a b w =
    let v = made_there p t s.store class (Err f) a w in
    rw (b, v) refl
arrival_refused p t s class time Memory a b w = tt

pub arrival_unscheduled : (p : ProgramTable) (t : Tables) (s m : State) (class k : ℕ) (time : ℤ) (xs : List ℤ)
    (st : Store) (e : StepFault) → xs ≡ [] → t ≡ tables_of p → int_lt time s.clock ≡ false →
    with_new s.store class (class_of t class) ≡ Ok st → k ≡ last_reference st → m ≡ state_with_store s st →
    FaultIs e (state_after_scheduling p m class k time xs) →
    FaultIs e (state_after_arrival p s class time)
arrival_unscheduled p t s m class k time xs st (Fault f) g a b w l n z =
    let v = made_there p t s.store class (Ok st) a w in
    let u = ap (λ (ys : List ℤ). state_after_scheduling p m class k time ys) (sym g) ∙ z in
    let y = scheduled_there p s m class k time [] st (Err f) l n u in
    rw (b, v, y) refl
arrival_unscheduled p t s m class k time xs st Memory g a b w l n z = tt

pub arrival_ends : (p : ProgramTable) (t : Tables) (s m r new : State) (class k : ℕ) (time : ℤ) (xs : List ℤ)
    (st : Store) → xs ≡ [] → t ≡ tables_of p → int_lt time s.clock ≡ false →
    with_new s.store class (class_of t class) ≡ Ok st → k ≡ last_reference st → m ≡ state_with_store s st →
    state_after_scheduling p m class k time xs ≡ Ok r → new ≡ record r { entry = Waiting class k } →
    state_after_arrival p s class time ≡ Ok new
arrival_ends p t s m r new class k time xs st g a b w l n z d =
    let v = made_there p t s.store class (Ok st) a w in
    let u = ap (λ (ys : List ℤ). state_after_scheduling p m class k time ys) (sym g) ∙ z in
    let y = scheduled_there p s m class k time [] st (Ok r) l n u in
    let i : record r { entry = Waiting class (last_reference st) } ≡ new =
    ap (λ (j : ℕ). record r { entry = Waiting class j }) (sym l) ∙ sym d in
    rw (b, v, y) (ap Ok i)

-- ---- a notice is scheduled

pub scheduling_refused : (e : StepFault) (q : Result State RunFault) (h k : Held) → IsScheduling (Err e) q h k →
    FaultIs e q
scheduling_refused (Fault e) (Err f) h k o = ap Err (sym o.0)
scheduling_refused Memory q h k o = tt
scheduling_refused (Fault e) (Ok s) h k o = absurd o

pub scheduling_is : (change : Change) (q : Result State RunFault) (h k : Held) → IsScheduling (Ok change) q h k →
    q ≡ Ok k.state
scheduling_is change (Ok s) h k o = ap Ok (sym o.state)
scheduling_is change (Err f) h k o = absurd o

pub keys_fail : (p : ProgramTable) (s r : State) (class k : ℕ) (time : ℤ) (xs : List ℤ) (e : StepFault) →
    state_with_attributes s class k 0 xs ≡ Ok r →
    FaultIs e (attributes_now r.store class k (tie_attributes p class)) →
    FaultIs e (state_after_scheduling p s class k time xs)
keys_fail p s r class k time xs (Fault f) a b = rw (a, b) refl
keys_fail p s r class k time xs Memory a b = tt

pub notice_fails : (p : ProgramTable) (s r : State) (class k : ℕ) (time : ℤ) (xs keys : List ℤ) (e : StepFault) →
    state_with_attributes s class k 0 xs ≡ Ok r →
    attributes_now r.store class k (tie_attributes p class) ≡ Ok keys →
    FaultIs e (state_with_notice r class k time keys) →
    FaultIs e (state_after_scheduling p s class k time xs)
notice_fails p s r class k time xs keys (Fault f) a b d = rw (a, b) d
notice_fails p s r class k time xs keys Memory a b d = tt

pub notice_ends : (p : ProgramTable) (s r new : State) (class k : ℕ) (time : ℤ) (xs keys : List ℤ) →
    state_with_attributes s class k 0 xs ≡ Ok r →
    attributes_now r.store class k (tie_attributes p class) ≡ Ok keys →
    state_with_notice r class k time keys ≡ Ok new →
    state_after_scheduling p s class k time xs ≡ Ok new
notice_ends p s r new class k time xs keys a b d = rw (a, b) d

-- ---- CREATE

pub create_refused : (t : Tables) (s : State) (class : ℕ) (target : Target) (e : StepFault) →
    FaultIs e (with_new s.store class (class_of t class)) →
    FaultIs e (state_after_create t s class target)
create_refused t s class target (Fault f) a = rw a refl
create_refused t s class target Memory a = tt

pub create_assigned : (t u : Tables) (s m : State) (class k : ℕ) (target : Target) (x : ℤ) (st : Store)
    (q : Result State RunFault) → with_new s.store class (class_of t class) ≡ Ok st → k ≡ last_reference st →
    m ≡ state_with_store s st → number_value k ≡ Ok (pos k) → u ≡ t → x ≡ pos k → state_with_value u m target x ≡ q →
    state_after_create t s class target ≡ q
create_assigned t u s m class k target x st q w l n d e f g =
    let i : number_value (last_reference st) ≡ Ok (pos (last_reference st)) =
    ap number_value (sym l) ∙ d ∙ ap (λ (j : ℕ). Ok (pos j)) l in
    let o : state_with_value t (state_with_store s st) target (pos (last_reference st)) ≡ q =
    ap (λ (j : State). state_with_value t j target (pos (last_reference st))) (sym n)
    ∙ ap (λ (j : Tables). state_with_value j m target (pos (last_reference st))) (sym e)
    ∙ ap (λ (j : ℤ). state_with_value u m target j) (sym (f ∙ ap pos l))
    ∙ g in
    rw (w, i) o

-- ---- CANCEL

pub cancel_refused : (e : RunFault) (q : Result Agenda RunFault) (h k : Held) → IsCancelling (Err e) q h k →
    (q ≡ Err e) × (k ≡ h)
cancel_refused e (Ok a) h k o = absurd o
cancel_refused e (Err f) h k o = (ap Err (sym o.0), o.1)

pub cancelling_is : (change : Change) (q : Result Agenda RunFault) (h k : Held) → IsCancelling (Ok change) q h k →
    (a : Agenda) × (q ≡ Ok a) × (k.state ≡ state_with_agenda h.state a)
cancelling_is change (Ok a) h k o = (a, refl, o.state)
cancelling_is change (Err f) h k o = absurd o

pub cancel_fails : (t : Tables) (s : State) (class k : ℕ) (e : Expr) (x : ℤ) (f : RunFault) →
    value_of (readings t s) e ≡ Ok x → entity_named s.store class x ≡ Ok k → agenda_without s k ≡ Err f →
    state_after_cancel t s class e ≡ Err f
cancel_fails t s class k e x f a b d = rw (a, b, d) refl

pub cancel_ends : (t : Tables) (s new : State) (class k : ℕ) (e : Expr) (x : ℤ) (made : Agenda) →
    value_of (readings t s) e ≡ Ok x → entity_named s.store class x ≡ Ok k → agenda_without s k ≡ Ok made →
    new ≡ state_with_agenda s made →
    state_after_cancel t s class e ≡ Ok new
cancel_ends t s new class k e x made a b d n = rw (a, b, d, n) refl

-- ---- SCHEDULE

arguments_there : (p : ProgramTable) (t : Tables) (s : State) (x : Schedule) (q : Result (ℤ × List ℤ) RunFault) →
    t ≡ tables_of p → arguments_asked (readings t s) x.notice x.arguments x.listing ≡ q →
    arguments_asked (readings (tables_of p) s) x.notice x.arguments x.listing ≡ q
arguments_there p t s x q a o =
    ap (λ (v : Tables). arguments_asked (readings v s) x.notice x.arguments x.listing) (sym a) ∙ o

time_there : (p : ProgramTable) (t : Tables) (s : State) (x : Schedule) (q : Result ℤ RunFault) → t ≡ tables_of p →
    time_asked (readings t s) x.when ≡ q → time_asked (readings (tables_of p) s) x.when ≡ q
time_there p t s x q a o = ap (λ (v : Tables). time_asked (readings v s) x.when) (sym a) ∙ o

pub schedule_goes_on : (p : ProgramTable) (t : Tables) (s new : State) (x : Schedule) (n time : ℤ) (xs : List ℤ)
    (done : Result (Unit {0}) StepFault) → t ≡ tables_of p →
    arguments_asked (readings t s) x.notice x.arguments x.listing ≡ Ok (n, xs) →
    time_asked (readings t s) x.when ≡ Ok time →
    LeadsToOrRefuses done (state_after_notice p s x.class x.notice n time xs) new →
    LeadsToOrRefuses done (state_after_schedule p s x) new
schedule_goes_on p t s new x n time xs (Ok _) a o w h =
    let u = arguments_there p t s x (Ok (n, xs)) a o in
    let v = time_there p t s x (Ok time) a w in
    rw (u, v) h
schedule_goes_on p t s new x n time xs (Err (Fault f)) a o w h =
    let u = arguments_there p t s x (Ok (n, xs)) a o in
    let v = time_there p t s x (Ok time) a w in
    rw (u, v) h
schedule_goes_on p t s new x n time xs (Err Memory) a o w h = tt

pub schedule_untimed : (p : ProgramTable) (t : Tables) (s : State) (x : Schedule) (n : ℤ) (xs : List ℤ) (e : RunFault) →
    t ≡ tables_of p → arguments_asked (readings t s) x.notice x.arguments x.listing ≡ Ok (n, xs) →
    time_asked (readings t s) x.when ≡ Err e →
    state_after_schedule p s x ≡ Err e
schedule_untimed p t s x n xs e a o w =
    let u = arguments_there p t s x (Ok (n, xs)) a o in
    let v = time_there p t s x (Err e) a w in
    rw (u, v) refl

-- ---- the notice of an event that starts

pub unsaved : (t : Tables) (st : Store) (class k : ℕ) (x : ℤ) (saving : Bool) (q : Result Store RunFault) →
    saving ≡ false → x ≡ pos k → without_entity t st class (number_of x) ≡ q →
    (if saving then Ok st else without_entity t st class k) ≡ q
unsaved t st class k x saving q a b d =
    let o : without_entity t st class k ≡ q =
    ap (λ (y : ℤ). without_entity t st class (number_of y)) (sym b) ∙ d in
    rw a o

-- only the store is another one
pub stored_alone : (s u : State) (st : Store) → u ≡ state_with_store s st → u ≡ state_with_store s u.store
stored_alone s u st e = e ∙ ap (λ (x : State). state_with_store s x.store) (sym e)

-- ---- a value is assigned to an attribute

pub attribute_fails : (t : Tables) (s : State) (target : Target) (class a : ℕ) (index : Subscript) (x v : ℤ)
    (f : RunFault) → target ≡ Attribute class a index → subscript_value (readings t s) index ≡ Ok x →
    with_attribute s.store class a (number_of x) v ≡ Err f →
    state_with_value t s target v ≡ Err f
attribute_fails t s target class a index x v f g o w = rw (g, o, w) refl

pub attribute_ends : (t : Tables) (s new : State) (target : Target) (class a : ℕ) (index : Subscript) (x v : ℤ)
    (st : Store) → target ≡ Attribute class a index → subscript_value (readings t s) index ≡ Ok x →
    with_attribute s.store class a (number_of x) v ≡ Ok st → new ≡ state_with_store s st →
    state_with_value t s target v ≡ Ok new
attribute_ends t s new target class a index x v st g o w n = rw (g, o, w, n) refl

-- ---- a statement that is settled

pub settled_by : (done : Result (Unit {0}) RunFault) (s mid new : State) (q : Result State RunFault) (next : ℕ) →
    LeadsTo done q mid → IsSettled done (state_at_place next mid) s new →
    new ≡ state_after_result s q (state_at_place next)
settled_by (Ok x) s mid new q next a b = rw a b
settled_by (Err e) s mid new q next a b = rw a b
