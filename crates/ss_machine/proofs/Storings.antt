-- The effect of a change of the store on the held parts.
use Rattle.std.proofs.Common.{◌≡◌, ◌<◌, ◌^◌, ℕ, ℤ, pos, List, Bool, true, false, Result, Ok, Err, OnOk, arith}
use Rattle.std.proofs.Common.{refl, ap, sym, ◌∙◌}
use Rattle.std.specs.Prelude.{nat_lt, if◌then◌else◌}
use Rattle.std.proofs.lemmas.Bool.{lt-ltb}
use Rattle.ss_words.specs.declared.fault.RunFault.TheVariants.{OutOfRange}
use Rattle.ss_words.specs.declared.fault.RunFault.{RunFault}
use Rattle.ss_words.specs.declared.fault.StepFault.{StepFault}
use Rattle.ss_words.specs.declared.fault.StepFault.TheVariants.{Fault, Memory}
use Rattle.ss_store.specs.declared.change.StoreChange.{StoreChange}
use Rattle.ss_words.specs.declared.terms.SetEnd.{SetEnd}
use Rattle.ss_program.specs.declared.target.SetRef.{SetRef}
use Rattle.ss_program.specs.declared.target.Target.{Target}
use Rattle.ss_store.specs.declared.shape.How.{How}
use Rattle.ss_store.specs.declared.shape.Which.TheVariants as which
use Rattle.ss_store.specs.Tables.{Tables, set_of}
use Rattle.ss_store.specs.Filing.{after_filing, after_removing}
use Rattle.ss_events.specs.declared.agenda.AgendaChange.{AgendaChange}
use Rattle.ss_events.specs.declared.agenda.AgendaChange.TheVariants.{Scheduled, TakenOff}
use Rattle.ss_events.specs.Agenda.{Agenda, may_schedule, agenda_after_scheduling}
use Rattle.ss_events.specs.State.{AgendaState}
use Rattle.ss_events.specs.Changes as notices
use Rattle.ss_events.specs.Changes.{Went, IsScheduled, after_scheduling}
use Rattle.ss_values.specs.Faults.{◌>>◌}
use Rattle.ss_values.specs.Values.{subscript_value, number_value}
use Rattle.ss_state.specs.State.{State}
use Rattle.ss_state.specs.Readings.{readings}
use Rattle.ss_state.specs.Statements.{state_after_result, state_at_place, state_with_store, state_with_value}
use Rattle.ss_state.specs.Statements.Filing.{which_at, state_after_file, state_after_remove, state_after_remove_end}
use Rattle.ss_state.specs.Statements.Timing.{state_with_agenda, state_with_notice}
use Rattle.ss_store.specs.Store.{Store, number_of}
use Rattle.ss_store.specs.Value.{StoreValue}
use Rattle.ss_store.specs.Change.{Leaves, IsOutcome, IsRemoval, IsMaking}
use Rattle.ss_words.specs.Outcomes.{RefusesAs}
use Rattle.ss_machine.specs.declared.state.change.Change.{Change}
use Rattle.ss_machine.specs.declared.state.change.Change.TheVariants as c
use Rattle.ss_state.specs.Held.{Held, store_of, with_store, agenda_of, with_agenda}
use Rattle.ss_machine.specs.Storing.{LeavesStore, IsStoring, IsRemoving, IsRefused, IsMakingAll}
use Rattle.ss_machine.specs.Storing.{LeavesState, IsScheduling}
use Rattle.ss_machine.specs.Outcome.{LeadsTo, LeadsToOrRefuses, IsSettledOrRefused}

pub leaves_store : (change : StoreChange) (st : Store) (h : Held) (v : StoreValue) → Leaves change st (store_of h) v →
    LeavesStore (c.Store change) st h (with_store h v)
leaves_store change st h v l = record {
  state = ap (λ (t : Store). record h.state { store = t }) l.state;
  tables = ap (λ (w : StoreValue). w.tables) l.back;
  rules = refl;
  fits = l.fits;
  back = ap (λ (w : StoreValue). with_store h w) l.back;
}

same_store : (h : Held) (v : StoreValue) → v ≡ store_of h → with_store h v ≡ h
same_store h v e = ap (λ (w : StoreValue). with_store h w) e

pub storing : (change : StoreChange) (r : Result Store RunFault) (h : Held) (v : StoreValue) →
    IsOutcome (Ok change) r (store_of h) v →
    IsStoring (Ok (c.Store change)) r h (with_store h v)
storing change (Ok st) h v o = leaves_store change st h v o
storing change (Err f) h v o = o

pub not_storing : (e : RunFault) (r : Result Store RunFault) (h : Held) (v : StoreValue) →
    IsOutcome (Err e) r (store_of h) v →
    IsStoring (Err e) r h (with_store h v)
not_storing e (Ok st) h v o = o
not_storing e (Err f) h v o = (o.0, same_store h v o.1)

pub removing : (k : ℕ) (change : StoreChange) (r : Result (ℕ × Store) RunFault) (h : Held) (v : StoreValue) →
    IsRemoval (Ok (k, change)) r (store_of h) v →
    IsRemoving (Ok (k, c.Store change)) r h (with_store h v)
removing k change (Ok s) h v o = (o.0, leaves_store change s.1 h v o.1)
removing k change (Err f) h v o = o

pub not_removing : (e : RunFault) (r : Result (ℕ × Store) RunFault) (h : Held) (v : StoreValue) →
    IsRemoval (Err e) r (store_of h) v →
    IsRemoving (Err e) r h (with_store h v)
not_removing e (Ok s) h v o = o
not_removing e (Err f) h v o = (o.0, same_store h v o.1)

refused : (e : StepFault) (r : Result Store RunFault) (h : Held) (v : StoreValue) → RefusesAs e r (store_of h) v →
    IsRefused e r h (with_store h v)
refused (Fault e) (Err f) h v o = (o.0, same_store h v o.1)
refused Memory (Ok s) h v o = same_store h v o
refused (Fault e) (Ok s) h v o = o
refused Memory (Err f) h v o = o

pub making_all : (change : StoreChange) (r : Result Store RunFault) (h : Held) (v : StoreValue) →
    IsMaking (Ok change) r (store_of h) v →
    IsMakingAll (Ok (c.Store change)) r h (with_store h v)
making_all change (Ok st) h v o = leaves_store change st h v o
making_all change (Err f) h v o = o

pub not_making_all : (e : StepFault) (r : Result Store RunFault) (h : Held) (v : StoreValue) →
    IsMaking (Err e) r (store_of h) v →
    IsMakingAll (Err e) r h (with_store h v)
not_making_all e r h v o = refused e r h v o

-- the same of either result
abbrev pub stored : Result StoreChange RunFault → Result Change RunFault
stored (Ok change) = Ok (c.Store change)
stored (Err e) = Err e

pub storing_both : (r : Result StoreChange RunFault) (q : Result Store RunFault) (h : Held) (v : StoreValue) →
    IsOutcome r q (store_of h) v →
    IsStoring (stored r) q h (with_store h v)
storing_both (Ok change) q h v o = storing change q h v o
storing_both (Err e) q h v o = not_storing e q h v o

-- the number of a member stays with its change
abbrev pub taken : Result (ℕ × StoreChange) RunFault → Result (ℕ × Change) RunFault
taken (Ok k) = Ok (k.0, c.Store k.1)
taken (Err e) = Err e

pub removing_both : (r : Result (ℕ × StoreChange) RunFault) (q : Result (ℕ × Store) RunFault) (h : Held)
    (v : StoreValue) → IsRemoval r q (store_of h) v →
    IsRemoving (taken r) q h (with_store h v)
removing_both (Ok k) q h v o = removing k.0 k.1 q h v o
removing_both (Err e) q h v o = not_removing e q h v o

-- ---- the consequences of a refusal, and of a change

pub refusal_is : (e : RunFault) (q : Result Store RunFault) (h k : Held) → IsStoring (Err e) q h k →
    (q ≡ Err e) × (k ≡ h)
refusal_is e (Ok st) h k o = absurd o
refusal_is e (Err f) h k o = (ap Err (sym o.0), o.1)

pub storing_is : (change : Change) (q : Result Store RunFault) (h k : Held) → IsStoring (Ok change) q h k →
    (st : Store) × (q ≡ Ok st) × LeavesStore change st h k
storing_is change (Ok st) h k o = (st, refl, o)
storing_is change (Err f) h k o = absurd o

pub removal_refused : (e : RunFault) (q : Result (ℕ × Store) RunFault) (h k : Held) → IsRemoving (Err e) q h k →
    (q ≡ Err e) × (k ≡ h)
removal_refused e (Ok s) h k o = absurd o
removal_refused e (Err f) h k o = (ap Err (sym o.0), o.1)

pub removing_is : (n : ℕ) (change : Change) (q : Result (ℕ × Store) RunFault) (h k : Held) →
    IsRemoving (Ok (n, change)) q h k →
    (st : Store) × (q ≡ Ok (n, st)) × LeavesStore change st h k
removing_is n change (Ok s) h k o = (s.1, ap (λ (m : ℕ). Ok (m, s.1)) (sym o.0), o.1)
removing_is n change (Err f) h k o = absurd o

-- ---- FILE and REMOVE, by the owner's value and the result of the store

pub file_fails : (t : Tables) (s : State) (r : SetRef) (x o : ℤ) (how : How) (e : RunFault) →
    subscript_value (readings t s) r.owner ≡ Ok o →
    after_filing (set_of t r.set) s.store (number_of o) (number_of x) how ≡ Err e → state_after_file t s r x how ≡ Err e
file_fails t s r x o how e a b = rw (a, b) refl

pub file_ends : (t : Tables) (s : State) (r : SetRef) (x o : ℤ) (how : How) (st : Store) →
    subscript_value (readings t s) r.owner ≡ Ok o →
    after_filing (set_of t r.set) s.store (number_of o) (number_of x) how ≡ Ok st →
    state_after_file t s r x how ≡ Ok (state_with_store s st)
file_ends t s r x o how st a b = rw (a, b) refl

pub remove_fails : (t : Tables) (s : State) (r : SetRef) (x o : ℤ) (e : RunFault) →
    subscript_value (readings t s) r.owner ≡ Ok o →
    after_removing (set_of t r.set) s.store (number_of o) (which.Member x) ≡ Err e → state_after_remove t s r x ≡ Err e
remove_fails t s r x o e a b = rw (a, b) refl

pub remove_end_fails : (t : Tables) (s : State) (r : SetRef) (end : SetEnd) (target : Target) (o : ℤ) (e : RunFault) →
    subscript_value (readings t s) r.owner ≡ Ok o →
    after_removing (set_of t r.set) s.store (number_of o) (which_at end) ≡ Err e →
    state_after_remove_end t s r end target ≡ Err e
remove_end_fails t s r end target o e a b = rw (a, b) refl

-- the number of an entity is a value
pub counted_small : (n : ℕ) → n < 2 ^ 32 → number_value n ≡ Ok (pos n)
counted_small n h = chosen (nat_lt n (2 ^ 63)) (lt-ltb n (2 ^ 63) (omega (arith, h)))
  where
    chosen : (b : Bool) → b ≡ true → (if b then Ok (pos n) else Err OutOfRange) ≡ Ok (pos n)
    chosen true e = refl
    chosen false e = cc

pub remove_end_then : (t v : Tables) (s u : State) (r : SetRef) (end : SetEnd) (target : Target) (o x : ℤ) (n : ℕ)
    (st : Store) (done : Result (Unit {0}) RunFault) (new : State) →
    subscript_value (readings t s) r.owner ≡ Ok o →
    after_removing (set_of t r.set) s.store (number_of o) (which_at end) ≡ Ok (n, st) →
    number_value n ≡ Ok (pos n) → u ≡ state_with_store s st → v ≡ t → x ≡ pos n →
    LeadsTo done (state_with_value v u target x) new → LeadsTo done (state_after_remove_end t s r end target) new
remove_end_then t v s u r end target o x n st (Ok _) new a b d e f g h = rw (a, b, d, ← e, ← f, ← g) h
remove_end_then t v s u r end target o x n st (Err _) new a b d e f g h = rw (a, b, d, ← e, ← f, ← g) h

-- ---- notices scheduled and taken off

-- the change of the agenda, of either result
abbrev pub noticed : Result AgendaChange StepFault → Result Change StepFault
noticed (Ok change) = Ok (c.Agenda change)
noticed (Err e) = Err e

agenda_rules : (c : AgendaChange) (v : AgendaState) → (notices.unapply c v).rules ≡ v.rules
agenda_rules (Scheduled n made) v = refl
agenda_rules (TakenOff n x before) v = refl

leaves_agenda : (change : AgendaChange) (a : Agenda) (h : Held) (v w : AgendaState) → Went change w (agenda_of h) v →
    w.agenda ≡ a →
    LeavesState (c.Agenda change) (state_with_agenda h.state a) h (with_agenda h v)
leaves_agenda change a h v w went e = record {
  state = ap (λ (x : AgendaState). record h.state { agenda = x.agenda }) went.state
      ∙ ap (λ (x : Agenda). record h.state { agenda = x }) e;
  tables = refl;
  rules = sym (agenda_rules change v) ∙ ap (λ (x : AgendaState). x.rules) went.back;
  fits = went.fits;
  back = ap (λ (x : AgendaState). with_agenda h x) went.back;
}

pub scheduling_both : (r : Result AgendaChange StepFault) (class k : ℕ) (time : ℤ) (keys : List ℤ) (h : Held)
    (v : AgendaState) →
    IsScheduled r (may_schedule h.state.agenda k time h.state.clock) (after_scheduling (agenda_of h) k time class keys)
    (agenda_of h) v →
    IsScheduling (noticed r) (state_with_notice h.state class k time keys) h (with_agenda h v)
scheduling_both r class k time keys h v o = by r (may_schedule h.state.agenda k time h.state.clock) o
  where
    by : (r : Result AgendaChange StepFault) (q : Result (Unit {0}) RunFault) →
        IsScheduled r q (after_scheduling (agenda_of h) k time class keys) (agenda_of h) v →
        IsScheduling (noticed r) (q >> Ok (state_with_agenda h.state (agenda_after_scheduling h.state.agenda k time class keys))) h
        (with_agenda h v)
    by (Ok change) (Ok x) o = leaves_agenda change (agenda_after_scheduling h.state.agenda k time class keys) h v _ o refl
    by (Ok change) (Err f) o = o
    by (Err (Fault e)) (Ok x) o = o
    by (Err (Fault e)) (Err f) o = (o.0, ap (λ (w : AgendaState). with_agenda h w) o.1)
    by (Err Memory) (Ok x) o = ap (λ (w : AgendaState). with_agenda h w) o
    by (Err Memory) (Err f) o = o

-- ---- the result of a statement

pub settled_as : {E : Type 0} (done : Result (Unit {0}) StepFault) (r : Result (Unit {0}) E) (s mid new : State)
    (q : Result State RunFault) (next : ℕ) →
    LeadsToOrRefuses done q mid → IsSettledOrRefused done r (state_at_place next mid) s new →
    OnOk r (new ≡ state_after_result s q (state_at_place next))
settled_as (Ok x) (Ok y) s mid new q next a b = rw a b
settled_as (Ok x) (Err y) s mid new q next a b = tt
settled_as (Err (Fault e)) (Ok y) s mid new q next a b = rw a b
settled_as (Err (Fault e)) (Err y) s mid new q next a b = tt
settled_as (Err Memory) (Ok y) s mid new q next a b = absurd b
settled_as (Err Memory) (Err y) s mid new q next a b = tt
