-- so do CREATE, CREATE EVERY and DESTROY
use Rattle.std.proofs.Common.{◌≡◌, ℕ, Bool, true, false, Option, Some, None, Result, Ok, Err, refl}
use Rattle.std.specs.Prelude.{pos}
use Rattle.ss_words.specs.declared.fault.RunFault.{RunFault}
use Rattle.ss_words.specs.declared.fault.RunFault.TheVariants.{EndedInUse}
use Rattle.ss_program.specs.declared.making.Making.{Making}
use Rattle.ss_program.specs.declared.making.Making.TheVariants.{Create, CreateEvery, Destroy}
use Rattle.ss_program.specs.declared.variable.Variable.TheVariants.{Global}
use Rattle.ss_program.specs.ProgramExpr.{Expr}
use Rattle.ss_program.specs.Program.{ProgramTable}
use Rattle.ss_state.specs.State.{State}
use Rattle.ss_store.specs.Tables.{Tables, class_of}
use Rattle.ss_store.specs.Store.{Store, last_reference, with_new, with_class, without_entity}
use Rattle.ss_events.specs.Agenda.{is_pending}
use Rattle.ss_values.specs.Faults.{◌>>=◌, ◌>>◌, refuse_if}
use Rattle.ss_values.specs.Values.{Readings, value_of, number_value}
use Rattle.ss_state.specs.Readings.{readings}
use Rattle.ss_state.specs.Statements.{state_with_store, entity_named}
use Rattle.ss_state.specs.Statements.Entities.{number_asked, state_after_making, store_without}
use Rattle.ss_state.specs.Well.{IsInBounds, IsStoreInRange, AreDue}
use Rattle.ss_state.proofs.Ranges.{Got, after_got, anything, IsIn, AreIn, ranged_in, variable_in}
use Rattle.ss_state.proofs.ValuesIn.{value_in}
use Rattle.ss_state.proofs.Staying.{StaysBut, new_stays, class_stays, ended_stays}
use Rattle.ss_state.proofs.Stores.{new_in, made_in, without_in}
use Rattle.ss_state.proofs.Dues.{due_but, others_of}
use Rattle.ss_state.proofs.Wells.Shared.{IsNext, assigned_well, next_store, readings_in, store_well}
use Rattle.ss_state.proofs.Wells.Assigning.{value_well}

asked_in : (v : Readings) (e : Option Expr) (count : ℕ) → AreIn v → Got IsIn (number_asked v e count)
asked_in v None count h = variable_in v (Global count) h
asked_in v (Some e) count h = value_in v e h

-- a store in which all pending notices are
abbrev IsRid : ProgramTable → State → Store → Type 0
IsRid p s st = IsStoreInRange st × AreDue p s.clock st s.agenda.pending

-- the store without an entity that is no pending notice
ended_well : (t : Tables) (p : ProgramTable) (s : State) (c k : ℕ) → IsInBounds p s →
    Got (IsRid p s) (store_without t s c k)
ended_well t p s c k w = chosen (is_pending s.agenda k) refl
  where
    rid : (r : Result Store RunFault) → is_pending s.agenda k ≡ false → Got IsStoreInRange r →
        Got (StaysBut k s.store) r → Got (IsRid p s) r
    rid (Ok st) e h g = (h, due_but p s.clock k s.store st s.agenda.pending (others_of k s.agenda.pending e) g w.due)
    rid (Err f) e h g = tt

    chosen : (b : Bool) → is_pending s.agenda k ≡ b →
        Got (IsRid p s) (refuse_if b EndedInUse >> without_entity t s.store c k)
    chosen true e = tt
    chosen false e = rid (without_entity t s.store c k) e (without_in t s.store c k w.store) (ended_stays t s.store c k)

rid_well : (p : ProgramTable) (s : State) (st : Store) → IsRid p s st → IsInBounds p s →
    IsInBounds p (state_with_store s st)
rid_well p s st h w =
    record {
      variables = w.variables;
      values = w.values;
      frame = w.frame;
      below = w.below;
      stack = w.stack;
      few = w.few;
      clock = w.clock;
      store = h.0;
      items = w.items;
      taken = w.taken;
      report = w.report;
      due = h.1;
      entry = w.entry;
    }

pub making_well : (t : Tables) (p : ProgramTable) (s : State) (m : Making) → IsInBounds p s →
    Got (IsInBounds p) (state_after_making t s m)
making_well t p s (Create c is_called target) w =
    after_got (IsNext s.store) (IsInBounds p) (with_new s.store c (class_of t c)) _
    (next_store s.store _ (new_in s.store c (class_of t c) w.store) (new_stays s.store c (class_of t c))) (λ st h.
    after_got IsIn (IsInBounds p) (number_value (last_reference st)) _ (ranged_in (pos (last_reference st)))
    (λ x k. value_well t p (state_with_store s st) target x k (store_well p s st h w)))
making_well t p s (CreateEvery c e count) w =
    after_got IsIn (IsInBounds p) (number_asked (readings t s) e count) _
    (asked_in (readings t s) e count (readings_in t p s w)) (λ n h.
    after_got (IsNext s.store) (IsInBounds p) (with_class s.store c (class_of t c) n) _
    (next_store s.store _ (made_in s.store c (class_of t c) n w.store) (class_stays s.store c (class_of t c) n))
    (λ st k. assigned_well p (state_with_store s st) (Global count) n h (store_well p s st k w)))
making_well t p s (Destroy c is_called e) w =
    after_got (IsRid p s) (IsInBounds p)
    (value_of (readings t s) e >>= entity_named s.store c >>= store_without t s c) _
    (after_got (λ (_ : ℕ). Unit {0}) (IsRid p s) (value_of (readings t s) e >>= entity_named s.store c)
    (store_without t s c) (anything _)
    (λ k _. ended_well t p s c k w)) (λ st h. rid_well p s st h w)
