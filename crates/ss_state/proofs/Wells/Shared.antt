-- the lemmas that every statement uses to keep a state well-formed
use Rattle.std.proofs.Common.{◌≡◌, ℕ, ℤ, ◌<◌, ◌≤◌, List, length, length-set, Bool, Result, Ok, Err, refl, sym, subst}
use Rattle.std.proofs.Common.{◌∙◌}
use Rattle.std.specs.Prelude.{slice_get}
use Rattle.ss_words.specs.declared.fault.RunFault.{RunFault}
use Rattle.ss_program.specs.declared.variable.Variable.{Variable}
use Rattle.ss_program.specs.declared.variable.Variable.TheVariants.{Global, Local, Clock}
use Rattle.ss_program.specs.declared.place.Place.{Place}
use Rattle.ss_program.specs.declared.ways.Ways.{Ways}
use Rattle.ss_program.specs.Program.{ProgramTable, places_of}
use Rattle.ss_program.specs.ProgramSound.{IsLinkedPlace}
use Rattle.ss_state.specs.declared.status.Status.{Status}
use Rattle.ss_state.specs.declared.status.Status.TheVariants.{Faulted}
use Rattle.ss_state.specs.State.{State, FrameState, Statistics}
use Rattle.ss_store.specs.Tables.{Tables}
use Rattle.ss_store.specs.Store.{Store}
use Rattle.ss_state.specs.Readings.{readings}
use Rattle.ss_state.specs.Loops.{OpenLoop, AreSoundWalks}
use Rattle.ss_state.specs.Statements.{state_after_result, state_at_place, state_after_assignment, state_with_store}
use Rattle.ss_state.specs.Statements.{state_with_taken}
use Rattle.ss_state.specs.Statements.Looping.{state_with_loops, state_with_found, state_with_statistics}
use Rattle.ss_state.specs.Well.{IsInBounds, IsWellFrame, AreLoopsInRange, AreStatisticsInRange, IsStoreInRange}
use Rattle.ss_state.specs.Well.{IsWellEntry}
use Rattle.ss_state.proofs.Ranges.{Got, IsIn, AreIn, set_in}
use Rattle.ss_state.proofs.Rests.{LeavesRest}
use Rattle.ss_state.proofs.Staying.{Stays}
use Rattle.ss_state.proofs.Dues.{due_stays}

pub both_got : {A : Type 0} (P Q : A → Type 0) (r : Result A RunFault) → Got P r → Got Q r → Got (λ x. P x × Q x) r
both_got P Q (Ok x) h k = (h, k)
both_got P Q (Err e) h k = tt

-- a place of the last frame's section
abbrev pub IsPlace : ProgramTable → State → ℕ → Type 0
IsPlace p s n = n < length (places_of (slice_get p.sections s.frame.section))

-- a status of its own changes nothing else
pub marked_well : (p : ProgramTable) (s : State) (status : Status) → IsInBounds p s →
    IsInBounds p (record s { status = status })
marked_well p s status w =
    record {
      variables = w.variables;
      values = w.values;
      frame = w.frame;
      below = w.below;
      stack = w.stack;
      few = w.few;
      clock = w.clock;
      store = w.store;
      items = w.items;
      taken = w.taken;
      report = w.report;
      due = w.due;
      entry = w.entry;
    }

pub settled_well : {A : Type 0} (P : A → Type 0) (p : ProgramTable) (s : State) (r : Result A RunFault) (f : A → State) →
    IsInBounds p s → Got P r → ((x : A) → P x → IsInBounds p (f x)) → IsInBounds p (state_after_result s r f)
settled_well P p s (Ok x) f w g h = h x g
settled_well P p s (Err e) f w g h = marked_well p s (Faulted e) w

-- another last frame of the same section
framed_well : (p : ProgramTable) (s : State) (f : FrameState) → f.section ≡ s.frame.section → IsWellFrame p f →
    IsInBounds p s → IsInBounds p (record s { frame = f })
framed_well p s f e h w = record {
  variables = w.variables;
  values = w.values;
  frame = h;
  below = w.below;
  stack = rw e w.stack;
  few = w.few;
  clock = w.clock;
  store = w.store;
  items = w.items;
  taken = w.taken;
  report = w.report;
  due = w.due;
  entry = subst (λ (i : ℕ). IsWellEntry p s.agenda.pending i s.below s.entry) (sym e) w.entry;
}

pub state_at_place_well : (p : ProgramTable) (s : State) (n : ℕ) → IsPlace p s n → IsInBounds p s →
    IsInBounds p (state_at_place n s)
state_at_place_well p s n h w =
    framed_well p s _ refl (record {
      section = w.frame.section;
      place = h;
      locals = w.frame.locals;
      values = w.frame.values;
      loops = w.frame.loops;
      walks = w.frame.walks;
      statistics = w.frame.statistics;
    }) w

-- open loops whose candidates are in range and whose walks are of sets of the program
abbrev AreOpen : ProgramTable → List OpenLoop → Type 0
AreOpen p ls = AreLoopsInRange ls × AreSoundWalks (length p.sets) ls

pub loops_well : (p : ProgramTable) (s : State) (ls : List OpenLoop) → AreOpen p ls → IsInBounds p s →
    IsInBounds p (state_with_loops s ls)
loops_well p s ls h w =
    framed_well p s _ refl (record {
      section = w.frame.section;
      place = w.frame.place;
      locals = w.frame.locals;
      values = w.frame.values;
      loops = h.0;
      walks = h.1;
      statistics = w.frame.statistics;
    }) w

pub found_well : (p : ProgramTable) (s : State) (b : Bool) → IsInBounds p s → IsInBounds p (state_with_found s b)
found_well p s b w = framed_well p s _ refl (record {
  section = w.frame.section;
  place = w.frame.place;
  locals = w.frame.locals;
  values = w.frame.values;
  loops = w.frame.loops;
  walks = w.frame.walks;
  statistics = w.frame.statistics;
}) w

pub statistics_well : (p : ProgramTable) (s : State) (g : Statistics) → AreStatisticsInRange g → IsInBounds p s →
    IsInBounds p (state_with_statistics s g)
statistics_well p s g h w =
    framed_well p s _ refl (record {
      section = w.frame.section;
      place = w.frame.place;
      locals = w.frame.locals;
      values = w.frame.values;
      loops = w.frame.loops;
      walks = w.frame.walks;
      statistics = h;
    }) w

pub assigned_well : (p : ProgramTable) (s : State) (v : Variable) (x : ℤ) → IsIn x → IsInBounds p s →
    IsInBounds p (state_after_assignment s v x)
assigned_well p s (Global i) x h w = record {
  variables = length-set s.variables i x ∙ w.variables;
  values = set_in s.variables i x w.values h;
  frame = w.frame;
  below = w.below;
  stack = w.stack;
  few = w.few;
  clock = w.clock;
  store = w.store;
  items = w.items;
  taken = w.taken;
  report = w.report;
  due = w.due;
  entry = w.entry;
}
assigned_well p s (Local i) x h w = framed_well p s _ refl (record {
  section = w.frame.section;
  place = w.frame.place;
  locals = length-set s.frame.locals i x ∙ w.frame.locals;
  values = set_in s.frame.locals i x w.frame.values h;
  loops = w.frame.loops;
  walks = w.frame.walks;
  statistics = w.frame.statistics;
}) w
assigned_well p s Clock x h w = w

-- a store that may follow another one: in range, with all entities that there were
abbrev pub IsNext : Store → Store → Type 0
IsNext st new = IsStoreInRange new × Stays st new

pub next_store : (st : Store) (r : Result Store RunFault) → Got IsStoreInRange r → Got (Stays st) r → Got (IsNext st) r
next_store st r h k = both_got IsStoreInRange (Stays st) r h k

abbrev pub LeavesNext : Store → ℕ × Store → Type 0
LeavesNext st r = IsNext st r.1

-- another store
pub store_well : (p : ProgramTable) (s : State) (st : Store) → IsNext s.store st → IsInBounds p s →
    IsInBounds p (state_with_store s st)
store_well p s st h w = record {
  variables = w.variables;
  values = w.values;
  frame = w.frame;
  below = w.below;
  stack = w.stack;
  few = w.few;
  clock = w.clock;
  store = h.0;
  items = w.items;
  taken = w.taken;
  report = w.report;
  due = due_stays p s.clock s.store st s.agenda.pending h.1 w.due;
  entry = w.entry;
}

pub readings_in : (t : Tables) (p : ProgramTable) (s : State) → IsInBounds p s → AreIn (readings t s)
readings_in t p s w = record { variables = w.values; locals = w.frame.values; clock = w.clock; store = w.store }

-- the place stays one of the section
pub rest_place : (p : ProgramTable) (s t : State) (n : ℕ) → LeavesRest s t → IsPlace p s n → IsPlace p t n
rest_place p s t n h k = subst (λ (i : ℕ). n < length (places_of (slice_get p.sections i))) (sym h.section) k

-- ---- assignments, entities and sets

-- a state that goes on at a place
pub went_well : (p : ProgramTable) (s : State) (r : Result State RunFault) (n : ℕ) → Got (LeavesRest s) r →
    Got (IsInBounds p) r → IsPlace p s n → IsInBounds p s →
    IsInBounds p (state_after_result s r (state_at_place n))
went_well p s (Ok t) n h g k w = state_at_place_well p t n (rest_place p s t n h k) g
went_well p s (Err e) n h g k w = marked_well p s (Faulted e) w

pub taken_well : (p : ProgramTable) (s : State) (n : ℕ) → n ≤ length s.feed.items → IsInBounds p s →
    IsInBounds p (state_with_taken s n)
taken_well p s n h w =
    record {
      variables = w.variables;
      values = w.values;
      frame = w.frame;
      below = w.below;
      stack = w.stack;
      few = w.few;
      clock = w.clock;
      store = w.store;
      items = w.items;
      taken = h;
      report = w.report;
      due = w.due;
      entry = w.entry;
    }

-- ---- each kind of place

-- the property of the ways of a place
abbrev pub LeadsHere : ProgramTable → State → Ways → Place → Type 0
LeadsHere p s y x = IsLinkedPlace p.sections (length (places_of (slice_get p.sections s.frame.section))) y x
