-- A step that touches no part of a state leaves it. It leaves each list whose members it does not
-- count anew.
use Rattle.std.proofs.Common.{◌≡◌, ℕ, suc, ◌+◌, List, [], ◌∷◌, ◌++◌, Bool, true, false, Option, Some, None, Ok, Err}
use Rattle.std.proofs.Common.{Result}
use Rattle.std.proofs.Common.{refl, sym, ap, ◌∙◌, arith, length, length-append, append_assoc}
use Rattle.std.proofs.lemmas.List.{append-nil}
use Rattle.std.specs.Prelude.{nat_le, if◌then◌else◌}
use Rattle.ss_words.specs.declared.fault.RunFault.{RunFault}
use Rattle.ss_words.specs.declared.fault.RunFault.TheVariants.{ReportFull}
use Rattle.ss_report.specs.declared.limits.TheConstants.{LONGEST_REPORT}
use Rattle.ss_program.specs.Program.{ProgramTable, spot_at}
use Rattle.ss_program.specs.declared.filing.Filing.TheVariants.{File, FileAt, RemoveAt, Remove}
use Rattle.ss_program.specs.declared.making.Making.TheVariants.{Create, CreateEvery, Destroy}
use Rattle.ss_program.specs.declared.place.Control.TheVariants.{Stop, Return, End}
use Rattle.ss_program.specs.declared.place.Place.TheVariants as places
use Rattle.ss_program.specs.declared.place.Place.{Place}
use Rattle.ss_program.specs.declared.place.Spot.{Spot}
use Rattle.ss_program.specs.declared.target.Target.TheVariants as targets
use Rattle.ss_program.specs.declared.ways.Ways.{Ways}
use Rattle.ss_events.specs.Agenda.{Agenda}
use Rattle.ss_store.specs.Store.{Store, with_attribute}
use Rattle.ss_state.proofs.Ranges.{Got}
use Rattle.ss_state.specs.State.{State, is_ready}
use Rattle.ss_state.specs.Run.{Input, run}
use Rattle.ss_state.specs.Statements.{state_with_store, ways_here}
use Rattle.ss_state.specs.Statements.Printing.{longer_report}
use Rattle.ss_state.specs.Step.{step, step_at, step_by}
use Rattle.ss_debug.specs.Answer.{events_text, report_text}
use Rattle.ss_trace.specs.declared.touches.Part.{Part}
use Rattle.ss_trace.specs.declared.touches.Part.TheVariants.{Entities, Lists, Notices}
use Rattle.ss_trace.specs.declared.touches.Touch.TheVariants.{Nothing}
use Rattle.ss_trace.specs.Touches.{touched_part, touched_by, touched_in, touched_at}
use Rattle.ss_trace.proofs.Counting.{HasCounted, counted_same, attribute_counted, filed, removed, made, ended}
use Rattle.ss_trace.proofs.PlaceSteps.{Ignores, IgnoresAttributes, IgnoresLength, by_assign, by_plain_assign}
use Rattle.ss_trace.proofs.PlaceSteps.{by_branch, by_cases, by_looping, by_call, by_control, by_read, by_output}
use Rattle.ss_trace.proofs.StoreSteps.{KeepsStores, IgnoresTime, any_store, by_create, by_every, by_destroy, by_filing}
use Rattle.ss_trace.proofs.StoreSteps.{by_timing}

all_got : {A : Type 0} (P : A → Type 0) (r : Result A RunFault) → ((x : A) → P x) → Got P r
all_got P (Ok x) h = h x
all_got P (Err e) h = tt

-- ---- the parts of a state

abbrev HasAgenda : Agenda → State → Type 0
HasAgenda a s = s.agenda ≡ a

abbrev HasLists : Store → State → Type 0
HasLists st s = HasCounted st s.store

abbrev HasStore : Store → State → Type 0
HasStore st s = s.store ≡ st

-- its report begins with these bytes
abbrev Begins : List ℕ → State → Type 0
Begins bytes s = (more : List ℕ) × (s.report ≡ bytes ++ more)

agenda_ignores : (a : Agenda) → Ignores (HasAgenda a)
agenda_ignores a = record {
  frames = λ s f fs p. p;
  status = λ s x p. p;
  variables = λ s xs p. p;
  feed = λ s d p. p;
  entry = λ s e p. p;
}

lists_ignore : (old : Store) → Ignores (HasLists old)
lists_ignore old = record {
  frames = λ s f fs p. p;
  status = λ s x p. p;
  variables = λ s xs p. p;
  feed = λ s d p. p;
  entry = λ s e p. p;
}

store_ignores : (st : Store) → Ignores (HasStore st)
store_ignores st = record {
  frames = λ s f fs p. p;
  status = λ s x p. p;
  variables = λ s xs p. p;
  feed = λ s d p. p;
  entry = λ s e p. p;
}

report_ignores : (bytes : List ℕ) → Ignores (Begins bytes)
report_ignores bytes = record {
  frames = λ s f fs p. p;
  status = λ s x p. p;
  variables = λ s xs p. p;
  feed = λ s d p. p;
  entry = λ s e p. p;
}

agenda_attributes : (a : Agenda) → IgnoresAttributes (HasAgenda a)
agenda_attributes a s c b k z p =
    all_got (λ (st : Store). HasAgenda a (state_with_store s st)) (with_attribute s.store c b k z) (λ st. p)

report_attributes : (bytes : List ℕ) → IgnoresAttributes (Begins bytes)
report_attributes bytes s c a k z p =
    all_got (λ (st : Store). Begins bytes (state_with_store s st)) (with_attribute s.store c a k z) (λ st. p)

lists_attributes : (old : Store) → IgnoresAttributes (HasLists old)
lists_attributes old s c a k z p = attribute_counted old s.store c a k z p

any_length : (P : State → Type 0) → ((s : State) (bytes : List ℕ) → P s → P (record s { report = bytes })) →
    IgnoresLength P
any_length P h s text p =
    all_got (λ (bytes : List ℕ). P (record s { report = bytes })) (longer_report s.report text) (λ bytes. h s bytes p)

longer_got : (old report text : List ℕ) (b : Bool) (f : RunFault) → ((more : List ℕ) × (report ≡ old ++ more)) →
    Got (λ (bytes : List ℕ). (more : List ℕ) × (bytes ≡ old ++ more)) (if b then Ok (report ++ text) else Err f)
longer_got old report text true f p =
    (p.0 ++ text, ap (λ (xs : List ℕ). xs ++ text) p.1 ∙ append_assoc old p.0 text)
longer_got old report text false f p = tt

report_lengthens : (bytes : List ℕ) → IgnoresLength (Begins bytes)
report_lengthens bytes s text p =
    longer_got bytes s.report text (nat_le (length s.report + length text) LONGEST_REPORT) ReportFull p

agenda_keeps : (a : Agenda) (s : State) → HasAgenda a s → KeepsStores (HasAgenda a) s
agenda_keeps a s p = any_store (HasAgenda a) s (λ s st p. p) p

report_keeps : (bytes : List ℕ) (s : State) → Begins bytes s → KeepsStores (Begins bytes) s
report_keeps bytes s p = any_store (Begins bytes) s (λ s st p. p) p

-- a step from a store counts all lists
lists_keep : (s : State) → KeepsStores (HasLists s.store) s
lists_keep s = record {
  filed = λ shape o k how. filed shape s.store o k how;
  removed = λ shape o w. removed shape s.store o w;
  made = λ c shape. made s.store c shape;
  ended = λ t c k. ended t s.store c k;
}

lists_time : (old : Store) → IgnoresTime (HasLists old)
lists_time old = record { agenda = λ s a p. p; clock = λ s x p. p }

report_time : (bytes : List ℕ) → IgnoresTime (Begins bytes)
report_time bytes = record { agenda = λ s a p. p; clock = λ s x p. p }

-- ---- one place

agenda_at : (a : Agenda) (q : ProgramTable) (s : State) (w : Ways) (x : Place) → touched_part Notices x ≡ Nothing →
    HasAgenda a s → HasAgenda a (step_at q s w x)
agenda_at a q s w (places.Assign x) e p = by_assign (agenda_ignores a) (agenda_attributes a) q s w x p
agenda_at a q s w (places.Making (Create c b t)) e p =
    by_create (agenda_ignores a) (agenda_attributes a) q s w c b t (agenda_keeps a s p) p
agenda_at a q s w (places.Making (CreateEvery c n k)) e p =
    by_every (agenda_ignores a) (agenda_attributes a) q s w c n k (λ s st p. p) p
agenda_at a q s w (places.Making (Destroy c b x)) e p =
    by_destroy (agenda_ignores a) (agenda_attributes a) q s w c b x (agenda_keeps a s p) p
agenda_at a q s w (places.Filing f) e p =
    by_filing (agenda_ignores a) (agenda_attributes a) q s w f (agenda_keeps a s p) p
agenda_at a q s w (places.Output o) e p =
    by_output (agenda_ignores a) q s w o (any_length (HasAgenda a) (λ s b p. p)) p
agenda_at a q s w (places.Control c) e p = by_control (agenda_ignores a) (agenda_attributes a) q s w c p
agenda_at a q s w (places.Branch b) e p = by_branch (agenda_ignores a) q s w b p
agenda_at a q s w (places.Looping l) e p = by_looping (agenda_ignores a) (agenda_attributes a) q s w l p
agenda_at a q s w (places.Call c) e p = by_call (agenda_ignores a) q s w c p
agenda_at a q s w (places.Timing x) e p = absurd (cc)
agenda_at a q s w (places.Read ts) e p = by_read (agenda_ignores a) (agenda_attributes a) q s w ts p

-- each
report_at : (bytes : List ℕ) (q : ProgramTable) (s : State) (w : Ways) (x : Place) → Begins bytes s →
    Begins bytes (step_at q s w x)
report_at bytes q s w (places.Assign x) p = by_assign (report_ignores bytes) (report_attributes bytes) q s w x p
report_at bytes q s w (places.Making (Create c b t)) p =
    by_create (report_ignores bytes) (report_attributes bytes) q s w c b t (report_keeps bytes s p) p
report_at bytes q s w (places.Making (CreateEvery c n k)) p =
    by_every (report_ignores bytes) (report_attributes bytes) q s w c n k (λ s st p. p) p
report_at bytes q s w (places.Making (Destroy c b x)) p =
    by_destroy (report_ignores bytes) (report_attributes bytes) q s w c b x (report_keeps bytes s p) p
report_at bytes q s w (places.Filing f) p =
    by_filing (report_ignores bytes) (report_attributes bytes) q s w f (report_keeps bytes s p) p
report_at bytes q s w (places.Output o) p = by_output (report_ignores bytes) q s w o (report_lengthens bytes) p
report_at bytes q s w (places.Control c) p = by_control (report_ignores bytes) (report_attributes bytes) q s w c p
report_at bytes q s w (places.Branch b) p = by_branch (report_ignores bytes) q s w b p
report_at bytes q s w (places.Looping l) p = by_looping (report_ignores bytes) (report_attributes bytes) q s w l p
report_at bytes q s w (places.Call c) p = by_call (report_ignores bytes) q s w c p
report_at bytes q s w (places.Timing x) p =
    by_timing (report_ignores bytes) (report_attributes bytes) q s w x (report_keeps bytes s p) (report_time bytes) p
report_at bytes q s w (places.Read ts) p = by_read (report_ignores bytes) (report_attributes bytes) q s w ts p

-- one that assigns to no attribute, and neither makes nor ends, files nor removes, nor yields
pub store_at : (st : Store) (q : ProgramTable) (s : State) (w : Ways) (x : Place) → touched_part Entities x ≡ Nothing →
    HasStore st s → HasStore st (step_at q s w x)
store_at st q s w (places.Assign a) e p = by_plain_assign (store_ignores st) q s w a e p
store_at st q s w (places.Making (Create c b t)) e p = absurd (cc)
store_at st q s w (places.Making (CreateEvery c n k)) e p = absurd (cc)
store_at st q s w (places.Making (Destroy c b x)) e p = absurd (cc)
store_at st q s w (places.Filing (File x position r)) e p = absurd (cc)
store_at st q s w (places.Filing (FileAt end x r)) e p = absurd (cc)
store_at st q s w (places.Filing (RemoveAt end (targets.Variable v) r)) e p = absurd (cc)
store_at st q s w (places.Filing (RemoveAt end (targets.Attribute c a i) r)) e p = absurd (cc)
store_at st q s w (places.Filing (Remove x r)) e p = absurd (cc)
store_at st q s w (places.Output o) e p =
    by_output (store_ignores st) q s w o (any_length (HasStore st) (λ s b p. p)) p
store_at st q s w (places.Control Stop) e p = p
store_at st q s w (places.Control Return) e p = absurd (cc)
store_at st q s w (places.Control End) e p = absurd (cc)
store_at st q s w (places.Branch b) e p = by_branch (store_ignores st) q s w b p
store_at st q s w (places.Looping l) e p = by_cases (store_ignores st) q s w l e p
store_at st q s w (places.Call c) e p = by_call (store_ignores st) q s w c p
store_at st q s w (places.Timing x) e p = absurd (cc)
store_at st q s w (places.Read ts) e p = absurd (cc)

-- one that makes no class as a whole
pub lists_at : (q : ProgramTable) (s : State) (w : Ways) (x : Place) → touched_part Lists x ≡ Nothing → HasLists s.store s →
    HasLists s.store (step_at q s w x)
lists_at q s w (places.Assign a) e p =
    by_assign (lists_ignore s.store) (lists_attributes s.store) q s w a p
lists_at q s w (places.Making (Create c b t)) e p =
    by_create (lists_ignore s.store) (lists_attributes s.store) q s w c b t (lists_keep s) p
lists_at q s w (places.Making (CreateEvery c n k)) e p = absurd (cc)
lists_at q s w (places.Making (Destroy c b x)) e p =
    by_destroy (lists_ignore s.store) (lists_attributes s.store) q s w c b x (lists_keep s) p
lists_at q s w (places.Filing f) e p =
    by_filing (lists_ignore s.store) (lists_attributes s.store) q s w f (lists_keep s) p
lists_at q s w (places.Output o) e p =
    by_output (lists_ignore s.store) q s w o (any_length (HasLists s.store) (λ s b p. p)) p
lists_at q s w (places.Control c) e p =
    by_control (lists_ignore s.store) (lists_attributes s.store) q s w c p
lists_at q s w (places.Branch b) e p = by_branch (lists_ignore s.store) q s w b p
lists_at q s w (places.Looping l) e p =
    by_looping (lists_ignore s.store) (lists_attributes s.store) q s w l p
lists_at q s w (places.Call c) e p = by_call (lists_ignore s.store) q s w c p
lists_at q s w (places.Timing x) e p =
    by_timing (lists_ignore s.store) (lists_attributes s.store) q s w x (lists_keep s) (lists_time s.store) p
lists_at q s w (places.Read ts) e p =
    by_read (lists_ignore s.store) (lists_attributes s.store) q s w ts p

-- ---- the next state

-- a property of a state that the next one has, too, if the step's place does not touch a part
abbrev Passes : Part → (State → Type 0) → State → Type 0
Passes part P s = (q : ProgramTable) (w : Ways) (x : Place) → touched_part part x ≡ Nothing → P s → P (step_at q s w x)

spot_passes : (part : Part) (P : State → Type 0) (q : ProgramTable) (s : State) → Passes part P s → (o : Option Spot) →
    touched_by part o ≡ Nothing → P s → P (step_by q s o)
spot_passes part P q s h None e p = absurd (cc)
spot_passes part P q s h (Some spot) e p = h q (ways_here q s spot.place) spot.place e p

next_passes : (part : Part) (P : State → Type 0) (q : ProgramTable) (s : State) → Passes part P s → (ready : Bool) →
    touched_in q part s ≡ Nothing → P s → P (if ready then step q s else s)
next_passes part P q s h true e p = spot_passes part P q s h (spot_at q s.frame.section s.frame.place) e p
next_passes part P q s h false e p = p

run_passes : (part : Part) (P : State → Type 0) (t : Input) (p : ℕ) → Passes part P (run t p) →
    touched_in t.program part (run t p) ≡ Nothing → P (run t p) → P (run t (suc p))
run_passes part P t p h e g = next_passes part P t.program (run t p) h (is_ready (run t p).status) e g

-- the lists of a state and the next
pub lists_counted : (t : Input) (p : ℕ) → touched_at t Lists p ≡ Nothing →
    HasCounted (run t p).store (run t (suc p)).store
lists_counted t p e =
    run_passes Lists (HasLists (run t p).store) t p (λ q w x. lists_at q (run t p) w x) e (counted_same (run t p).store)

-- the store
pub store_left : (t : Input) (p : ℕ) → touched_at t Entities p ≡ Nothing → (run t (suc p)).store ≡ (run t p).store
store_left t p e =
    run_passes Entities (HasStore (run t p).store) t p (λ q w x. store_at (run t p).store q (run t p) w x) e refl

-- the notices
pub events_left : (t : Input) (p : ℕ) → touched_at t Notices p ≡ Nothing → events_text t (suc p) ≡ events_text t p
unfolding events_text
events_left t p e =
    let same =
    run_passes Notices (HasAgenda (run t p).agenda) t p (λ q w x. agenda_at (run t p).agenda q (run t p) w x) e refl in
    rw same refl

-- ---- the report, which grows

spot_begins : (bytes : List ℕ) (q : ProgramTable) (s : State) (o : Option Spot) → Begins bytes s →
    Begins bytes (step_by q s o)
spot_begins bytes q s None p = p
spot_begins bytes q s (Some spot) p = report_at bytes q s (ways_here q s spot.place) spot.place p

next_begins : (bytes : List ℕ) (q : ProgramTable) (s : State) (ready : Bool) → Begins bytes s →
    Begins bytes (if ready then step q s else s)
next_begins bytes q s true p = spot_begins bytes q s (spot_at q s.frame.section s.frame.place) p
next_begins bytes q s false p = p

no_longer : (old more new : List ℕ) → new ≡ old ++ more → length new ≡ length old → new ≡ old
no_longer old [] new e h = e ∙ append-nil old
no_longer old (b ∷ bs) new e h =
    let long = ap length e ∙ length-append old (b ∷ bs) in absurd (omega (arith, h, long))

-- of the same length it is the same
pub report_left : (t : Input) (p : ℕ) → length (run t (suc p)).report ≡ length (run t p).report →
    report_text t (suc p) ≡ report_text t p
unfolding report_text
report_left t p h =
    let grown =
    next_begins (run t p).report t.program (run t p) (is_ready (run t p).status)
    ([], sym (append-nil (run t p).report)) in
    let same = no_longer (run t p).report grown.0 (run t (suc p)).report grown.1 h in
    rw same refl
