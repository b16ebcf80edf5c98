-- The part of a state that a step leaves as it is, by the kind of its place.
use Rattle.std.proofs.Common.{◌≡◌, ℕ, ℤ, ◌+◌, true, false, List, [], ◌∷◌, Option, Some, None, Result, Ok, Err, refl}
use Rattle.std.specs.Prelude.{pos, length, drop, replicate, slice_index_or, slice_set, if◌then◌else◌}
use Rattle.ss_words.specs.declared.characters.TheConstants.{LINE_FEED}
use Rattle.ss_words.specs.declared.fault.RunFault.{RunFault}
use Rattle.ss_words.specs.declared.fault.RunFault.TheVariants.{OutsideEntry}
use Rattle.ss_report.specs.Pictures.{picture_text}
use Rattle.ss_program.specs.Program.{ProgramTable, has_external, section_of, spot_at}
use Rattle.ss_program.specs.declared.branch.Branch.{Branch}
use Rattle.ss_program.specs.declared.branch.Branch.TheVariants.{If, Else, Always}
use Rattle.ss_program.specs.declared.call.Call.{Call}
use Rattle.ss_program.specs.declared.kinds.SectionKind.TheVariants as kinds
use Rattle.ss_program.specs.declared.kinds.SectionKind.{SectionKind}
use Rattle.ss_program.specs.declared.looping.ForPhrase.{ForPhrase}
use Rattle.ss_program.specs.declared.looping.Looping.{Looping}
use Rattle.ss_program.specs.declared.looping.Looping.TheVariants.{For, Loop, Find, Gather, Tell}
use Rattle.ss_program.specs.declared.looping.Telling.{Telling}
use Rattle.ss_program.specs.declared.place.Assign.{Assign}
use Rattle.ss_program.specs.declared.place.Control.{Control}
use Rattle.ss_program.specs.declared.place.Control.TheVariants.{Stop, Return, End}
use Rattle.ss_program.specs.declared.place.Output.{Output}
use Rattle.ss_program.specs.declared.place.Output.TheVariants.{Print, Skip}
use Rattle.ss_program.specs.declared.place.Place.TheVariants as places
use Rattle.ss_program.specs.declared.place.Place.{Place}
use Rattle.ss_program.specs.declared.place.Spot.{Spot}
use Rattle.ss_program.specs.declared.target.Target.TheVariants as targets
use Rattle.ss_program.specs.declared.target.Target.{Target}
use Rattle.ss_program.specs.declared.variable.Variable.TheVariants.{Global, Local, Clock}
use Rattle.ss_program.specs.declared.variable.Variable.{Variable}
use Rattle.ss_program.specs.declared.ways.Resets.TheVariants as resets
use Rattle.ss_program.specs.declared.ways.Resets.{Resets}
use Rattle.ss_program.specs.declared.ways.Ways.{Ways}
use Rattle.ss_data.specs.Items.{DataRead, with_taken}
use Rattle.ss_data.specs.Entries.{place_behind_mark}
use Rattle.ss_store.specs.Store.{Store, number_of, with_attribute}
use Rattle.ss_store.specs.Tables.{Tables, tables_of}
use Rattle.ss_values.specs.Faults.{◌>>=◌, ◌>>◌, refuse_if}
use Rattle.ss_values.specs.Values.{subscript_value, assigned_value, values_of}
use Rattle.ss_state.proofs.Ranges.{Got, after_got, anything}
use Rattle.ss_state.specs.declared.entry.Entry.TheVariants.{Absent, Waiting, Running}
use Rattle.ss_state.specs.declared.entry.Entry.{Entry}
use Rattle.ss_state.specs.declared.status.Status.TheVariants.{Stopped, Finished, Faulted}
use Rattle.ss_state.specs.declared.status.Status.{Status}
use Rattle.ss_state.specs.Loops.{OpenLoop, Verdict, Runs, Passes, Closes, innermost, loop_of_phrase, loop_variable}
use Rattle.ss_state.specs.Loops.{loops_with_candidate, next_candidate, verdict_of}
use Rattle.ss_state.specs.Readings.{readings}
use Rattle.ss_state.specs.State.{State, FrameState, Statistics, is_waiting, new_frame, no_statistics}
use Rattle.ss_state.specs.Statements.{state_after_result, state_at_place, state_after_assignment, state_with_store}
use Rattle.ss_state.specs.Statements.{state_with_value, state_with_values, state_with_taken, ways_here}
use Rattle.ss_state.specs.Statements.Assigning.{target_of}
use Rattle.ss_state.specs.Statements.Calling.{state_after_return, state_after_section, state_behind_call}
use Rattle.ss_state.specs.Statements.Calling.{state_behind_mark, state_without_entry, state_after_event}
use Rattle.ss_state.specs.Statements.Calling.{state_behind_place}
use Rattle.ss_state.specs.Statements.Looping.{state_after_phrase, state_after_reset, candidate_tried}
use Rattle.ss_state.specs.Statements.Looping.{state_after_turn, state_after_verdict, state_with_candidate}
use Rattle.ss_state.specs.Statements.Looping.{state_with_loops, state_with_found, state_with_statistics}
use Rattle.ss_state.specs.Statements.Looping.{statistic_value, state_after_telling}
use Rattle.ss_state.specs.Statements.Printing.{longer_report, lines_asked}
use Rattle.ss_state.specs.Statements.Reading.{values_taken}
use Rattle.ss_state.specs.Step.{step_at}
use Rattle.ss_trace.specs.declared.touches.Touch.TheVariants.{Nothing}
use Rattle.ss_trace.specs.Touches.{touched_target, touched_assign, touched_looping}

-- a property of states that ignores frames, status, variables, the data taken and the entry
pub record Ignores (P : State → Type 0) : Type 0 where
  pub frames : (s : State) (f : FrameState) (fs : List FrameState) → P s → P (record s { frame = f; below = fs })
  pub status : (s : State) (x : Status) → P s → P (record s { status = x })
  pub variables : (s : State) (xs : List ℤ) → P s → P (record s { variables = xs })
  pub feed : (s : State) (d : DataRead) → P s → P (record s { feed = d })
  pub entry : (s : State) (e : Entry) → P s → P (record s { entry = e })

-- a property that ignores attributes, too
abbrev pub IgnoresAttributes : (State → Type 0) → Type 0
IgnoresAttributes P =
    (s : State) (c a k : ℕ) (z : ℤ) → P s →
    Got (λ (st : Store). P (state_with_store s st)) (with_attribute s.store c a k z)

-- a property that ignores the length of the report
abbrev pub IgnoresLength : (State → Type 0) → Type 0
IgnoresLength P =
    (s : State) (text : List ℕ) → P s →
    Got (λ (bytes : List ℕ). P (record s { report = bytes })) (longer_report s.report text)

module _ {P : State → Type 0} (i : Ignores P) where
  settled : {A : Type 0} (s : State) (r : Result A RunFault) (f : A → State) → P s → ((x : A) → P (f x)) →
      P (state_after_result s r f)
  settled s (Ok x) f p h = h x
  settled s (Err e) f p h = i.status s (Faulted e) p

  pub got : {A : Type 0} (Q : A → Type 0) (s : State) (r : Result A RunFault) (f : A → State) → P s → Got Q r →
      ((x : A) → Q x → P (f x)) → P (state_after_result s r f)
  got Q s (Ok x) f p g h = h x g
  got Q s (Err e) f p g h = i.status s (Faulted e) p

  -- whatever was got before
  pub then_got : {A : Type 0} (r : Result A RunFault) (f : A → Result State RunFault) → ((x : A) → Got P (f x)) →
      Got P (r >>= f)
  then_got r f h = after_got (λ _. Unit {0}) P r f (anything r) (λ x _. h x)

  -- the same of another result
  pub then_any : {A B : Type 0} (Q : B → Type 0) (r : Result A RunFault) (f : A → Result B RunFault) →
      ((x : A) → Got Q (f x)) → Got Q (r >>= f)
  then_any Q r f h = after_got (λ _. Unit {0}) Q r f (anything r) (λ x _. h x)

  pub placed : (s : State) (n : ℕ) → P s → P (state_at_place n s)
  placed s n p = i.frames s (record s.frame { place = n }) s.below p

  pub assigned : (s : State) (v : Variable) (x : ℤ) → P s → P (state_after_assignment s v x)
  assigned s (Global k) x p = i.variables s (slice_set s.variables k x) p
  assigned s (Local k) x p = i.frames s (record s.frame { locals = slice_set s.frame.locals k x }) s.below p
  assigned s Clock x p = p

  looped : (s : State) (ls : List OpenLoop) → P s → P (state_with_loops s ls)
  looped s ls p = i.frames s (record s.frame { loops = ls }) s.below p

  reset : (s : State) (r : Resets) → P s → P (state_after_reset s r)
  reset s resets.Nothing p = p
  reset s resets.Found p = i.frames s (record s.frame { found = false }) s.below p
  reset s resets.Statistics p = i.frames s (record s.frame { statistics = no_statistics }) s.below p

  verdict : (w : Ways) (s : State) (v : Verdict) → P s → P (state_after_verdict w s v)
  verdict w s Runs p = placed s w.next p
  verdict w s Passes p = p
  verdict w s Closes p = placed (state_with_loops s (drop 1 s.frame.loops)) w.exit (looped s (drop 1 s.frame.loops) p)

  turn : (t : Tables) (s : State) (w : Ways) (f : ForPhrase) (l : OpenLoop) (c : Option ℤ) → P s →
      P (state_after_turn t s w f l c)
  turn t s w f l None p = placed (state_with_loops s (drop 1 s.frame.loops)) w.exit (looped s (drop 1 s.frame.loops) p)
  turn t s w f l (Some x) p =
      got (λ (r : State × Verdict). P r.0) s (candidate_tried t s f l x) _ p
      (after_got (λ (_ : Option ℤ). Unit {0}) (λ (r : State × Verdict). P r.0)
      (next_candidate (readings t s) l.walk x) _ (anything _) (λ c _.
      after_got (λ (_ : Verdict). Unit {0}) (λ (r : State × Verdict). P r.0)
      (verdict_of (readings t (state_with_candidate s f c x)) f.qualifiers) _ (anything _)
      (λ v _. assigned (state_with_loops s (loops_with_candidate c s.frame.loops)) (loop_variable f.phrase) x
      (looped s (loops_with_candidate c s.frame.loops) p))))
      (λ r h. verdict w r.0 r.1 h)

  phrase : (t : Tables) (s : State) (w : Ways) (f : ForPhrase) (o : Option OpenLoop) → P s →
      P (state_after_phrase t s w f o)
  phrase t s w f None p =
      settled s _ _ p
      (λ l. reset (state_with_loops s (l ∷ s.frame.loops)) w.resets (looped s (l ∷ s.frame.loops) p))
  phrase t s w f (Some l) p = turn t s w f l l.candidate p

  marked : (s : State) (o : Option ℕ) → P s → Got P (state_behind_mark s o)
  marked s None p = tt
  marked s (Some n) p = i.entry (state_with_taken s n) Absent (i.feed s (with_taken s.feed n) p)

  entered : (s : State) (e : Entry) → P s → Got P (state_without_entry s e)
  entered s Absent p = p
  entered s (Waiting c k) p = p
  entered s (Running c k) p = marked s (place_behind_mark s.feed) p

  event_over : (s : State) (fs : List FrameState) → P s → P (state_after_event s fs)
  event_over s [] p = p
  event_over s (f ∷ fs) p = got P s _ _ p (entered s s.entry p) (λ r h. i.frames r f fs h)

  -- a branch leaves it
  pub by_branch : (q : ProgramTable) (s : State) (w : Ways) (b : Branch) → P s → P (step_at q s w (places.Branch b))
  by_branch q s w (If x) p = settled s _ _ p (λ b. placed s (if b then w.next else w.exit) p)
  by_branch q s w Else p = placed s w.next p
  by_branch q s w Always p = placed s w.next p

  -- a statement that goes through cases, and assigns no statistics
  pub by_cases : (q : ProgramTable) (s : State) (w : Ways) (l : Looping) → touched_looping l ≡ Nothing → P s →
      P (step_at q s w (places.Looping l))
  by_cases q s w (For f) e p =
      phrase (tables_of q) s w f (loop_of_phrase s.frame.place (innermost s.frame.loops)) p
  by_cases q s w Loop e p = placed s w.next p
  by_cases q s w Find e p =
      placed _ w.next (looped (state_with_found s true) (drop w.chain s.frame.loops)
      (i.frames s (record s.frame { found = true }) s.below p))
  by_cases q s w (Gather x) e p =
      settled s _ _ p (λ g. placed (state_with_statistics s g) w.next
      (i.frames s (record s.frame { statistics = g }) s.below p))
  by_cases q s w (Tell ts) e p = absurd (cc)

  -- a call
  pub by_call : (q : ProgramTable) (s : State) (w : Ways) (c : Call) → P s → P (step_at q s w (places.Call c))
  by_call q s w c p = settled s _ _ p (λ xs. i.frames s (new_frame q c.section xs) (s.frame ∷ s.below) p)

  -- an assignment to a variable
  plain_value : (t : Tables) (s : State) (x : Target) (z : ℤ) → touched_target x ≡ Nothing → P s →
      Got P (state_with_value t s x z)
  plain_value t s (targets.Variable v) z e p = assigned s v z p
  plain_value t s (targets.Attribute c a k) z e p = absurd (cc)

  pub by_plain_assign : (q : ProgramTable) (s : State) (w : Ways) (a : Assign) → touched_assign a ≡ Nothing → P s →
      P (step_at q s w (places.Assign a))
  by_plain_assign q s w a e p =
      got P s _ _ p
      (then_got (assigned_value (readings (tables_of q) s) a) _ (λ x.
      plain_value (tables_of q) s (target_of a) x e p))
      (λ r h. placed r w.next h)

  -- and a statement that prints, if the property ignores the length of the report
  pub by_output : (q : ProgramTable) (s : State) (w : Ways) (o : Output) → IgnoresLength P → P s →
      P (step_at q s w (places.Output o))
  by_output q s w (Print count values picture) r p =
      got (λ (bytes : List ℕ). P (record s { report = bytes })) s _ _ p
      (then_any (λ (bytes : List ℕ). P (record s { report = bytes })) (values_of (readings (tables_of q) s) values) _
      (λ xs. r s (picture_text picture xs) p))
      (λ bytes h. placed (record s { report = bytes }) w.next h)
  by_output q s w (Skip e) r p =
      got (λ (bytes : List ℕ). P (record s { report = bytes })) s _ _ p
      (then_any (λ (bytes : List ℕ). P (record s { report = bytes })) (lines_asked (readings (tables_of q) s) e) _
      (λ n. r s (replicate n LINE_FEED) p))
      (λ bytes h. placed (record s { report = bytes }) w.next h)

module _ {P : State → Type 0} (i : Ignores P) (att : IgnoresAttributes P) where
  pub value : (t : Tables) (s : State) (x : Target) (z : ℤ) → P s → Got P (state_with_value t s x z)
  value t s (targets.Variable v) z p = assigned i s v z p
  value t s (targets.Attribute c a e) z p =
      then_got i (subscript_value (readings t s) e) _ (λ x.
      after_got (λ (st : Store). P (state_with_store s st)) P (with_attribute s.store c a (number_of x) z) _
      (att s c a (number_of x) z p) (λ st h. h))

  values : (t : Tables) (vs : List ℤ) (s : State) (k : ℕ) (xs : List Target) → P s →
      Got P (state_with_values t vs s k xs)
  values t vs s k [] p = p
  values t vs s k (x ∷ xs) p =
      after_got P P (state_with_value t s x (slice_index_or vs k (pos 0))) _
      (value t s x (slice_index_or vs k (pos 0)) p) (λ r h. values t vs r (k + 1) xs h)

  telling : (t : Tables) (g : Statistics) (s : State) (xs : List Telling) → P s →
      Got P (state_after_telling t g s xs)
  telling t g s [] p = p
  telling t g s (x ∷ xs) p =
      after_got P P (state_with_value t s x.target (statistic_value g x.statistic)) _
      (value t s x.target (statistic_value g x.statistic) p) (λ r h. telling t g r xs h)

  behind_call : (t : Tables) (vs : List ℤ) (k next : ℕ) (s : State) (x : Place) → P s →
      Got P (state_behind_call t vs k next s x)
  behind_call t vs k next s (places.Assign a) p = p
  behind_call t vs k next s (places.Making m) p = p
  behind_call t vs k next s (places.Filing f) p = p
  behind_call t vs k next s (places.Output o) p = p
  behind_call t vs k next s (places.Control c) p = p
  behind_call t vs k next s (places.Branch b) p = p
  behind_call t vs k next s (places.Looping l) p = p
  behind_call t vs k next s (places.Call c) p =
      after_got P P (state_with_values t vs s k c.targets) _ (values t vs s k c.targets p)
      (λ r h. placed i r next h)
  behind_call t vs k next s (places.Timing x) p = p
  behind_call t vs k next s (places.Read ts) p = p

  behind_place : (q : ProgramTable) (vs : List ℤ) (k : ℕ) (s : State) (o : Option Spot) → P s →
      Got P (state_behind_place q vs k s o)
  behind_place q vs k s None p = p
  behind_place q vs k s (Some spot) p =
      behind_call (tables_of q) vs k (ways_here q s spot.place).next s spot.place p

  returned : (q : ProgramTable) (s : State) (fs : List FrameState) → P s → P (state_after_return q s fs)
  returned q s [] p = p
  returned q s (f ∷ fs) p =
      got i P s _ _ p
      (behind_place q s.frame.locals (section_of q s.frame.section).given (record s { frame = f; below = fs })
      (spot_at q f.section f.place) (i.frames s f fs p)) (λ r h. h)

  section_over : (q : ProgramTable) (s : State) (k : SectionKind) → P s → P (state_after_section q s k)
  section_over q s kinds.Main p = i.status s Finished p
  section_over q s kinds.Routine p = returned q s s.below p
  section_over q s kinds.Event p = event_over i s s.below p

  -- so does an assignment
  pub by_assign : (q : ProgramTable) (s : State) (w : Ways) (a : Assign) → P s → P (step_at q s w (places.Assign a))
  by_assign q s w a p =
      got i P s _ _ p
      (then_got i (assigned_value (readings (tables_of q) s) a) _ (λ x. value (tables_of q) s (target_of a) x p))
      (λ r h. placed i r w.next h)

  -- so does a statement that goes through cases
  pub by_looping : (q : ProgramTable) (s : State) (w : Ways) (l : Looping) → P s → P (step_at q s w (places.Looping l))
  by_looping q s w (For f) p = by_cases i q s w (For f) refl p
  by_looping q s w Loop p = by_cases i q s w Loop refl p
  by_looping q s w Find p = by_cases i q s w Find refl p
  by_looping q s w (Gather e) p = by_cases i q s w (Gather e) refl p
  by_looping q s w (Tell ts) p =
      got i P s _ _ p (telling (tables_of q) s.frame.statistics s ts p) (λ r h. placed i r w.next h)

  -- the end of a section
  pub by_control : (q : ProgramTable) (s : State) (w : Ways) (c : Control) → P s → P (step_at q s w (places.Control c))
  by_control q s w Stop p = i.status s Stopped p
  by_control q s w Return p = section_over q s (section_of q s.frame.section).kind p
  by_control q s w End p = section_over q s (section_of q s.frame.section).kind p

  -- and a statement that takes data
  pub by_read : (q : ProgramTable) (s : State) (w : Ways) (ts : List Target) → P s → P (step_at q s w (places.Read ts))
  by_read q s w ts p =
      let u = state_with_taken s (s.feed.taken + length ts) in
      got i P s _ _ p
      (then_got i
      (refuse_if (is_waiting s.entry) OutsideEntry >> values_taken (has_external q) s.feed.items s.feed.taken ts) _
      (λ xs. values (tables_of q) xs u 0 ts (i.feed s (with_taken s.feed (s.feed.taken + length ts)) p)))
      (λ r h. placed i r w.next h)
