-- The rows of a trace, and how they are written.
use Rattle.std.proofs.Common.{◌≡◌, ℕ, ◌+◌, ◌<◌, inl, inr, true, List, [], ◌++◌, refl, sym, ap, ◌∙◌}
use Rattle.std.specs.Prelude.{OnOk, IfErr}
use Rattle.std.proofs.Common.{Result, Ok, Err, Bool, false, cond, nat_lt, arith, append-nil}
use Rattle.std.proofs.Common.{append_assoc, add-one, map}
use borrow.Author.Tests.{ltb-true, ltb-false}
use Rattle.std.specs.Io.KnownBytes.{Appends}
use Rattle.ss_program.specs.Program.{ProgramTable}
use Rattle.ss_check.specs.Symbols.{Symbols}
use Rattle.ss_state.specs.declared.limits.TheConstants.{LAST_POSITION}
use Rattle.ss_state.specs.declared.stepped.Stepped.TheVariants.{Moved}
use Rattle.ss_machine.specs.Moment.{Moment, position}
use Rattle.ss_state.specs.Run.{Input, input_with}
use Rattle.ss_debug.specs.Move.{is_ready_at}
use Rattle.ss_session.specs.declared.load.LoadFault.{LoadFault}
use Rattle.ss_session.specs.declared.load.LoadFault.TheVariants as load
use Rattle.ss_check.specs.declared.wrong.Wrong.{Wrong}
use Rattle.ss_session.specs.Load.{IsLoadFault}
use Rattle.ss_session.specs.Model.{IsOfModel}
use Rattle.ss_session.specs.Texts.{OutletState}
use Rattle.ss_session.proofs.Pieces.{appends_then, appends_none, appends_no_more}
use Rattle.ss_run.specs.declared.measure.Measure.{Measure}
use Rattle.ss_run.specs.declared.last_seen.LastSeen.{LastSeen}
use Rattle.ss_run.specs.declared.watched.Watched.{Watched as Code}
use Rattle.ss_run.specs.declared.here.Here.{Here}
use Rattle.ss_run.specs.declared.whole_run.RunEnd.{RunEnd}
use Rattle.ss_run.specs.declared.whole_run.RunEnd.TheVariants.{Done, Faulted, Refused}
use Rattle.ss_run.specs.declared.whole_run.RunCut.{RunCut}
use Rattle.ss_run.specs.declared.whole_run.RunCut.TheVariants.{Write, Memory}
use Rattle.ss_run.specs.declared.whole_run.WholeRun.{WholeRun}
use Rattle.ss_run.specs.Report.{IsRunEnd, SaysEnd}
use Rattle.ss_run.specs.Advance.{HasAdvanced, MakesRun, RefusesText, RefusesBy, IsRefusal}
use Rattle.ss_run.specs.Results.{Asked, wanted}
use Rattle.ss_run.specs.Rows.{csv_row}
use Rattle.ss_run.specs.Trace.{column_names, step_fields, change_row, step_rows, rows_before, trace_text}
use Rattle.ss_run.specs.Trace.{Reaches}
use Rattle.ss_run.specs.Trace.{WritesNothing, IsTraced, IsTracedInPart, EndsTraced, TraceSays}
use Rattle.ss_run.specs.Tracing.{IsHere, AreKept, row_of, HasTraced, TracesSoFar}
use Rattle.ss_run.specs.Tracing.{CutsText, CutsStep, CutsRows, MakesTrace}
use Rattle.ss_run.specs.Watched.{Watched, watched_changes, watched_value, watched_all}
use Rattle.ss_run.specs.WatchedView.{watched_view}
use Rattle.ss_run.proofs.Advances.{further, advanced_here}
use Rattle.ss_run.proofs.Parts.{part_none, part_whole, part_behind}
use Rattle.ss_run.proofs.Reports.{run_says, refused_says}

-- the row by the values that are known of a place
pub row_is : (t : Input) (q : ℕ) (here : Here) (x : Watched) (value : List ℕ) → IsHere t q here →
    value ≡ watched_value t x (q + 1) → row_of t.program here x value ≡ csv_row (step_fields t x q)
row_is t q here x value h e = cc (h.position, h.clock, h.section, h.line, e)

-- no row of a question that did not change
pub row_of_same : (t : Input) (q : ℕ) (x : Watched) → watched_changes t x q ≡ false → change_row t q x ≡ []
unfolding change_row
row_of_same t q x e = ap (λ (v : Bool). cond v (csv_row (step_fields t x q)) []) e

-- the row of one that changed
pub row_of_other : (t : Input) (q : ℕ) (x : Watched) → watched_changes t x q ≡ true →
    change_row t q x ≡ csv_row (step_fields t x q)
unfolding change_row
row_of_other t q x e = ap (λ (v : Bool). cond v (csv_row (step_fields t x q)) []) e

-- some steps after others
pub traced_on : (t : Input) (xs : List Watched) (p q r : ℕ) (a b c : OutletState) → HasTraced t xs p q a b →
    HasTraced t xs q r b c → HasTraced t xs p r a c
traced_on t xs p q r a b c h k = record {
  rows = h.rows ++ k.rows;
  follow = k.follow ∙ ap (λ s. s ++ k.rows) h.follow ∙ append_assoc _ h.rows k.rows;
  put = appends_then a.taken b.taken c.taken _ _ h.put k.put;
  failures = k.failures ∙ h.failures;
}

-- one more step
pub rows_more : (t : Input) (xs : List Watched) (p q : ℕ) → q ≡ p + 1 →
    rows_before t xs q ≡ rows_before t xs p ++ step_rows t xs p
unfolding rows_before
rows_more t xs p q e = rw (e, add-one) refl

-- one step
pub traced_step : (t : Input) (xs : List Watched) (p q : ℕ) (a b : OutletState) → q ≡ p + 1 →
    Appends a.taken b.taken (step_rows t xs p) → b.failures ≡ a.failures → HasTraced t xs p q a b
traced_step t xs p q a b e h f = record { rows = step_rows t xs p; follow = rows_more t xs p q e; put = h; failures = f }

rows_none : (t : Input) (xs : List Watched) → rows_before t xs 0 ≡ []
unfolding rows_before
rows_none t xs = refl

-- the rows of all steps so far
all_rows : (t : Input) (xs : List Watched) (p : ℕ) (a b : OutletState) → HasTraced t xs 0 p a b →
    Appends a.taken b.taken (rows_before t xs p)
all_rows t xs p a b h = rw (h.follow, rows_none) h.put

ready_to : (x : Bool) (t : Input) (p k : ℕ) → nat_lt k p ≡ x → Reaches t p → is_ready_at t p ≡ true → k < p + 1 →
    is_ready_at t k ≡ true
ready_to true t p k e r h l = r.ready k (ltb-true _ _ e)
ready_to false t p k e r h l = let same : k ≡ p = omega (arith, ltb-false _ _ e) in rw same h

-- one more state is reached
pub further_reached : (t : Input) (p : ℕ) → Reaches t p → is_ready_at t p ≡ true → p < LAST_POSITION → Reaches t (p + 1)
further_reached t p r h l = record { within = omega (arith, l); ready = λ k g. ready_to _ t p k refl r h g }

-- a cut after some steps
pub cut_on : (cut : RunCut) (t : Input) (xs : List Watched) (p : ℕ) (a b c : OutletState) → Reaches t p →
    HasTraced t xs 0 p a b → CutsStep cut t xs p b c → CutsRows cut t xs a c
cut_on Memory t xs p a b c r h k = (
  p,
  r,
  part_whole _ _ _ (appends_no_more a.taken b.taken c.taken _ (all_rows t xs p a b h) k.0),
  omega (arith, k.1, h.failures),
)
cut_on Write t xs p a b c r h k =
    let part = part_behind _ _ a.taken b.taken c.taken (all_rows t xs p a b h) k.2.0 in
    (p + 1, further_reached t p r k.0 k.1, rw (← rows_more t xs p (p + 1) refl) at part, omega (arith, k.2.1, h.failures))

-- the start is reached
pub start_reached : (t : Input) → Reaches t 0
start_reached t = record { within = omega arith; ready = λ k h. absurd (omega arith) }

-- a cut before the first step
pub cut_at_start : (t : Input) (xs : List Watched) (a : OutletState) → CutsRows Memory t xs a a
cut_at_start t xs a = (0, start_reached t, part_none _ a.taken, omega arith)

-- ---- one step

pub kept_still : (t u : Input) (xs : List Code) (p q : ℕ) (fs : List LastSeen) → u ≡ t → q ≡ p →
    AreKept t xs p fs → AreKept u xs q fs
kept_still t u xs p q fs e f h = rw (e, f) h

-- the rows of a step that was made
pub step_traced : (t u : Input) (xs : List Watched) (p q r : ℕ) (a b : OutletState) → u ≡ t → q ≡ p → r ≡ p + 1 →
    Appends a.taken b.taken (step_rows u xs q) → b.failures ≡ a.failures → HasTraced t xs p r a b
step_traced t u xs p q r a b e f g h k =
    let put : Appends a.taken b.taken (step_rows t xs p) = rw (← e, ← f) h in
    traced_step t xs p r a b g put k

-- ---- all steps

pub tracing_same : (a b c : Moment) (xs : List Code) (fs : List LastSeen) (o n : OutletState) →
    TracesSoFar a b xs fs o n → c.input ≡ b.input → position c ≡ position b → TracesSoFar a c xs fs o n
tracing_same a b c xs fs o n h i e = record {
  advanced = advanced_here a b c h.advanced i e;
  kept = rw e h.kept;
  traced = rw e h.traced;
}

pub tracing_on : (a b c : Moment) (xs : List Code) (fs gs : List LastSeen) (o n m : OutletState) →
    position a ≡ 0 → TracesSoFar a b xs fs o n → HasAdvanced Moved 1 b c → AreKept b.input xs (position c) gs →
    HasTraced b.input (map watched_view xs) (position b) (position c) n m → TracesSoFar a c xs gs o m
tracing_on a b c xs fs gs o n m e h k v r = record {
  advanced = further 1 a b c e h.advanced k;
  kept = kept_still b.input a.input xs (position c) (position c) gs (sym h.advanced.input) refl v;
  traced = traced_on a.input (map watched_view xs) 0 (position b) (position c) o n m h.traced (rw h.advanced.input at r);
}

pub tracing_ended : (a b c : Moment) (xs : List Code) (fs : List LastSeen) (o n m : OutletState) →
    TracesSoFar a b xs fs o n → HasTraced b.input (map watched_view xs) (position b) (position c) n m →
    HasTraced a.input (map watched_view xs) 0 (position c) o m
tracing_ended a b c xs fs o n m h r =
    traced_on a.input (map watched_view xs) 0 (position b) (position c) o n m h.traced (rw h.advanced.input at r)

reaches_here : (a b : Moment) → position a ≡ 0 → HasAdvanced Moved (position b) a b → Reaches a.input (position b)
reaches_here a b e h = record { within = h.within; ready = λ k g. h.ready k (omega (arith, e)) g }

pub tracing_cut : (cut : RunCut) (a b : Moment) (xs : List Code) (fs : List LastSeen) (o n m : OutletState) →
    position a ≡ 0 → TracesSoFar a b xs fs o n → CutsStep cut b.input (map watched_view xs) (position b) n m →
    CutsRows cut a.input (map watched_view xs) o m
tracing_cut cut a b xs fs o n m e h k =
    cut_on cut a.input (map watched_view xs) (position b) o n m (reaches_here a b e h.advanced) h.traced (rw h.advanced.input at k)

-- nothing more is written
pub tracing_stopped : (a b : Moment) (xs : List Code) (fs : List LastSeen) (o n : OutletState) →
    position a ≡ 0 → TracesSoFar a b xs fs o n → CutsRows Memory a.input (map watched_view xs) o n
tracing_stopped a b xs fs o n e h =
    cut_on Memory a.input (map watched_view xs) (position b) o n n (reaches_here a b e h.advanced) h.traced (appends_none n.taken, refl)

-- the names of the columns, and the rows after them
pub traced_whole : (t : Input) (xs : List Watched) (p : ℕ) (a b c : OutletState) → IsRunEnd t p →
    Appends a.taken b.taken (csv_row column_names) → b.failures ≡ a.failures → HasTraced t xs 0 p b c →
    IsTraced t xs a c
traced_whole t xs p a b c e h f k =
    (p, e, appends_then a.taken b.taken c.taken _ _ h (all_rows t xs p b c k), k.failures ∙ f)

pub traced_in_part : (cut : RunCut) (t : Input) (xs : List Watched) (a b c : OutletState) →
    Appends a.taken b.taken (csv_row column_names) → b.failures ≡ a.failures → CutsRows cut t xs b c →
    IsTracedInPart cut t xs a c
traced_in_part cut t xs a b c h f k =
    (k.0, k.1, part_behind _ _ a.taken b.taken c.taken h k.2, omega (arith, k.3, f))

-- nothing of it
pub nothing_traced : (t : Input) (xs : List Watched) (a b : OutletState) → WritesNothing a b →
    IsTracedInPart Memory t xs a b
nothing_traced t xs a b h =
    (0, start_reached t, record { count = 0; within = omega arith; said = h.0 }, omega (arith, h.1))

-- the names of the columns in part
pub head_in_part : (cut : RunCut) (t : Input) (xs : List Watched) (a b : OutletState) →
    CutsText cut (csv_row column_names) a b → IsTracedInPart cut t xs a b
head_in_part Memory t xs a b h = nothing_traced t xs a b h
head_in_part Write t xs a b h =
    let whole : trace_text t xs 0 ≡ csv_row column_names =
    ap (λ rows. csv_row column_names ++ rows) (rows_none t xs) ∙ append-nil _ in
    (0, start_reached t, rw whole h.0, h.1)

-- if the rows were written to the end, the trace is whole
pub traced_if_ok : {A : Type 0} → (r : Result A RunCut) (t : Input) (xs : List Watched) (p : ℕ) (a b c : OutletState) →
    Appends a.taken b.taken (csv_row column_names) → b.failures ≡ a.failures → OnOk r (IsRunEnd t p) →
    OnOk r (HasTraced t xs 0 p b c) → OnOk r (IsTraced t xs a c)
traced_if_ok (Ok u) t xs p a b c h f e k = traced_whole t xs p a b c e h f k
traced_if_ok (Err cut) t xs p a b c h f e k = tt

-- if they were cut, so is the trace
pub cut_if_err : {A : Type 0} → (r : Result A RunCut) (t : Input) (xs : List Watched) (a b c : OutletState) →
    Appends a.taken b.taken (csv_row column_names) → b.failures ≡ a.failures →
    IfErr r (λ cut. CutsRows cut t xs b c) → IfErr r (λ cut. IsTracedInPart cut t xs a c)
cut_if_err (Ok u) t xs a b c h f k = tt
cut_if_err (Err cut) t xs a b c h f k = traced_in_part cut t xs a b c h f k

-- ---- the whole

ends_traced : (end : RunEnd) (program : ProgramTable) (symbols : Symbols) (model data_text : List ℕ) (ms : List Measure)
    (p : ℕ) (trace traced : OutletState) → IsOfModel model program symbols →
    SaysEnd (input_with program data_text) p end →
    IsTraced (input_with program data_text) (watched_all symbols program ms) trace traced →
    EndsTraced end model data_text ms trace traced
ends_traced Done program symbols model data_text ms p trace traced o s h = (program, symbols, o, h)
ends_traced (Faulted line) program symbols model data_text ms p trace traced o s h = (program, symbols, o, h)
ends_traced (Refused line) program symbols model data_text ms p trace traced o s h = absurd s

ok_is_no_cut : (whole : WholeRun) (cut : RunCut) → let r : Result WholeRun RunCut = Ok whole in r ≡ Err cut → ⊥
ok_is_no_cut whole cut e = cc

same_cut : (a b : RunCut) → let r : Result WholeRun RunCut = Err a in r ≡ Err b → a ≡ b
same_cut a b e = cc

-- the results for a run that was made and traced
pub trace_says : (result : Result WholeRun RunCut) (program : ProgramTable) (symbols : Symbols)
    (model data_text : List ℕ) (ms : List Measure) (asked : Asked) (old new trace traced : OutletState) →
    IsOfModel model program symbols →
    MakesTrace result data_text (input_with program data_text) ms (wanted asked symbols) old new trace traced →
    TraceSays result model data_text ms asked old new trace traced
unfolding MakesTrace TraceSays MakesRun
trace_says (Ok whole) program symbols model data_text ms asked old new trace traced o (inl h) = (
  run_says (Ok whole) program symbols model data_text asked old new o h.0,
  ends_traced whole.end program symbols model data_text ms h.0.0 trace traced o h.0.2 h.1,
)
trace_says (Ok whole) program symbols model data_text ms asked old new trace traced o (inr h) =
    absurd (ok_is_no_cut whole h.0 h.1)
trace_says (Err cut) program symbols model data_text ms asked old new trace traced o (inl h) = inl (
  run_says (Err cut) program symbols model data_text asked old new o h.0,
  inr (program, symbols, o, h.1),
)
trace_says (Err cut) program symbols model data_text ms asked old new trace traced o (inr h) =
    let part = rw (← same_cut cut h.0 h.1) at h.3 in
    inr (h.2, (program, symbols, o, part))

ends_refused : (end : RunEnd) (whole : WholeRun) (model data_text code : List ℕ) (number : ℕ) (ms : List Measure)
    (trace : OutletState) (wrong : Wrong) → RefusesBy end whole model code number wrong →
    EndsTraced end model data_text ms trace trace
ends_refused (Refused line) whole model data_text code number ms trace wrong r = (appends_none trace.taken, refl)
ends_refused Done whole model data_text code number ms trace wrong r = absurd r
ends_refused (Faulted line) whole model data_text code number ms trace wrong r = absurd r

ends_unread : (end : RunEnd) (whole : WholeRun) (model data_text code : List ℕ) (number : ℕ) (ms : List Measure)
    (trace : OutletState) → RefusesText end whole model code number → EndsTraced end model data_text ms trace trace
ends_unread (Refused line) whole model data_text code number ms trace r = (appends_none trace.taken, refl)
ends_unread Done whole model data_text code number ms trace r = absurd r
ends_unread (Faulted line) whole model data_text code number ms trace r = absurd r

no_trace : (whole : WholeRun) (fault : LoadFault) (model data_text : List ℕ) (ms : List Measure)
    (trace : OutletState) → IsRefusal (Ok whole) model fault → EndsTraced whole.end model data_text ms trace trace
no_trace whole (load.Text rule number) model data_text ms trace r =
    ends_unread whole.end whole model data_text _ number ms trace r
no_trace whole (load.Check rule number wrong) model data_text ms trace r =
    ends_refused whole.end whole model data_text _ number ms trace wrong r
no_trace whole load.Memory model data_text ms trace r = absurd r

-- the results for a model that was not loaded
pub refused_trace_says : (result : Result WholeRun RunCut) (fault : LoadFault) (model data_text : List ℕ)
    (ms : List Measure) (asked : Asked) (old trace : OutletState) → IsRefusal result model fault →
    IsLoadFault fault model → TraceSays result model data_text ms asked old old trace trace
unfolding TraceSays
refused_trace_says (Ok whole) fault model data_text ms asked old trace r o =
    (refused_says (Ok whole) fault model data_text asked old r o, no_trace whole fault model data_text ms trace r)
refused_trace_says (Err Memory) fault model data_text ms asked old trace r o =
    inl (refused_says (Err Memory) fault model data_text asked old r o, inl (appends_none trace.taken, refl))
refused_trace_says (Err Write) fault model data_text ms asked old trace r o = absurd r
