-- The trace of what is watched: a row for each step at which something of it changes, the oldest first.
use Rattle.std.specs.Prelude.{ℕ, zero, suc, ◌+◌, ◌<◌, ◌≤◌, ◌≡◌, ◌⊎◌, true, List, [], ◌∷◌, ◌++◌, map, decimal, Result}
use Rattle.std.specs.Prelude.{Ok, Err}
use Rattle.std.specs.Prelude.{if◌then◌else◌}
use Rattle.std.specs.List.{flat_map}
use Rattle.std.specs.Fmt.{signed_decimal}
use Rattle.std.specs.Io.KnownBytes.{Appends}
use Rattle.ss_program.specs.Program.{ProgramTable}
use Rattle.ss_check.specs.Symbols.{Symbols}
use Rattle.ss_state.specs.declared.limits.TheConstants.{LAST_POSITION}
use Rattle.ss_state.specs.Run.{Input, run, input_with}
use Rattle.ss_debug.specs.Move.{is_ready_at, line_at}
use Rattle.ss_debug.specs.Answer.{section_at}
use Rattle.ss_session.specs.Model.{IsOfModel}
use Rattle.ss_session.specs.Texts.{OutletState}
use Rattle.ss_session.specs.Written.{WritesPart}
use Rattle.ss_run.specs.declared.rows.TheConstants.{COLUMN_NAMES}
use Rattle.ss_run.specs.declared.whole_run.RunEnd.{RunEnd}
use Rattle.ss_run.specs.declared.whole_run.RunEnd.TheVariants.{Done, Faulted, Refused}
use Rattle.ss_run.specs.declared.whole_run.RunCut.{RunCut}
use Rattle.ss_run.specs.declared.whole_run.RunCut.TheVariants.{Write, Memory}
use Rattle.ss_run.specs.declared.whole_run.WholeRun.{WholeRun}
use Rattle.ss_run.specs.declared.measure.Measure.{Measure}
use Rattle.ss_run.specs.Report.{IsRunEnd}
use Rattle.ss_run.specs.Results.{Asked}
use Rattle.ss_run.specs.Rows.{csv_row}
use Rattle.ss_run.specs.Watched.{Watched, watched_text, watched_changes, watched_value, watched_all}
use Rattle.ss_run.specs.WholeRun.{RunSays}

-- the names of the columns
abbrev pub column_names : List (List ℕ)
column_names = map (λ name. name.now) COLUMN_NAMES

-- the row of what changes at the step from state q: the state, its clock, section and line, the
-- question or text as it is asked, and its value after the step
abbrev pub step_fields : Input → Watched → ℕ → List (List ℕ)
step_fields input x q =
    decimal q ∷ signed_decimal (run input q).clock ∷ section_at input q ∷ decimal (line_at input q)
    ∷ watched_text x ∷ watched_value input x (q + 1) ∷ []

-- that row if it changes, else nothing
unfoldable pub change_row : Input → ℕ → Watched → List ℕ
change_row input q x = if watched_changes input x q then csv_row (step_fields input x q) else []

-- the rows of the step from state q, in the order in which they are named
abbrev pub step_rows : Input → List Watched → ℕ → List ℕ
step_rows input xs q = flat_map (change_row input q) xs

-- the rows of all steps before state p
unfoldable pub rows_before : Input → List Watched → ℕ → List ℕ
rows_before input xs zero = []
rows_before input xs (suc q) = rows_before input xs q ++ step_rows input xs q

-- the trace of a run up to state p
abbrev pub trace_text : Input → List Watched → ℕ → List ℕ
trace_text input xs p = csv_row column_names ++ rows_before input xs p

-- a run gets as far as state p
pub record Reaches (input : Input) (p : ℕ) : Type 0 where
  -- it is no further than the last one
  pub within : p ≤ LAST_POSITION
  -- all states before are ready
  pub ready : (k : ℕ) → k < p → is_ready_at input k ≡ true

-- nothing is written, and nothing failed
abbrev pub WritesNothing : OutletState → OutletState → Type 0
WritesNothing old new = Appends old.taken new.taken [] × (new.failures ≡ old.failures)

-- the number of failures of the trace that a cut counts
abbrev pub cut_failures : RunCut → ℕ
cut_failures Memory = 0
cut_failures Write = 1

-- the whole trace of a run is written
abbrev pub IsTraced : Input → List Watched → OutletState → OutletState → Type 0
IsTraced input xs trace traced =
    (p : ℕ) × IsRunEnd input p × Appends trace.taken traced.taken (trace_text input xs p)
    × (traced.failures ≡ trace.failures)

-- if the trace was cut, a part of it is written, up to a state that the run reaches
abbrev pub IsTracedInPart : RunCut → Input → List Watched → OutletState → OutletState → Type 0
IsTracedInPart cut input xs trace traced =
    (p : ℕ) × Reaches input p × WritesPart (trace_text input xs p) trace.taken traced.taken
    × (traced.failures ≡ trace.failures + cut_failures cut)

-- the model is a program, and the trace of its run over the data is written: whole, or in part;
-- texts have their meanings by its symbol table
abbrev pub TracesModel : (Input → List Watched → Type 0) → List ℕ → List ℕ → List Measure → Type 0
TracesModel Traced model data_text ms =
    (program : ProgramTable) × (symbols : Symbols) × IsOfModel model program symbols
    × Traced (input_with program data_text) (watched_all symbols program ms)

-- the trace that is written for a run that ends so: nothing for a refused model
abbrev pub EndsTraced : RunEnd → List ℕ → List ℕ → List Measure → OutletState → OutletState → Type 0
EndsTraced (Refused line) model data_text ms trace traced = WritesNothing trace traced
EndsTraced Done model data_text ms trace traced =
    TracesModel (λ t xs. IsTraced t xs trace traced) model data_text ms
EndsTraced (Faulted line) model data_text ms trace traced =
    TracesModel (λ t xs. IsTraced t xs trace traced) model data_text ms

-- nothing of a trace is written if memory was refused before the run
abbrev pub IsNotBegun : RunCut → OutletState → OutletState → Type 0
IsNotBegun Memory trace traced = WritesNothing trace traced
IsNotBegun Write trace traced = ⊥

-- a whole run and its trace: the report and the results as without a trace, and the whole trace;
-- or, if the trace was cut, a part of it and nothing of the report
unfoldable pub TraceSays : Result WholeRun RunCut → List ℕ → List ℕ → List Measure → Asked → OutletState →
    OutletState → OutletState → OutletState → Type 0
TraceSays (Ok whole) model data_text ms asked old new trace traced =
    RunSays (Ok whole) model data_text asked old new × EndsTraced whole.end model data_text ms trace traced
TraceSays (Err cut) model data_text ms asked old new trace traced =
    (RunSays (Err cut) model data_text asked old new
    × (IsNotBegun cut trace traced ⊎ TracesModel (λ t xs. IsTraced t xs trace traced) model data_text ms))
    ⊎ (WritesNothing old new
    × TracesModel (λ t xs. IsTracedInPart cut t xs trace traced) model data_text ms)
