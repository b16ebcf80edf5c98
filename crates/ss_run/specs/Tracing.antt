-- The relations on which the private functions of a traced run rest; no public contract cites them.
use Rattle.std.specs.Prelude.{ℕ, ◌+◌, ◌<◌, ◌≡◌, ◌⊎◌, true, Result, Err, List, [], ◌∷◌, ◌++◌, length, map, decimal}
use Rattle.std.specs.Prelude.{slice_get}
use Rattle.std.specs.Fmt.{signed_decimal}
use Rattle.std.specs.Io.KnownBytes.{Appends}
use Rattle.ss_program.specs.Program.{ProgramTable, places_of}
use Rattle.ss_state.specs.declared.limits.TheConstants.{LAST_POSITION}
use Rattle.ss_state.specs.declared.stepped.Stepped.TheVariants.{Moved}
use Rattle.ss_machine.specs.Moment.{Moment, position}
use Rattle.ss_state.specs.Run.{Input, run}
use Rattle.ss_debug.specs.Move.{is_ready_at, line_at}
use Rattle.ss_debug.specs.Answer.{section_name}
use Rattle.ss_session.specs.Texts.{OutletState}
use Rattle.ss_session.specs.Written.{WritesPart}
use Rattle.ss_run.specs.declared.measure.Measure.{Measure}
use Rattle.ss_run.specs.declared.last_seen.LastSeen.{LastSeen}
use Rattle.ss_run.specs.declared.watched.Watched.{Watched as Code}
use Rattle.ss_run.specs.declared.here.Here.{Here}
use Rattle.ss_run.specs.declared.whole_run.RunCut.{RunCut}
use Rattle.ss_run.specs.declared.whole_run.RunCut.TheVariants.{Write, Memory}
use Rattle.ss_run.specs.declared.whole_run.WholeRun.{WholeRun}
use Rattle.ss_run.specs.Advance.{MakesRun, HasAdvanced}
use Rattle.ss_run.specs.Kept.{kept_in, kept_at}
use Rattle.ss_run.specs.Results.{Wanted}
use Rattle.ss_run.specs.Rows.{csv_row}
use Rattle.ss_run.specs.Trace.{step_rows, rows_before, Reaches, cut_failures}
use Rattle.ss_run.specs.Trace.{WritesNothing, IsTraced, IsTracedInPart}
use Rattle.ss_run.specs.Watched.{Watched, watched_text, watched_all}
use Rattle.ss_run.specs.WatchedView.{watched_view, AreSound}

-- it describes state q
pub record IsHere (input : Input) (q : ℕ) (here : Here) : Type 0 where
  -- its number
  pub position : here.position ≡ q
  -- its clock
  pub clock : here.clock ≡ (run input q).clock
  -- the section that runs
  pub section : here.section ≡ (run input q).frame.section
  -- there is such a section
  pub within : here.section < length input.program.sections
  -- its place
  pub place : here.place ≡ (run input q).frame.place
  -- there is such a place
  pub there : here.place < length (places_of (slice_get input.program.sections here.section))
  -- the line of its place
  pub line : here.line ≡ line_at input q

-- the row of what has this value after a step from there
abbrev pub row_of : ProgramTable → Here → Watched → List ℕ → List ℕ
row_of program here x value =
    csv_row (decimal here.position ∷ signed_decimal here.clock
    ∷ section_name (slice_get program.sections here.section) ∷ decimal here.line ∷ watched_text x
    ∷ value ∷ [])

-- what is kept of all that is traced
pub record AreKept (input : Input) (xs : List Code) (p : ℕ) (fs : List LastSeen) : Type 0 where
  -- it is that of state p
  pub kept : map kept_in fs ≡ map (λ x. kept_at input (watched_view x) p) xs
  -- what is traced names only what exists
  pub sound : AreSound input.program xs

-- the rows of the steps from state p to state q are written
pub record HasTraced (input : Input) (xs : List Watched) (p q : ℕ) (old new : OutletState) : Type 0 where
  -- the rows
  pub rows : List ℕ
  -- they are those
  pub follow : rows_before input xs q ≡ rows_before input xs p ++ rows
  -- they are put after the earlier text
  pub put : Appends old.taken new.taken rows
  -- nothing failed
  pub failures : new.failures ≡ old.failures

-- a run was traced from its start to its present position
pub record TracesSoFar (a b : Moment) (xs : List Code) (fs : List LastSeen) (old new : OutletState) : Type 0 where
  -- it has made as many steps as its position says
  pub advanced : HasAdvanced Moved (position b) a b
  -- what is kept is that of now
  pub kept : AreKept a.input xs (position b) fs
  -- the rows are written
  pub traced : HasTraced a.input (map watched_view xs) 0 (position b) old new

-- the part of a cut text that is written: none if memory is refused, else some, by a failed call
abbrev pub CutsText : RunCut → List ℕ → OutletState → OutletState → Type 0
CutsText Memory text old new = Appends old.taken new.taken [] × (new.failures ≡ old.failures)
CutsText Write text old new = WritesPart text old.taken new.taken × (new.failures ≡ old.failures + 1)

-- the part of the rows of the step from state p that is written if the trace is cut: none if memory
-- is refused, else some, by a call that failed; then the step was made
abbrev pub CutsStep : RunCut → Input → List Watched → ℕ → OutletState → OutletState → Type 0
CutsStep Memory input xs p old new = Appends old.taken new.taken [] × (new.failures ≡ old.failures)
CutsStep Write input xs p old new =
    (is_ready_at input p ≡ true) × (p < LAST_POSITION) × CutsText Write (step_rows input xs p) old new

-- the part of the rows of a run that is written if the trace is cut
abbrev pub CutsRows : RunCut → Input → List Watched → OutletState → OutletState → Type 0
CutsRows cut input xs old new =
    (p : ℕ) × Reaches input p × WritesPart (rows_before input xs p) old.taken new.taken
    × (new.failures ≡ old.failures + cut_failures cut)

-- a run over some data is made and traced: the whole trace is written, and the report as without
-- it, or the trace was cut, and nothing of the report is written
unfoldable pub MakesTrace : Result WholeRun RunCut → List ℕ → Input → List Measure → Wanted → OutletState →
    OutletState → OutletState → OutletState → Type 0
MakesTrace result data_text input ms asked old new trace traced =
    (MakesRun result data_text input asked old new
    × IsTraced input (watched_all asked.symbols input.program ms) trace traced)
    ⊎ ((cut : RunCut) × (result ≡ Err cut) × WritesNothing old new
    × IsTracedInPart cut input (watched_all asked.symbols input.program ms) trace traced)
