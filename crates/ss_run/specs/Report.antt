-- The output of a whole run: only its report.
use Rattle.std.specs.Prelude.{ℕ, ◌+◌, ◌<◌, ◌≤◌, ◌≡◌, ◌⊎◌, true, false, List, [], Result, Ok, Err}
use Rattle.std.specs.Io.KnownBytes.{Appends}
use Rattle.ss_words.specs.declared.fault.TextRule.{TextRule}
use Rattle.ss_words.specs.Faults.{text_rule_code}
use Rattle.ss_check.specs.declared.fault.CheckRule.{CheckRule}
use Rattle.ss_check.specs.CheckRules.{check_rule_code}
use Rattle.ss_program.specs.Program.{ProgramTable}
use Rattle.ss_state.specs.declared.limits.TheConstants.{LAST_POSITION}
use Rattle.ss_state.specs.State.{is_faulted}
use Rattle.ss_state.specs.Run.{Input, run, input_with}
use Rattle.ss_debug.specs.Move.{is_ready_at}
use Rattle.ss_debug.specs.Answer.{state_line}
use Rattle.ss_run.specs.declared.whole_run.RunEnd.{RunEnd}
use Rattle.ss_run.specs.declared.whole_run.RunEnd.TheVariants.{Done, Faulted, Refused}
use Rattle.ss_run.specs.declared.whole_run.RunCut.{RunCut}
use Rattle.ss_run.specs.declared.whole_run.RunCut.TheVariants.{Write, Memory}
use Rattle.ss_session.specs.Model.{refused_text, refused_check, accepted, IsOutcome}
use Rattle.ss_session.specs.Texts.{OutletState}
use Rattle.ss_session.specs.Transcript.{refusal_line}
use Rattle.ss_session.specs.Written.{WritesPart}

-- a run ends at position p: that of the first state that isn't ready, or the last one
pub record IsRunEnd (input : Input) (p : ℕ) : Type 0 where
  -- it is no further than the last one
  pub within : p ≤ LAST_POSITION
  -- all states before are ready
  pub ready : (k : ℕ) → k < p → is_ready_at input k ≡ true
  -- it is not ready, or the last one
  pub ended : (is_ready_at input p ≡ false) ⊎ (p ≡ LAST_POSITION)

-- how the run of a program ended at position p: whether that state is faulted, and then its state line
abbrev pub SaysEnd : Input → ℕ → RunEnd → Type 0
SaysEnd input p Done = is_faulted (run input p).status ≡ false
SaysEnd input p (Faulted line) = (is_faulted (run input p).status ≡ true) × (line.items ≡ state_line input p)
SaysEnd input p (Refused line) = ⊥

-- the line of a refused model
abbrev pub IsRefusalLine : List ℕ → List ℕ → Type 0
IsRefusalLine model line =
    ((rule : TextRule) × (number : ℕ) × IsOutcome model (refused_text rule number)
    × (line ≡ refusal_line (text_rule_code rule) number))
    ⊎ ((rule : CheckRule) × (number : ℕ) × IsOutcome model (refused_check rule number)
    × (line ≡ refusal_line (check_rule_code rule) number))

-- the run of a program is made, by how it ends: the whole report of its last state is written,
-- nothing if memory is refused, a prefix if a write fails
unfoldable pub RunEnds : Result RunEnd RunCut → Input → OutletState → OutletState → Type 0
RunEnds (Ok end) input old new =
    (p : ℕ) × IsRunEnd input p × SaysEnd input p end × Appends old.taken new.taken (run input p).report
    × (new.failures ≡ old.failures)
RunEnds (Err Memory) input old new = Appends old.taken new.taken [] × (new.failures ≡ old.failures)
RunEnds (Err Write) input old new =
    (p : ℕ) × IsRunEnd input p × WritesPart (run input p).report old.taken new.taken × (new.failures ≡ old.failures + 1)

-- the model is a program, whose run over the data is made
abbrev pub IsRun : Result RunEnd RunCut → List ℕ → List ℕ → OutletState → OutletState → Type 0
IsRun result model data_text old new =
    (program : ProgramTable) × IsOutcome model (accepted program)
    × RunEnds result (input_with program data_text) old new

-- the run of a model, or the line of a refused model: then nothing is written
unfoldable pub ReportSays : Result RunEnd RunCut → List ℕ → List ℕ → OutletState → OutletState → Type 0
ReportSays (Ok (Refused line)) model data_text old new =
    IsRefusalLine model line.items × Appends old.taken new.taken [] × (new.failures ≡ old.failures)
ReportSays (Ok Done) model data_text old new = IsRun (Ok Done) model data_text old new
ReportSays (Ok (Faulted line)) model data_text old new = IsRun (Ok (Faulted line)) model data_text old new
ReportSays (Err Memory) model data_text old new =
    Appends old.taken new.taken [] × (new.failures ≡ old.failures)
ReportSays (Err Write) model data_text old new = IsRun (Err Write) model data_text old new

-- 0 a run that did not fault, 4 one that did, 3 a refused model
abbrev pub status_of_end : RunEnd → ℕ
status_of_end Done = 0
status_of_end (Faulted line) = 4
status_of_end (Refused line) = 3

-- those statuses, and 2 for a failed write, 5 for no memory
abbrev pub status_of_run : Result RunEnd RunCut → ℕ
status_of_run (Ok end) = status_of_end end
status_of_run (Err Write) = 2
status_of_run (Err Memory) = 5
