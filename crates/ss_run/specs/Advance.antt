-- How each private function of a whole run ends. No public contract cites this module.
use Rattle.std.specs.Prelude.{ℕ, ◌+◌, ◌<◌, ◌≤◌, ◌≡◌, ◌⊎◌, true, false, List, [], Result, Ok, Err}
use Rattle.std.specs.Io.KnownBytes.{Appends}
use Rattle.ss_words.specs.Faults.{text_rule_code}
use Rattle.ss_check.specs.CheckRules.{check_rule_code}
use Rattle.ss_state.specs.declared.limits.TheConstants.{LAST_POSITION}
use Rattle.ss_state.specs.declared.stepped.Stepped.{Stepped}
use Rattle.ss_state.specs.declared.stepped.Stepped.TheVariants.{Moved, AtEnd}
use Rattle.ss_machine.specs.Moment.{Moment, position}
use Rattle.ss_state.specs.Run.{Input, run}
use Rattle.ss_debug.specs.Move.{is_ready_at}
use Rattle.ss_session.specs.declared.load.LoadFault.{LoadFault}
use Rattle.ss_session.specs.declared.load.LoadFault.TheVariants as load
use Rattle.ss_session.specs.Texts.{OutletState}
use Rattle.ss_session.specs.Transcript.{refusal_line}
use Rattle.ss_run.specs.declared.whole_run.RunEnd.{RunEnd}
use Rattle.ss_run.specs.declared.whole_run.RunEnd.TheVariants.{Done, Faulted, Refused}
use Rattle.ss_run.specs.declared.whole_run.RunCut.{RunCut}
use Rattle.ss_run.specs.declared.whole_run.RunCut.TheVariants.{Write, Memory}
use Rattle.ss_run.specs.declared.whole_run.WholeRun.{WholeRun}
use Rattle.ss_sentences.specs.Refusals.{IsSaid}
use Rattle.ss_check.specs.declared.wrong.Wrong.{Wrong}
use Rattle.ss_run.specs.Explained.{refusal_explanation}
use Rattle.ss_run.specs.Report.{IsRunEnd, SaysEnd, RunEnds}
use Rattle.ss_run.specs.Results.{Wanted}
use Rattle.ss_run.specs.WholeRun.{TellsEnd}

-- the position after `steps` steps were to be made: all are made, or fewer if the run has ended
abbrev pub EndsBy : Stepped → ℕ → Moment → Moment → Type 0
EndsBy Moved steps old new = position new ≡ position old + steps
EndsBy AtEnd steps old new = (is_ready_at old.input (position new) ≡ false) ⊎ (position new ≡ LAST_POSITION)

-- some steps are made, or fewer if the run has ended
pub record HasAdvanced (stepped : Stepped) (steps : ℕ) (old new : Moment) : Type 0 where
  -- the run is the same one
  pub input : new.input ≡ old.input
  -- it has not gone back
  pub on : position old ≤ position new
  -- nor past the last position
  pub within : position new ≤ LAST_POSITION
  -- all states that it left were ready
  pub ready : (k : ℕ) → position old ≤ k → k < position new → is_ready_at old.input k ≡ true
  -- the reason why it stopped
  pub reason : EndsBy stepped steps old new

-- a run over some data is made, and its report written, or the run is cut short
unfoldable pub MakesRun : Result WholeRun RunCut → List ℕ → Input → Wanted → OutletState → OutletState → Type 0
MakesRun (Ok whole) data_text input asked old new =
    (p : ℕ) × IsRunEnd input p × SaysEnd input p whole.end × TellsEnd whole data_text input asked p
    × Appends old.taken new.taken (run input p).report × (new.failures ≡ old.failures)
MakesRun (Err cut) data_text input asked old new = RunEnds (Err cut) input old new

-- the result for a model whose text the rule with this code refuses
abbrev pub RefusesText : RunEnd → WholeRun → List ℕ → List ℕ → ℕ → Type 0
RefusesText (Refused line) whole model code number =
    (line.items ≡ refusal_line code number) × IsSaid model whole.explanation.items × (whole.unfit ≡ 0)
    × (whole.results.items ≡ [])
RefusesText Done whole model code number = ⊥
RefusesText (Faulted line) whole model code number = ⊥

-- the result for a model that the rule of the checker with this code refuses
abbrev pub RefusesBy : RunEnd → WholeRun → List ℕ → List ℕ → ℕ → Wrong → Type 0
RefusesBy (Refused line) whole model code number wrong =
    (line.items ≡ refusal_line code number)
    × (whole.explanation.items ≡ refusal_explanation model code number wrong) × (whole.unfit ≡ 0)
    × (whole.results.items ≡ [])
RefusesBy Done whole model code number wrong = ⊥
RefusesBy (Faulted line) whole model code number wrong = ⊥

-- the result for a model that was not loaded
abbrev pub IsRefusal : Result WholeRun RunCut → List ℕ → LoadFault → Type 0
IsRefusal (Ok whole) model (load.Text rule number) = RefusesText whole.end whole model (text_rule_code rule) number
IsRefusal (Ok whole) model (load.Check rule number wrong) =
    RefusesBy whole.end whole model (check_rule_code rule) number wrong
IsRefusal (Ok whole) model load.Memory = ⊥
IsRefusal (Err Memory) model fault = Unit {0}
IsRefusal (Err Write) model fault = ⊥
