-- The results of a whole run, in addition to its report.
use Rattle.std.specs.Prelude.{ℕ, ◌≡◌, ◌⊎◌, List, [], Result, Ok, Err}
use Rattle.ss_words.specs.declared.fault.TextRule.{TextRule}
use Rattle.ss_check.specs.declared.fault.CheckRule.{CheckRule}
use Rattle.ss_check.specs.CheckRules.{check_rule_code}
use Rattle.ss_check.specs.Symbols.{Symbols}
use Rattle.ss_program.specs.Program.{ProgramTable}
use Rattle.ss_state.specs.Run.{Input, run, input_with}
use Rattle.ss_check.specs.declared.wrong.Wrong.{Wrong}
use Rattle.ss_session.specs.Load.{IsWrong}
use Rattle.ss_session.specs.Model.{refused_text, refused_check, IsOfModel, IsOutcome}
use Rattle.ss_session.specs.Texts.{OutletState}
use Rattle.ss_run.specs.declared.whole_run.RunEnd.{RunEnd}
use Rattle.ss_run.specs.declared.whole_run.RunEnd.TheVariants.{Done, Faulted, Refused}
use Rattle.ss_run.specs.declared.whole_run.RunCut.{RunCut}
use Rattle.ss_run.specs.declared.whole_run.WholeRun.{WholeRun}
use Rattle.ss_sentences.specs.Refusals.{IsSaid}
use Rattle.ss_run.specs.Explained.{end_explanation, refusal_explanation}
use Rattle.ss_run.specs.Fields.{unfit_values}
use Rattle.ss_run.specs.Report.{IsRunEnd, ReportSays, status_of_end}
use Rattle.ss_run.specs.Results.{Asked, Wanted, wanted, results_row}

-- the results of a run over some data that ended at position p: the explanation of that state, the
-- number of values of its report that did not fit, and the row of its results
abbrev pub TellsEnd : WholeRun → List ℕ → Input → Wanted → ℕ → Type 0
TellsEnd whole data_text input asked p =
    (whole.explanation.items ≡ end_explanation input.program data_text (run input p))
    × (whole.unfit ≡ unfit_values (run input p).report)
    × (whole.results.items ≡ results_row input asked (status_of_end whole.end) p)

-- those of the run over the data of a model that is a program; expressions are read by its symbol table
abbrev pub TellsRun : WholeRun → List ℕ → List ℕ → Asked → Type 0
TellsRun whole model data_text asked =
    (program : ProgramTable) × (symbols : Symbols) × IsOfModel model program symbols
    × (p : ℕ) × IsRunEnd (input_with program data_text) p
    × TellsEnd whole data_text (input_with program data_text) (wanted asked symbols) p

-- those of a refused model: the explanation of its text, or the checker's sentence, the line and what is wrong
abbrev pub TellsRefusal : WholeRun → List ℕ → Type 0
TellsRefusal whole model =
    ((rule : TextRule) × (number : ℕ) × IsOutcome model (refused_text rule number)
    × IsSaid model whole.explanation.items)
    ⊎ ((rule : CheckRule) × (number : ℕ) × (wrong : Wrong) × IsOutcome model (refused_check rule number)
    × IsWrong model rule number wrong
    × (whole.explanation.items ≡ refusal_explanation model (check_rule_code rule) number wrong))

-- the one or the other, by how the run ended
abbrev pub TellsBeside : RunEnd → WholeRun → List ℕ → List ℕ → Asked → Type 0
TellsBeside Done whole model data_text asked = TellsRun whole model data_text asked
TellsBeside (Faulted line) whole model data_text asked = TellsRun whole model data_text asked
TellsBeside (Refused line) whole model data_text asked =
    TellsRefusal whole model × (whole.unfit ≡ 0) × (whole.results.items ≡ [])

-- the report that a whole run writes, and its results
unfoldable pub RunSays : Result WholeRun RunCut → List ℕ → List ℕ → Asked → OutletState → OutletState → Type 0
RunSays (Ok whole) model data_text asked old new =
    ReportSays (Ok whole.end) model data_text old new × TellsBeside whole.end whole model data_text asked
RunSays (Err cut) model data_text asked old new = ReportSays (Err cut) model data_text old new

-- how a run ended, without the other results
abbrev pub end_of_outcome : Result WholeRun RunCut → Result RunEnd RunCut
end_of_outcome (Ok whole) = Ok whole.end
end_of_outcome (Err cut) = Err cut
