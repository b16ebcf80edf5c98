use Rattle.std.proofs.Common.{◌≡◌, ℕ, List, inl, inr, refl, Result, Ok, Err}
use Rattle.std.specs.Prelude.{⊤}
use Rattle.ss_program.specs.Program.{ProgramTable}
use Rattle.ss_check.specs.Symbols.{Symbols}
use Rattle.ss_state.specs.Run.{input_with}
use Rattle.ss_session.specs.declared.load.LoadFault.{LoadFault}
use Rattle.ss_session.specs.declared.load.LoadFault.TheVariants as load
use Rattle.ss_run.specs.declared.whole_run.RunEnd.{RunEnd}
use Rattle.ss_run.specs.declared.whole_run.RunEnd.TheVariants.{Done, Faulted, Refused}
use Rattle.ss_run.specs.declared.whole_run.RunCut.{RunCut}
use Rattle.ss_run.specs.declared.whole_run.RunCut.TheVariants.{Write, Memory}
use Rattle.ss_run.specs.declared.whole_run.WholeRun.{WholeRun}
use Rattle.ss_run.specs.Advance.{IsRefusal, MakesRun}
use Rattle.ss_session.specs.Load.{IsLoadFault}
use Rattle.ss_session.specs.Model.{accepted, IsOfModel, IsOutcome}
use Rattle.ss_run.specs.Report.{IsRunEnd, SaysEnd, RunEnds, ReportSays}
use Rattle.ss_run.specs.Results.{Asked, wanted}
use Rattle.ss_run.specs.WholeRun.{TellsEnd, TellsBeside, RunSays}
use Rattle.ss_session.specs.Texts.{OutletState}
use Rattle.ss_session.proofs.Pieces.{appends_none}

-- the definitions of a run that is made
unfoldable pub runs_made : ⊤
unfolding MakesRun RunEnds
runs_made = tt

refused_end : (end : RunEnd) (whole : WholeRun) (fault : LoadFault) (model data_text : List ℕ) (asked : Asked)
    (old : OutletState) → whole.end ≡ end → IsRefusal (Ok whole) model fault → IsLoadFault fault model →
    ReportSays (Ok end) model data_text old old × TellsBeside end whole model data_text asked
unfolding ReportSays
refused_end (Refused line) whole (load.Text rule number) model data_text asked old e r o =
    let r = rw e at r in
    ((inl (rule, number, o, r.0), appends_none _, refl), (inl (rule, number, o, r.1), r.2, r.3))
refused_end (Refused line) whole (load.Check rule number wrong) model data_text asked old e r o =
    let r = rw e at r in
    ((inr (rule, number, o.0, r.0), appends_none _, refl), (inr (rule, number, wrong, o.0, o.1, r.1), r.2, r.3))
refused_end (Refused line) whole load.Memory model data_text asked old e r o = absurd r
refused_end Done whole (load.Text rule number) model data_text asked old e r o = absurd (rw e at r)
refused_end Done whole (load.Check rule number wrong) model data_text asked old e r o = absurd (rw e at r)
refused_end Done whole load.Memory model data_text asked old e r o = absurd r
refused_end (Faulted line) whole (load.Text rule number) model data_text asked old e r o = absurd (rw e at r)
refused_end (Faulted line) whole (load.Check rule number wrong) model data_text asked old e r o = absurd (rw e at r)
refused_end (Faulted line) whole load.Memory model data_text asked old e r o = absurd r

-- the results for a model that was not loaded
pub refused_says : (result : Result WholeRun RunCut) (fault : LoadFault) (model data_text : List ℕ) (asked : Asked)
    (old : OutletState) → IsRefusal result model fault → IsLoadFault fault model →
    RunSays result model data_text asked old old
unfolding RunSays ReportSays
refused_says (Ok whole) fault model data_text asked old r o =
    refused_end whole.end whole fault model data_text asked old refl r o
refused_says (Err Memory) fault model data_text asked old r o = (appends_none _, refl)
refused_says (Err Write) fault model data_text asked old r o = absurd r

-- a program that is of one text with its symbol table is the outcome of that text
pub outcome_of : (model : List ℕ) (program : ProgramTable) (symbols : Symbols) → IsOfModel model program symbols →
    IsOutcome model (accepted program)
outcome_of model program symbols h = (h.0, h.1, h.2, h.3, h.4)

made_end : (end : RunEnd) (whole : WholeRun) (program : ProgramTable) (symbols : Symbols) (model data_text : List ℕ)
    (asked : Asked) (old new : OutletState) (p : ℕ) → IsOfModel model program symbols →
    IsRunEnd (input_with program data_text) p → SaysEnd (input_with program data_text) p end →
    TellsEnd whole data_text (input_with program data_text) (wanted asked symbols) p →
    RunEnds (Ok end) (input_with program data_text) old new →
    ReportSays (Ok end) model data_text old new × TellsBeside end whole model data_text asked
unfolding ReportSays
made_end Done whole program symbols model data_text asked old new p o e s b r =
    ((program, outcome_of model program symbols o, r), (program, symbols, o, p, e, b))
made_end (Faulted line) whole program symbols model data_text asked old new p o e s b r =
    ((program, outcome_of model program symbols o, r), (program, symbols, o, p, e, b))
made_end (Refused line) whole program symbols model data_text asked old new p o e s b r = absurd s

-- the results for a run that was made
pub run_says : (result : Result WholeRun RunCut) (program : ProgramTable) (symbols : Symbols)
    (model data_text : List ℕ) (asked : Asked) (old new : OutletState) → IsOfModel model program symbols →
    MakesRun result data_text (input_with program data_text) (wanted asked symbols) old new →
    RunSays result model data_text asked old new
unfolding MakesRun RunEnds ReportSays RunSays
run_says (Ok whole) program symbols model data_text asked old new o r =
    made_end whole.end whole program symbols model data_text asked old new r.0 o r.1 r.2 r.3 (r.0, r.1, r.2, r.4, r.5)
run_says (Err Memory) program symbols model data_text asked old new o r = r
run_says (Err Write) program symbols model data_text asked old new o r =
    (program, outcome_of model program symbols o, r)
