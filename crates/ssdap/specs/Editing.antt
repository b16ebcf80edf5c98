-- The answers to the requests of an editor: before a run is launched, and about that run.
use Rattle.std.specs.Prelude.{ℕ, ◌≡◌, ◌≢◌, Bool, true, false, not, List, [], ◌∷◌, codes, Option, Some, None}
use Rattle.std.specs.Prelude.{Result}
use Rattle.ss_check.specs.Symbols.{Symbols}
use Rattle.ss_program.specs.Program.{ProgramTable}
use Rattle.ss_state.specs.Run.{input_with}
use Rattle.ss_debug.specs.Turn.{initial_debugger_state}
use Rattle.ss_session.specs.Model.{IsOfModel}
use Rattle.ss_session.specs.Load.{IsLoadFault}
use Rattle.ss_session.specs.declared.load.LoadFault.{LoadFault}
use Rattle.ss_session.specs.declared.load.LoadFault.TheVariants.{Memory}
use Rattle.ss_console.specs.Going.{go_of}
use Rattle.ss_console.specs.declared.answerer.Go.{Go}
use Rattle.ss_messages.specs.declared.request.Command.{Command}
use Rattle.ss_messages.specs.declared.request.Command.TheVariants.{Initialize, Launch, SetBreakpoints, GotoTargets}
use Rattle.ss_messages.specs.declared.request.Request.{Request}
use Rattle.ss_messages.specs.declared.request.Stops.{Stops}
use Rattle.ss_messages.specs.declared.counting.Counting.{Counting}
use Rattle.ss_messages.specs.Counting.{from_one}
use Rattle.ss_messages.specs.Messages.{Sent, PostView, posted_all, failure}
use Rattle.ss_adapter.specs.declared.turns.Further.{Further}
use Rattle.ss_adapter.specs.declared.turns.Further.TheVariants.{On, Ended}
use Rattle.ss_adapter.specs.Before.{answers_before, answer_to_launch, answer_to_refused_launch, fault_line}
use Rattle.ss_adapter.specs.Refused.{IsExplained}
use Rattle.ss_adapter.specs.Turn.{AdapterState, answers, answers_elsewhere, state_after, further_of}
use Rattle.ss_prompt.specs.Names.{warnings_told}
use Rattle.ss_serve.specs.Meaning.{Meaning}
use Rattle.ss_serve.specs.Seen.{Seen}
use Rattle.ss_serve.specs.Session.{HasEnded}
use Rattle.ss_serve.specs.declared.fault.SessionFault.{SessionFault}
use Rattle.ssdap.specs.Shelves.{Stands, Given, IsSame}

-- ---- the state

-- the files, if they are known, how the editor counts, and the run, once one is launched
pub record EditingState : Type 0 where
  -- the bytes at each path, or none that can be read
  pub files : Option (List ℕ → Option (List ℕ))
  -- whether the files at two paths are one, if that is known
  pub same : Option (List ℕ → List ℕ → Bool)
  -- from which numbers the editor counts lines and columns
  pub counting : Counting
  -- the run
  pub run : Option AdapterState

-- the state from its parts
abbrev pub editing_state : Option (List ℕ → Option (List ℕ)) → Option (List ℕ → List ℕ → Bool) → Counting →
    Option AdapterState → EditingState
editing_state files same counting run = record { files = files; same = same; counting = counting; run = run }

-- how the editor counts after a request: as initialize says
abbrev pub counting_after : Counting → Command → Counting
counting_after counting (Initialize c) = c
counting_after counting other = counting

-- ---- launch

-- the outcome of launch: the model or the data can't be read; the model is refused; or a run
pub data Opening : Type 0 where
  no_model : Opening
  no_data : Opening
  refused : LoadFault → List ℕ → Opening
  opened : AdapterState → Opening

-- the start of the run of a model's program over its data; on its desk nothing is set or shown
abbrev pub IsStart : List ℕ → List ℕ → List ℕ → Counting → Stops → AdapterState → Type 0
IsStart path model text counting stops state =
    (program : ProgramTable) × (symbols : Symbols) × IsOfModel model program symbols
    × (state ≡ record {
      input = input_with program text;
      debugger = initial_debugger_state;
      desk = record {
        path = path;
        model = model;
        symbols = symbols;
        displays = [];
        set = [];
        sections = [];
        watched = [];
        told = 0;
        counting = counting;
        stops = stops;
      };
    })

-- the outcome of launch, by the files at the path of the model and at that of the data
abbrev pub Opens : Option (List ℕ → Option (List ℕ)) → List ℕ → Option (List ℕ) → Counting → Stops → Opening → Type 0
Opens files path data_path counting stops no_model = Stands files path None
Opens files path data_path counting stops no_data =
    (model : List ℕ) × Stands files path (Some model) × Given files data_path None
Opens files path data_path counting stops (refused fault said) =
    (model : List ℕ) × (text : List ℕ) × Stands files path (Some model) × Given files data_path (Some text)
    × (fault ≢ Memory) × IsLoadFault fault model × IsExplained fault model said
Opens files path data_path counting stops (opened s) =
    (model : List ℕ) × (text : List ℕ) × Stands files path (Some model) × Given files data_path (Some text)
    × IsStart path model text counting stops s

-- the messages that answer launch
abbrev pub opening_messages : Opening → List Sent
opening_messages no_model = failure (codes "cannot read the model") ∷ []
opening_messages no_data = failure (codes "cannot read the data") ∷ []
opening_messages (refused fault said) = answer_to_refused_launch (fault_line fault) said
opening_messages (opened s) = answer_to_launch (warnings_told s.input.program s.desk.model)

-- the run after an outcome of launch
abbrev pub opening_run : Opening → Option AdapterState
opening_run (opened s) = Some s
opening_run other = None

-- ---- a turn

-- a request is answered with some messages, and leaves a run, before one is launched
unfoldable pub AnswersBefore : Option (List ℕ → Option (List ℕ)) → Counting → Command → List Sent →
    Option AdapterState → Type 0
AnswersBefore files counting (Launch path data_path stops) sent run =
    (o : Opening) × Opens files path data_path counting stops o × (sent ≡ opening_messages o) × (run ≡ opening_run o)
AnswersBefore files counting command sent run = (sent ≡ answers_before command) × (run ≡ None)

-- the path of the source that a request speaks of
abbrev pub source_path : Command → Option (List ℕ)
source_path (SetBreakpoints path points) = path
source_path (GotoTargets path line) = path
source_path other = None

-- whether the file at a path is another than the model, which is at the first path; no path is the model
abbrev pub IsElsewhere : Option (List ℕ → List ℕ → Bool) → List ℕ → Option (List ℕ) → Bool → Type 0
IsElsewhere same model None elsewhere = elsewhere ≡ false
IsElsewhere same model (Some path) elsewhere =
    (is_model : Bool) × IsSame same model path is_model × (elsewhere ≡ not is_model)

-- the answer to a request about a run; a request that names another file is not heeded
abbrev pub messages_by : AdapterState → Command → Bool → List Sent
messages_by s command true = answers_elsewhere command
messages_by s command false = answers s command

-- the run after a request about it; a request that names another file changes nothing
abbrev pub run_by : AdapterState → Command → Bool → AdapterState
run_by s command true = s
run_by s command false = state_after s command

-- a request about a run is answered with some messages, and leaves a run
abbrev pub AnswersAt : Option (List ℕ → List ℕ → Bool) → AdapterState → Command → List Sent →
    Option AdapterState → Type 0
AnswersAt same s command sent run =
    (elsewhere : Bool) × IsElsewhere same s.desk.path (source_path command) elsewhere
    × (sent ≡ messages_by s command elsewhere) × (run ≡ Some (run_by s command elsewhere))

-- the answer to a request, before a run is launched or about that run
abbrev pub AnswersIn : EditingState → Option AdapterState → Command → List Sent → Option AdapterState → Type 0
AnswersIn e None command sent run = AnswersBefore e.files e.counting command sent run
AnswersIn e (Some s) command sent run = AnswersAt e.same s command sent run

-- a request is answered with these messages, and leads from a state to another
abbrev pub Answers : EditingState → Request → List Sent → EditingState → Type 0
Answers s request sent after =
    AnswersIn s s.run request.command sent after.run × (after.files ≡ s.files) × (after.same ≡ s.same)
    × (after.counting ≡ counting_after s.counting request.command)

-- whether a session ends
abbrev pub is_ended : Further → Bool
is_ended On = false
is_ended Ended = true

-- the same, as the order to go on or to quit
abbrev pub go_behind : Further → Go
go_behind further = go_of (is_ended further)

-- the meaning of the requests of an editor: their answers, and those that end the session
abbrev pub editor_meaning : Meaning
editor_meaning = record {
  State = EditingState;
  Answers = Answers;
  ends = λ request. is_ended (further_of request.command);
}

-- ---- the effect of launch

-- the messages that were posted for a launch, and the run that it left, are those of one opening
pub record IsOpened (files : Option (List ℕ → Option (List ℕ))) (request : Request) (path : List ℕ)
    (data_path : Option (List ℕ)) (counting : Counting) (stops : Stops) (old new : PostView)
    (run : Option AdapterState) : Type 0 where
  -- the outcome of launch
  pub opening : Opening
  -- it follows from the files at the paths
  pub opens : Opens files path data_path counting stops opening
  -- its messages were posted
  pub posted : new ≡ posted_all request old (opening_messages opening)
  -- the run is its
  pub run_is : run ≡ opening_run opening

-- ---- the effect of a turn

-- the messages posted for a request about a run, and the run that it left, are those of its answer
pub record IsTurned (same : Option (List ℕ → List ℕ → Bool)) (s to : AdapterState) (request : Request)
    (old new : PostView) (go : Go) : Type 0 where
  -- whether the request speaks of a file other than the model
  pub elsewhere : Bool
  -- by the path that it names
  pub is_elsewhere : IsElsewhere same s.desk.path (source_path request.command) elsewhere
  -- its messages were posted
  pub posted : new ≡ posted_all request old (messages_by s request.command elsewhere)
  -- the run is its
  pub leads : to ≡ run_by s request.command elsewhere
  -- the session goes on unless the request ends it
  pub goes : go ≡ go_behind (further_of request.command)

-- ---- a whole session

-- a session before whose start no run is launched, and no message is sent; lines and columns count from 1 on
abbrev pub IsServed : Option (List ℕ → Option (List ℕ)) → Option (List ℕ → List ℕ → Bool) → Seen →
    Result (Unit {0}) SessionFault → Type 0
IsServed files same seen result =
    (last : EditingState) × HasEnded editor_meaning (editing_state files same from_one None) last 0 seen result
