-- The answers before a run is launched, and to launch.
use Rattle.std.specs.Prelude.{ℕ, ◌≡◌, List, [], ◌∷◌, ◌++◌, codes}
use Rattle.ss_words.specs.Faults.{text_rule_code}
use Rattle.ss_check.specs.CheckRules.{check_rule_code}
use Rattle.ss_state.specs.Run.{input_with}
use Rattle.ss_debug.specs.Turn.{initial_debugger_state}
use Rattle.ss_session.specs.Model.{IsOfModel}
use Rattle.ss_session.specs.Transcript.{refusal_line}
use Rattle.ss_session.specs.declared.load.LoadFault.{LoadFault}
use Rattle.ss_session.specs.declared.load.LoadFault.TheVariants.{Text, Check, Memory}
use Rattle.ss_messages.specs.declared.counting.Counting.{Counting}
use Rattle.ss_messages.specs.declared.request.Stops.{Stops}
use Rattle.ss_messages.specs.declared.request.Command.{Command}
use Rattle.ss_messages.specs.declared.request.Command.TheVariants.{Initialize, Disconnect, Terminate, Missing, Unknown}
use Rattle.ss_messages.specs.Missing.{wanted_text}
use Rattle.ss_messages.specs.declared.request.Request.{Request}
use Rattle.ss_messages.specs.Messages.{Sent, PostView, posted_all, reply, failure, event}
use Rattle.ss_messages.specs.Bodies.{output_body, without_last}
use Rattle.ss_adapter.specs.declared.fixed.TheConstants.{CAPABILITIES}
use Rattle.ss_adapter.specs.Desk.{new_desk}
use Rattle.ss_adapter.specs.Refused.{IsExplained}
use Rattle.ss_adapter.specs.Turn.{AdapterState, answer_to_terminate}

-- the answer to a request before a run is launched
unfoldable pub answers_before : Command → List Sent
answers_before (Initialize counting) = reply CAPABILITIES.now ∷ []
answers_before Disconnect = reply (codes "{}") ∷ []
answers_before Terminate = answer_to_terminate
answers_before (Missing argument) = failure (wanted_text argument) ∷ []
answers_before Unknown = failure (codes "unknown request") ∷ []
answers_before other = failure (codes "no run is launched") ∷ []

-- the warnings of a model, as output, if there are some
abbrev pub warning_events : List ℕ → List Sent
warning_events [] = []
warning_events (b ∷ bs) = event (codes "output") (output_body (codes "console") (b ∷ bs)) ∷ []

-- the answer to launch, if the model is accepted, with these warnings
abbrev pub answer_to_launch : List ℕ → List Sent
answer_to_launch warnings =
    reply (codes "{}") ∷ warning_events warnings ++ event (codes "initialized") (codes "{}") ∷ []

-- the answer to launch, if the model is refused: the line of the refusal, and its explanation
abbrev pub answer_to_refused_launch : List ℕ → List ℕ → List Sent
answer_to_refused_launch line said =
    failure (without_last line) ∷ event (codes "output") (output_body (codes "stderr") (line ++ said)) ∷ []

-- the start of a model's run over its data, with nothing set or sent
pub record IsLaunched (model text path : List ℕ) (counting : Counting) (stops : Stops) (state : AdapterState) :
    Type 0 where
  -- the program and the symbol table are those of the model
  pub program : IsOfModel model state.input.program state.desk.symbols
  -- its run is the one over the data
  pub input : state.input ≡ input_with state.input.program text
  -- the debugger is at its start
  pub start : state.debugger ≡ initial_debugger_state
  -- nothing is set, and nothing of the report is sent
  pub desk : state.desk ≡ new_desk path model state.desk.symbols counting stops

-- the line of a refused model
abbrev pub fault_line : LoadFault → List ℕ
fault_line (Text rule line) = refusal_line (text_rule_code rule) line
fault_line (Check rule line wrong) = refusal_line (check_rule_code rule) line
fault_line Memory = []

-- a launch of a model that is refused for this: its line and its explanation were posted
abbrev pub IsRefusedLaunch : LoadFault → List ℕ → Request → PostView → PostView → Type 0
IsRefusedLaunch fault model request old new =
    (said : List ℕ) × IsExplained fault model said
    × (new ≡ posted_all request old (answer_to_refused_launch (fault_line fault) said))
