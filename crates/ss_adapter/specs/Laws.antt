-- Laws: each request has one answer; a search for a line ends at the nearest state on it.
use Rattle.std.specs.Prelude.{ℕ, ◌≤◌, List, [], ◌∷◌}
use Rattle.ss_state.specs.declared.limits.TheConstants.{LAST_POSITION}
use Rattle.ss_state.specs.Run.{Input}
use Rattle.ss_debug.specs.declared.limits.TheConstants.{GREATEST_BOUND}
use Rattle.ss_debug.specs.Move.{EndsAt, EndsBackAt}
use Rattle.ss_debug.specs.Turn.{DebuggerState}
use Rattle.ss_messages.specs.declared.request.Command.{Command}
use Rattle.ss_messages.specs.Messages.{Sent, reply, failure, event}
use Rattle.ss_adapter.specs.declared.reach.Way.TheVariants.{Forward, Back}
use Rattle.ss_adapter.specs.Targets.{is_on_line, line_condition, line_end}
use Rattle.ss_adapter.specs.Turn.{AdapterState, answers, answers_elsewhere}
use Rattle.ss_adapter.specs.Before.{answers_before, answer_to_launch, answer_to_refused_launch}

-- messages are only events
abbrev pub AreEvents : List Sent → Type 0
AreEvents [] = Unit {0}
AreEvents (event name body ∷ ms) = AreEvents ms
AreEvents (reply body ∷ ms) = ⊥
AreEvents (failure reason ∷ ms) = ⊥

-- the first of some messages is a reply or a failure, and the others are events
abbrev pub AreOneAnswer : List Sent → Type 0
AreOneAnswer [] = ⊥
AreOneAnswer (reply body ∷ ms) = AreEvents ms
AreOneAnswer (failure reason ∷ ms) = AreEvents ms
AreOneAnswer (event name body ∷ ms) = ⊥

-- each request has one answer: in each state, also about another file; before a run is launched;
-- and if it launches one
pub record HaveOneAnswer : Type 0 where
  -- while a run is launched
  pub after : (state : AdapterState) (command : Command) → AreOneAnswer (answers state command)
  -- about a file other than the model
  pub elsewhere : (command : Command) → AreOneAnswer (answers_elsewhere command)
  -- before
  pub before : (command : Command) → AreOneAnswer (answers_before command)
  -- launch, if the model is accepted
  pub accepted : (warnings : List ℕ) → AreOneAnswer (answer_to_launch warnings)
  -- launch, if it is refused
  pub refused : (line said : List ℕ) → AreOneAnswer (answer_to_refused_launch line said)

-- a search for a line ends at the nearest state on it, or at one of its bounds
pub record SearchesEndNearest : Type 0 where
  -- forward, at the end of the run at the latest
  pub forward : (input : Input) (debugger : DebuggerState) (line : ℕ) → debugger.position ≤ LAST_POSITION →
      EndsAt input (line_condition input line) debugger.position GREATEST_BOUND (line_end input debugger Forward line)
  -- back, at the earliest kept state at the latest
  pub back : (input : Input) (debugger : DebuggerState) (line : ℕ) → debugger.earliest ≤ debugger.position →
      EndsBackAt (is_on_line input line) debugger.earliest debugger.position GREATEST_BOUND
      (line_end input debugger Back line)
