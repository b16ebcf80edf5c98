-- The meaning of the code's types in the definitions.
use Rattle.std.specs.Prelude.{ℕ, Bool, false, List, codes}
use Rattle.ss_machine.specs.Moment.{Moment, position}
use Rattle.ss_timeline.specs.Moment as timelines
use Rattle.ss_state.specs.Run.{Input}
use Rattle.ss_debug.specs.declared.stop_condition.StopCondition.{StopCondition as StopChoice}
use Rattle.ss_debug.specs.declared.stop_condition.Target.{Target}
use Rattle.ss_debug.specs.declared.stop_condition.Target.TheVariants.{Nothing, BreakLine, EventStart}
use Rattle.ss_debug.specs.BreakLines.{BreakPoint}
use Rattle.ss_debug.specs.Move.{StopCondition, step_condition, is_on_break, is_behind_start}
use Rattle.ss_debug.specs.Move.{forward_end, search_back_end}
use Rattle.ss_debug.specs.Turn.{DebuggerState}

-- whether a state is one that a movement looks for
abbrev pub target_test : Input → List BreakPoint → Target → ℕ → Bool
target_test input breaks Nothing = λ p. false
target_test input breaks BreakLine = is_on_break input breaks
target_test input breaks EventStart = is_behind_start input

-- the word if such a state is found
abbrev pub target_word : Target → List ℕ
target_word Nothing = codes "DONE"
target_word BreakLine = codes "BREAK"
target_word EventStart = codes "EVENT"

-- the word if all steps were made
abbrev pub target_bound_word : Target → List ℕ
target_bound_word Nothing = codes "DONE"
target_bound_word BreakLine = codes "BOUND"
target_bound_word EventStart = codes "BOUND"

-- the stop condition that the code names
abbrev pub condition_of : Input → List BreakPoint → StopChoice → StopCondition
condition_of input breaks choice = record {
  time = choice.time;
  test = target_test input breaks choice.target;
  word = target_word choice.target;
  bound_word = target_bound_word choice.target;
}

-- the end of a number of steps from a moment
abbrev pub step_end : timelines.Moment → ℕ → ℕ
step_end moment bound = forward_end moment.input step_condition (timelines.position moment) bound

-- the end of a movement forward from a moment
abbrev pub stop_end : timelines.Moment → List BreakPoint → StopChoice → ℕ → ℕ
stop_end moment breaks choice bound =
    forward_end moment.input (condition_of moment.input breaks choice) (timelines.position moment) bound

-- the end of a search back from a moment
abbrev pub search_end : (ℕ → Bool) → timelines.Moment → ℕ → ℕ
search_end test moment bound = search_back_end test moment.low (timelines.position moment) bound

-- a debugger
pub record DebuggerView : Type 0 where
  -- its machine
  pub machine : Moment
  -- its break lines
  pub breaks : List BreakPoint

-- the state of a debugger
abbrev pub debugger_state_of : DebuggerView → DebuggerState
debugger_state_of debugger =
    record { position = position debugger.machine; earliest = debugger.machine.forgotten; breaks = debugger.breaks }

-- the stop condition that the code names to a debugger
abbrev pub condition_in : DebuggerView → StopChoice → StopCondition
condition_in debugger choice = condition_of debugger.machine.input debugger.breaks choice
