-- The laws on the definitions, for every checked program.
use Rattle.std.specs.Prelude.{◌≡◌, ℕ, List, ◌+◌, ◌*◌, ◌≤◌}
use Rattle.ss_program.specs.Program.{ProgramTable}
use Rattle.ss_program.specs.ProgramSound.{IsSound}
use Rattle.ss_state.specs.declared.limits.TheConstants.{MOST_STEP_CHANGES}
use Rattle.ss_state.specs.State.{State}
use Rattle.ss_state.specs.Step.{step}
use Rattle.ss_state.specs.Run.{Input, input_with, start, run}
use Rattle.ss_state.specs.Well.{IsWell}
use Rattle.ss_state.specs.ChangeCounts.{change_bound, target_count}

-- the states of a run are well-formed
pub record StatesAreWell (input : Input) : Type 0 where
  -- the start is well-formed
  pub start : IsWell input.program (start input)
  -- a step keeps every state so
  pub step : (s : State) → IsWell input.program s → IsWell input.program (step input.program s)
  -- so all states of the run are well-formed
  pub run : (k : ℕ) → IsWell input.program (run input k)

-- for every program that the checker makes, and all data
abbrev pub ProgramsKeepStatesWell : Type 0
ProgramsKeepStatesWell =
    (p : ProgramTable) (text : List ℕ) → IsSound p → StatesAreWell (input_with p text)

-- no step changes the items of the data
abbrev pub StepsKeepItems : Type 0
StepsKeepItems = (p : ProgramTable) (s : State) → (step p s).feed.items ≡ s.feed.items

-- no step notes more than 64 changes and two for each target of its statement
abbrev pub StepsNoteFew : Type 0
StepsNoteFew = (p : ProgramTable) (s : State) → IsSound p → change_bound p s ≤ MOST_STEP_CHANGES + 2 * target_count p s
