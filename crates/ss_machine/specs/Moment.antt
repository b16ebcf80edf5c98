-- The value that a machine represents, and its steps forward and back.
use Rattle.std.specs.Prelude.{◌≡◌, ◌≢◌, ℕ, ◌+◌, ◌-◌, ◌<◌, ◌≤◌, ◌⊎◌, List, [], ◌∷◌, ◌++◌, length, map, drop, Bool, true}
use Rattle.std.specs.Prelude.{false}
use Rattle.ss_journal.specs.Log.{newest}
use Rattle.ss_journal.specs.Undoing.{past}
use Rattle.ss_state.specs.declared.limits.TheConstants.{LAST_POSITION}
use Rattle.ss_state.specs.declared.status.Status.TheVariants.{Ready}
use Rattle.ss_state.specs.declared.stepped.Stepped.{Stepped}
use Rattle.ss_state.specs.declared.stepped.Stepped.TheVariants.{Moved, AtEnd}
use Rattle.ss_state.specs.State.{State}
use Rattle.ss_state.specs.Held.{Beside, Held}
use Rattle.ss_state.specs.Change.{Change, unapply}
use Rattle.ss_state.specs.ChangeCounts.{change_bound}
use Rattle.ss_state.specs.Step.{step}
use Rattle.ss_state.specs.Run.{Input}
use Rattle.ss_timeline.specs.Moment as timelines

-- the value that a machine represents: a state of a run, and the way back from it
pub record Moment : Type 0 where
  -- the program and the data of the run
  pub input : Input
  -- its state
  pub state : State
  -- the part kept with the state for undoing
  pub beside : Beside
  -- how many of the oldest steps are forgotten
  pub forgotten : ℕ
  -- the changes of each step that is kept, the newest step and the newest change first
  pub steps : List (List Change)

-- the held parts of the moment
abbrev pub held_of : Moment → Held
held_of moment = record { state = moment.state; beside = moment.beside }

-- how many steps are kept
abbrev pub steps_kept : Moment → ℕ
steps_kept moment = length moment.steps

-- the number of the state in the run: the steps that are forgotten count
abbrev pub position : Moment → ℕ
position moment = moment.forgotten + steps_kept moment

-- the moment of the run: the state is the run's at this position, and so no part of the moment
abbrev pub moment_of : Moment → timelines.Moment
moment_of moment = record { input = moment.input; low = moment.forgotten; kept = steps_kept moment }

-- the states before this one to which the kept steps lead back, the earliest first
abbrev pub past_of : Moment → List State
past_of moment = map (λ h. h.state) (past unapply (held_of moment) moment.steps)

-- one step forward
pub record HasMoved (old new : Moment) : Type 0 where
  -- the run goes on
  pub ready : old.state.status ≡ Ready
  -- a position is left
  pub before_last : position old < LAST_POSITION
  -- the run is the same one
  pub input : new.input ≡ old.input
  -- the state is the step of the old one
  pub state : new.state ≡ step old.input.program old.state
  -- its number is the next
  pub position : position new ≡ position old + 1
  -- as many steps are forgotten as before
  pub forgotten : new.forgotten ≡ old.forgotten
  -- the old state now ends the past
  pub past : past_of new ≡ past_of old ++ old.state ∷ []
  -- one more step is kept, of as many changes at most as its place may note
  pub steps :
      (added : List Change) × (new.steps ≡ added ∷ old.steps)
      × (length added ≤ change_bound old.input.program old.state)

-- the effect of a step: at the end, or at the last position, none
abbrev pub Steps : Stepped → Moment → Moment → Type 0
Steps Moved old new = HasMoved old new
Steps AtEnd old new = ((old.state.status ≢ Ready) ⊎ (position old ≡ LAST_POSITION)) × (new ≡ old)

-- one step back
pub record HasGoneBack (old new : Moment) : Type 0 where
  -- the run is the same one
  pub input : new.input ≡ old.input
  -- the state is the last of the past, which no longer holds it
  pub past : past_of old ≡ past_of new ++ new.state ∷ []
  -- its number is one less
  pub position : position old ≡ position new + 1
  -- as many steps are forgotten as before
  pub forgotten : new.forgotten ≡ old.forgotten
  -- from there the run went on
  pub ready : new.state.status ≡ Ready
  -- the newest step is no longer kept
  pub steps : (dropped : List Change) × (old.steps ≡ dropped ∷ new.steps)

-- the effect of a step back
abbrev pub GoesBack : Bool → Moment → Moment → Type 0
GoesBack true old new = HasGoneBack old new
GoesBack false old new = (old.steps ≡ []) × (new ≡ old)

-- all steps but the newest n are forgotten
pub record HasForgotten (n : ℕ) (old new : Moment) : Type 0 where
  -- the run is the same one
  pub input : new.input ≡ old.input
  -- so is the state
  pub state : new.state ≡ old.state
  -- and its number
  pub position : position new ≡ position old
  -- the last n states of the past are left, or all if there are fewer
  pub past : past_of new ≡ drop (steps_kept old - n) (past_of old)
  -- the newest n steps are kept
  pub steps : new.steps ≡ newest n old.steps
