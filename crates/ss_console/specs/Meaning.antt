-- The meaning of an answerer: its states, its answers, and the state after each line.
use Rattle.std.specs.Prelude.{ℕ, Bool, List}

-- a machine that lines lead from state to state
pub record Meaning : Type 1 where
  -- its states
  pub State : Type 0
  -- the position that a prompt shows
  pub position : State → ℕ
  -- the answer to a line
  pub said : State → List ℕ → List ℕ
  -- the state after a line
  pub next : State → List ℕ → State
  -- whether a line ends the dialogue
  pub ends : List ℕ → Bool
  -- the answer if memory was refused, by the state in which the answerer was left
  pub refusal : State → List ℕ
  -- the states in which it may be left if memory for an answer was refused
  pub MayBeLeft : State → List ℕ → State → Type 0
