-- The next pieces of the data, after the answer to SHOW TAKEN.
use Rattle.std.specs.Prelude.{ℕ, List, [], Option, Some, None}
use Rattle.ss_state.specs.Run.{run}
use Rattle.ss_faults.specs.DataTexts.{next_pieces_text}
use Rattle.ss_prompt.specs.PromptState.{PromptState}

-- the line on the next pieces of a text, by the number of those that are taken; nothing if the text
-- is not known
abbrev pub next_of : Option (List ℕ) → ℕ → List ℕ
next_of None taken = []
next_of (Some text) taken = next_pieces_text text taken

-- the line on the next pieces of the data in a state
abbrev pub next_said : PromptState → List ℕ
next_said state = next_of state.data_text (run state.input state.debugger.position).feed.taken
