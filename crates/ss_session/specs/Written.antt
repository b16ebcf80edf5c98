-- The written part of the answers of a session that was cut short.
use Rattle.std.specs.Prelude.{ℕ, ◌≤◌, List, length, take, Option}
use Rattle.std.specs.Io.KnownBytes.{Appends}
use Rattle.ss_state.specs.Run.{Input}
use Rattle.ss_debug.specs.Turn.{DebuggerState, answers}

-- the whole answers of the first lines, some number of them
pub record WritesFirst (t : Input) (start : DebuggerState) (lines : List (List ℕ))
    (old new : Option (List ℕ)) : Type 0 where
  -- how many lines
  pub count : ℕ
  -- there are as many
  pub within : count ≤ length lines
  -- their answers are put after the bytes that were written
  pub said : Appends old new (answers t start (take count lines))

-- a prefix of a text
pub record WritesPart (text : List ℕ) (old new : Option (List ℕ)) : Type 0 where
  -- how long it is
  pub count : ℕ
  -- the text is as long
  pub within : count ≤ length text
  -- it is put after the bytes that were written
  pub said : Appends old new (take count text)
