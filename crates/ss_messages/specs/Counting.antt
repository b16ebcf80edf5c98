-- From which numbers an editor counts lines and columns.
use Rattle.std.specs.Prelude.{ℕ, ◌+◌, ◌-◌, ◌^◌, min, Bool, true, if◌then◌else◌}
use Rattle.ss_messages.specs.declared.counting.Counting.{Counting}

-- a number that counts from 1 on, as one shows it who counts from 1 on, or from 0 on
abbrev pub shown : Bool → ℕ → ℕ
shown from_one n = if from_one then n else n - 1

-- the number that one means who counts so: numbers end at the greatest that is read
abbrev pub meant : Bool → ℕ → ℕ
meant from_one n = if from_one then n else min (n + 1) (2 ^ 64 - 1)

-- from 1 on, as an editor counts that says nothing of it
abbrev pub from_one : Counting
from_one = record { lines_from_one = true; columns_from_one = true }
