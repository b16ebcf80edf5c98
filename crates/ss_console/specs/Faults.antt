-- The effects of a console's calls, by their results: failures counted, lines and events.
use Rattle.std.specs.Prelude.{ℕ, ◌+◌, ◌==◌, Bool, true, false, List, [], ◌∷◌, if◌then◌else◌, Result, Ok, Err}
use Rattle.ss_console.specs.Event.{Event, read}

-- how many readings and how many puts failed
pub record Faults : Type 0 where
  -- how many readings failed
  pub reads : ℕ
  -- how many puts failed
  pub puts : ℕ

-- this number of failed readings, and this number of failed puts
abbrev pub faults_of : ℕ → ℕ → Faults
faults_of reads puts = record { reads = reads; puts = puts }

-- with one more reading
abbrev pub one_more_read : Faults → Faults
one_more_read faults = record { reads = faults.reads + 1; puts = faults.puts }

-- with one more put
abbrev pub one_more_put : Faults → Faults
one_more_put faults = record { reads = faults.reads; puts = faults.puts + 1 }

-- the line that was read, if one was
abbrev pub lines_read : Bool → List ℕ → List (List ℕ)
lines_read true line = line ∷ []
lines_read false line = []

-- the event of a reading
abbrev pub read_events : {E : Type 0} → Result Bool E → List ℕ → List Event
read_events (Ok true) line = read line ∷ []
read_events (Ok false) line = []
read_events (Err e) line = []

-- the failures after a reading
abbrev pub faults_after_read : {E : Type 0} → Result Bool E → Faults → Faults
faults_after_read (Ok some) faults = faults
faults_after_read (Err e) faults = one_more_read faults

-- how many bytes a put took
abbrev pub count_taken : {E : Type 0} → Result ℕ E → ℕ
count_taken (Ok n) = n
count_taken (Err e) = 0

-- the failures after a put, which fails too if it takes nothing
abbrev pub faults_after_put : {E : Type 0} → Result ℕ E → Faults → Faults
faults_after_put (Ok n) faults = if n == 0 then one_more_put faults else faults
faults_after_put (Err e) faults = one_more_put faults
