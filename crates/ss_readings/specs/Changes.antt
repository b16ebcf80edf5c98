-- RUN CHANGE and BACK CHANGE of a question that is asked at p.
use Rattle.std.specs.Prelude.{ℕ, codes}
use Rattle.ss_state.specs.Run.{Input}
use Rattle.ss_trace.specs.Movements.{Shape, ahead, seek_back}
use Rattle.ss_readings.specs.Subject.{Subject}
use Rattle.ss_readings.specs.Seen.{changes_in, has_changed_in}

-- RUN CHANGE: forward to the state after the next step that changes it, or to a break line
abbrev pub run_change : Input → Subject → ℕ → Shape
run_change input subject p = ahead (has_changed_in input subject p) (codes "CHANGE")

-- BACK CHANGE: back to the state before the last step that changed it
abbrev pub back_change : Input → Subject → ℕ → Shape
back_change input subject p = seek_back (changes_in input subject p) (codes "CHANGE")
