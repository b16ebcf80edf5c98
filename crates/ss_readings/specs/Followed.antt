-- The value of a question that is followed from state to state.
use Rattle.std.specs.Prelude.{ℕ, ◌≡◌}
use Rattle.ss_state.specs.Run.{Input}
use Rattle.ss_trace.specs.Movements.{frames_at}
use Rattle.ss_readings.specs.declared.followed.Followed.{Followed}
use Rattle.ss_readings.specs.Subject.{Subject}
use Rattle.ss_readings.specs.Seen.{is_open, seen}
use Rattle.ss_readings.specs.ValueView.{value_if}

-- it was followed to state q
pub record IsFollowed (input : Input) (subject : Subject) (q : ℕ) (f : Followed) : Type 0 where
  -- the number of the frame in which it was asked
  pub frames : f.frames ≡ frames_at input f.asked
  -- whether that frame is open
  pub opened : f.is_open ≡ is_open input f.asked q
  -- its value
  pub value : value_if f.value ≡ seen input subject f.asked q
