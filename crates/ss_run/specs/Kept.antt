-- Private: what is kept of what is traced, from state to state.
use Rattle.std.specs.Prelude.{ℕ, Bool, List, Option, Some, None}
use Rattle.ss_state.specs.Run.{Input}
use Rattle.ss_trace.specs.Movements.{frames_at}
use Rattle.ss_trace.specs.Value as trace
use Rattle.ss_readings.specs.declared.followed.Followed.{Followed as FollowedValue}
use Rattle.ss_readings.specs.Value.{Value, value_text}
use Rattle.ss_readings.specs.ValueView.{value_if}
use Rattle.ss_readings.specs.Seen.{is_open, seen}
use Rattle.ss_expressions.specs.Meanings.{Meaning, subject_of}
use Rattle.ss_run.specs.declared.glance.Glance.{Glance}
use Rattle.ss_run.specs.declared.last_seen.LastSeen.{LastSeen as Code}
use Rattle.ss_run.specs.declared.last_seen.LastSeen.TheVariants as code
use Rattle.ss_run.specs.Followed as followed
use Rattle.ss_run.specs.Glance.{glance_at}
use Rattle.ss_run.specs.Watched.{Watched, question, formula}

-- what is kept
pub data Kept : Type 0 where
  -- of a question: its glance and its answer
  answer : Glance → List ℕ → Kept
  -- of a text with a meaning: where it was asked, the frames there, whether the last of them is
  -- open, and the value
  value : ℕ → ℕ → Bool → Option Value → Kept
  -- of a text without a meaning
  nothing : Kept

-- that of a followed value
abbrev pub value_in : FollowedValue → Kept
value_in f = value f.asked f.frames f.is_open (value_if f.value)

-- that of the code
abbrev pub kept_in : Code → Kept
kept_in (code.Answer f) = answer f.glance f.answer.items
kept_in (code.Value f) = value_in f
kept_in code.Nothing = nothing

-- that of a meaning in state p
abbrev pub value_at : Input → Meaning → ℕ → Kept
value_at input meaning p =
    value 0 (frames_at input 0) (is_open input 0 p) (seen input (subject_of meaning input.program) 0 p)

-- what is kept in state p
abbrev pub kept_at : Input → Watched → ℕ → Kept
kept_at input (question x) p = answer (glance_at input x p) (followed.answer_kept input x p)
kept_at input (formula text (Some meaning)) p = value_at input meaning p
kept_at input (formula text None) p = nothing

-- the value in state p, if this is kept
abbrev pub kept_value : Input → ℕ → Watched → Kept → List ℕ
kept_value input p (question x) kept = trace.value_at input x p
kept_value input p _ (value asked frames opened v) = value_text v
kept_value input p _ _ = value_text None
