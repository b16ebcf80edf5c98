-- The reply of an answerer to a line.
use Rattle.std.specs.Prelude.{ℕ, ◌≡◌, Bool, true, false, List}
use Rattle.ss_console.specs.Meaning.{Meaning}
use Rattle.ss_console.specs.Dialogue.{Turn, line_of, answer_of, state_after, is_last, IsAllowed}
use Rattle.ss_console.specs.declared.answerer.Go.TheVariants.{On, Quit}
use Rattle.ss_console.specs.declared.reply.Reply.{Reply}
use Rattle.ss_console.specs.declared.reply.Reply.TheVariants.{Said, Refused}

-- the text that is to be written
abbrev pub reply_text : (m : Meaning) → m.State → Reply → List ℕ → List ℕ
reply_text m to (Said go) answer = answer
reply_text m to Refused answer = m.refusal to

-- whether the dialogue ends
abbrev pub reply_ends : Reply → Bool
reply_ends (Said On) = false
reply_ends (Said Quit) = true
reply_ends Refused = false

-- it is a turn with that line
pub record IsReply (m : Meaning) (from to : m.State) (line answer : List ℕ) (reply : Reply) : Type 0 where
  -- the turn
  pub turn : Turn m.State
  -- its line is that line
  pub line_is : line_of turn ≡ line
  -- it is allowed
  pub allowed : IsAllowed m from turn
  -- it leads to the state
  pub state : to ≡ state_after m from turn
  -- the text that is to be written is its answer
  pub text : reply_text m to reply answer ≡ answer_of m from turn
  -- it ends the dialogue exactly if the reply does
  pub ends : reply_ends reply ≡ is_last m turn
