-- The meaning of an answerer: its states, its answers, and the requests that end a session.
use Rattle.std.specs.Prelude.{◌≡◌, Bool, List}
use Rattle.ss_console.specs.Going.{go_of}
use Rattle.ss_console.specs.declared.answerer.Go.{Go}
use Rattle.ss_messages.specs.Messages.{Sent, PostView, posted_all}
use Rattle.ss_messages.specs.declared.request.Request.{Request}

-- a machine that requests lead from state to state
pub record Meaning : Type 1 where
  -- its states
  pub State : Type 0
  -- a request is answered with these messages, and leads from the first state to the last
  pub Answers : State → Request → List Sent → State → Type 0
  -- whether a request ends the session
  pub ends : Request → Bool

-- the messages that an answerer posted for a request are one answer to it
pub record IsAnswer (m : Meaning) (from to : m.State) (request : Request) (old new : PostView) (go : Go) : Type 0 where
  -- the messages
  pub sent : List Sent
  -- they answer the request
  pub answers : m.Answers from request sent to
  -- they were posted, and no others
  pub posted : new ≡ posted_all request old sent
  -- the session goes on unless the request ends it
  pub goes : go ≡ go_of (m.ends request)
