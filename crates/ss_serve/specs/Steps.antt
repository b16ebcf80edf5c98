-- The parts of a turn.
use Rattle.std.specs.Prelude.{ℕ, ◌≡◌, ◌⊎◌, ◌≤◌, true, false, List, [], ◌∷◌, Option, Some, None, Result, Ok, Err}
use Rattle.ss_console.specs.Event.{Event, read, write_events, Adds}
use Rattle.ss_console.specs.Puts.{AddsPart}
use Rattle.ss_console.specs.declared.answerer.Go.{Go}
use Rattle.ss_console.specs.declared.answerer.Go.TheVariants.{On, Quit}
use Rattle.ss_console.specs.Going.{go_of}
use Rattle.ss_messages.specs.Frames.{IsRead, IsMalformed}
use Rattle.ss_messages.specs.Messages.{Sent, PostView, posted_all}
use Rattle.ss_messages.specs.declared.request.Request.{Request}
use Rattle.ss_serve.specs.Meaning.{Meaning}
use Rattle.ss_serve.specs.Seen.{Seen}
use Rattle.ss_serve.specs.Session.{Turn, IsTurn, turn_events, messages_of, request_in, IsNoRequest}
use Rattle.ss_serve.specs.Session.{EndsByStream, EndsByRequest, EndsAtBody, EndsBy}
use Rattle.ss_serve.specs.declared.fault.SessionFault.{SessionFault}
use Rattle.ss_serve.specs.declared.fault.SessionFault.TheVariants.{NoRequest, CannotRead, CannotWrite, Memory, Count}
use Rattle.ss_serve.specs.declared.session.TheConstants.{MOST_SENT}

-- a request was read, or the stream is at its end
abbrev pub IsAsked : Option Request → Seen → Type 0
IsAsked None seen = IsRead None seen.before seen.after × Adds seen.old seen.new []
IsAsked (Some request) seen = EndsAtBody seen (λ body. request_in body ≡ Some request)

-- why no request was read, when n messages were sent
abbrev pub NoneAsked : ℕ → Seen → SessionFault → Type 0
NoneAsked n seen NoRequest = (IsMalformed seen.before × Adds seen.old seen.new []) ⊎ EndsAtBody seen IsNoRequest
NoneAsked n seen CannotRead = Adds seen.old seen.new []
NoneAsked n seen CannotWrite = ⊥
NoneAsked n seen Memory = Adds seen.old seen.new [] ⊎ EndsAtBody seen (λ body. Unit {0})
NoneAsked n seen Count = (MOST_SENT ≤ n) × Adds seen.old seen.new []

-- some messages that answer a request, numbered after n others
abbrev pub messages_for : ℕ → Request → List Sent → PostView
messages_for n request sent = posted_all request (record { sent = n; bytes = [] }) sent

-- a request was answered, when n messages were sent: all messages were written, and none is left
pub record IsAnswered (m : Meaning) (from to : m.State) (request : Request) (n : ℕ) (after : PostView)
    (old new : Option (List Event)) (go : Go) : Type 0 where
  -- the messages
  pub sent : List Sent
  -- they answer the request
  pub answers : m.Answers from request sent to
  -- they were written
  pub told : Adds old new (write_events (messages_for n request sent).bytes)
  -- they are numbered
  pub count : after ≡ record { sent = (messages_for n request sent).sent; bytes = [] }
  -- the session goes on unless the request ends it
  pub goes : go ≡ go_of (m.ends request)

-- why a request was not answered
abbrev pub Unanswered : (m : Meaning) → m.State → Request → ℕ → Option (List Event) → Option (List Event) →
    SessionFault → Type 0
Unanswered m from request n old new CannotWrite =
    (sent : List Sent) × (to : m.State) × m.Answers from request sent to
    × AddsPart (messages_for n request sent).bytes old new
Unanswered m from request n old new Memory = Adds old new []
Unanswered m from request n old new other = ⊥

-- a turn that goes on
pub record IsMore (m : Meaning) (from to : m.State) (post after : PostView) (seen : Seen) : Type 0 where
  -- the turn
  pub turn : Turn m.State
  -- it is made
  pub made : IsTurn m from turn
  -- it does not end the session
  pub goes_on : m.ends turn.request ≡ false
  -- it leads to the state
  pub state : to ≡ turn.after
  -- its body was read
  pub input : IsRead (Some turn.body) seen.before seen.after
  -- these are its events
  pub told : Adds seen.old seen.new (turn_events post.sent turn)
  -- its messages are numbered
  pub count : after ≡ record { sent = (messages_of post.sent turn).sent; bytes = [] }

-- a turn that goes on, or the end
abbrev pub IsStep : (m : Meaning) → m.State → m.State → PostView → PostView → Seen → Result Go SessionFault → Type 0
IsStep m from to post after seen (Ok On) = IsMore m from to post after seen
IsStep m from to post after seen (Ok Quit) = EndsBy m from to 0 post.sent seen (Ok tt)
IsStep m from to post after seen (Err fault) = EndsBy m from to 0 post.sent seen (Err fault)
