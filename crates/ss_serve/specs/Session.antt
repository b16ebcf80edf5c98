-- A session: from the bytes of a stream to messages, from messages to turns, from turns to the
-- bytes that are written; and how it ends.
use Rattle.std.specs.Prelude.{ℕ, ◌≡◌, ◌⊎◌, ◌-◌, ◌^◌, ◌≤◌, true, false, List, [], ◌∷◌, ◌++◌, length, map}
use Rattle.std.specs.Prelude.{Option, Some, None, option_and_then, Result, Ok, Err}
use Rattle.std.specs.Str.{IsUtf8}
use Rattle.serde_json.specs.Read.{read as read_json}
use Rattle.ss_console.specs.Event.{Event, read, write_events, Adds}
use Rattle.ss_console.specs.Puts.{AddsPart}
use Rattle.ss_messages.specs.Frames.{first_message, message, IsRead, IsMalformed}
use Rattle.ss_messages.specs.Messages.{Sent, PostView, posted_all}
use Rattle.ss_messages.specs.Requests.{request_of}
use Rattle.ss_messages.specs.declared.request.Request.{Request}
use Rattle.ss_serve.specs.Meaning.{Meaning}
use Rattle.ss_serve.specs.Seen.{Seen}
use Rattle.ss_serve.specs.declared.fault.SessionFault.{SessionFault}
use Rattle.ss_serve.specs.declared.fault.SessionFault.TheVariants.{NoRequest, CannotRead, CannotWrite, Memory, Count}
use Rattle.ss_serve.specs.declared.session.TheConstants.{MOST_SENT}

-- ---- from bytes to messages

-- the bytes of a stream begin with messages of these bodies; these bytes come after them
unfoldable pub BeginsWith : List ℕ → List (List ℕ) → List ℕ → Type 0
BeginsWith text [] rest = rest ≡ text
BeginsWith text (body ∷ bodies) rest =
    (more : List ℕ) × (first_message text ≡ message body more) × BeginsWith more bodies rest

-- a stream that is shown begins with messages of these bodies, and these bytes come after them
abbrev pub Gives : Option (List ℕ) → Option (List ℕ) → List (List ℕ) → Type 0
Gives before after bodies =
    (text : List ℕ) → before ≡ Some text → (rest : List ℕ) × (after ≡ Some rest) × BeginsWith text bodies rest

-- ---- from messages to turns

-- the request that a body is
abbrev pub request_in : List ℕ → Option Request
request_in body = option_and_then request_of (read_json body)

-- a body is no JSON in UTF-8, or no request
abbrev pub IsNoRequest : List ℕ → Type 0
IsNoRequest body = (¬ (IsUtf8 body)) ⊎ (request_in body ≡ None)

-- a turn: a body that was read, its request, the messages sent for it, and the state after it
pub record Turn (S : Type 0) : Type 0 where
  -- the body
  pub body : List ℕ
  -- its request
  pub request : Request
  -- the messages that are sent
  pub sent : List Sent
  -- the state after it
  pub after : S

-- a turn is made in a state
pub record IsTurn (m : Meaning) (state : m.State) (turn : Turn m.State) : Type 0 where
  -- its request is the one in its body
  pub asks : request_in turn.body ≡ Some turn.request
  -- it is answered with the messages that are sent, and leads to the state after it
  pub answers : m.Answers state turn.request turn.sent turn.after

-- turns are made one after the other, and none of them ends the session
unfoldable pub AreTurns : (m : Meaning) → m.State → List (Turn m.State) → Type 0
AreTurns m state [] = Unit {0}
AreTurns m state (turn ∷ turns) =
    IsTurn m state turn × (m.ends turn.request ≡ false) × AreTurns m turn.after turns

-- the state after some turns
unfoldable pub state_after : {S : Type 0} → S → List (Turn S) → S
state_after s [] = s
state_after s (turn ∷ turns) = state_after turn.after turns

-- ---- from turns to the bytes that are written

-- the messages of a turn, numbered after n others
abbrev pub messages_of : {S : Type 0} → ℕ → Turn S → PostView
messages_of n turn = posted_all turn.request (record { sent = n; bytes = [] }) turn.sent

-- the events of a turn: its body is read, its messages are written
abbrev pub turn_events : {S : Type 0} → ℕ → Turn S → List Event
turn_events n turn = read turn.body ∷ write_events (messages_of n turn).bytes

-- the events of some turns, one after the other
unfoldable pub events : {S : Type 0} → ℕ → List (Turn S) → List Event
events n [] = []
events n (turn ∷ turns) = turn_events n turn ++ events (messages_of n turn).sent turns

-- how many messages are sent after them
unfoldable pub sent_after : {S : Type 0} → ℕ → List (Turn S) → ℕ
sent_after n [] = n
sent_after n (turn ∷ turns) = sent_after (messages_of n turn).sent turns

-- ---- how it ends, after k turns that lead to state s, when n messages are sent

-- the stream is at its end, and nothing more happened
pub record EndsByStream (m : Meaning) (s last : m.State) (seen : Seen) : Type 0 where
  -- the answerer stays in its state
  pub state : last ≡ s
  -- no byte is left
  pub input : IsRead None seen.before seen.after
  -- nothing happened
  pub told : Adds seen.old seen.new []

-- a request ends it, which is answered
pub record EndsByRequest (m : Meaning) (s last : m.State) (n : ℕ) (seen : Seen) : Type 0 where
  -- its turn
  pub turn : Turn m.State
  -- it is made
  pub made : IsTurn m s turn
  -- it ends the session
  pub ends : m.ends turn.request ≡ true
  -- the answerer is in the state to which the turn leads
  pub state : last ≡ turn.after
  -- its body was read
  pub input : IsRead (Some turn.body) seen.before seen.after
  -- its body was read and its messages written
  pub told : Adds seen.old seen.new (turn_events n turn)

-- a message was read, and nothing was written
pub record EndsAtBody (seen : Seen) (P : List ℕ → Type 0) : Type 0 where
  -- its body
  pub body : List ℕ
  -- a statement on the body
  pub said : P body
  -- it was read
  pub input : IsRead (Some body) seen.before seen.after
  -- and that is all
  pub told : Adds seen.old seen.new (read body ∷ [])

-- a part of the messages that answer a request was written
pub record EndsInAnswer (m : Meaning) (state : m.State) (n : ℕ) (seen : Seen) : Type 0 where
  -- its turn
  pub turn : Turn m.State
  -- it is made
  pub made : IsTurn m state turn
  -- its body was read
  pub input : IsRead (Some turn.body) seen.before seen.after
  -- the events up to then
  pub heard : Option (List Event)
  -- that its body was read
  pub hears : Adds seen.old heard (read turn.body ∷ [])
  -- a part of its messages was written
  pub told : AddsPart (messages_of n turn).bytes heard seen.new

-- the end by its kind: the stream or a request; no message, or one that is no request; a reading
-- that failed, or a stream that is cut; a writing that failed; memory that was refused, before or
-- after a reading; the count of messages or of turns
abbrev pub EndsBy : (m : Meaning) → m.State → m.State → ℕ → ℕ → Seen → Result (Unit {0}) SessionFault → Type 0
EndsBy m state last k n seen (Ok done) = EndsByStream m state last seen ⊎ EndsByRequest m state last n seen
EndsBy m state last k n seen (Err NoRequest) =
    (IsMalformed seen.before × Adds seen.old seen.new []) ⊎ EndsAtBody seen IsNoRequest
EndsBy m state last k n seen (Err CannotRead) = Adds seen.old seen.new []
EndsBy m state last k n seen (Err CannotWrite) = EndsInAnswer m state n seen
EndsBy m state last k n seen (Err Memory) = Adds seen.old seen.new [] ⊎ EndsAtBody seen (λ body. Unit {0})
EndsBy m state last k n seen (Err Count) = ((MOST_SENT ≤ n) ⊎ (k ≡ 2 ^ 64 - 1)) × Adds seen.old seen.new []

-- a whole session from a state, when n messages are sent, to another: turns, and the end after them
pub record HasEnded (m : Meaning) (from last : m.State) (n : ℕ) (c : Seen) (result : Result (Unit {0}) SessionFault) :
    Type 0 where
  -- the turns
  pub turns : List (Turn m.State)
  -- the bytes that were left after them
  pub left : Option (List ℕ)
  -- the events up to then
  pub told : Option (List Event)
  -- they are made from the first state on
  pub made : AreTurns m from turns
  -- their bodies are those of the messages with which the stream begins, in order
  pub messages : Gives c.before left (map (λ turn. turn.body) turns)
  -- the events are those of the turns, in order: each body is answered before the next is read
  pub tells : Adds c.old told (events n turns)
  -- the end after them
  pub ends :
      EndsBy m (state_after from turns) last (length turns) (sent_after n turns)
      (record { before = left; after = c.after; old = told; new = c.new }) result
