-- Replies and events, as they are written.
use Rattle.std.specs.Prelude.{ℕ, ◌+◌, List, [], ◌∷◌, ◌++◌, codes, decimal, length}
use Rattle.ss_messages.specs.Escapes.{quoted_bytes, quoted_text}
use Rattle.ss_messages.specs.declared.request.Request.{Request}

-- a message: its length in bytes, an empty line, and its body
unfoldable pub message_text : List ℕ → List ℕ
message_text body = codes "Content-Length: " ++ decimal (length body) ++ codes "\r\n\r\n" ++ body

-- the head of message n, which answers request r of this name
abbrev pub response_head : ℕ → ℕ → List ℕ → List ℕ
response_head n r name =
    codes "{\"seq\":" ++ decimal n ++ codes ",\"type\":\"response\",\"request_seq\":" ++ decimal r
    ++ codes ",\"command\":" ++ quoted_text name

-- message n: request r of this name is done, and this is the body, a JSON value
unfoldable pub reply_text : ℕ → ℕ → List ℕ → List ℕ → List ℕ
reply_text n r name body = response_head n r name ++ codes ",\"success\":true,\"body\":" ++ body ++ codes "}"

-- message n: request r of this name is not done, for this reason
unfoldable pub failure_text : ℕ → ℕ → List ℕ → List ℕ → List ℕ
failure_text n r name reason =
    response_head n r name ++ codes ",\"success\":false,\"message\":" ++ quoted_bytes reason ++ codes "}"

-- message n: an event of this name with this body, a JSON value
unfoldable pub event_text : ℕ → List ℕ → List ℕ → List ℕ
event_text n name body =
    codes "{\"seq\":" ++ decimal n ++ codes ",\"type\":\"event\",\"event\":\"" ++ name
    ++ codes "\",\"body\":" ++ body ++ codes "}"

-- ---- messages in order

-- a message that answers a request, or an event that goes with it: the body of a reply, the reason
-- of a refusal, an event's name and body
pub data Sent : Type 0 where
  reply : List ℕ → Sent
  failure : List ℕ → Sent
  event : List ℕ → List ℕ → Sent

-- message n, sent for a request
abbrev pub sent_text : ℕ → Request → Sent → List ℕ
sent_text n request (reply body) = reply_text n request.number request.name body
sent_text n request (failure reason) = failure_text n request.number request.name reason
sent_text n request (event name body) = event_text n name body

-- messages that are to be written
pub record PostView : Type 0 where
  -- how many were numbered
  pub sent : ℕ
  -- those that are to be written
  pub bytes : List ℕ

-- one message more
abbrev pub posted_with : Request → PostView → Sent → PostView
posted_with request post sent =
    record { sent = post.sent + 1; bytes = post.bytes ++ message_text (sent_text (post.sent + 1) request sent) }

-- some messages more
unfoldable pub posted_all : Request → PostView → List Sent → PostView
posted_all request post [] = post
posted_all request post (m ∷ ms) = posted_all request (posted_with request post m) ms
