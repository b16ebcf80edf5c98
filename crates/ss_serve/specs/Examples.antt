-- Small streams: two requests, their turns, and the messages that answer them.
use Rattle.std.specs.Prelude.{ℕ, List, [], ◌∷◌, ◌++◌, codes, decimal}
use Rattle.ss_messages.specs.Messages.{reply, message_text, reply_text}
use Rattle.ss_messages.specs.declared.request.Command.TheVariants.{Threads, Disconnect}
use Rattle.ss_messages.specs.declared.request.Request.{Request}
use Rattle.ss_serve.specs.Session.{Turn}

-- a request about threads
abbrev pub asked_body : List ℕ
asked_body = codes "{\"seq\":7,\"command\":\"threads\"}"

-- the first request, after its head
abbrev pub asked_message : List ℕ
asked_message = codes "Content-Length: 29\r\n\r\n" ++ asked_body

-- a request to end
abbrev pub left_body : List ℕ
left_body = codes "{\"seq\":8,\"command\":\"disconnect\"}"

-- the request in the first body
abbrev pub asked_request : Request
asked_request = record { number = 7; name = codes "threads"; command = Threads }

-- the request in the second body
abbrev pub left_request : Request
left_request = record { number = 8; name = codes "disconnect"; command = Disconnect }

-- the turn of the first, of an answerer that counts requests
abbrev pub asked_turn : Turn ℕ
asked_turn = record { body = asked_body; request = asked_request; sent = reply (decimal 0) ∷ []; after = 1 }

-- the turn of the second, after the first
abbrev pub left_turn : Turn ℕ
left_turn = record { body = left_body; request = left_request; sent = reply (decimal 1) ∷ []; after = 2 }

-- the message that is written for the first
abbrev pub asked_reply : List ℕ
asked_reply = message_text (reply_text 1 7 (codes "threads") (decimal 0))

-- the message that is written for the second
abbrev pub left_reply : List ℕ
left_reply = message_text (reply_text 2 8 (codes "disconnect") (decimal 1))
