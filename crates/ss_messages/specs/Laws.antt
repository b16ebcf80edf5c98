-- A law of messages: each message that is written can be read.
use Rattle.std.specs.Prelude.{ℕ, ◌≡◌, ◌≤◌, List, ◌++◌, length}
use Rattle.ss_messages.specs.Frames.{first_message, message}
use Rattle.ss_messages.specs.Messages.{message_text}
use Rattle.ss_messages.specs.declared.frame.TheConstants.{LONGEST_MESSAGE}

-- a message that is written is the first that is read, and the bytes after it are left
abbrev pub MessagesAreReadBack : Type 0
MessagesAreReadBack =
    (body rest : List ℕ) → length body ≤ LONGEST_MESSAGE →
    first_message (message_text body ++ rest) ≡ message body rest
