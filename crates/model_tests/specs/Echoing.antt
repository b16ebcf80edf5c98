-- The meaning of a small answerer of requests, for the tests.
use Rattle.std.specs.Prelude.{ℕ, ◌≡◌, ◌+◌, ◌%◌, ◌^◌, Bool, true, false, List, [], ◌∷◌, decimal}
use Rattle.ss_messages.specs.Messages.{reply}
use Rattle.ss_messages.specs.declared.request.Command.{Command}
use Rattle.ss_messages.specs.declared.request.Command.TheVariants.{Disconnect}
use Rattle.ss_serve.specs.Meaning.{Meaning}

-- whether a request is one to end
abbrev pub is_disconnect : Command → Bool
is_disconnect Disconnect = true
is_disconnect other = false

-- its states are numbers of requests, and the reply to each has the number of those before it as its body
abbrev pub echo_meaning : Meaning
echo_meaning = record {
  State = ℕ;
  Answers = λ n request sent after. (sent ≡ reply (decimal n) ∷ []) × (after ≡ (n + 1) % 2 ^ 64);
  ends = λ request. is_disconnect request.command;
}
