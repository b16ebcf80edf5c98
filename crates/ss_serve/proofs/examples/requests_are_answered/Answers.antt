use Rattle.std.proofs.Common.{◌∷◌, ◌++◌, ap, append-nil}
use Rattle.ss_console.specs.Event.{read, write_events}
use Rattle.ss_messages.specs.Messages.{posted_all}
use Rattle.ss_serve.specs.Examples as e
use Rattle.ss_serve.specs.Session.{events}
use Rattle.ss_serve.proofs.examples.requests_are_answered.Goals as goal

pub returns : goal.returns
unfolding posted_all events
returns c =
    ap (λ es. (read e.asked_body ∷ write_events e.asked_reply) ++ es)
    (append-nil (read e.left_body ∷ write_events e.left_reply))
