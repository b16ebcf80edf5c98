use Rattle.ss_adapter.proofs.Launches.{accepted}
use Rattle.ss_adapter.proofs.opening.accept.Goals as goal

pub returns : goal.returns
returns c =
    rw (accepted _ _ _ _ _ c.in_ok-reply.ensures c.in_ok-tell_warnings.ensures.sent) at c.event.ensures
