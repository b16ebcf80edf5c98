use Rattle.std.proofs.Common.{refl}
use Rattle.ss_check.proofs.resolved.phrases.resolve_loop.Goals as goal

pub returns-in_ok-new-in-For : goal.returns-in_ok-new-in-For
returns-in_ok-new-in-For c =
    rw (c.in-For.is, c.in_ok-new-in-For.ensures, c.in_ok-phrase-in-For.ensures, c.deref.ensures) refl

pub returns-in_ok-new-in-Gather : goal.returns-in_ok-new-in-Gather
returns-in_ok-new-in-Gather c = rw (c.in-Gather.is, c.in_ok-new-in-Gather.ensures, c.in_ok-value-in-Gather.ensures) refl

pub returns-in_ok-resolve_tellings-in-Compute : goal.returns-in_ok-resolve_tellings-in-Compute
returns-in_ok-resolve_tellings-in-Compute c = rw (c.in-Compute.is, c.in_ok-resolve_tellings-in-Compute.ensures) refl
