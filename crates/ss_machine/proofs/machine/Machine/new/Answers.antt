use Rattle.ss_machine.proofs.Moments.{started}
use Rattle.ss_machine.proofs.machine.Machine.new.Goals as goal

pub invariant_of-result : goal.invariant_of-result
invariant_of-result g c =
    started c.args.program c.args.feed _ _ c.known.ensures c.known-2.ensures
    c.in-Ok.ensures.state
    c.in-Ok.ensures.tables c.in-Ok.ensures.rules c.in-Ok.ensures.steps
    c.in-Ok.ensures.current
