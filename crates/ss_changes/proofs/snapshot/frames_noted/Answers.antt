use Rattle.std.proofs.Common.{◌≡◌, suc, length, rules}
use Rattle.ss_changes.proofs.snapshot.frames_noted.Goals as goal

pub returns : goal.returns
returns g c =
    let last : c.loop-below.below ≡ suc (length c.args.machine.now.state.below) = search rules in
    rw last at c.loop-below.invariant
