use Rattle.std.proofs.Common.{sym, subst}
use Rattle.ss_state.specs.Run.{Input}
use Rattle.ss_changes.specs.Snapshots.{IsTakenIn}
use Rattle.ss_prompt.proofs.left.push_changed_since.Goals as goal

pub push_all_changes_since-requires : goal.push_all_changes_since-requires
push_all_changes_since-requires g c =
    subst (λ (t : Input). IsTakenIn t c.in_ok-snapshot.snapshot) (sym c.come_back.ensures.input)
    c.in_ok-snapshot.ensures.taken
