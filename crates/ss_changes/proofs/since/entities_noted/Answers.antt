use Rattle.std.proofs.Common.{sym, ◌∙◌}
use Rattle.ss_changes.proofs.Comparing.{living_length}
use Rattle.ss_changes.proofs.since.entities_noted.Goals as goal

pub push_all_entities-requires : goal.push_all_entities-requires
push_all_entities-requires g c =
    let m = c.args.machine.now in
    rw (c.deref.ensures.value, c.in_ok-now.ensures) (c.requires.classes ∙ sym (living_length m.input.program m.state))
