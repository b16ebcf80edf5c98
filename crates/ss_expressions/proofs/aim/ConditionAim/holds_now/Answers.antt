use Rattle.std.proofs.Common.{rules}
use Rattle.ss_expressions.proofs.LocalNames.{elsewhere, in_its_section}
use Rattle.ss_expressions.proofs.aim.ConditionAim.holds_now.Goals as goal
use Rattle.ss_expressions.proofs.aim.ConditionAim.holds_now.Goals.{else-self-via-then-self+else-section-self, else-self-via-else-self}

pub truth_now-requires : goal.truth_now-requires
truth_now-requires g c = elim c.else-self.branch [
  | else-self-via-then-self+else-section-self w ↦ search (in_its_section, rules)
  | else-self-via-else-self w ↦ search (elsewhere, rules)
]
