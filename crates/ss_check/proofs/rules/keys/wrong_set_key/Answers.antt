use Rattle.std.proofs.Common.{refl, ◌∙◌}
use Rattle.ss_check.proofs.rules.keys.wrong_set_key.Goals as goal

pub returns-in-Sets : goal.returns-in-Sets
returns-in-Sets c = c.wrong_rank_of.ensures ∙ rw (c.in-Sets.is, c.wrong_set.ensures) refl
