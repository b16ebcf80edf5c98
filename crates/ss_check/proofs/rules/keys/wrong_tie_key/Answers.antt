use Rattle.std.proofs.Common.{refl, ap, ◌∙◌, Some}
use Rattle.ss_words.specs.Lists.{Name, all_of, several_view}
use Rattle.ss_preamble.specs.View.{key_view}
use Rattle.ss_check.specs.ItemRules.{wrong_key}
use Rattle.ss_check.proofs.rules.keys.wrong_tie_key.Goals as goal

pub returns-in-BreakTies : goal.returns-in-BreakTies
returns-in-BreakTies c =
    c.wrong_tie.ensures
    ∙ ap (λ (n : Name). wrong_key c.args.whole.now (Some n) (all_of (several_view key_view c.in-BreakTies.keys)))
    c.bytes.ensures
    ∙ rw c.in-BreakTies.is refl
