use Rattle.std.proofs.Common.{◌∙◌}
use Rattle.ss_preamble.specs.View.{item_view}
use Rattle.ss_check.proofs.Keys.{keys_found}
use Rattle.ss_check.proofs.rules.keys.has_wrong_keys.Goals as goal

pub returns : goal.returns
returns c =
    c.is_some.ensures
    ∙ keys_found (λ n. n.now) c.wrong_key_of.result c.args.whole.now (item_view c.args.item.now) c.wrong_key_of.ensures
