use Rattle.std.proofs.Common.{not, rules}
use Rattle.std.proofs.lemmas.Fn.{filter_same}
use Rattle.std.specs.Prelude.{nat_eq}
use Rattle.ss_debug.specs.LineTable.{without_line}
use Rattle.ss_adapter.proofs.console.drop_line.Goals as goal

pub returns : goal.returns
unfolding without_line
returns c =
    filter_same _ (λ l. not (nat_eq l c.args.line)) _ (λ x b f k. search rules) _ _ c.retain.ensures.filtered
