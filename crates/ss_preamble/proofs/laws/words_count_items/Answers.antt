use Rattle.ss_preamble.proofs.ItemLimits.{words_count_items}
use Rattle.ss_preamble.proofs.laws.words_count_items.Goals as goal

pub returns : goal.returns
returns c = words_count_items
