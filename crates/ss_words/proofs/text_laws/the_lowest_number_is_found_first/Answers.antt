use Rattle.ss_words.proofs.TextOrderLemmas.{lowest_first}
use Rattle.ss_words.proofs.text_laws.the_lowest_number_is_found_first.Goals as goal

pub returns : goal.returns
returns c = lowest_first
