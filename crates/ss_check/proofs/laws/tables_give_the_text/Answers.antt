use Rattle.ss_check.proofs.NamedSections.{text_again}
use Rattle.ss_check.proofs.laws.tables_give_the_text.Goals as goal

pub returns : goal.returns
returns c = text_again
