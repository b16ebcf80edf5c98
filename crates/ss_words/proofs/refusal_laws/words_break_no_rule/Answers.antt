use Rattle.ss_words.proofs.TextRefusalLemmas.{words_break_no_rule}
use Rattle.ss_words.proofs.refusal_laws.words_break_no_rule.Goals as goal

pub returns : goal.returns
returns c = words_break_no_rule
