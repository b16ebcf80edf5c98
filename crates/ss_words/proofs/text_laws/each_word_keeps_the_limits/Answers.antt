use Rattle.ss_words.proofs.TextLimitLemmas.{limits_hold}
use Rattle.ss_words.proofs.text_laws.each_word_keeps_the_limits.Goals as goal

pub returns : goal.returns
returns c = limits_hold
