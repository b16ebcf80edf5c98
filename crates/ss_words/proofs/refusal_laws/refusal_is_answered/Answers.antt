use Rattle.ss_words.proofs.TextRefusalLemmas.{refusal_is_answered}
use Rattle.ss_words.proofs.refusal_laws.refusal_is_answered.Goals as goal

pub returns : goal.returns
returns c = refusal_is_answered
