use Rattle.ss_words.proofs.TextRefusalLemmas.{refusal_has_a_place}
use Rattle.ss_words.proofs.refusal_laws.refusal_has_a_place.Goals as goal

pub returns : goal.returns
returns c = refusal_has_a_place
