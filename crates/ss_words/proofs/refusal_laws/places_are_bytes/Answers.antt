use Rattle.ss_words.proofs.TextRefusalLemmas.{places_are_bytes}
use Rattle.ss_words.proofs.refusal_laws.places_are_bytes.Goals as goal

pub returns : goal.returns
returns c = places_are_bytes
