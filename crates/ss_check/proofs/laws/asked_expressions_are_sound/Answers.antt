use Rattle.ss_check.proofs.SoundAsked.{expressions_sound}
use Rattle.ss_check.proofs.laws.asked_expressions_are_sound.Goals as goal

pub returns : goal.returns
returns c = expressions_sound
