use Rattle.ss_check.proofs.SoundAsked.{conditions_sound}
use Rattle.ss_check.proofs.laws.asked_conditions_are_sound.Goals as goal

pub returns : goal.returns
returns c = conditions_sound
