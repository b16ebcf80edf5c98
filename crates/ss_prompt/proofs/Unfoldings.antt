-- Definitions that functions unfold together.
use Rattle.std.specs.Prelude.{⊤}
use Rattle.ss_prompt.specs.Histories.{HasLookedBack}
use Rattle.ss_prompt.specs.Meant.{IsMeantRefused}
use Rattle.ss_prompt.specs.Prompting.{prompt_answer, state_led, IsRefused}

-- a command's answer, and the states after it
unfoldable pub commands : ⊤
unfolding prompt_answer state_led IsRefused
commands = tt

-- the state in which a command on what a text asks is refused memory
unfoldable pub meant : ⊤
unfolding IsMeantRefused HasLookedBack
meant = tt
