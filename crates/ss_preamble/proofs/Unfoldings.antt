-- Definitions that functions unfold together: the steps that a reading is made of.
use Rattle.std.specs.Prelude.{⊤}
use Rattle.ss_words.specs.Reading.{bind, pure, refuse, look, skip}
use Rattle.ss_words.specs.Noting.{here}
use Rattle.ss_preamble.specs.ItemsAtLines.{next_item_at}

-- one reading after another
unfoldable pub steps : ⊤
unfolding bind pure refuse
steps = tt

-- a reading chosen by the next word
unfoldable pub steps_by_word : ⊤
unfolding steps look skip
steps_by_word = tt

-- a reading that notes the line of the next word
unfoldable pub steps_at_line : ⊤
unfolding steps here
steps_at_line = tt

-- the same of an item
unfoldable pub item_at_line : ⊤
unfolding steps_at_line next_item_at
item_at_line = tt
