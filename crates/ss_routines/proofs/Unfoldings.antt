-- Definitions that functions unfold together: the steps that a reading is made of, and readings made of readings.
use Rattle.std.specs.Prelude.{⊤}
use Rattle.ss_words.specs.Reading.{bind, pure, refuse, look, skip, whole, end_of_words}
use Rattle.ss_words.specs.Noting.{here}
use Rattle.ss_routines.specs.Combined.{pair, behind, before, made, if_mark, if_word, either, by_table}
use Rattle.ss_routines.specs.Combined.{either_of, made_of, must}
use Rattle.ss_routines.specs.SimpleReading.{subscript_at, making_at}
use Rattle.ss_routines.specs.SimpleReading.{print_at, exchange_at}
use Rattle.ss_routines.specs.SimpleReading.{call_at, transfer_at}
use Rattle.ss_routines.specs.SectionReading.{as_variables, a_define, head_at}
use Rattle.ss_routines.specs.PlacesAtLines.{noting_one, noting_branch, noting_else, noting_controlled}
use Rattle.ss_routines.specs.PlacesAtLines.{noting_repeated, noting_last, noting_must, noting_local, noting_section}

-- ---- steps

-- one reading after another
unfoldable pub steps : ⊤
unfolding bind pure refuse
steps = tt

-- a reading chosen by the next word
unfoldable pub steps_by_word : ⊤
unfolding steps look skip
steps_by_word = tt

-- a word of a table
unfoldable pub steps_by_table : ⊤
unfolding steps_by_word by_table
steps_by_table = tt

-- a reading and nothing after it
unfoldable pub whole_text : ⊤
unfolding steps_by_word whole end_of_words
whole_text = tt

-- ---- readings made of readings

-- readings in turn, and the value that is made of the parts that they read
unfoldable pub in_turn : ⊤
unfolding steps pair behind before made
in_turn = tt

-- the same, and readings of which one is chosen
unfoldable pub choices : ⊤
unfolding in_turn if_mark if_word either either_of made_of must
choices = tt

-- ---- statements

-- PRINT, SKIP and READ
unfoldable pub exchanges : ⊤
unfolding choices print_at exchange_at
exchanges = tt

-- CREATE and DESTROY
unfoldable pub makings : ⊤
unfolding choices subscript_at making_at
makings = tt

-- CALL and the statements of control
unfoldable pub transfers : ⊤
unfolding choices call_at transfer_at
transfers = tt

-- ---- sections

-- MAIN, ROUTINE and EVENT
unfoldable pub heads : ⊤
unfolding steps_by_word head_at
heads = tt

-- a local DEFINE
unfoldable pub local_names : ⊤
unfolding in_turn as_variables a_define
local_names = tt

-- ---- places

-- readings that note places with their lines
unfoldable pub notes : ⊤
unfolding steps here noting_one noting_branch noting_else noting_controlled noting_repeated noting_last noting_must
    noting_local noting_section
notes = tt
