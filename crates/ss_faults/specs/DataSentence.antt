-- The sentence on the piece of the data at which a READ or a START SIMULATION failed.
use Rattle.std.specs.Prelude.{ℕ, List, [], drop}
use Rattle.ss_words.specs.declared.fault.RunFault.{RunFault}
use Rattle.ss_words.specs.declared.fault.RunFault.TheVariants as f
use Rattle.ss_program.specs.declared.place.Place.{Place}
use Rattle.ss_program.specs.declared.place.Place.TheVariants as places
use Rattle.ss_program.specs.Program.{ProgramTable}
use Rattle.ss_state.specs.State.{State}
use Rattle.ss_faults.specs.DataPieces.{PlacedPiece, data_pieces}
use Rattle.ss_faults.specs.DataTexts.{read_sentence, entry_sentence, name_sentence}

-- the pieces of the data that are not taken before the statement
abbrev pub pieces_left : State → List ℕ → List PlacedPiece
pieces_left state data_text = drop state.feed.taken (data_pieces data_text)

-- F16, F17: the sentence on the first piece that gives no value, for a target of READ or for the
-- time of an entry
abbrev pub no_value_sentence : ProgramTable → State → List ℕ → Place → List ℕ
no_value_sentence program state data_text (places.Read ts) =
    read_sentence program state.frame.section ts state.feed.taken (pieces_left state data_text)
no_value_sentence program state data_text place = entry_sentence state.feed.taken (pieces_left state data_text)

-- the sentence on the piece of the data at which a statement failed; empty if the fault is not
-- about the data
unfoldable pub data_sentence : ProgramTable → State → List ℕ → RunFault → Place → List ℕ
data_sentence program state data_text f.NoMoreData place = no_value_sentence program state data_text place
data_sentence program state data_text f.NotANumber place = no_value_sentence program state data_text place
data_sentence program state data_text f.NotExternal place =
    name_sentence state.feed.taken (pieces_left state data_text)
data_sentence program state data_text fault place = []
