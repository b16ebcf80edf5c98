-- The texts on pieces of the data: on the one at which a statement failed, and on the next ones.
use Rattle.std.specs.Prelude.{ℕ, ◌+◌, ◌==◌, ◌||◌, Bool, false, nat_lt, if◌then◌else◌, List, [], ◌∷◌, ◌++◌, length}
use Rattle.std.specs.Prelude.{take, drop, codes, decimal, slice_get, slice_index_or, Option, Some, None}
use Rattle.ss_words.specs.declared.characters.TheConstants.{MINUS_SIGN, PLUS_SIGN}
use Rattle.ss_program.specs.declared.target.Target.{Target}
use Rattle.ss_program.specs.declared.target.Target.TheVariants as targets
use Rattle.ss_program.specs.declared.variable.Variable.{Variable}
use Rattle.ss_program.specs.declared.variable.Variable.TheVariants.{Global, Local, Clock}
use Rattle.ss_program.specs.Program.{ProgramTable, class_of, section_of}
use Rattle.ss_data.specs.Numbers.{is_numeral}
use Rattle.ss_columns.specs.Quotes.{shown}
use Rattle.ss_faults.specs.declared.data_texts.TheConstants.{LONGEST_SHOWN}
use Rattle.ss_faults.specs.DataPieces.{PlacedPiece, data_pieces}
use Rattle.ss_faults.specs.Refusal.{RefusedPiece, refusal}

-- ---- a piece

-- the mark at the end of a piece that is cut
abbrev pub cut_mark : List ℕ → List ℕ
cut_mark bytes = if nat_lt LONGEST_SHOWN (length bytes) then codes ".." else []

-- the first bytes of a piece, as they are shown, and a mark if it has more
abbrev pub shown_piece : List ℕ → List ℕ
shown_piece bytes = shown (take LONGEST_SHOWN bytes) ++ cut_mark bytes

-- some bytes without the sign at the front
abbrev pub without_sign : List ℕ → List ℕ
without_sign [] = []
without_sign (b ∷ bs) = if b == MINUS_SIGN || b == PLUS_SIGN then bs else b ∷ bs

-- whether a `-` is at the front
abbrev pub is_negative : List ℕ → Bool
is_negative [] = false
is_negative (b ∷ bs) = b == MINUS_SIGN

-- why a piece gives no value: digits with or without a sign write a number that is out of range
abbrev pub unfit_words : List ℕ → List ℕ
unfit_words bytes =
    if is_numeral (without_sign bytes)
    then (if is_negative bytes then codes ", is too small a number" else codes ", is too great a number")
    else codes ", is no number"

-- the number of a piece
abbrev pub piece_number : ℕ → List ℕ
piece_number n = codes "Piece " ++ decimal n ++ codes " of the data"

-- the text of a piece, and its line
abbrev pub piece_text : PlacedPiece → List ℕ
piece_text piece = codes ", \"" ++ shown_piece piece.bytes ++ codes "\", line " ++ decimal piece.line

-- the reason why there is no value: no piece is left, or the piece gives none
abbrev pub unfit_text : Option PlacedPiece → List ℕ
unfit_text None = codes " is missing"
unfit_text (Some piece) = piece_text piece ++ unfit_words piece.bytes

-- the number of wanted pieces, and of those that are left
abbrev pub counts_text : ℕ → ℕ → List ℕ
counts_text wanted left = codes ". Wanted: " ++ decimal wanted ++ codes ". Left: " ++ decimal left ++ codes "."

-- the refused piece by its number, which counts those that are taken, and the reason
abbrev pub refused_text : ℕ → RefusedPiece → List ℕ
refused_text taken refused =
    piece_number (taken + refused.index + 1) ++ unfit_text refused.piece ++ codes "; it was meant for "

-- ---- the target of a piece

-- the name of a variable
abbrev pub variable_name : ProgramTable → ℕ → Variable → List ℕ
variable_name program section (Global i) = slice_index_or program.globals i []
variable_name program section (Local i) = slice_index_or (section_of program section).locals i []
variable_name program section Clock = codes "TIME.V"

-- the name of an attribute, and its class
abbrev pub attribute_name : ProgramTable → ℕ → ℕ → List ℕ
attribute_name program c a =
    slice_index_or (class_of program c).attributes a [] ++ codes " of " ++ (class_of program c).name

-- the name of a target
abbrev pub target_name : ProgramTable → ℕ → Target → List ℕ
target_name program section (targets.Variable x) = variable_name program section x
target_name program section (targets.Attribute c a i) = attribute_name program c a

-- the name of a target, if there is one
abbrev pub target_at : ProgramTable → ℕ → Option Target → List ℕ
target_at program section None = []
target_at program section (Some t) = target_name program section t

-- ---- sentences

-- READ: the sentence on the refused piece, with the numbers of taken pieces and of those that are
-- left
abbrev pub read_refusal : ProgramTable → ℕ → List Target → ℕ → ℕ → RefusedPiece → List ℕ
read_refusal program section ts taken left r =
    refused_text taken r ++ target_at program section (slice_get ts r.index) ++ counts_text (length ts) left

-- the same, if there is one
abbrev pub read_refusals : ProgramTable → ℕ → List Target → ℕ → ℕ → Option RefusedPiece → List ℕ
read_refusals program section ts taken left None = []
read_refusals program section ts taken left (Some r) = read_refusal program section ts taken left r

-- READ: the sentence on the first wanted piece that gives no value, by the number of taken pieces
-- and by those that are left
abbrev pub read_sentence : ProgramTable → ℕ → List Target → ℕ → List PlacedPiece → List ℕ
read_sentence program section ts taken left =
    read_refusals program section ts taken (length left) (refusal 0 (length ts) left)

-- START SIMULATION: the sentence on a piece that is no time of an entry
abbrev pub entry_refusal : ℕ → ℕ → RefusedPiece → List ℕ
entry_refusal taken left r = refused_text taken r ++ codes "the time of an entry" ++ counts_text 2 left

-- the same, if there is one
abbrev pub entry_refusals : ℕ → ℕ → Option RefusedPiece → List ℕ
entry_refusals taken left None = []
entry_refusals taken left (Some r) = entry_refusal taken left r

-- START SIMULATION: that sentence; an entry begins with a name, and its time is the second piece
abbrev pub entry_sentence : ℕ → List PlacedPiece → List ℕ
entry_sentence taken left = entry_refusals taken (length left) (refusal 1 1 (drop 1 left))

-- START SIMULATION: the sentence on a piece that is not the name of an external event
abbrev pub unknown_text : ℕ → ℕ → Option PlacedPiece → List ℕ
unknown_text taken left None = []
unknown_text taken left (Some piece) =
    piece_number (taken + 1) ++ piece_text piece ++ codes ", names no external event. Left: " ++ decimal left
    ++ codes "."

-- START SIMULATION: that sentence on the next piece
abbrev pub name_sentence : ℕ → List PlacedPiece → List ℕ
name_sentence taken left = unknown_text taken (length left) (slice_get left 0)

-- ---- the next pieces

-- one more piece, if there is one
abbrev pub more_text : Option PlacedPiece → List ℕ
more_text None = []
more_text (Some piece) = codes " " ++ shown_piece piece.bytes

-- the next piece after its line
abbrev pub first_text : PlacedPiece → List ℕ
first_text piece = codes "NEXT ON LINE " ++ decimal piece.line ++ codes ": " ++ shown_piece piece.bytes

-- the same, and two more pieces
abbrev pub row_text : PlacedPiece → Option PlacedPiece → Option PlacedPiece → List ℕ
row_text piece second third = first_text piece ++ more_text second ++ more_text third ++ codes "\n"

-- the same; or that no piece is left
abbrev pub next_text : Option PlacedPiece → Option PlacedPiece → Option PlacedPiece → List ℕ
next_text None second third = codes "NO PIECE IS LEFT\n"
next_text (Some piece) second third = row_text piece second third

-- the same for some data, by the number of its pieces that are taken
abbrev pub next_pieces_text : List ℕ → ℕ → List ℕ
next_pieces_text text taken =
    let left = drop taken (data_pieces text) in
    next_text (slice_get left 0) (slice_get (drop 1 left) 0) (slice_get (drop 1 (drop 1 left)) 0)
