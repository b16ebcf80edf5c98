-- The pieces of the data, each with its line in the data file.
use Rattle.std.specs.Prelude.{ℕ, ◌+◌, ◌==◌, Bool, true, not, nat_lt, if◌then◌else◌, List, [], ◌∷◌, length, filter}
use Rattle.ss_words.specs.declared.characters.TheConstants.{LINE_FEED}
use Rattle.ss_data.specs.Pieces.{is_separator}

-- a piece and its line
pub record PlacedPiece : Type 0 where
  -- its line, the first of which is line 1
  pub line : ℕ
  -- its bytes
  pub bytes : List ℕ

-- the line of the byte after a separator on line l: a line feed ends its line
abbrev pub line_after : ℕ → ℕ → ℕ
line_after l separator = if separator == LINE_FEED then l + 1 else l

-- some parts, with one more byte at the front of the first one
abbrev pub onto_first : ℕ → List PlacedPiece → List PlacedPiece
onto_first b [] = []
onto_first b (part ∷ parts) = record { line = part.line; bytes = b ∷ part.bytes } ∷ parts

-- the parts between separators, of a text that begins on line l
abbrev pub parts : ℕ → List ℕ → List PlacedPiece
parts l [] = record { line = l; bytes = [] } ∷ []
parts l (b ∷ bs) =
    if is_separator b then record { line = l; bytes = [] } ∷ parts (line_after l b) bs else onto_first b (parts l bs)

-- whether a part has a byte
abbrev pub has_byte : PlacedPiece → Bool
has_byte part = nat_lt 0 (length part.bytes)

-- the pieces of a text that begins on line l: its parts that have a byte
abbrev pub pieces_from : ℕ → List ℕ → List PlacedPiece
pieces_from l text = filter has_byte (parts l text)

-- the pieces of the data, in order
abbrev pub data_pieces : List ℕ → List PlacedPiece
data_pieces text = pieces_from 1 text

-- whether a byte belongs to a piece
abbrev pub in_piece : ℕ → Bool
in_piece b = not (is_separator b)

-- whether no separator is at the front
abbrev pub begins_piece : List ℕ → Bool
begins_piece [] = true
begins_piece (b ∷ bs) = in_piece b
