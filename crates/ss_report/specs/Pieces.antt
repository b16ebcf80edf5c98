-- The lines that the pieces of a compiled picture represent.
use Rattle.std.specs.Prelude.{ℕ, Bool, true, false, List, [], ◌∷◌, ◌++◌, map, replicate, sum_by}
use Rattle.std.specs.List.{flat_map}
use Rattle.ss_words.specs.declared.characters.TheConstants.{ASTERISK}
use Rattle.ss_report.specs.Pictures.{Part, field, byte, line_end}
use Rattle.ss_report.specs.declared.piece.Piece.{Piece}
use Rattle.ss_report.specs.declared.piece.Piece.TheVariants as p

-- the parts that a piece represents
abbrev pub piece_parts : Piece → List Part
piece_parts (p.Text t) = map (λ b. byte b) t.items
piece_parts (p.Field n) = field n ∷ []
piece_parts p.LineEnd = line_end ∷ []

-- whether a piece is a field
abbrev pub is_field_piece : Piece → Bool
is_field_piece (p.Text t) = false
is_field_piece (p.Field n) = true
is_field_piece p.LineEnd = false

-- the parts of pieces, in order
abbrev pub parts_of : List Piece → List Part
parts_of ps = flat_map piece_parts ps

-- lines with these bytes before the first one
abbrev pub before_first_line : List ℕ → List (List ℕ) → List (List ℕ)
before_first_line bs [] = bs ∷ []
before_first_line bs (l ∷ ls) = (bs ++ l) ∷ ls

-- the lines with these parts
abbrev pub lines_with_parts : List Part → List (List ℕ)
lines_with_parts [] = []
lines_with_parts (field n ∷ ps) = before_first_line (replicate n ASTERISK) (lines_with_parts ps)
lines_with_parts (byte b ∷ ps) = before_first_line (b ∷ []) (lines_with_parts ps)
lines_with_parts (line_end ∷ ps) = [] ∷ lines_with_parts ps

-- how many bytes a part has in the text, whatever the values
abbrev pub part_len : Part → ℕ
part_len (field n) = n
part_len (byte b) = 1
part_len line_end = 1

-- how many bytes parts have together
abbrev pub parts_len : List Part → ℕ
parts_len ps = sum_by part_len ps
