-- The first of the wanted pieces of the data that gives no value.
use Rattle.std.specs.Prelude.{ℕ, zero, suc, ◌+◌, Bool, false, if◌then◌else◌, List, drop}
use Rattle.std.specs.Prelude.{slice_get, Option, Some, None, is_some}
use Rattle.ss_data.specs.Numbers.{number}
use Rattle.ss_faults.specs.DataPieces.{PlacedPiece}

-- a wanted piece that gives no value
pub record RefusedPiece : Type 0 where
  -- how many wanted pieces come before it
  pub index : ℕ
  -- the piece; none if no piece is left
  pub piece : Option PlacedPiece

-- whether there is a piece, and it writes a number in range
abbrev pub gives_value : Option PlacedPiece → Bool
gives_value None = false
gives_value (Some piece) = is_some (number piece.bytes)

-- the first of the next n wanted pieces that gives no value, if there is one; the next one is
-- number k of the wanted pieces, which are counted from 0
unfoldable pub refusal : ℕ → ℕ → List PlacedPiece → Option RefusedPiece
refusal k zero pieces = None
refusal k (suc n) pieces =
    if gives_value (slice_get pieces 0) then refusal (k + 1) n (drop 1 pieces)
    else Some (record { index = k; piece = slice_get pieces 0 })
