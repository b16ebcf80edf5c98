-- Rows of comma-separated values.
use Rattle.std.specs.Prelude.{ℕ, List}
use Rattle.csv.specs.Writing.{default_writer, row_text}

-- a row of these fields, as the kit's writer of comma-separated values writes it
abbrev pub csv_row : List (List ℕ) → List ℕ
csv_row fields = row_text default_writer fields
