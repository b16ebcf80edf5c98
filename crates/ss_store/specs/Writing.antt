-- Attribute values written, taken out and put back. Cited only by private functions of the store.
use Rattle.std.specs.Prelude.{ℕ, ℤ, List, slice_set, Option}
use Rattle.ss_store.specs.Rows.{RowTable}

-- a numbering with other values in row number i, or with none
abbrev pub with_values : ℕ → Option (List ℤ) → RowTable → RowTable
with_values i v rows = record { rows = rows.rows; values = slice_set rows.values i v }
