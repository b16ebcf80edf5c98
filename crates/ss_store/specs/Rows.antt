-- The place of each entity on a board. Cited only by the store's view and invariant.
use Rattle.std.specs.Prelude.{ℕ, ℤ, zero, suc, ◌==◌, if◌then◌else◌, max, List, [], length, slice_get, slice_index_or}
use Rattle.std.specs.Prelude.{Option, Some, None}
use Rattle.std.specs.Option.{option_or}
use Rattle.ss_store.specs.declared.rows.Row.{Row}

-- the rows of entities 1, 2, .. of one numbering, and the values of each; none if it has ended
pub record RowTable : Type 0 where
  -- the place of each on the board
  pub rows : List Row
  -- the values of each one's attributes
  pub values : List (Option (List ℤ))

-- the entities of each permanent class, and those with references
pub record EntityTable : Type 0 where
  -- by the numbers of their classes
  pub made : List RowTable
  -- by their references
  pub references : RowTable

-- a numbering in which nothing was made
abbrev pub no_rows : RowTable
no_rows = record { rows = []; values = [] }

-- a numbering: that of a permanent class, or that of the references
abbrev pub rows_in : EntityTable → Option ℕ → RowTable
rows_in es None = es.references
rows_in es (Some c) = slice_index_or es.made c no_rows

-- how many rows the longer of two numberings has: that of class c, and that of the references
abbrev pub greatest_number : EntityTable → ℕ → ℕ
greatest_number es c = max (length (rows_in es (Some c)).rows) (length es.references.rows)

-- the row of an entity of class c that has not ended
abbrev pub row_if : ℕ → Option Row → Option (Option (List ℤ)) → Option Row
row_if c (Some r) (Some (Some v)) = if r.class == c then Some r else None
row_if c (Some r) (Some None) = None
row_if c (Some r) None = None
row_if c None v = None

-- row number i of a numbering, if it is of class c and has not ended
abbrev pub row_in : RowTable → ℕ → ℕ → Option Row
row_in rows c i = row_if c (slice_get rows.rows i) (slice_get rows.values i)

-- the row of entity number k of class c
abbrev pub row_of : EntityTable → ℕ → ℕ → Option Row
row_of es c zero = None
row_of es c (suc i) = option_or (row_in (rows_in es (Some c)) c i) (row_in es.references c i)

-- the values of the attributes of an entity of class c that has not ended
abbrev pub values_if : ℕ → Option Row → Option (Option (List ℤ)) → Option (List ℤ)
values_if c (Some r) (Some (Some v)) = if r.class == c then Some v else None
values_if c (Some r) (Some None) = None
values_if c (Some r) None = None
values_if c None v = None

-- the values of row number i of a numbering, if it is of class c and has not ended
abbrev pub values_in : RowTable → ℕ → ℕ → Option (List ℤ)
values_in rows c i = values_if c (slice_get rows.rows i) (slice_get rows.values i)

-- the values of the attributes of entity number k of class c
abbrev pub values_of : EntityTable → ℕ → ℕ → Option (List ℤ)
values_of es c zero = None
values_of es c (suc i) = option_or (values_in (rows_in es (Some c)) c i) (values_in es.references c i)
