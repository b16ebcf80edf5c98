-- The items of the data, and the value that is taken next.
use Rattle.std.specs.Prelude.{ℕ, ℤ, List, map, Option, Some, None, Result, Ok, Err, slice_get}
use Rattle.ss_words.specs.declared.fault.RunFault.{RunFault}
use Rattle.ss_words.specs.declared.fault.RunFault.TheVariants.{NoMoreData, NotANumber}
use Rattle.ss_data.specs.Pieces.{pieces}
use Rattle.ss_data.specs.Numbers.{number}

-- a piece, with the number that it writes or none
pub record Item : Type 0 where
  -- its bytes
  pub bytes : List ℕ
  -- the number that it writes
  pub value : Option ℤ

-- a piece as an item
abbrev pub item : List ℕ → Item
item piece = record { bytes = piece; value = number piece }

-- the items of the data, in order
abbrev pub items : List ℕ → List Item
items text = map item (pieces text)

-- the items of the data, and how many of them are taken
pub record DataRead : Type 0 where
  -- the items
  pub items : List Item
  -- how many are taken
  pub taken : ℕ

-- the data with nothing taken
abbrev pub data_at_start : List ℕ → DataRead
data_at_start text = record { items = items text; taken = 0 }

-- the data with n items taken
abbrev pub with_taken : DataRead → ℕ → DataRead
with_taken read n = record read { taken = n }

-- the number, or that there is none
abbrev pub number_or_fault : Option ℤ → Result ℤ RunFault
number_or_fault None = Err NotANumber
number_or_fault (Some z) = Ok z

-- the number of an item that is there
abbrev pub value_or_fault : Option Item → Result ℤ RunFault
value_or_fault None = Err NoMoreData
value_or_fault (Some i) = number_or_fault i.value

-- the number of the first item that is not taken, or why there is none
abbrev pub next_value : DataRead → Result ℤ RunFault
next_value read = value_or_fault (slice_get read.items read.taken)
