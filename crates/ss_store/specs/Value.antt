-- The value that a store is seen as: its tables, its entities, their lists and their board places.
use Rattle.std.specs.Prelude.{ℕ, List, [], length, replicate}
use Rattle.ss_store.specs.declared.rows.Row.{Row}
use Rattle.ss_store.specs.Tables.{Tables}
use Rattle.ss_store.specs.Store.{Store, empty_store}

-- the part kept in addition to the state: the rows, and how many heads and seats the board has
pub record Layout : Type 0 where
  -- the rows of each permanent class's entities
  pub made : List (List Row)
  -- the rows of the references, ended or not
  pub references : List Row
  -- how many heads the board has
  pub heads : ℕ
  -- how many seats the board has
  pub seats : ℕ

-- a store: the tables, the state, and the part kept for undoing
pub record StoreValue : Type 0 where
  -- the tables of the program
  pub tables : Tables
  -- the entities and their lists
  pub state : Store
  -- the part kept for undoing
  pub kept : Layout

-- a store with nothing made
abbrev pub empty_value : Tables → StoreValue
empty_value tables = record {
  tables = tables;
  state = empty_store tables;
  kept = record { made = replicate (length tables.classes) []; references = []; heads = tables.system; seats = 0 };
}
