-- Private: the parts of a store, the value that they represent, and the heads and seats of lists.
use Rattle.std.specs.Prelude.{ℕ, ℤ, zero, suc, ◌+◌, List, [], ◌∷◌, length, map, slice_index_or, Option, Some, None}
use Rattle.std.specs.Prelude.{option_map}
use Rattle.ss_links.specs.Board.{Board, list_at}
use Rattle.ss_program.specs.declared.kinds.Owner.{Owner}
use Rattle.ss_program.specs.declared.kinds.Owner.TheVariants.{System, OwnedBy}
use Rattle.ss_store.specs.declared.rows.Row.{Row}
use Rattle.ss_store.specs.declared.shape.ClassShape.{ClassShape}
use Rattle.ss_store.specs.declared.shape.SetShape.{SetShape}
use Rattle.ss_store.specs.Tables.{Tables, class_in}
use Rattle.ss_store.specs.Store.{Entity, Store}
use Rattle.ss_store.specs.Rows.{RowTable, EntityTable, row_of}
use Rattle.ss_store.specs.Value.{Layout, StoreValue}

-- the list that a head belongs to: an owner's list
pub record HeadEntry : Type 0 where
  -- the system, or a class
  pub owner : Owner
  -- the number of the list among those of the owner
  pub list : ℕ
  -- the owner's number in its class; the system's is 0
  pub number : ℕ

-- the member and the set that a seat belongs to: a member in one of its sets
pub record SeatEntry : Type 0 where
  -- the member's class
  pub member : ℕ
  -- the number of the set among those in which the class may be
  pub slot : ℕ
  -- the member's number in its class
  pub number : ℕ

-- all parts of a store, and the entry of each head and each seat
pub record StoreParts : Type 0 where
  -- the tables of the program
  pub tables : Tables
  -- the rows of all entities, and the values of their attributes
  pub rows : EntityTable
  -- the number of each seat's member
  pub numbers : List ℕ
  -- the entry of each head
  pub owners : List HeadEntry
  -- the entry of each seat
  pub members : List SeatEntry
  -- the lists of the heads, and the count of seats
  pub board : Board

-- the number of the member whose seat it is
abbrev pub number_at : List ℕ → ℕ → ℕ
number_at ns t = slice_index_or ns t 0

-- the members' numbers in the list of a head
abbrev pub numbers_under : Board → List ℕ → ℕ → List ℕ
numbers_under board ns h = map (number_at ns) (list_at board.lists h)

-- ---- the state

-- the lists of n heads, from head h on
abbrev pub owned_from : (ℕ → List ℕ) → ℕ → ℕ → List (List ℕ)
owned_from at h zero = []
owned_from at h (suc n) = at h ∷ owned_from at (suc h) n

-- the entity of a row with these attributes
abbrev pub entity_with : List ClassShape → (ℕ → List ℕ) → Row → List ℤ → Entity
entity_with cs at row v =
    record { class = row.class; attributes = v; owned = owned_from at row.head (class_in cs row.class).owned }

-- the entity that a reference names
abbrev pub reference_with : List ClassShape → (ℕ → List ℕ) → Row → Option (List ℤ) → Option Entity
reference_with cs at row None = None
reference_with cs at row (Some v) = Some (entity_with cs at row v)

-- an entity that was made
abbrev pub made_with : List ClassShape → (ℕ → List ℕ) → Row → Option (List ℤ) → Entity
made_with cs at row None = entity_with cs at row []
made_with cs at row (Some v) = entity_with cs at row v

-- rows and values taken together
abbrev pub zip_rows : {A : Type 0} → (Row → Option (List ℤ) → A) → List Row → List (Option (List ℤ)) → List A
zip_rows f [] vs = []
zip_rows f (r ∷ rs) [] = []
zip_rows f (r ∷ rs) (v ∷ vs) = f r v ∷ zip_rows f rs vs

-- the rows and values of a numbering taken together
abbrev pub zip_table : {A : Type 0} → (Row → Option (List ℤ) → A) → RowTable → List A
zip_table f rows = zip_rows f rows.rows rows.values

-- the state of rows, with these lists of heads
abbrev pub state_at : Tables → (ℕ → List ℕ) → EntityTable → Store
state_at tables at es = record {
  made = map (zip_table (made_with tables.classes at)) es.made;
  references = zip_table (reference_with tables.classes at) es.references;
  system = owned_from at 0 tables.system;
}

-- the state of the parts
abbrev pub state_of : StoreParts → Store
state_of parts = state_at parts.tables (numbers_under parts.board parts.numbers) parts.rows

-- the kept part of the value
abbrev pub layout_of : StoreParts → Layout
layout_of parts = record {
  made = map (λ t. t.rows) parts.rows.made;
  references = parts.rows.references.rows;
  heads = length parts.board.lists;
  seats = parts.board.seats;
}

-- the store that it is
abbrev pub value_of : StoreParts → StoreValue
value_of parts = record { tables = parts.tables; state = state_of parts; kept = layout_of parts }

-- ---- the head of a list and the seat of a member on the board

-- the head of a set's list, by its owner's number, if the owner exists
abbrev pub head_by : Owner → EntityTable → SetShape → ℕ → Option ℕ
head_by System es shape o = Some shape.list
head_by (OwnedBy c) es shape o = option_map (λ r. r.head + shape.list) (row_of es c o)

-- the head of a set's list, by the number of the set's own owner
abbrev pub head_at : EntityTable → SetShape → ℕ → Option ℕ
head_at es shape o = head_by shape.owner es shape o

-- the seat of a member in a set, if the member exists
abbrev pub seat_at : EntityTable → SetShape → ℕ → Option ℕ
seat_at es shape k = option_map (λ r. r.seat + shape.slot) (row_of es shape.member k)

-- the number by which a head knows its owner; the system's is 0
abbrev pub owner_number : Owner → ℕ → ℕ
owner_number System o = 0
owner_number (OwnedBy c) o = o
