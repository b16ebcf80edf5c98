-- An entity more, and the last one less: the parts that a making adds, and its undoing takes off.
use Rattle.std.specs.Prelude.{◌≡◌, ℕ, ℤ, zero, suc, ◌-◌, ◌+◌, ◌<◌, ◌≤◌, Bool, true, false, if◌then◌else◌, List, []}
use Rattle.std.specs.Prelude.{◌∷◌, ◌++◌, length, take, replicate, slice_get, slice_index_or, Option, Some, None}
use Rattle.ss_links.specs.Board.{Board, list_at, head_of}
use Rattle.ss_program.specs.declared.kinds.Owner.TheVariants.{OwnedBy}
use Rattle.ss_store.specs.declared.rows.Row.{Row}
use Rattle.ss_store.specs.declared.shape.ClassShape.{ClassShape}
use Rattle.ss_store.specs.Lists.{change_at}
use Rattle.ss_store.specs.Tables.{class_of}
use Rattle.ss_store.specs.Rows.{RowTable, EntityTable, rows_in}
use Rattle.ss_store.specs.Store.{Entity, Store, entity, exists, fresh, with_reference}
use Rattle.ss_store.specs.declared.limits.TheConstants.{MOST_ENTITIES}
use Rattle.ss_words.specs.declared.limits.TheConstants.{MOST_REFERENCES}
use Rattle.ss_store.specs.Store.{is_member, owns_members}
use Rattle.ss_store.specs.Parts.{StoreParts, HeadEntry, SeatEntry}
use Rattle.ss_store.specs.Value.{Layout, StoreValue}

-- the numbering of the entities of class c: its own, or that of the references
abbrev pub numbering_by : Bool → ℕ → Option ℕ
numbering_by permanent c = if permanent then Some c else None

-- the numbering of the entities of class c, by the shape of the class
abbrev pub numbering : ClassShape → ℕ → Option ℕ
numbering shape c = numbering_by shape.permanent c

-- ---- rows

-- a numbering with one more row
abbrev pub with_row : Row → List ℤ → RowTable → RowTable
with_row row v rows = record { rows = rows.rows ++ row ∷ []; values = rows.values ++ Some v ∷ [] }

-- a numbering changed
abbrev pub with_table : (RowTable → RowTable) → EntityTable → Option ℕ → EntityTable
with_table change es None = record es { references = change es.references }
with_table change es (Some c) = record es { made = change_at change es.made c }

-- a numbering without its last row
abbrev pub without_last_row : RowTable → RowTable
without_last_row rows =
    record { rows = take (length rows.rows - 1) rows.rows; values = take (length rows.rows - 1) rows.values }

-- the entries of n heads of entity number k of class c, from its list number i on
abbrev pub heads_for : ℕ → ℕ → ℕ → ℕ → List HeadEntry
heads_for c k i zero = []
heads_for c k i (suc n) = record { owner = OwnedBy c; list = i; number = k } ∷ heads_for c k (suc i) n

-- the entries of n seats of entity number k of class c, from its set number i on
abbrev pub seats_for : ℕ → ℕ → ℕ → ℕ → List SeatEntry
seats_for c k i zero = []
seats_for c k i (suc n) = record { member = c; slot = i; number = k } ∷ seats_for c k (suc i) n

-- a board with n heads more, whose lists are empty
abbrev pub with_heads : ℕ → Board → Board
with_heads n board = record { lists = board.lists ++ replicate n []; seats = board.seats }

-- a board with n seats more, which are in no list
abbrev pub with_seats : ℕ → Board → Board
with_seats n board = record { lists = board.lists; seats = board.seats + n }

-- a board with these numbers of heads and seats more
abbrev pub with_places : ℕ → ℕ → Board → Board
with_places heads seats board = with_seats seats (with_heads heads board)

-- the number that the next entity of a numbering gets
abbrev pub next_number : StoreParts → Option ℕ → ℕ
next_number parts w = suc (length (rows_in parts.rows w).rows)

-- its row
abbrev pub next_row : StoreParts → ℕ → Row
next_row parts c = record { class = c; head = length parts.board.lists; seat = parts.board.seats }

-- the parts once an entity of class c with these attributes is made
abbrev pub with_next_entity : StoreParts → Option ℕ → ℕ → ClassShape → List ℤ → StoreParts
with_next_entity parts w c shape v = record parts {
  rows = with_table (with_row (next_row parts c) v) parts.rows w;
  numbers = parts.numbers ++ replicate shape.joined (next_number parts w);
  owners = parts.owners ++ heads_for c (next_number parts w) 0 shape.owned;
  members = parts.members ++ seats_for c (next_number parts w) 0 shape.joined;
  board = with_places shape.owned shape.joined parts.board;
}

-- the parts without the last entity of a numbering, whose heads and seats begin with these
abbrev pub without_last_entity : StoreParts → Option ℕ → ℕ → ℕ → StoreParts
without_last_entity parts w head seat = record parts {
  rows = with_table without_last_row parts.rows w;
  numbers = take seat parts.numbers;
  owners = take head parts.owners;
  members = take seat parts.members;
  board = record { lists = take head parts.board.lists; seats = seat };
}

-- a board whose heads and seats from these on can be taken off
pub record CanShrink (board : Board) (head seat : ℕ) : Type 0 where
  -- there are these heads
  pub heads : head ≤ length board.lists
  -- their lists are empty
  pub empty : (h : ℕ) → head ≤ h → list_at board.lists h ≡ []
  -- there are these seats
  pub seats : seat ≤ board.seats
  -- they are in no list
  pub free : (t : ℕ) → seat ≤ t → head_of board.lists t ≡ None

-- ---- the store

-- the greatest number of entities in a numbering
abbrev pub numbering_limit : ClassShape → ℕ
numbering_limit shape = if shape.permanent then MOST_ENTITIES else MOST_REFERENCES

-- the state with one more entity in a numbering
abbrev pub with_entity : Option ℕ → Store → Entity → Store
with_entity None store entity = with_reference store entity
with_entity (Some c) store entity = record store { made = change_at (λ es. es ++ entity ∷ []) store.made c }

-- the state with one more entity of class c, which is the last of its numbering
abbrev pub with_more : Store → ℕ → ClassShape → Store
with_more store c shape = with_entity (numbering shape c) store (fresh c shape)

-- the rows of a numbering
abbrev pub rows_of_numbering : Layout → Option ℕ → List Row
rows_of_numbering layout None = layout.references
rows_of_numbering layout (Some c) = slice_index_or layout.made c []

-- the kept part with the rows of a numbering changed, and these counts of heads and seats
abbrev pub layout_with : (List Row → List Row) → Layout → Option ℕ → ℕ → ℕ → Layout
layout_with change layout None heads seats =
    record layout { references = change layout.references; heads = heads; seats = seats }
layout_with change layout (Some c) heads seats =
    record layout { made = change_at change layout.made c; heads = heads; seats = seats }

-- the store with one more entity of class c
abbrev pub one_more : ℕ → StoreValue → StoreValue
one_more c store = record store {
  state = with_more store.state c (class_of store.tables c);
  kept = layout_with (λ rs. rs ++ record { class = c; head = store.kept.heads; seat = store.kept.seats } ∷ [])
      store.kept (numbering (class_of store.tables c) c)
      (store.kept.heads + (class_of store.tables c).owned) (store.kept.seats + (class_of store.tables c).joined);
}

-- a list without its last item
abbrev pub but_last : {A : Type 0} → List A → List A
but_last xs = take (length xs - 1) xs

-- the state without the last entity of a numbering
abbrev pub without_last : Option ℕ → Store → Store
without_last None store = record store { references = but_last store.references }
without_last (Some c) store = record store { made = change_at but_last store.made c }

-- the store without the last entity; these were the counts of heads and seats before it was made
abbrev pub one_less : ℕ → ℕ → ℕ → StoreValue → StoreValue
one_less c heads seats store = record store {
  state = without_last (numbering (class_of store.tables c) c) store.state;
  kept = layout_with but_last store.kept (numbering (class_of store.tables c) c) heads seats;
}

-- entity number k is the last of the numbering of class c, its heads and seats are the board's last, from these on, it
-- is in no list and owns no member
pub record FitsLast (c k heads seats : ℕ) (store : StoreValue) : Type 0 where
  -- there is such a class
  pub is_class : c < length store.tables.classes
  -- it is the last
  pub last : length (rows_of_numbering store.kept (numbering (class_of store.tables c) c)) ≡ k
  -- its row has these heads and seats
  pub row : slice_get (rows_of_numbering store.kept (numbering (class_of store.tables c) c)) (k - 1)
      ≡ Some (record { class = c; head = heads; seat = seats })
  -- its heads are the last
  pub last_heads : heads + (class_of store.tables c).owned ≡ store.kept.heads
  -- its seats are the last
  pub last_seats : seats + (class_of store.tables c).joined ≡ store.kept.seats
  -- it exists
  pub there : exists store.state c k ≡ true
  -- it is in no list
  pub free : is_member store.tables.sets store.state c k ≡ false
  -- it owns no member
  pub empty : owns_members (entity store.state c k) ≡ false

-- there may be one more entity of class c
abbrev pub HasRoom : ℕ → StoreValue → Type 0
HasRoom c store = length (rows_of_numbering store.kept (numbering (class_of store.tables c) c))
    < numbering_limit (class_of store.tables c)

-- an entity of class c was made, and can be taken off again
pub record Makes (c : ℕ) (old new : StoreValue) : Type 0 where
  -- the store with it
  pub is : new ≡ one_more c old
  -- it is the last
  pub fits : FitsLast c (suc (length (rows_of_numbering old.kept (numbering (class_of old.tables c) c))))
      old.kept.heads old.kept.seats new
  -- without it, the store is as before
  pub back : one_less c old.kept.heads old.kept.seats new ≡ old

-- n entities of class c can be taken off, last first, and this store is left
abbrev pub TakesOff : ℕ → ℕ → StoreValue → StoreValue → Type 0
TakesOff c zero store rest = store ≡ rest
TakesOff c (suc n) store rest = (k heads seats : ℕ) × FitsLast c k heads seats store
    × TakesOff c n (one_less c heads seats store) rest

-- n entities of permanent class c were made, and can be taken off again
pub record MakesAll (c n : ℕ) (old new : StoreValue) : Type 0 where
  -- the tables are the same
  pub tables : new.tables ≡ old.tables
  -- the class has n more entities
  pub state : new.state ≡ record old.state {
    made = change_at (λ es. es ++ replicate n (fresh c (class_of old.tables c))) old.state.made c;
  }
  -- their rows
  pub rows : List Row
  -- how many heads there are then
  pub heads : ℕ
  -- how many seats there are then
  pub seats : ℕ
  -- the rows are kept
  pub kept : new.kept ≡ layout_with (λ rs. rs ++ rows) old.kept (Some c) heads seats
  -- as many rows as entities
  pub count : length rows ≡ n
  -- they can be taken off, last first
  pub takes_off : TakesOff c n new old
