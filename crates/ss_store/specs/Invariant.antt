-- Private: the entities, the heads and the seats of a store fit one another.
use Rattle.std.specs.Prelude.{◌≡◌, ℕ, ℤ, suc, ◌+◌, ◌<◌, ◌≤◌, true, false, List, [], ◌∷◌, length, map, slice_get}
use Rattle.std.specs.Prelude.{Option, Some, None}
use Rattle.ss_links.specs.Board.{IsSound, list_at}
use Rattle.ss_links.specs.Seats.{has}
use Rattle.ss_program.specs.declared.kinds.Owner.TheVariants.{System, OwnedBy}
use Rattle.ss_store.specs.declared.rows.Row.{Row}
use Rattle.ss_store.specs.declared.shape.ClassShape.{ClassShape}
use Rattle.ss_store.specs.declared.shape.SetShape.{SetShape}
use Rattle.ss_store.specs.Tables.{class_in, class_of, IsSet, AreTables}
use Rattle.ss_store.specs.Store.{AreInRange}
use Rattle.ss_store.specs.declared.limits.TheConstants.{MOST_ENTITIES}
use Rattle.ss_words.specs.declared.limits.TheConstants.{MOST_REFERENCES}
use Rattle.ss_store.specs.Rows.{RowTable, EntityTable, rows_in}
use Rattle.ss_store.specs.Parts.{StoreParts, SeatEntry, head_at, seat_at}

-- the list is of an owner that exists, and the seat of a member that exists, in one set
pub record Joins (parts : StoreParts) (h t : ℕ) : Type 0 where
  -- the set
  pub set : SetShape
  -- the owner's number
  pub owner : ℕ
  -- the member's number
  pub member : ℕ
  -- it is one of the program's
  pub is_set : IsSet parts.tables.sets set
  -- the head is the owner's
  pub head : head_at parts.rows set owner ≡ Some h
  -- the seat is the member's
  pub seat : seat_at parts.rows set member ≡ Some t

-- the heads and the seats of row number i are those of entity number i + 1 of its class
pub record IsRow (parts : StoreParts) (i : ℕ) (row : Row) : Type 0 where
  -- its class is one of the program's
  pub class : row.class < length parts.tables.classes
  -- the heads from its first on are of its lists
  pub heads : (k : ℕ) → k < (class_of parts.tables row.class).owned
      → slice_get parts.owners (row.head + k) ≡ Some (record { owner = OwnedBy row.class; list = k; number = suc i })
  -- the seats from its first on are its own
  pub seats : (k : ℕ) → k < (class_of parts.tables row.class).joined
      → slice_get parts.members (row.seat + k) ≡ Some (record { member = row.class; slot = k; number = suc i })

-- how many heads, or seats, the entities of these rows have
abbrev pub used_of : (ClassShape → ℕ) → List ClassShape → List Row → ℕ
used_of count cs [] = 0
used_of count cs (r ∷ rs) = count (class_in cs r.class) + used_of count cs rs

-- how many the entities of the permanent classes have
abbrev pub used_made : (ClassShape → ℕ) → List ClassShape → List RowTable → ℕ
used_made count cs [] = 0
used_made count cs (t ∷ ts) = used_of count cs t.rows + used_made count cs ts

-- how many all entities have
abbrev pub used_in : (ClassShape → ℕ) → List ClassShape → EntityTable → ℕ
used_in count cs es = used_made count cs es.made + used_of count cs es.references.rows

-- the entities, the heads and the seats fit; each member of a list is a member of the list's set
pub record IsStore (parts : StoreParts) : Type 0 where
  -- the tables are a program's
  pub tables : AreTables parts.tables
  -- no seat is in the lists twice
  pub sound : IsSound parts.board
  -- each head is of something
  pub heads : length parts.owners ≡ length parts.board.lists
  -- each seat is of something
  pub seats : length parts.members ≡ parts.board.seats
  -- the number of each seat's member is its
  pub numbers : parts.numbers ≡ map (λ (m : SeatEntry). m.number) parts.members
  -- each class has its own numbering, which is empty if the class is not permanent
  pub classes : length parts.rows.made ≡ length parts.tables.classes
  -- each row has values, or has ended
  pub rows : (w : Option ℕ) → length (rows_in parts.rows w).rows ≡ length (rows_in parts.rows w).values
  -- each row has its heads and seats
  pub each : (w : Option ℕ) (i : ℕ) (r : Row) → slice_get (rows_in parts.rows w).rows i ≡ Some r → IsRow parts i r
  -- an entity has a value for each attribute of its class
  pub value_counts : (w : Option ℕ) (i : ℕ) (r : Row) (v : List ℤ) → slice_get (rows_in parts.rows w).rows i ≡ Some r
      → slice_get (rows_in parts.rows w).values i ≡ Some (Some v)
      → length v ≡ (class_of parts.tables r.class).attributes
  -- which are in range
  pub values_in_range : (w : Option ℕ) (i : ℕ) (v : List ℤ) → slice_get (rows_in parts.rows w).values i ≡ Some (Some v)
      → AreInRange v
  -- each row in the numbering of a class is of that class, which is permanent
  pub made : (c i : ℕ) (r : Row) → slice_get (rows_in parts.rows (Some c)).rows i ≡ Some r
      → (r.class ≡ c) × ((class_of parts.tables c).permanent ≡ true)
  -- no entity of a permanent class ends
  pub stays : (c i : ℕ) → slice_get (rows_in parts.rows (Some c)).values i ≡ Some None → ⊥
  -- an entity with a reference is of no permanent class
  pub not_permanent : (i : ℕ) (r : Row) → slice_get parts.rows.references.rows i ≡ Some r
      → (class_of parts.tables r.class).permanent ≡ false
  -- the first heads are those of the system
  pub system : (k : ℕ) → k < parts.tables.system
      → slice_get parts.owners k ≡ Some (record { owner = System; list = k; number = 0 })
  -- each seat of a list is there as a member of the list's set
  pub are_members : (h t : ℕ) → has (list_at parts.board.lists h) t ≡ true → Joins parts h t
  -- a permanent class has few entities
  pub few_made : (c : ℕ) → length (rows_in parts.rows (Some c)).rows ≤ MOST_ENTITIES
  -- few references were given
  pub few_references : length parts.rows.references.rows ≤ MOST_REFERENCES
  -- there are as many heads as the system and the entities have lists
  pub used_heads : length parts.owners ≡ parts.tables.system + used_in (λ k. k.owned) parts.tables.classes parts.rows
  -- there are as many seats as the entities have sets to be in
  pub used_seats : length parts.members ≡ used_in (λ k. k.joined) parts.tables.classes parts.rows
