-- A well-formed store: the facts that hold of its entities and lists after any calls.
use Rattle.std.specs.Prelude.{◌≡◌, ◌<◌, ◌≤◌, ℕ, true, false, List, [], ◌∷◌, length, Option, Some, None}
use Rattle.ss_links.specs.Board.{times}
use Rattle.ss_store.specs.declared.shape.SetShape.{SetShape}
use Rattle.ss_store.specs.Tables.{Tables, class_of}
use Rattle.ss_store.specs.Tables.{IsSet}
use Rattle.ss_store.specs.Store.{Entity, Store, AreInRange, made_of, exists, lists_by, is_filed}
use Rattle.ss_store.specs.declared.limits.TheConstants.{MOST_ENTITIES}
use Rattle.ss_words.specs.declared.limits.TheConstants.{MOST_REFERENCES}

-- each item of a list has this property
abbrev pub Each : {A : Type 0} → (A → Type 0) → List A → Type 0
Each P [] = Unit {0}
Each P (x ∷ xs) = P x × Each P xs

-- an entity of class c
pub record IsEntity (tables : Tables) (c : ℕ) (entity : Entity) : Type 0 where
  -- it is of the class
  pub class : entity.class ≡ c
  -- it has a value for each attribute of the class
  pub attributes : length entity.attributes ≡ (class_of tables c).attributes
  -- each value is in range
  pub values : AreInRange entity.attributes
  -- it has a list for each set that the class owns
  pub owned : length entity.owned ≡ (class_of tables c).owned

-- the value of a reference: nothing, or an entity of a class that is not permanent
abbrev pub IsReference : Tables → Option Entity → Type 0
IsReference tables None = Unit {0}
IsReference tables (Some e) =
    (e.class < length tables.classes) × ((class_of tables e.class).permanent ≡ false) × IsEntity tables e.class e

-- the members of a set
pub record AreMembers (store : Store) (shape : SetShape) : Type 0 where
  -- each exists
  pub exist : (k : ℕ) → is_filed shape store k ≡ true → exists store shape.member k ≡ true
  -- each is in one list of the set, and there once
  pub once : (k : ℕ) → times (lists_by shape.owner shape.list store) k ≤ 1

-- the facts that hold of a store of these tables
pub record IsWellStore (tables : Tables) (store : Store) : Type 0 where
  -- each class has a numbering
  pub classes : length store.made ≡ length tables.classes
  -- the entities made of a class are entities of it
  pub made : (c : ℕ) → Each (IsEntity tables c) (made_of store c)
  -- none is made of a class that is not permanent
  pub permanent : (c : ℕ) → (class_of tables c).permanent ≡ false → made_of store c ≡ []
  -- of each no more than 10,000
  pub few_made : (c : ℕ) → length (made_of store c) ≤ MOST_ENTITIES
  -- the values of the references
  pub references : Each (IsReference tables) store.references
  -- no more than 1,000,000 were given
  pub few_references : length store.references ≤ MOST_REFERENCES
  -- the system has a list for each of its sets
  pub system : length store.system ≡ tables.system
  -- the members of each set
  pub members : (s : SetShape) → IsSet tables.sets s → AreMembers store s
