-- Entities and the lists of their sets, which a store holds. How they are made, changed and ended.
use Rattle.std.specs.Prelude.{◌≡◌, ℕ, zero, suc, ◌-◌, ◌==◌, max, Bool, true, false, ◌&&◌, not, nat_lt, nat_le}
use Rattle.std.specs.Prelude.{if◌then◌else◌, ℤ}
use Rattle.std.specs.Prelude.{pos, negsuc, List, [], ◌∷◌, ◌++◌, length, map, replicate, filter_map, find, slice_get}
use Rattle.std.specs.Prelude.{slice_set, slice_index_or, Option, Some, None, is_some, option_map, option_and_then}
use Rattle.std.specs.Prelude.{unwrap_or, Result, Ok, Err}
use Rattle.std.specs.Option.{option_or}
use Rattle.std.specs.List.{list_any}
use Rattle.ss_words.specs.declared.fault.RunFault.{RunFault}
use Rattle.ss_words.specs.declared.fault.RunFault.TheVariants.{NoEntity, EndedInUse, EndedOwner, AlreadyCreated}
use Rattle.ss_words.specs.declared.fault.RunFault.TheVariants.{CountOutOfRange, TooManyReferences}
use Rattle.ss_words.specs.declared.limits.TheConstants.{MOST_REFERENCES}
use Rattle.ss_words.specs.Ranges.{in_range}
use Rattle.ss_links.specs.Seats.{has}
use Rattle.ss_program.specs.declared.kinds.Owner.{Owner}
use Rattle.ss_program.specs.declared.kinds.Owner.TheVariants.{System, OwnedBy}
use Rattle.ss_store.specs.declared.limits.TheConstants.{MOST_ENTITIES}
use Rattle.ss_store.specs.declared.shape.ClassShape.{ClassShape}
use Rattle.ss_store.specs.declared.shape.SetShape.{SetShape}
use Rattle.ss_store.specs.Lists.{change_at}
use Rattle.ss_store.specs.Tables.{Tables}

-- an entity: its class, the values of its attributes, and the lists of the sets that its class owns, in order of
-- declaration
pub record Entity : Type 0 where
  -- the number of its class
  pub class : ℕ
  -- the values of its attributes, in order of declaration
  pub attributes : List ℤ
  -- the members of each of its lists, by their numbers
  pub owned : List (List ℕ)

-- for each class its entities 1, 2, .., if it is permanent and made; the entities with references
-- 1, 2, .., None if one has ended; the lists of the system's sets, in order of declaration
pub record Store : Type 0 where
  -- the entities of each class, if it is permanent
  pub made : List (List Entity)
  -- the entity that each reference names
  pub references : List (Option Entity)
  -- the members of each list of the system, by their numbers
  pub system : List (List ℕ)

-- the number of an entity that a value names, 0 naming none
abbrev pub number_of : ℤ → ℕ
number_of (pos n) = n
number_of (negsuc n) = 0

-- a result if the test is true, and else a fault
abbrev pub unless : {A : Type 0} → RunFault → Bool → Result A RunFault → Result A RunFault
unless fault true r = r
unless fault false r = Err fault

-- list number n
abbrev pub list_number : List (List ℕ) → ℕ → List ℕ
list_number ls n = slice_index_or ls n []

-- ---- the entities that there are

-- a reference's entity, if it is of class c
abbrev pub of_class : ℕ → Option Entity → Option Entity
of_class c None = None
of_class c (Some e) = if e.class == c then Some e else None

-- the entities that were made of permanent class c
abbrev pub made_of : Store → ℕ → List Entity
made_of store c = slice_index_or store.made c []

-- entity number k of class c: if the class is permanent, one that was made, else one by reference
abbrev pub entity : Store → ℕ → ℕ → Option Entity
entity store c zero = None
entity store c (suc k) =
    option_or (slice_get (made_of store c) k) (option_and_then (of_class c) (slice_get store.references k))

-- all entities of class c
abbrev pub entities : Store → ℕ → List Entity
entities store c = made_of store c ++ filter_map (of_class c) store.references

-- whether there is entity number k of class c
abbrev pub exists : Store → ℕ → ℕ → Bool
exists store c k = is_some (entity store c k)

-- no entity of class c has a greater number
abbrev pub greatest_number : Store → ℕ → ℕ
greatest_number store c = max (length (made_of store c)) (length store.references)

-- ---- attributes

-- all values are in range
abbrev pub AreInRange : List ℤ → Type 0
AreInRange [] = Unit {0}
AreInRange (x ∷ xs) = (in_range x ≡ true) × AreInRange xs

-- attribute number a of an entity, or F3 if there is none
abbrev pub attribute_in : ℕ → Option Entity → Result ℤ RunFault
attribute_in a None = Err NoEntity
attribute_in a (Some e) = Ok (slice_index_or e.attributes a (pos 0))

-- attribute number a of entity number k of class c, or F3
abbrev pub attribute_of : Store → ℕ → ℕ → ℕ → Result ℤ RunFault
attribute_of store c a k = attribute_in a (entity store c k)

-- all attributes of entity number k of class c, if it exists
abbrev pub attributes_of : Store → ℕ → ℕ → Option (List ℤ)
attributes_of store c k = option_map (λ e. e.attributes) (entity store c k)

-- ---- the lists of sets; n is the number of a set among those of its owner

-- the list of a set for owner number k, if that exists; the system is any number
abbrev pub list_by : Owner → ℕ → Store → ℕ → Option (List ℕ)
list_by System n store k = Some (list_number store.system n)
list_by (OwnedBy c) n store k = option_map (λ e. list_number e.owned n) (entity store c k)

-- the lists of a set, of all its owners
abbrev pub lists_by : Owner → ℕ → Store → List (List ℕ)
lists_by System n store = list_number store.system n ∷ []
lists_by (OwnedBy c) n store = map (λ e. list_number e.owned n) (entities store c)

-- whether the owner of a list of this set exists
abbrev pub is_owner : SetShape → Store → ℕ → Bool
is_owner shape store k = is_some (list_by shape.owner shape.list store k)

-- the members of a set's list for owner number k, none if the owner does not exist
abbrev pub members_by : Owner → ℕ → Store → ℕ → List ℕ
members_by owner n store k = unwrap_or (list_by owner n store k) []

-- the members of the list of this set for owner number k
abbrev pub members_of : SetShape → Store → ℕ → List ℕ
members_of shape store k = members_by shape.owner shape.list store k

-- whether k is in one of these lists
abbrev pub stands_in : List (List ℕ) → ℕ → Bool
stands_in ls k = list_any (λ ks. has ks k) ls

-- whether k is in a list of this set
abbrev pub is_filed : SetShape → Store → ℕ → Bool
is_filed shape store k = stands_in (lists_by shape.owner shape.list store) k

-- the list of this set that holds member number k, or the empty one
abbrev pub list_holding : SetShape → Store → ℕ → List ℕ
list_holding shape store k = unwrap_or (find (λ ks. has ks k) (lists_by shape.owner shape.list store)) []

-- ---- changing

-- a reference's entity changed, if it is of class c
abbrev pub changed_reference : (Entity → Entity) → ℕ → Option Entity → Option Entity
changed_reference change c None = None
changed_reference change c (Some e) = if e.class == c then Some (change e) else Some e

-- the store with entity number k of class c changed
abbrev pub with_changed : (Entity → Entity) → Store → ℕ → ℕ → Store
with_changed change store c zero = store
with_changed change store c (suc k) = record store {
  made = change_at (λ row. change_at change row k) store.made c;
  references = change_at (changed_reference change c) store.references k;
}

-- an entity with an attribute changed
abbrev pub with_value : ℕ → ℤ → Entity → Entity
with_value a value entity = record entity { attributes = slice_set entity.attributes a value }

-- the store with attribute number a of entity number k of class c changed, or F3
abbrev pub with_attribute : Store → ℕ → ℕ → ℕ → ℤ → Result Store RunFault
with_attribute store c a k value = unless NoEntity (exists store c k) (Ok (with_changed (with_value a value) store c k))

-- an entity with one of its lists changed
abbrev pub with_owned : ℕ → List ℕ → Entity → Entity
with_owned n ks entity = record entity { owned = slice_set entity.owned n ks }

-- the store with the list of a set for owner number k changed
abbrev pub with_list_by : Owner → ℕ → Store → ℕ → List ℕ → Store
with_list_by System n store k ks = record store { system = slice_set store.system n ks }
with_list_by (OwnedBy c) n store k ks = with_changed (with_owned n ks) store c k

-- the store with the list of this set for owner number k changed
abbrev pub with_list : SetShape → Store → ℕ → List ℕ → Store
with_list shape store k ks = with_list_by shape.owner shape.list store k ks

-- ---- making

-- a new entity of class c: its attributes are 0, its lists empty
abbrev pub fresh : ℕ → ClassShape → Entity
fresh c shape = record { class = c; attributes = replicate shape.attributes (pos 0); owned = replicate shape.owned [] }

-- nothing made
abbrev pub empty_store : Tables → Store
empty_store tables =
    record { made = replicate (length tables.classes) []; references = []; system = replicate tables.system [] }

-- the store with one more reference
abbrev pub with_reference : Store → Entity → Store
with_reference store entity = record store { references = store.references ++ Some entity ∷ [] }

-- the store with one more entity of class c, with the last reference; F20 if there are too many
abbrev pub with_new : Store → ℕ → ClassShape → Result Store RunFault
with_new store c shape =
    unless TooManyReferences (nat_lt (length store.references) MOST_REFERENCES)
    (Ok (with_reference store (fresh c shape)))

-- the reference that was given last
abbrev pub last_reference : Store → ℕ
last_reference store = length store.references

-- the store with these entities of permanent class c
abbrev pub with_made : Store → ℕ → List Entity → Store
with_made store c es = record store { made = slice_set store.made c es }

-- the store with n entities of permanent class c; F12 if it was made, F13 if n isn't 1 to 10,000
abbrev pub with_class : Store → ℕ → ClassShape → ℤ → Result Store RunFault
with_class store c shape n =
    unless AlreadyCreated (length (made_of store c) == 0)
    (unless CountOutOfRange (nat_lt 0 (number_of n) && nat_le (number_of n) MOST_ENTITIES)
    (Ok (with_made store c (replicate (number_of n) (fresh c shape)))))

-- ---- ending

-- whether entity number k of class c is in a list of any of these sets
abbrev pub is_member : List SetShape → Store → ℕ → ℕ → Bool
is_member sets store c k = list_any (λ s. (s.member == c) && is_filed s store k) sets

-- whether a list has members
abbrev pub is_filled : List ℕ → Bool
is_filled [] = false
is_filled (k ∷ ks) = true

-- whether a set that an entity owns has members
abbrev pub owns_members : Option Entity → Bool
owns_members None = false
owns_members (Some e) = list_any is_filled e.owned

-- the store without reference number k
abbrev pub without_reference : Store → ℕ → Store
without_reference store k = record store { references = slice_set store.references (k - 1) None }

-- the store in which reference number k names this entity again
abbrev pub with_back : Store → ℕ → Entity → Store
with_back store k entity = record store { references = slice_set store.references (k - 1) (Some entity) }

-- the entity of class c that comes back: it has these attributes, and n empty lists
abbrev pub entity_back : ℕ → ℕ → List ℤ → Entity
entity_back c owned values = record { class = c; attributes = values; owned = replicate owned [] }

-- the store without entity number k of class c; F3; F7 if it is a member, F8 if it owns members
abbrev pub without_entity : Tables → Store → ℕ → ℕ → Result Store RunFault
without_entity tables store c k =
    unless NoEntity (exists store c k)
    (unless EndedInUse (not (is_member tables.sets store c k))
    (unless EndedOwner (not (owns_members (entity store c k)))
    (Ok (without_reference store k))))
