-- The record of a change, and how it is taken back.
use Rattle.std.specs.Prelude.{◌≡◌, ℕ, ℤ, ◌-◌, ◌<◌, true, false, List, [], length, slice_get, Option, Some, None}
use Rattle.std.specs.Prelude.{option_map, Result}
use Rattle.std.specs.Option.{ForSome}
use Rattle.ss_words.specs.declared.fault.RunFault.{RunFault}
use Rattle.ss_words.specs.declared.fault.StepFault.{StepFault}
use Rattle.ss_words.specs.Outcomes.{AnswersAs, AnswersOrRefusesAs}
use Rattle.ss_links.specs.Seats.{has, put_at, list_without}
use Rattle.ss_program.specs.declared.kinds.Owner.{Owner}
use Rattle.ss_store.specs.declared.change.StoreChange.{StoreChange}
use Rattle.ss_store.specs.declared.change.StoreChange.TheVariants.{Filed, Removed, Created, ClassCreated, AttributeSet}
use Rattle.ss_store.specs.declared.change.StoreChange.TheVariants.{Ended}
use Rattle.ss_store.specs.Tables.{class_of, set_of}
use Rattle.ss_store.specs.declared.rows.Row.{Row}
use Rattle.ss_store.specs.Store.{Store, last_reference, with_made, with_value, with_changed, with_list_by}
use Rattle.ss_store.specs.Store.{is_owner, members_of, members_by, exists, is_filed, entity_back, with_back, AreInRange}
use Rattle.ss_store.specs.Value.{Layout, StoreValue}
use Rattle.ss_store.specs.Making.{layout_with, but_last, without_last, FitsLast, TakesOff}

-- the state before a change
abbrev pub unapply_state : StoreChange → Store → Store
unapply_state (Filed set w n o k) store = with_list_by w n store o (list_without (members_by w n store o) k)
unapply_state (Removed set w n o k before) store = with_list_by w n store o (put_at (members_by w n store o) before k)
unapply_state (Created c k heads seats) store = without_last None store
unapply_state (ClassCreated c n heads seats) store = with_made store c []
unapply_state (AttributeSet c a k old) store = with_changed (with_value a old) store c k
unapply_state (Ended c k owned values) store = with_back store k (entity_back c owned values.items)

-- the kept part, before a change
abbrev pub unapply_layout : StoreChange → Layout → Layout
unapply_layout (Filed set w n o k) kept = kept
unapply_layout (Removed set w n o k before) kept = kept
unapply_layout (Created c k heads seats) kept = layout_with but_last kept None heads seats
unapply_layout (ClassCreated c n heads seats) kept = layout_with (λ rows. []) kept (Some c) heads seats
unapply_layout (AttributeSet c a k old) kept = kept
unapply_layout (Ended c k owned values) kept = kept

-- the store before a change
abbrev pub unapply_store : StoreChange → StoreValue → StoreValue
unapply_store change store =
    record store { state = unapply_state change store.state; kept = unapply_layout change store.kept }

-- the member that was filed is in the list
pub record FitsFiled (store : StoreValue) (set : ℕ) (w : Owner) (n o k : ℕ) : Type 0 where
  -- there is such a set
  pub is_set : set < length store.tables.sets
  -- its owner
  pub owner : w ≡ (set_of store.tables set).owner
  -- the number of its list
  pub list : n ≡ (set_of store.tables set).list
  -- the owner exists
  pub is_owner : is_owner (set_of store.tables set) store.state o ≡ true
  -- the member is in the list
  pub stands : has (members_of (set_of store.tables set) store.state o) k ≡ true

-- the member removed exists and is in no list of its set; the member before it is in the list
pub record FitsRemoved (store : StoreValue) (set : ℕ) (w : Owner) (n o k : ℕ) (b : Option ℕ) : Type 0 where
  -- there is such a set
  pub is_set : set < length store.tables.sets
  -- its owner
  pub owner : w ≡ (set_of store.tables set).owner
  -- the number of its list
  pub list : n ≡ (set_of store.tables set).list
  -- the owner exists
  pub is_owner : is_owner (set_of store.tables set) store.state o ≡ true
  -- the member exists
  pub member : exists store.state (set_of store.tables set).member k ≡ true
  -- it is in no list of the set
  pub in_no_list : is_filed (set_of store.tables set) store.state k ≡ false
  -- the one before it, if any, is in the list
  pub before : ForSome b (λ y. has (members_of (set_of store.tables set) store.state o) y ≡ true)

-- the reference was given last
pub record FitsCreated (store : StoreValue) (c k heads seats : ℕ) : Type 0 where
  -- the class is not permanent
  pub not_permanent : (class_of store.tables c).permanent ≡ false
  -- the reference is the last
  pub newest : FitsLast c k heads seats store

-- the entities of the class can be taken off, last first; the store before is left then
pub record FitsClassCreated (store : StoreValue) (c n heads seats : ℕ) : Type 0 where
  -- the class is permanent
  pub permanent : (class_of store.tables c).permanent ≡ true
  -- its entities can be taken off
  pub takes_off : TakesOff c n store (unapply_store (ClassCreated c n heads seats) store)

-- the entity whose attribute was set exists
pub record FitsSet (store : StoreValue) (c k : ℕ) : Type 0 where
  -- there is such a class
  pub is_class : c < length store.tables.classes
  -- the entity exists
  pub there : exists store.state c k ≡ true

-- the reference has ended; its kept row has this class, this number of lists and of attributes
pub record FitsEnded (store : StoreValue) (c k n : ℕ) (xs : List ℤ) : Type 0 where
  -- there is such a class
  pub is_class : c < length store.tables.classes
  -- it is not permanent
  pub not_permanent : (class_of store.tables c).permanent ≡ false
  -- the reference is 1 or more
  pub number : 0 < k
  -- it has ended
  pub gone : slice_get store.state.references (k - 1) ≡ Some None
  -- its row is of the class
  pub row : option_map (λ (r : Row). r.class) (slice_get store.kept.references (k - 1)) ≡ Some c
  -- the class owns this number of sets
  pub owned_sets : n ≡ (class_of store.tables c).owned
  -- a value for each attribute of the class
  pub values : length xs ≡ (class_of store.tables c).attributes
  -- which are in range
  pub values_in_range : AreInRange xs

-- a change that can be taken back
abbrev pub FitsStore : StoreChange → StoreValue → Type 0
FitsStore (Filed set w n o k) store = FitsFiled store set w n o k
FitsStore (Removed set w n o k before) store = FitsRemoved store set w n o k before
FitsStore (Created c k heads seats) store = FitsCreated store c k heads seats
FitsStore (ClassCreated c n heads seats) store = FitsClassCreated store c n heads seats
FitsStore (AttributeSet c a k old) store = FitsSet store c k
FitsStore (Ended c k owned values) store = FitsEnded store c k owned values.items

-- a writing call left this state, and gave a change that fits and takes it back
pub record Leaves (change : StoreChange) (store : Store) (old new : StoreValue) : Type 0 where
  -- the state is this
  pub state : new.state ≡ store
  -- the change fits it
  pub fits : FitsStore change new
  -- taken back, it gives the store before
  pub back : unapply_store change new ≡ old

-- a writing call that may fault
abbrev pub IsOutcome : Result StoreChange RunFault → Result Store RunFault → StoreValue → StoreValue → Type 0
IsOutcome = AnswersAs Leaves

-- one that gives the member's number, too
abbrev pub IsRemoval : Result (ℕ × StoreChange) RunFault → Result (ℕ × Store) RunFault → StoreValue → StoreValue
    → Type 0
IsRemoval = AnswersAs (λ given wanted old new. (given.0 ≡ wanted.0) × Leaves given.1 wanted.1 old new)

-- a call that makes an entity, and gives the last reference
abbrev pub IsCreation : Result (ℕ × StoreChange) StepFault → Result Store RunFault → StoreValue → StoreValue → Type 0
IsCreation = AnswersOrRefusesAs (λ given s old new. (given.0 ≡ last_reference s) × Leaves given.1 s old new)

-- a call that makes the entities of a class
abbrev pub IsMaking : Result StoreChange StepFault → Result Store RunFault → StoreValue → StoreValue → Type 0
IsMaking = AnswersOrRefusesAs Leaves
