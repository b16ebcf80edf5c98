-- The place at which FILE puts a member, in any list, and the lists that stay. Cited only by laws.
use Rattle.std.specs.Prelude.{◌≡◌, ℕ, Bool, true, false, List, [], ◌∷◌, ◌++◌, Some}
use Rattle.ss_links.specs.Seats.{first_of, last_of}
use Rattle.ss_program.specs.declared.kinds.Discipline.{Discipline}
use Rattle.ss_program.specs.declared.kinds.Discipline.TheVariants.{Fifo, Lifo, Ranked}
use Rattle.ss_program.specs.declared.kinds.Owner.{Owner}
use Rattle.ss_program.specs.declared.kinds.Owner.TheVariants.{System, OwnedBy}
use Rattle.ss_store.specs.declared.shape.SetShape.{SetShape}
use Rattle.ss_store.specs.declared.shape.How.{How}
use Rattle.ss_store.specs.declared.shape.How.TheVariants.{ByRule, First, Last, Before, After}
use Rattle.ss_store.specs.Store.{Store, number_of, list_by, with_list_by}
use Rattle.ss_store.specs.Filing.{ranks_behind, filed_in, names_member}

-- no member of a list passes the test
abbrev pub NonePasses : (ℕ → Bool) → List ℕ → Type 0
NonePasses test [] = Unit {0}
NonePasses test (k ∷ ks) = (test k ≡ false) × NonePasses test ks

-- a list is empty, or its first member passes
abbrev pub FirstPasses : (ℕ → Bool) → List ℕ → Type 0
FirstPasses test [] = Unit {0}
FirstPasses test (k ∷ ks) = test k ≡ true

-- the rule of a discipline on the members before k and those after it; ranked: none of those before
-- ranks strictly after k, and the first of those after does
abbrev pub IsRulePlace : Discipline → Store → ℕ → ℕ → List ℕ → List ℕ → Type 0
IsRulePlace Fifo store c k front rest = rest ≡ []
IsRulePlace Lifo store c k front rest = front ≡ []
IsRulePlace (Ranked keys) store c k front rest =
    NonePasses (ranks_behind keys store c k) front × FirstPasses (ranks_behind keys store c k) rest

-- the rule of FILE on them
abbrev pub IsPlace : SetShape → Store → How → ℕ → List ℕ → List ℕ → Type 0
IsPlace shape store ByRule k front rest = IsRulePlace shape.discipline store shape.member k front rest
IsPlace shape store First k front rest = front ≡ []
IsPlace shape store Last k front rest = rest ≡ []
IsPlace shape store (Before y) k front rest = first_of rest ≡ Some (number_of y)
IsPlace shape store (After y) k front rest = last_of front ≡ Some (number_of y)

-- the member is filed between two parts of the list
pub record IsBetween (shape : SetShape) (store : Store) (how : How) (k : ℕ) (ks : List ℕ) : Type 0 where
  -- those before it
  pub front : List ℕ
  -- those after it
  pub rest : List ℕ
  -- they were the list
  pub was : ks ≡ front ++ rest
  -- it is between them
  pub is : filed_in shape store how k ks ≡ front ++ k ∷ rest
  -- they satisfy the rule of FILE
  pub place : IsPlace shape store how k front rest

-- each way of filing, on every list
abbrev pub FiledBetween : Type 0
FiledBetween = (s : SetShape) (st : Store) (how : How) (k : ℕ) (ks : List ℕ) → names_member how ks ≡ true
    → IsBetween s st how k ks

-- list number m of owner u is another than list number n of owner o
abbrev pub IsOther : Owner → ℕ → ℕ → Owner → ℕ → ℕ → Type 0
IsOther System n o System m u = n ≡ m → ⊥
IsOther (OwnedBy c) n o (OwnedBy d) m u = c ≡ d → n ≡ m → o ≡ u → ⊥
IsOther _ n o _ m u = Unit {0}

-- if one list is changed, each other stays
abbrev pub OtherListsStay : Type 0
OtherListsStay = (w v : Owner) (n o m u : ℕ) (st : Store) (ks : List ℕ) → IsOther w n o v m u
    → list_by v m (with_list_by w n st o ks) u ≡ list_by v m st u
