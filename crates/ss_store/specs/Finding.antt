-- Private: the seat of a member on the board, and the place at which a member is filed.
use Rattle.std.specs.Prelude.{ℕ, ℤ, ◌<◌, ◌==◌, if◌then◌else◌, Bool, false, List, [], ◌∷◌, Option, Some, None, unwrap_or}
use Rattle.std.specs.Prelude.{Result, Ok, Err, ◌≡◌, ◌++◌}
use Rattle.std.specs.Ordering.{is_gt}
use Rattle.ss_words.specs.declared.fault.RunFault.{RunFault}
use Rattle.ss_words.specs.declared.fault.RunFault.TheVariants.{NoEntity, NotInList, EmptySet}
use Rattle.ss_links.specs.Board.{list_at, list_of, head_of}
use Rattle.ss_links.specs.Seats.{first_of, last_of, prev_in}
use Rattle.ss_program.specs.declared.keys.Key.{Key}
use Rattle.ss_program.specs.declared.kinds.Discipline.{Discipline}
use Rattle.ss_program.specs.declared.kinds.Discipline.TheVariants.{Fifo, Lifo, Ranked}
use Rattle.ss_program.specs.Keys.{by_keys, key_values}
use Rattle.ss_store.specs.declared.places.Spot.{Spot}
use Rattle.ss_store.specs.declared.places.Spot.TheVariants as spot
use Rattle.ss_store.specs.declared.shape.How.{How}
use Rattle.ss_store.specs.declared.shape.How.TheVariants.{ByRule, First, Last, Before, After}
use Rattle.ss_store.specs.declared.shape.SetShape.{SetShape}
use Rattle.ss_store.specs.declared.shape.Which.{Which}
use Rattle.ss_store.specs.declared.shape.Which.TheVariants as which
use Rattle.ss_store.specs.Store.{number_of}
use Rattle.ss_store.specs.Filing.{or_fault}
use Rattle.ss_store.specs.Rows.{EntityTable, values_of}
use Rattle.ss_store.specs.Parts.{number_at, head_at, seat_at}

-- whether a seat is in the list of this head, by the head that holds it
abbrev pub is_at : Option ℕ → ℕ → Bool
is_at None h = false
is_at (Some k) h = k == h

-- the seat, or F3 if there is none and F5 if it isn't in the list of the head
abbrev pub seat_in_list : List (List ℕ) → ℕ → Option ℕ → Result ℕ RunFault
seat_in_list ls h None = Err NoEntity
seat_in_list ls h (Some t) = if is_at (head_of ls t) h then Ok t else Err NotInList

-- the place before the seat of a member, or F3 if the member does not exist
abbrev pub spot_before : Option ℕ → Result Spot RunFault
spot_before None = Err NoEntity
spot_before (Some t) = Ok (spot.Before t)

-- the place after the seat of a member, or F3
abbrev pub spot_after : Option ℕ → Result Spot RunFault
spot_after None = Err NoEntity
spot_after (Some t) = Ok (spot.After t)

-- the place that FILE names, in seats, or F3
abbrev pub spot_by : EntityTable → SetShape → How → Result Spot RunFault
spot_by es shape ByRule = Ok spot.ByRule
spot_by es shape First = Ok spot.First
spot_by es shape Last = Ok spot.Last
spot_by es shape (Before y) = spot_before (seat_at es shape (number_of y))
spot_by es shape (After y) = spot_after (seat_at es shape (number_of y))

-- the key values of entity number k of class c
abbrev pub keys_in : EntityTable → List Key → ℕ → ℕ → List ℤ
keys_in es keys c k = key_values keys (unwrap_or (values_of es c k) [])

-- whether the member whose seat it is ranks strictly after entity number k
abbrev pub seat_behind_in : EntityTable → List ℕ → List Key → ℕ → ℕ → ℕ → Bool
seat_behind_in es ns keys c k t = is_gt (by_keys keys (keys_in es keys c (number_at ns t)) (keys_in es keys c k))

-- the seat before the first that passes the test; p comes before them all
abbrev pub rank_before : (ℕ → Bool) → Option ℕ → List ℕ → Option ℕ
rank_before test p [] = p
rank_before test p (t ∷ ts) = if test t then p else rank_before test (Some t) ts

-- a search among the seats of a list: the seats that were passed, and those that are left. The last
-- passed is before; the first left is looked at. The result is that of a search from the front.
pub record Among (l : List ℕ) (test : ℕ → Bool) (before at : Option ℕ) : Type 0 where
  -- those that were passed
  pub passed : List ℕ
  -- those that are left
  pub left : List ℕ
  -- they are all seats
  pub all : l ≡ passed ++ left
  -- the first that is left
  pub begins : first_of left ≡ at
  -- the seat that is found
  pub result : rank_before test before left ≡ rank_before test None l

-- the seat after which a discipline files entity number k
abbrev pub rule_place : EntityTable → List ℕ → ℕ → ℕ → List ℕ → Discipline → Option ℕ
rule_place es ns c k l Fifo = last_of l
rule_place es ns c k l Lifo = None
rule_place es ns c k l (Ranked keys) = rank_before (seat_behind_in es ns keys c k) None l

-- the seat after which it is filed, or none if it is filed first; F5 if the member named isn't in
-- the list of the head
abbrev pub place_by : EntityTable → List ℕ → List (List ℕ) → SetShape → ℕ → ℕ → Spot → Result (Option ℕ) RunFault
place_by es ns ls shape h k spot.First = Ok None
place_by es ns ls shape h k spot.Last = Ok (last_of (list_at ls h))
place_by es ns ls shape h k spot.ByRule = Ok (rule_place es ns shape.member k (list_at ls h) shape.discipline)
place_by es ns ls shape h k (spot.Before t) =
    if is_at (head_of ls t) h then Ok (prev_in (list_of ls t) t) else Err NotInList
place_by es ns ls shape h k (spot.After t) = if is_at (head_of ls t) h then Ok (Some t) else Err NotInList

-- the seat of the member that is to be removed
abbrev pub seat_to_remove : EntityTable → List (List ℕ) → SetShape → ℕ → Which → Result ℕ RunFault
seat_to_remove es ls shape h which.First = or_fault EmptySet (first_of (list_at ls h))
seat_to_remove es ls shape h which.Last = or_fault EmptySet (last_of (list_at ls h))
seat_to_remove es ls shape h (which.Member x) = seat_in_list ls h (seat_at es shape (number_of x))

-- a seat that a place names is one of these
abbrev pub SpotBelow : Spot → ℕ → Type 0
SpotBelow (spot.Before t) n = t < n
SpotBelow (spot.After t) n = t < n
SpotBelow spot.First n = Unit {0}
SpotBelow spot.Last n = Unit {0}
SpotBelow spot.ByRule n = Unit {0}

-- the seat of a member, if it is in the list of the head; F3 if the member does not exist
abbrev pub seat_among : List (List ℕ) → ℕ → Option ℕ → Result (Option ℕ) RunFault
seat_among ls h None = Err NoEntity
seat_among ls h (Some t) = Ok (if is_at (head_of ls t) h then Some t else None)

-- the seat by the owner's head; F3 if the owner does not exist, and so has no head
abbrev pub seat_under : List (List ℕ) → Option ℕ → Option ℕ → Result (Option ℕ) RunFault
seat_under ls None q = Err NoEntity
seat_under ls (Some h) q = seat_among ls h q

-- the seat of member k, if it is in the list of owner o; F3 if one of them does not exist
abbrev pub seat_in : EntityTable → List (List ℕ) → SetShape → ℕ → ℕ → Result (Option ℕ) RunFault
seat_in es ls shape o k = seat_under ls (head_at es shape o) (seat_at es shape k)
