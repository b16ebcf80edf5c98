-- The place at which a member is filed in a list, and the member that is removed.
use Rattle.std.specs.Prelude.{◌≡◌, ℕ, Bool, true, not, ℤ, List, [], ◌∷◌, ◌++◌, length, Option, Some, None, unwrap_or}
use Rattle.std.specs.Prelude.{option_map, Result, Ok, Err}
use Rattle.std.specs.Ordering.{is_gt}
use Rattle.ss_words.specs.declared.fault.RunFault.{RunFault}
use Rattle.ss_words.specs.declared.fault.RunFault.TheVariants.{NoEntity, AlreadyInSet, NotInList, EmptySet, MemberLeft}
use Rattle.ss_links.specs.Seats.{has, put_before, put_behind, list_without, first_of, last_of, next_in, prev_in}
use Rattle.ss_program.specs.declared.keys.Key.{Key}
use Rattle.ss_program.specs.Keys.{by_keys, key_values}
use Rattle.ss_program.specs.declared.kinds.Discipline.{Discipline}
use Rattle.ss_program.specs.declared.kinds.Discipline.TheVariants.{Fifo, Lifo, Ranked}
use Rattle.ss_store.specs.declared.shape.SetShape.{SetShape}
use Rattle.ss_store.specs.declared.shape.How.{How}
use Rattle.ss_store.specs.declared.shape.How.TheVariants.{ByRule, First, Last, Before, After}
use Rattle.ss_store.specs.declared.shape.Neighbours.{Neighbours}
use Rattle.ss_store.specs.declared.shape.Which.{Which}
use Rattle.ss_store.specs.declared.shape.Which.TheVariants as which
use Rattle.ss_store.specs.Lists.{placed_before}
use Rattle.ss_store.specs.Store.{Store, entity, exists, number_of, unless, is_owner, members_of, is_filed, list_holding}
use Rattle.ss_store.specs.Store.{with_list}

-- ---- filing

-- the key values of entity number k of class c, as its attributes are now
abbrev pub keys_now : List Key → Store → ℕ → ℕ → List ℤ
keys_now keys store c k = unwrap_or (option_map (λ e. key_values keys e.attributes) (entity store c k)) []

-- whether entity number j ranks strictly after k
abbrev pub ranks_behind : List Key → Store → ℕ → ℕ → ℕ → Bool
ranks_behind keys store c k j = is_gt (by_keys keys (keys_now keys store c j) (keys_now keys store c k))

-- k of class c filed by a discipline; ranked: before the first member that ranks strictly after it
abbrev pub filed_by : Discipline → Store → ℕ → ℕ → List ℕ → List ℕ
filed_by Fifo store c k ks = ks ++ k ∷ []
filed_by Lifo store c k ks = k ∷ ks
filed_by (Ranked keys) store c k ks = placed_before (ranks_behind keys store c k) k ks

-- k filed in a list of this set
abbrev pub filed_in : SetShape → Store → How → ℕ → List ℕ → List ℕ
filed_in shape store ByRule k ks = filed_by shape.discipline store shape.member k ks
filed_in shape store First k ks = k ∷ ks
filed_in shape store Last k ks = ks ++ k ∷ []
filed_in shape store (Before y) k ks = put_before ks (number_of y) k
filed_in shape store (After y) k ks = put_behind ks (number_of y) k

-- whether the member that BEFORE or AFTER names exists
abbrev pub names_entity : SetShape → Store → How → Bool
names_entity shape store (Before y) = exists store shape.member (number_of y)
names_entity shape store (After y) = exists store shape.member (number_of y)
names_entity shape store _ = true

-- whether the member that BEFORE or AFTER names is in the list
abbrev pub names_member : How → List ℕ → Bool
names_member (Before y) ks = has ks (number_of y)
names_member (After y) ks = has ks (number_of y)
names_member _ ks = true

-- FILE k in the list of o: F3; F4 if a list of the set holds k; F5 if o's lacks the member named
abbrev pub after_filing : SetShape → Store → ℕ → ℕ → How → Result Store RunFault
after_filing shape store o k how =
    unless NoEntity (is_owner shape store o)
    (unless NoEntity (exists store shape.member k)
    (unless NoEntity (names_entity shape store how)
    (unless AlreadyInSet (not (is_filed shape store k))
    (unless NotInList (names_member how (members_of shape store o))
    (Ok (with_list shape store o (filed_in shape store how k (members_of shape store o))))))))

-- ---- removing

-- a member, or a fault if there is none
abbrev pub or_fault : RunFault → Option ℕ → Result ℕ RunFault
or_fault fault None = Err fault
or_fault fault (Some k) = Ok k

-- the member of the list that REMOVE names
abbrev pub member_named : SetShape → Store → List ℕ → Which → Result ℕ RunFault
member_named shape store ks which.First = or_fault EmptySet (first_of ks)
member_named shape store ks which.Last = or_fault EmptySet (last_of ks)
member_named shape store ks (which.Member x) =
    unless NoEntity (exists store shape.member (number_of x))
    (unless NotInList (has ks (number_of x)) (Ok (number_of x)))

-- the member, and the store with the list of o without it
abbrev pub without_member : SetShape → Store → ℕ → Result ℕ RunFault → Result (ℕ × Store) RunFault
without_member shape store o (Ok k) = Ok (k, with_list shape store o (list_without (members_of shape store o) k))
without_member shape store o (Err f) = Err f

-- REMOVE from the list of o: F3; F5 if the member named is not in it, F6 if it is empty
abbrev pub after_removing : SetShape → Store → ℕ → Which → Result (ℕ × Store) RunFault
after_removing shape store o which = unless NoEntity (is_owner shape store o)
    (without_member shape store o (member_named shape store (members_of shape store o) which))

-- ---- reading

-- whether k is in the list of o, or F3
abbrev pub is_in : SetShape → Store → ℕ → ℕ → Result Bool RunFault
is_in shape store o k =
    unless NoEntity (is_owner shape store o)
    (unless NoEntity (exists store shape.member k) (Ok (has (members_of shape store o) k)))

-- how many members the list of o has, or F3
abbrev pub count : SetShape → Store → ℕ → Result ℕ RunFault
count shape store o = unless NoEntity (is_owner shape store o) (Ok (length (members_of shape store o)))

-- the first member of the list of o, or F3
abbrev pub walk_first : SetShape → Store → ℕ → Result (Option ℕ) RunFault
walk_first shape store o = unless NoEntity (is_owner shape store o) (Ok (first_of (members_of shape store o)))

-- the last member of the list of o, or F3
abbrev pub walk_last : SetShape → Store → ℕ → Result (Option ℕ) RunFault
walk_last shape store o = unless NoEntity (is_owner shape store o) (Ok (last_of (members_of shape store o)))

-- the value read at member k of the list of o: F3, F14 if k isn't in it
abbrev pub at_member : {A : Type 0} → SetShape → Store → ℕ → ℕ → A → Result A RunFault
at_member shape store o k a =
    unless NoEntity (is_owner shape store o)
    (unless NoEntity (exists store shape.member k) (unless MemberLeft (has (members_of shape store o) k) (Ok a)))

-- the member directly after k in the list of o, or F3, F14
abbrev pub walk_next : SetShape → Store → ℕ → ℕ → Result (Option ℕ) RunFault
walk_next shape store o k = at_member shape store o k (next_in (members_of shape store o) k)

-- the member directly before k in the list of o, or F3, F14
abbrev pub walk_prev : SetShape → Store → ℕ → ℕ → Result (Option ℕ) RunFault
walk_prev shape store o k = at_member shape store o k (prev_in (members_of shape store o) k)

-- ---- kept attributes of a member

-- P.s: the member directly before k in the list that holds it, or F3
abbrev pub predecessor : SetShape → Store → ℕ → Result (Option ℕ) RunFault
predecessor shape store k = unless NoEntity (exists store shape.member k) (Ok (prev_in (list_holding shape store k) k))

-- S.s: the member directly after k in the list that holds it, or F3
abbrev pub successor : SetShape → Store → ℕ → Result (Option ℕ) RunFault
successor shape store k = unless NoEntity (exists store shape.member k) (Ok (next_in (list_holding shape store k) k))

-- M.s: whether k is in a list of the set, or F3
abbrev pub membership : SetShape → Store → ℕ → Result Bool RunFault
membership shape store k = unless NoEntity (exists store shape.member k) (Ok (is_filed shape store k))

-- the three values read of k at once are its P.s, S.s and M.s, or the fault that each of them is
abbrev pub AreNeighbours : SetShape → Store → ℕ → Result Neighbours RunFault → Type 0
AreNeighbours shape store k (Ok n) =
    (predecessor shape store k ≡ Ok n.before) × (successor shape store k ≡ Ok n.behind)
    × (membership shape store k ≡ Ok n.is_filed)
AreNeighbours shape store k (Err f) =
    (predecessor shape store k ≡ Err f) × (successor shape store k ≡ Err f) × (membership shape store k ≡ Err f)
