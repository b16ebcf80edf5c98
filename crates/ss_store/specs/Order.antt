-- Private: lists of seats that are in the order of their set's ranking.
use Rattle.std.specs.Prelude.{◌≡◌, ◌==◌, ◌<◌, ◌≤◌, ℕ, Bool, true, false, List, [], ◌∷◌, map}
use Rattle.std.specs.Prelude.{slice_get, slice_index_or, Some}
use Rattle.std.specs.Ordering.{is_gt}
use Rattle.std.specs.List.{list_any}
use Rattle.ss_links.specs.Board.{list_at}
use Rattle.ss_links.specs.Seats.{has}
use Rattle.ss_program.specs.declared.keys.Key.{Key}
use Rattle.ss_program.specs.declared.kinds.Discipline.{Discipline}
use Rattle.ss_program.specs.declared.kinds.Discipline.TheVariants.{Fifo, Lifo, Ranked}
use Rattle.ss_program.specs.Keys.{by_keys}
use Rattle.ss_store.specs.declared.shape.SetShape.{SetShape}
use Rattle.ss_store.specs.Rows.{EntityTable}
use Rattle.ss_store.specs.Tables.{IsSet}
use Rattle.ss_store.specs.Finding.{keys_in}
use Rattle.ss_store.specs.Parts.{StoreParts, number_at}

-- no seat of a list ranks after a later one
abbrev pub Climbs : (ℕ → ℕ → Bool) → List ℕ → Type 0
Climbs behind [] = Unit {0}
Climbs behind (x ∷ l) = ((y : ℕ) → has l y ≡ true → behind x y ≡ false) × Climbs behind l

-- whether the member at one seat ranks strictly after that at another, as the attributes are now
abbrev pub seat_after : EntityTable → List ℕ → List Key → ℕ → ℕ → ℕ → Bool
seat_after es ns keys c x y =
    is_gt (by_keys keys (keys_in es keys c (number_at ns x)) (keys_in es keys c (number_at ns y)))

-- the members at the seats of a list are in the order of this set's ranking, if it has one
abbrev pub InOrder : EntityTable → List ℕ → SetShape → List ℕ → Type 0
InOrder es ns shape l =
    (keys : List Key) → shape.discipline ≡ Ranked keys → Climbs (seat_after es ns keys shape.member) l

-- the lists found to be in order in this round, by the round in which each was
abbrev pub known_in : List ℕ → ℕ → List Bool
known_in rounds round = map (λ r. r == round) rounds

-- no list was found to be in order in a later round, and 0 is none
abbrev pub AreRounds : List ℕ → ℕ → Type 0
AreRounds rounds round = (0 < round) × ((h : ℕ) → slice_index_or rounds h 0 ≤ round)

-- whether the list of a head is known to be in order
abbrev pub known_at : List Bool → ℕ → Bool
known_at known h = slice_index_or known h false

-- the lists that are known to be in order are
pub record AreInOrder (parts : StoreParts) (known : List Bool) : Type 0 where
  -- each by the ranking of its set
  pub each : (h : ℕ) (s : SetShape) (o : ℕ) → known_at known h ≡ true → IsSet parts.tables.sets s
      → slice_get parts.owners h ≡ Some (record { owner = s.owner; list = s.list; number = o })
      → InOrder parts.rows parts.numbers s (list_at parts.board.lists h)

-- whether an attribute is a key of a discipline
abbrev pub is_key_by : Discipline → ℕ → Bool
is_key_by (Ranked keys) a = list_any (λ k. k.attribute == a) keys
is_key_by Fifo a = false
is_key_by Lifo a = false

-- whether it is a key of a set's
abbrev pub is_key : SetShape → ℕ → Bool
is_key shape a = is_key_by shape.discipline a
