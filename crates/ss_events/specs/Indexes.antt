-- The requirements of the search in an index on a seat. Private: only private functions cite it.
use Rattle.std.specs.Prelude.{◌≡◌, ℕ, ◌<◌, Bool, true, false, List, length, slice_index, slice_index_or, Option, Some}
use Rattle.std.specs.Prelude.{None}
use Rattle.std.specs.Option.{ForSome}
use Rattle.ss_links.specs.Board.{list_at}
use Rattle.ss_links.specs.Seats.{list_without}
use Rattle.ss_index.specs.Filing.{seats_filed}
use Rattle.ss_events.specs.Rules.{Rule, rule_at, is_event_class}
use Rattle.ss_events.specs.State.{AreRanked}
use Rattle.ss_events.specs.Agenda.{Pending, pending_at, is_before}

-- whether a notice comes before another, if there is another
abbrev pub is_before_some : List Rule → Pending → Option Pending → Bool
is_before_some rules notice None = false
is_before_some rules notice (Some f) = is_before rules notice f

-- whether a notice comes before the pending notice of a seat
abbrev pub comes_before : List Rule → List Pending → List ℕ → Pending → ℕ → Bool
comes_before rules es notices notice seat = is_before_some rules notice (pending_at es (slice_index notices seat))

-- a notice of an event class, with a key for each of the class's
abbrev pub IsOfClass : List Rule → Pending → Type 0
IsOfClass rules notice =
    (is_event_class rules notice.class ≡ true) × (length notice.keys ≡ length (rule_at rules notice.class).ties)

-- a notice and that of a seat can be compared: both are of event classes, with a key for each of their class's
pub record IsComparable (rules : List Rule) (es : List Pending) (notices : List ℕ) (e : Pending)
    (seat : ℕ) : Type 0 where
  -- no two classes have one place in the order of priority
  pub ranked : AreRanked rules
  -- the notice is of its class
  pub own : IsOfClass rules e
  -- there is such a seat
  pub made : seat < length notices
  -- its notice is a number
  pub above : 0 < slice_index notices seat
  -- its notice
  pub other : Pending
  -- it is pending
  pub there : pending_at es (slice_index notices seat) ≡ Some other
  -- it is of its class
  pub fits : IsOfClass rules other

-- an index, if there is one, is this list
abbrev pub IsIndex : Option (List ℕ) → List ℕ → Type 0
IsIndex index l = ForSome index (λ m. m ≡ l)

-- an index, if there is one, is this list with the seat of a node filed
abbrev pub IsFiled : (ℕ → Bool) → Option ℕ → List ℕ → Option (List ℕ) → Type 0
IsFiled behind node l index = ForSome index (λ m. (x : ℕ) × (node ≡ Some x) × (m ≡ seats_filed behind x l))

-- there is an index if there was one before, now without a seat
abbrev pub IsWithout : ℕ → Option (List ℕ) → Option (List ℕ) → Type 0
IsWithout x None new = new ≡ None
IsWithout x (Some l) new = new ≡ Some (list_without l x)

-- each head may have an index, which is its list
pub record AreIndexes (indexes : List (Option (List ℕ))) (lists : List (List ℕ)) : Type 0 where
  -- each head has its place for one
  pub count : length indexes ≡ length lists
  -- an index is the list of its head
  pub kept : (head : ℕ) → IsIndex (slice_index_or indexes head None) (list_at lists head)
