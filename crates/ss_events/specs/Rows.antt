-- The agenda's state, read from the rows that it keeps, one for each number of a notice. Private:
-- only the view, the invariant and private functions cite it.
use Rattle.std.specs.Prelude.{◌≡◌, ℕ, ℤ, pos, ◌+◌, ◌-◌, ◌<◌, ◌≤◌, true, List, [], ◌∷◌, ◌++◌, replicate, length, map}
use Rattle.std.specs.Prelude.{slice_index, slice_index_or, Option, Some, None}
use Rattle.ss_links.specs.Board.{Board, IsSound}
use Rattle.ss_links.specs.Seats.{has, times_in}
use Rattle.ss_events.specs.declared.rule.ClassRule.{ClassRule}
use Rattle.ss_events.specs.declared.pending_notice.PendingNotice.{PendingNotice}
use Rattle.ss_events.specs.declared.pending_notice.Row.{Row}
use Rattle.ss_events.specs.Views.{rule_of, notice_of}
use Rattle.ss_events.specs.Rules.{Rule, rule_at, is_event_class}
use Rattle.ss_events.specs.State.{AreRanked}
use Rattle.ss_words.specs.declared.limits.TheConstants.{MOST_CLASSES, MOST_REFERENCES}
use Rattle.ss_events.specs.declared.limits.TheConstants.{MOST_SCHEDULINGS}
use Rattle.ss_events.specs.Agenda.{Pending}
use Rattle.ss_events.specs.State.{AgendaState, seat_at, board_of, Each, AreFiled, IsPending}

-- perhaps a notice, and others
abbrev pub and_others : ℕ → Option PendingNotice → List Pending → List Pending
and_others n None es = es
and_others n (Some x) es = notice_of n x ∷ es

-- the pending notices of rows, the first of which has this number
abbrev pub notices_from : ℕ → List Row → List Pending
notices_from n [] = []
notices_from n (r ∷ rs) = and_others n r.pending (notices_from (n + 1) rs)

-- a row without a seat and without an entry
abbrev pub empty_row : Row
empty_row = record { seat = None; pending = None }

-- the row of a number
abbrev pub row_at : List Row → ℕ → Row
row_at rows i = slice_index_or rows i empty_row

-- the state as it is kept
abbrev pub state_of : List ClassRule → List Row → ℕ → List ℕ → AgendaState
state_of rules rows next notices = record {
  rules = map rule_of rules;
  agenda = record { pending = notices_from 1 rows; next_filing = next };
  notices = notices;
}

-- each seat has a time; if its notice is pending, it is due at that time
pub record AreDue (times : List ℤ) (notices : List ℕ) (rows : List Row) : Type 0 where
  -- there is a time for each seat
  pub count : length times ≡ length notices
  -- a pending notice's is its own
  pub due : (seat : ℕ) (x : PendingNotice) → seat < length notices
      → (row_at rows (slice_index notices seat - 1)).pending ≡ Some x → slice_index_or times seat (pos 0) ≡ x.time

-- the kept rows, the state and the board agree
pub record IsAgenda (rows : List Row) (agenda : AgendaState) (b : Board) : Type 0 where
  -- the rows are the pending notices
  pub read : agenda.agenda.pending ≡ notices_from 1 rows
  -- the board is that of the state
  pub board : b ≡ board_of agenda
  -- no seat is twice on the board
  pub sound : IsSound b
  -- each row has its notice's seat
  pub seats : (i : ℕ) → i < length rows → (row_at rows i).seat ≡ seat_at agenda.notices (i + 1)
  -- a seat is a row's notice's
  pub seated : (n : ℕ) → has agenda.notices n ≡ true → (0 < n) × (n ≤ length rows)
  -- no notice has two seats
  pub once : (n : ℕ) → times_in agenda.notices n ≤ 1
  -- there are at most as many rows as references
  pub few : length rows ≤ MOST_REFERENCES
  -- the entry of each pending notice fits its class
  pub pending : Each (IsPending agenda.rules agenda.notices agenda.agenda.next_filing) agenda.agenda.pending
  -- no two have one filing number
  pub filed : AreFiled agenda.agenda.pending
  -- filing numbers begin with 1
  pub next : 0 < agenda.agenda.next_filing
  -- and end with the limit, 2^40
  pub filing : agenda.agenda.next_filing ≤ MOST_SCHEDULINGS + 1
  -- no two classes have one place in the order of priority
  pub ranked : AreRanked agenda.rules
  -- there are at most as many classes as a program has
  pub classes : length agenda.rules ≤ MOST_CLASSES

-- an entry's class is an event class, and it has a key for each of the class's
abbrev pub IsEntry : List Rule → PendingNotice → Type 0
IsEntry rules notice =
    (is_event_class rules notice.class ≡ true) × (length notice.keys.items ≡ length (rule_at rules notice.class).ties)

-- rows became more, the new ones empty, but not more than a count
pub record IsGrown (old new : List Row) (count : ℕ) : Type 0 where
  -- how many rows are new
  pub more : ℕ
  -- they are empty, after the old ones
  pub whole : new ≡ old ++ replicate more empty_row
  -- there are no more rows than were wanted or there
  pub few : (n : ℕ) → count ≤ n → length old ≤ n → length new ≤ n
