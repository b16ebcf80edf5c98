-- The agenda's state, with the board on which its notices have their seats.
use Rattle.std.specs.Prelude.{◌≡◌, ℕ, suc, ◌<◌, true, false, ◌==◌, if◌then◌else◌, List, [], ◌∷◌, length, map, Option}
use Rattle.std.specs.Prelude.{Some, None}
use Rattle.ss_links.specs.Board.{Board}
use Rattle.ss_links.specs.Seats.{has}
use Rattle.ss_events.specs.Rules.{Rule, rule_at, is_event_class, event_classes}
use Rattle.ss_words.specs.Ranges.{in_range}
use Rattle.ss_events.specs.Agenda.{Pending, Agenda, empty_agenda, in_order, of_class}

-- the classes' rules, the pending notices with the next filing number, and the notice of each seat
pub record AgendaState : Type 0 where
  -- the classes' rules
  pub rules : List Rule
  -- the pending notices and the next filing number
  pub agenda : Agenda
  -- the notice of each seat
  pub notices : List ℕ

-- the state without notices
abbrev pub no_notices : List Rule → AgendaState
no_notices rules = record { rules = rules; agenda = empty_agenda; notices = [] }

-- the seat of a notice
abbrev pub seat_in : List ℕ → ℕ → ℕ
seat_in [] n = 0
seat_in (m ∷ ms) n = if m == n then 0 else suc (seat_in ms n)

-- the seat of a notice, if it has one
abbrev pub seat_at : List ℕ → ℕ → Option ℕ
seat_at notices n = if has notices n then Some (seat_in notices n) else None

-- the seats of notices
abbrev pub seats_of : List ℕ → List Pending → List ℕ
seats_of notices es = map (λ e. seat_in notices e.notice) es

-- all pending notices in order
abbrev pub order : AgendaState → List Pending
order agenda = in_order agenda.rules agenda.agenda

-- the board: for each event class a list with the seats of its pending notices, in their order
abbrev pub board_of : AgendaState → Board
board_of agenda = record {
  lists = map (λ c. seats_of agenda.notices (of_class c (order agenda))) (event_classes agenda.rules);
  seats = length agenda.notices;
}

-- a fact of each notice
abbrev pub Each : (Pending → Type 0) → List Pending → Type 0
Each P [] = Unit {0}
Each P (e ∷ es) = P e × Each P es

-- no notice of the list has this reference
abbrev pub NoneNoted : ℕ → List Pending → Type 0
NoneNoted n es = Each (λ e. (e.notice == n) ≡ false) es

-- no notice of the list has this filing number
abbrev pub NoneFiled : ℕ → List Pending → Type 0
NoneFiled k es = Each (λ e. (e.filing == k) ≡ false) es

-- no two notices have one filing number
abbrev pub AreFiled : List Pending → Type 0
AreFiled [] = Unit {0}
AreFiled (e ∷ es) = NoneFiled e.filing es × AreFiled es

-- a notice of an event class, with a time of 64 bits, as many keys as its class has, and a filing number that was given
pub record IsWellNotice (rules : List Rule) (next_filing : ℕ) (notice : Pending) : Type 0 where
  -- its class is an event class
  pub class : is_event_class rules notice.class ≡ true
  -- its time is a number of 64 bits
  pub time : in_range notice.time ≡ true
  -- it has a key for each of the class's
  pub keys : length notice.keys ≡ length (rule_at rules notice.class).ties
  -- filing numbers begin with 1
  pub first : 0 < notice.filing
  -- its filing number was given
  pub filing : notice.filing < next_filing

-- such a notice that has a seat
pub record IsPending (rules : List Rule) (notices : List ℕ) (next_filing : ℕ) (notice : Pending) : Type 0 where
  -- it is well-formed
  pub well : IsWellNotice rules next_filing notice
  -- it has a seat
  pub seat : has notices notice.notice ≡ true

-- no two classes have one place in the order of priority
abbrev pub AreRanked : List Rule → Type 0
AreRanked rules = (c d : ℕ) → c < length rules → d < length rules →
    (rule_at rules c).priority ≡ (rule_at rules d).priority → c ≡ d
