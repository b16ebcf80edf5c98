-- The position of a listing of the pending notices.
use Rattle.std.specs.Prelude.{◌≡◌, ℕ, ◌<◌, List, drop, length, slice_index_or, Option, None}
use Rattle.ss_words.specs.declared.limits.TheConstants.{MOST_CLASSES}
use Rattle.ss_links.specs.Seats.{first_of}
use Rattle.ss_events.specs.declared.listing.Listing.{Listing}
use Rattle.ss_events.specs.Agenda.{Pending, of_class}
use Rattle.ss_events.specs.State.{AgendaState, seats_of, order}

-- the seat that a listing keeps for a class
abbrev pub seat_of_class : Listing → ℕ → Option ℕ
seat_of_class listing c = slice_index_or listing.seats c None

-- the notices that a listing has not listed yet
abbrev pub left_of : AgendaState → Listing → List Pending
left_of agenda listing = drop listing.listed (order agenda)

-- a listing of the agenda: it keeps for each class the seat of the first notice that it has not listed yet
pub record IsListing (agenda : AgendaState) (listing : Listing) : Type 0 where
  -- there is a place for each class that may be
  pub all : length listing.seats ≡ MOST_CLASSES
  -- the place of a class is the seat that is listed next of it
  pub seats : (c : ℕ) → c < length agenda.rules →
      seat_of_class listing c ≡ first_of (seats_of agenda.notices (of_class c (left_of agenda listing)))
