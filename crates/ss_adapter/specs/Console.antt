-- The console: the event for a line of the model that becomes a break line, or is none any more;
-- the message for a movement.
use Rattle.std.specs.Prelude.{ℕ, ◌+◌, Bool, true, false, List, [], ◌∷◌, ◌++◌, codes, nat_eq, Option, Some, None}
use Rattle.std.specs.List.{before_first}
use Rattle.ss_program.specs.Program.{ProgramTable}
use Rattle.ss_prompt.specs.declared.shown.Shown.{Shown}
use Rattle.ss_debug.specs.LineTable.{without_line}
use Rattle.ss_debug.specs.CommandLines.{separates, line_separators}
use Rattle.ss_messages.specs.Messages.{Sent, event}
use Rattle.ss_messages.specs.Shown.{new_point_body, removed_point_body}
use Rattle.ss_messages.specs.declared.counting.Counting.{Counting}
use Rattle.ss_adapter.specs.declared.desk.TheConstants.{MOST_WATCHED}
use Rattle.ss_adapter.specs.Desk.{DeskView}
use Rattle.ss_adapter.specs.Places.{next_line}

-- whether a line is the one that is nearest
abbrev pub is_nearest : ℕ → Option ℕ → Bool
is_nearest line None = false
is_nearest line (Some nearest) = nat_eq nearest line

-- whether a place is on a line
abbrev pub has_place : ProgramTable → ℕ → Bool
has_place program line = is_nearest line (next_line program line)

-- the event for a line that is a break line now (true) or not, and was one or not: new, or removed
abbrev pub point_told : ProgramTable → List ℕ → Counting → ℕ → Bool → Bool → List Sent
point_told program path counting line true false =
    event (codes "breakpoint")
    (new_point_body (line + MOST_WATCHED) (has_place program line) line path counting) ∷ []
point_told program path counting line false true =
    event (codes "breakpoint") (removed_point_body (line + MOST_WATCHED)) ∷ []
point_told program path counting line _ _ = []

-- the lines that requests set; a line that became a break line counts as set by a request for lines
abbrev pub lines_behind : List ℕ → ℕ → Bool → Bool → List ℕ
lines_behind set line true false = set ++ line ∷ []
lines_behind set line false true = without_line line set
lines_behind set line _ _ = set

-- the lines that requests for sections set, after a line became a break line or is none any more
abbrev pub sections_behind : List ℕ → ℕ → Bool → Bool → List ℕ
sections_behind sections line false true = without_line line sections
sections_behind sections line _ _ = sections

-- the desk after a line became a break line or is none any more
abbrev pub desk_with : DeskView → ℕ → Bool → Bool → DeskView
desk_with desk line new old = record {
  path = desk.path;
  model = desk.model;
  symbols = desk.symbols;
  displays = desk.displays;
  set = lines_behind desk.set line new old;
  sections = sections_behind desk.sections line new old;
  watched = desk.watched;
  told = desk.told;
  counting = desk.counting;
  stops = desk.stops;
}

-- the desk with other questions that are answered at each stop
abbrev pub desk_showing : DeskView → List Shown → DeskView
desk_showing desk displays = record {
  path = desk.path;
  model = desk.model;
  symbols = desk.symbols;
  displays = displays;
  set = desk.set;
  sections = desk.sections;
  watched = desk.watched;
  told = desk.told;
  counting = desk.counting;
  stops = desk.stops;
}

-- the first line of an answer
abbrev pub first_line : List ℕ → List ℕ
first_line answer = before_first (separates line_separators) answer ++ 10 ∷ []
