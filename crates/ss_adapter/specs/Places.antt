-- Lines of the model that have a place, and the break lines of a request.
use Rattle.std.specs.Prelude.{ℕ, ◌≡◌, ◌+◌, ◌^◌, Bool, ◌&&◌, List, [], ◌∷◌, ◌++◌, codes, map, flat_map, fold}
use Rattle.std.specs.Prelude.{Option, Some, None, option_and_then, position, slice_get, zero, suc}
use Rattle.std.specs.Prelude.{if◌then◌else◌, nat_eq, nat_le, nat_lt}
use Rattle.std.specs.List.{list_any}
use Rattle.std.specs.Str.{bytes_eq}
use Rattle.ss_check.specs.Symbols.{Symbols}
use Rattle.ss_program.specs.Program.{ProgramTable, SectionTable}
use Rattle.ss_program.specs.declared.place.Spot.{Spot}
use Rattle.ss_debug.specs.BreakCondition.{BreakCondition}
use Rattle.ss_debug.specs.BreakLines.{BreakPoint, breaks_with, is_full, without_break}
use Rattle.ss_debug.specs.Turn.{DebuggerState, debugger_state_with}
use Rattle.ss_expressions.specs.Aims.{Aimed, aimed, refused, aim_asked}
use Rattle.ss_expressions.specs.BreakAims.{break_condition}
use Rattle.ss_messages.specs.Bodies.{set_item, unset_item, without_last}
use Rattle.ss_messages.specs.Counting.{meant}
use Rattle.ss_messages.specs.declared.counting.Counting.{Counting}
use Rattle.ss_messages.specs.declared.parts.LinePoint.{LinePoint}
use Rattle.ss_prompt.specs.BreakPlaces.{section_on}
use Rattle.ss_adapter.specs.declared.desk.TheConstants.{MOST_WATCHED}
use Rattle.ss_adapter.specs.declared.breaks.TheConstants.{UNCOUNTED, UNHEEDED}

-- the lines of the places of a section
abbrev pub section_lines : SectionTable → List ℕ
section_lines section = map (λ spot. spot.line) section.places

-- the lines of all places
abbrev pub place_lines : ProgramTable → List ℕ
place_lines program = flat_map section_lines program.sections

-- whether a line comes before the nearest so far
abbrev pub is_nearer_line : ℕ → Option ℕ → Bool
is_nearer_line line None = nat_lt line (2 ^ 32)
is_nearer_line line (Some nearest) = nat_lt line nearest

-- the nearer of two lines, the first of which may be none, that are not before a line
abbrev pub nearer_line : ℕ → Option ℕ → ℕ → Option ℕ
nearer_line from nearest line = if nat_le from line && is_nearer_line line nearest then Some line else nearest

-- the nearest line with a place, from a line on
unfoldable pub next_line : ProgramTable → ℕ → Option ℕ
next_line program from = fold (nearer_line from) None (place_lines program)

-- the number of the break point of a line, after those of data break points
abbrev pub line_id : ℕ → Option ℕ
line_id line = if nat_lt line (2 ^ 32) then Some (line + MOST_WATCHED) else None

-- break lines that a request sets, one by one
pub record Setting : Type 0 where
  -- the break lines
  pub breaks : List BreakPoint
  -- those of them that the request sets
  pub set : List ℕ
  -- the item of the reply for each
  pub text : List ℕ

-- a break point that is not set, and why
abbrev pub with_unset : Setting → List ℕ → Setting
with_unset setting reason =
    record { breaks = setting.breaks; set = setting.set; text = setting.text ++ unset_item reason }

-- a break line, with a condition or without, to an editor that counts so; or that there are too many
abbrev pub with_break : Counting → Setting → ℕ → Option BreakCondition → Setting
with_break counting setting line when =
    if is_full setting.breaks line then with_unset setting (codes "too many break points")
    else record {
      breaks = breaks_with setting.breaks line when;
      set = setting.set ++ line ∷ [];
      text = setting.text ++ set_item (line + MOST_WATCHED) line counting;
    }

-- a break line, if there is one, or this reason why there is none
abbrev pub with_next : Counting → List ℕ → Setting → Option ℕ → Setting
with_next counting reason setting (Some line) = with_break counting setting line None
with_next counting reason setting None = with_unset setting reason

-- a break line with the condition that a text is; or why it is none
abbrev pub with_aim : Counting → Setting → ℕ → List ℕ → Option Aimed → Setting
with_aim counting setting line text (Some (aimed aim)) =
    with_break counting setting line (Some (break_condition aim text))
with_aim counting setting line text (Some (refused answer)) = with_unset setting (without_last answer)
with_aim counting setting line text None = with_unset setting (codes "no condition")

-- the same at a line, by the names of the first section with a place on it, if there is a line
abbrev pub with_condition : ProgramTable → Symbols → Counting → Setting → List ℕ → Option ℕ → Setting
with_condition program symbols counting setting text (Some line) =
    with_aim counting setting line text (aim_asked symbols (section_on program line) text)
with_condition program symbols counting setting text None = with_unset setting (codes "no statement is here")

-- the break line at a line, if there is one, with a condition, if its text is not empty
abbrev pub with_line : ProgramTable → Symbols → Counting → Setting → Option ℕ → List ℕ → Setting
with_line program symbols counting setting line [] =
    with_next counting (codes "no statement is here") setting line
with_line program symbols counting setting line (c ∷ cs) =
    with_condition program symbols counting setting (c ∷ cs) line

-- the break line for a break point of a request, on the nearest line with a place, if it counts no hits and has no
-- message
abbrev pub with_point : ProgramTable → Symbols → Counting → Setting → LinePoint → Setting
with_point program symbols counting setting point =
    if point.is_simple
    then with_line program symbols counting setting (next_line program (meant counting.lines_from_one point.line))
    point.condition
    else with_unset setting UNCOUNTED.now

-- the line of a place
abbrev pub spot_line : Option Spot → Option ℕ
spot_line None = None
spot_line (Some spot) = nearer_line 0 None spot.line

-- the line of the first place of a section
abbrev pub first_place_line : Option SectionTable → Option ℕ
first_place_line None = None
first_place_line (Some s) = spot_line (slice_get s.places 0)

-- the line of the first place of the section of this name
abbrev pub named_line : ProgramTable → List ℕ → Option ℕ
named_line program name =
    first_place_line (option_and_then (slice_get program.sections)
    (position (λ s. bytes_eq name s.name) program.sections))

-- the break line for a section that the request names, if it is to stop each time
abbrev pub with_named : ProgramTable → Counting → Setting → Option (List ℕ) → Setting
with_named program counting setting None = with_unset setting UNHEEDED.now
with_named program counting setting (Some name) =
    with_next counting (codes "no section has this name") setting (named_line program name)

-- the break lines without one, if no request of the other kind set it
abbrev pub unless_kept : List ℕ → List BreakPoint → ℕ → List BreakPoint
unless_kept kept breaks line = if list_any (λ k. nat_eq k line) kept then breaks else without_break line breaks

-- the break lines without those that an earlier request set, but for those that requests of the other kind set
abbrev pub breaks_left : List BreakPoint → List ℕ → List ℕ → List BreakPoint
breaks_left breaks set kept = fold (unless_kept kept) breaks set

-- no break line of a request is set yet
abbrev pub initial_setting : List BreakPoint → List ℕ → List ℕ → Setting
initial_setting breaks set kept = record { breaks = breaks_left breaks set kept; set = []; text = [] }

-- the break lines after a request that names lines
abbrev pub setting_of : ProgramTable → Symbols → Counting → List BreakPoint → List ℕ → List ℕ → List LinePoint → Setting
setting_of program symbols counting breaks set kept points =
    fold (with_point program symbols counting) (initial_setting breaks set kept) points

-- the break lines after a request that names sections
abbrev pub section_setting_of : ProgramTable → Counting → List BreakPoint → List ℕ → List ℕ →
    List (Option (List ℕ)) → Setting
section_setting_of program counting breaks set kept names =
    fold (with_named program counting) (initial_setting breaks set kept) names

-- n break points that are not set, for this reason
abbrev pub unset_items : List ℕ → ℕ → List ℕ
unset_items reason zero = []
unset_items reason (suc n) = unset_items reason n ++ unset_item reason

-- the break lines that were set, and their items
abbrev pub IsSetting : DebuggerState → DebuggerState → List ℕ → List ℕ → Setting → Type 0
IsSetting old new set text setting =
    (new ≡ debugger_state_with old setting.breaks) × (set ≡ setting.set) × (text ≡ setting.text)
