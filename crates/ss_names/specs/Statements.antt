-- The statement that a breach of the checker's rules is about, if it is about no name, and the text
-- about it.
use Rattle.std.specs.Prelude.{ℕ, ◌==◌, ◌&&◌, Bool, true, false, not, List, [], ◌∷◌, ◌++◌, length, map}
use Rattle.std.specs.Prelude.{codes, Option, Some, None}
use Rattle.ss_words.specs.declared.mark.Mark.{Mark}
use Rattle.ss_words.specs.declared.mark.Mark.TheVariants.{Reserved}
use Rattle.ss_words.specs.declared.reserved.Reserved.{Reserved as AReserved}
use Rattle.ss_words.specs.declared.reserved.Reserved.TheVariants as r
use Rattle.ss_words.specs.Plain.{PlainAt}
use Rattle.ss_words.specs.PlainRules.{mark_in}
use Rattle.ss_check.specs.declared.wrong.Reason.{Reason}
use Rattle.ss_check.specs.declared.wrong.Reason.TheVariants as w
use Rattle.ss_names.specs.declared.here.Here.{Here}
use Rattle.ss_names.specs.declared.statements.Beginning.{Beginning}
use Rattle.ss_names.specs.Collected.{here_at}
use Rattle.ss_names.specs.Here.{at_start, behind}
use Rattle.ss_names.specs.Landmarks.{Section, no_section, section_at, section_behind}
use Rattle.ss_names.specs.Pictures.{fields_in, first_picture, picture_text, value_count}
use Rattle.ss_names.specs.Positions.{first_mark}
use Rattle.ss_names.specs.Saying.{name_text, number_text}

-- ---- which statement

-- PRINT
abbrev pub is_print : AReserved → Bool
is_print r.Print = true
is_print _ = false

-- MAIN
abbrev pub is_main : AReserved → Bool
is_main r.Main = true
is_main _ = false

-- PRIORITY
abbrev pub is_priority : AReserved → Bool
is_priority r.Priority = true
is_priority _ = false

-- START
abbrev pub is_start : AReserved → Bool
is_start r.Start = true
is_start _ = false

-- IF
abbrev pub is_if : AReserved → Bool
is_if r.If = true
is_if _ = false

-- a reason is about the statement that this word begins
abbrev pub is_about : Reason → AReserved → Bool
is_about w.WrongPicture word = is_print word
is_about w.SecondMain word = is_main word
is_about w.SecondPriority word = is_priority word
is_about w.StartOutsideMain word = is_start word
is_about w.WithoutFind word = is_if word
is_about _ word = false

-- a reason is about the statement that this reserved word or sign begins
abbrev pub is_about_mark : Reason → Option Mark → Bool
is_about_mark reason (Some (Reserved word)) = is_about reason word
is_about_mark reason _ = false

-- FOUND or NONE
abbrev pub is_of_find : Option Mark → Bool
is_of_find (Some (Reserved r.Found)) = true
is_of_find (Some (Reserved r.NoneFound)) = true
is_of_find _ = false

-- FIND
abbrev pub is_find : Option AReserved → Bool
is_find (Some r.Find) = true
is_find _ = false

-- a statement on the line of the breach or on another, before these words, is the one that is told: a START outside
-- MAIN; an IF FOUND or IF NONE with no FIND directly before it; a PRINT, since a picture ends its line, so that a line
-- has one; and the first MAIN and PRIORITY of the text, on any line
abbrev pub is_told : Reason → Bool → Section → Here → List PlainAt → Bool
is_told w.StartOutsideMain is_on_line section here ws = is_on_line && not (length section.name == 0)
is_told w.WithoutFind is_on_line section here ws =
    is_on_line && (is_of_find (first_mark ws) && not (is_find here.begun))
is_told w.WrongPicture is_on_line section here ws = is_on_line
is_told _ is_on_line section here ws = true

-- a statement
pub record Spot : Type 0 where
  -- its line
  pub line : ℕ
  -- its section
  pub section : Section
  -- the place of its first word
  pub here : Here
  -- how many values it has after WITH
  pub values : ℕ
  -- the lines of its picture
  pub picture : List (List ℕ)

-- a statement of the code
abbrev pub spot_at : Beginning → Spot
spot_at a = record {
  line = a.line;
  section = section_at a.section;
  here = a.here;
  values = a.values;
  picture = map (λ l. l.items) a.picture.now;
}

-- the statement that a word begins, before these words
abbrev pub spot : Section → Here → PlainAt → List PlainAt → Spot
spot section here word ws = record {
  line = word.line;
  section = section;
  here = here;
  values = value_count ws;
  picture = first_picture ws;
}

-- the first statement that a reason on a line is about, among words after others
unfoldable pub statement : Reason → ℕ → Section → Here → List PlainAt → Option Spot
statement reason line section here [] = None
statement reason line section here (v ∷ ws) =
    let at = here_at here v in
    elim (is_about_mark reason (mark_in v.word) && is_told reason (v.line == line) section at ws) [
      | true ↦ Some (spot section at v ws)
      | false ↦ statement reason line (section_behind section at v) (behind at v.word v.line ws) ws
    ]

-- ---- the text about it

-- the section of a statement, with the line of its head
abbrev pub section_text : Section → List ℕ
section_text section =
    name_text (codes "It is in the section ") section.name ++ number_text (codes ", line ") section.head (codes ".\n")

-- the text about a statement that a reason is about
abbrev pub statement_text : Reason → Spot → List ℕ
statement_text w.WrongPicture spot = picture_text spot.values (fields_in spot.picture)
statement_text w.SecondMain spot = number_text (codes "The first MAIN is on line ") spot.line (codes ".\n")
statement_text w.SecondPriority spot = number_text (codes "The first PRIORITY is on line ") spot.line (codes ".\n")
statement_text w.StartOutsideMain spot = section_text spot.section
statement_text w.WithoutFind spot =
    number_text (codes "The words that begin on line ") spot.here.line (codes " come before it, and are no FIND.\n")
statement_text _ spot = []

-- the text about it, if there is one
abbrev pub found_text : Reason → Option Spot → List ℕ
found_text reason (Some a) = statement_text reason a
found_text reason None = []

-- the text about the statement that a reason on a line is about, or that no section is MAIN
abbrev pub place_text : List PlainAt → Reason → ℕ → List ℕ
place_text ws w.NoMain line = codes "No section is MAIN.\n"
place_text ws reason line = found_text reason (statement reason line no_section at_start ws)
