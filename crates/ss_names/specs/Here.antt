-- The place of a word, by the words before it: whether names are declared there, and of which item,
-- head or statement it is.
use Rattle.std.specs.Prelude.{ℕ, ◌+◌, ◌-◌, ◌==◌, ◌&&◌, ◌||◌, Bool, true, false, not, nat_lt, List, [], ◌∷◌, Option}
use Rattle.std.specs.Prelude.{Some, None, if◌then◌else◌}
use Rattle.ss_words.specs.declared.limits.TheConstants.{MOST_PARENTHESES}
use Rattle.ss_words.specs.declared.mark.Mark.{Mark}
use Rattle.ss_words.specs.declared.mark.Mark.TheVariants.{Reserved, Sign}
use Rattle.ss_words.specs.declared.reserved.Reserved.{Reserved as AReserved}
use Rattle.ss_words.specs.declared.reserved.Reserved.TheVariants as r
use Rattle.ss_words.specs.declared.word.Sign.{Sign as ASign}
use Rattle.ss_words.specs.declared.word.Sign.TheVariants as s
use Rattle.ss_words.specs.Plain.{Plain, PlainAt, name, number, mark, picture}
use Rattle.ss_names.specs.declared.here.Here.{Here}
use Rattle.ss_names.specs.declared.meaning.Meaning.{Meaning}
use Rattle.ss_names.specs.declared.meaning.Meaning.TheVariants as m

-- at the start of a text
abbrev pub at_start : Here
at_start = record {
  in_preamble = false;
  class = m.Class;
  names = None;
  begun = None;
  line = 0;
  before = None;
  last = None;
  depth = 0;
}

-- ---- the beginnings of items, heads and statements

-- a word that begins an item of the preamble, or its END
abbrev pub begins_item : AReserved → Bool
begins_item r.Normally = true
begins_item r.Permanent = true
begins_item r.Temporary = true
begins_item r.Event = true
begins_item r.Every = true
begins_item r.System = true
begins_item r.Define = true
begins_item r.Priority = true
begins_item r.Break = true
begins_item r.External = true
begins_item r.End = true
begins_item _ = false

-- a word that begins a preamble, the head of a section or a DEFINE, or is an END
abbrev pub begins_frame : AReserved → Bool
begins_frame r.Preamble = true
begins_frame r.End = true
begins_frame r.Main = true
begins_frame r.Routine = true
begins_frame r.Event = true
begins_frame r.Define = true
begins_frame _ = false

-- a word that begins a statement that holds no other
abbrev pub begins_simple : AReserved → Bool
begins_simple r.Let = true
begins_simple r.Add = true
begins_simple r.Subtract = true
begins_simple r.Create = true
begins_simple r.Destroy = true
begins_simple r.File = true
begins_simple r.Remove = true
begins_simple r.Schedule = true
begins_simple r.Cancel = true
begins_simple r.Start = true
begins_simple r.Stop = true
begins_simple r.Call = true
begins_simple r.Return = true
begins_simple r.Read = true
begins_simple r.Print = true
begins_simple r.Skip = true
begins_simple _ = false

-- a word that begins a place of an IF or a FOR
abbrev pub begins_control : AReserved → Bool
begins_control r.If = true
begins_control r.Else = true
begins_control r.Always = true
begins_control r.For = true
begins_control r.Loop = true
begins_control r.Find = true
begins_control r.Compute = true
begins_control _ = false

-- a word that begins a preamble, a head or a place of a section
abbrev pub begins_place : AReserved → Bool
begins_place word = begins_frame word || begins_simple word || begins_control word

-- SAVING, after which EVENT begins nothing
abbrev pub is_saving : Option Mark → Bool
is_saving (Some (Reserved r.Saving)) = true
is_saving _ = false

-- a word begins an item, a head or a place
abbrev pub begins : AReserved → Bool → Option Mark → Bool
begins word true before = begins_item word
begins word false before = begins_place word && not (is_saving before)

-- a word with which a statement, a phrase or a head can end
abbrev pub ends_form : AReserved → Bool
ends_form r.Return = true
ends_form r.Stop = true
ends_form r.Always = true
ends_form r.Else = true
ends_form r.Loop = true
ends_form r.Do = true
ends_form r.Now = true
ends_form r.Days = true
ends_form r.Lines = true
ends_form r.Case = true
ends_form r.Empty = true
ends_form r.Found = true
ends_form r.NoneFound = true
ends_form r.Main = true
ends_form r.Simulation = true
ends_form r.Notices = true
ends_form r.Variables = true
ends_form r.Order = true
ends_form _ = false

-- a closing parenthesis
abbrev pub is_close : ASign → Bool
is_close s.Close = true
is_close _ = false

-- a statement, phrase or head can end here: a name, number, picture, parenthesis or such a word
abbrev pub ends_statement : Option Mark → Bool
ends_statement None = true
ends_statement (Some (Sign x)) = is_close x
ends_statement (Some (Reserved w)) = ends_form w

-- a name here begins an assignment without LET
abbrev pub begins_assignment : Here → Bool
begins_assignment here = not here.in_preamble && here.depth == 0 && ends_statement here.before

-- at a name on this line: if it begins an assignment, that has begun
abbrev pub at_name : Here → ℕ → Here
at_name here line = if begins_assignment here then record here {
  names = None;
  begun = Some r.Let;
  line = line;
  before = Some (Reserved r.Let);
  last = Some r.Let;
} else here

-- ---- the declared meanings of names

-- DEFINE
abbrev pub is_define : AReserved → Bool
is_define r.Define = true
is_define _ = false

-- SETS, or VARIABLES or a further DEFINE
abbrev pub tells_sets : AReserved → Option Bool
tells_sets r.Sets = Some true
tells_sets r.Variables = Some false
tells_sets r.Define = Some false
tells_sets _ = None

-- a DEFINE before these words is of sets: SETS is among them before VARIABLES and a further DEFINE
unfoldable pub defines_sets : List PlainAt → Bool
defines_sets [] = false
defines_sets (w ∷ ws) = elim w.word [
  | name n ↦ defines_sets ws
  | number n ↦ defines_sets ws
  | mark j ↦ elim j [
    | Sign x ↦ defines_sets ws
    | Reserved k ↦ elim (tells_sets k) [ Some b ↦ b | None ↦ defines_sets ws ]
  ]
  | picture ls ↦ defines_sets ws
]

-- PREAMBLE opens the preamble, END closes it
abbrev pub opens_preamble : AReserved → Bool → Bool
opens_preamble r.Preamble b = true
opens_preamble r.End b = false
opens_preamble _ b = b

-- the meaning that EVERY and INCLUDE declare after a word
abbrev pub class_behind : AReserved → Meaning → Meaning
class_behind r.Permanent c = m.Permanent
class_behind r.Temporary c = m.Temporary
class_behind r.Event c = m.Event
class_behind _ c = c

-- after ROUTINE: a routine
abbrev pub declared_by_head : AReserved → Option Meaning
declared_by_head r.Routine = Some m.Routine
declared_by_head _ = None

-- after HAS: variables of SYSTEM, and else attributes
abbrev pub declared_by_has : Option AReserved → Meaning
declared_by_has (Some r.System) = m.Variable
declared_by_has _ = m.Attribute

-- in a DEFINE: sets or variables
abbrev pub declared_by_define : Bool → Meaning
declared_by_define true = m.Set
declared_by_define false = m.Variable

-- in the preamble
abbrev pub declared_by_item : AReserved → Option AReserved → Meaning → Bool → Option Meaning
declared_by_item r.Include begun c sets = Some c
declared_by_item r.Every begun c sets = Some c
declared_by_item r.Has begun c sets = Some (declared_by_has begun)
declared_by_item r.Owns begun c sets = Some m.Set
declared_by_item r.To begun c sets = Some m.Set
declared_by_item r.Define begun c sets = Some (declared_by_define sets)
declared_by_item _ begun c sets = None

-- the declared meaning of names after a word
abbrev pub declared_behind : AReserved → Bool → Option AReserved → Meaning → Bool → Option Meaning
declared_behind word true begun c sets = declared_by_item word begun c sets
declared_behind word false begun c sets = declared_by_head word

-- one name is after EVERY and ROUTINE, and a list is after the others
abbrev pub names_behind_name : Option Meaning → Option AReserved → Option Meaning
names_behind_name names (Some r.Every) = None
names_behind_name names (Some r.Routine) = None
names_behind_name names _ = names

-- the list goes on after a comma
abbrev pub names_behind_sign : Option Meaning → ASign → Option Meaning
names_behind_sign names s.Comma = names
names_behind_sign names _ = None

-- ---- after a further word

-- how many parentheses are open, up to the most of a text
abbrev pub depth_behind : ℕ → ASign → ℕ
depth_behind d s.Open = if nat_lt d MOST_PARENTHESES then d + 1 else d
depth_behind d s.Close = d - 1
depth_behind d _ = d

-- after a name
abbrev pub behind_name : Here → Here
behind_name here = record here { names = names_behind_name here.names here.last; before = None }

-- after a sign
abbrev pub behind_sign : Here → ASign → Here
behind_sign here x = record here {
  names = names_behind_sign here.names x;
  before = Some (Sign x);
  depth = depth_behind here.depth x;
}

-- after a reserved word on this line, a DEFINE being of sets or not
abbrev pub behind_reserved : Here → AReserved → ℕ → Bool → Here
behind_reserved here word line sets =
    let starts = begins word here.in_preamble here.before in
    let begun = if starts then Some word else here.begun in
    let class = class_behind word here.class in
    record {
      in_preamble = opens_preamble word here.in_preamble;
      class = class;
      names = declared_behind word here.in_preamble begun class sets;
      begun = begun;
      line = if starts then line else here.line;
      before = Some (Reserved word);
      last = Some word;
      depth = if starts then 0 else here.depth;
    }

-- after a reserved word or sign on this line, before these words
abbrev pub behind_mark : Here → Mark → ℕ → List PlainAt → Here
behind_mark here (Sign x) line ws = behind_sign here x
behind_mark here (Reserved w) line ws = behind_reserved here w line (is_define w && defines_sets ws)

-- after a word on this line, before these words
abbrev pub behind : Here → Plain → ℕ → List PlainAt → Here
behind here (name n) line ws = behind_name here
behind here (number n) line ws = record here { before = None }
behind here (mark j) line ws = behind_mark here j line ws
behind here (picture ls) line ws = record here { before = None }
