-- The names of a model, and the places at which they occur.
use Rattle.std.specs.Prelude.{ℕ, Bool, true, false, ◌==◌, ◌&&◌, not, length, List, [], ◌∷◌, ◌++◌, codes}
use Rattle.std.specs.Prelude.{decimal, count_by, bytes_eq, Ok, Err}
use Rattle.ss_words.specs.Plain.{PlainAt, name, number, mark, picture}
use Rattle.ss_words.specs.PlainRules.{plain_words_of}
use Rattle.ss_words.specs.TextWords.{words_of}
use Rattle.ss_words.specs.Words.{WordAt}
use Rattle.ss_names.specs.declared.roles.Role.{Role}
use Rattle.ss_names.specs.declared.roles.Role.TheVariants.{Declared, Set, Read, Named}
use Rattle.ss_names.specs.declared.collected.Wanted.TheVariants as wanted
use Rattle.ss_names.specs.Collected.{collection}
use Rattle.ss_names.specs.Here.{at_start}
use Rattle.ss_names.specs.Known.{knowledge_of, known_text}
use Rattle.ss_names.specs.Names.{names_in}
use Rattle.ss_names.specs.Roles.{lines_text, lines_with}

-- a name, how often it occurs, and the line of its first place
abbrev pub name_line : List ℕ → ℕ → ℕ → List ℕ
name_line n count line = n ++ codes ": " ++ decimal count ++ codes ", first on line " ++ decimal line ++ codes "\n"

-- a name occurs here first, after the names `before`
unfoldable pub is_first : List (List ℕ) → List ℕ → Bool
is_first before n = count_by (bytes_eq n) before == 0

-- the row of a name on this line, if it occurs here first, after the names `before`; `all` are all names
abbrev pub name_row : List (List ℕ) → List (List ℕ) → List ℕ → ℕ → List ℕ
name_row all before n line =
    elim (is_first before n) [ true ↦ name_line n (count_by (bytes_eq n) all) line | false ↦ [] ]

-- the rows of the names among words, after the names `before`; `all` are all names
unfoldable pub name_rows : List (List ℕ) → List (List ℕ) → List PlainAt → List ℕ
name_rows all before [] = []
name_rows all before (w ∷ ws) = elim w.word [
  | name n ↦ name_row all before n w.line ++ name_rows all (before ++ n ∷ []) ws
  | number n ↦ name_rows all before ws
  | mark m ↦ name_rows all before ws
  | picture ls ↦ name_rows all before ws
]

-- the names of words
abbrev pub names_of_words : List WordAt → List ℕ
names_of_words ws = let plain = plain_words_of ws in name_rows (names_in plain) [] plain

-- the names of a model, each once, in the order of first places; none if a rule L refuses it
abbrev pub names_text : List ℕ → List ℕ
names_text model = elim (words_of model) [ Ok ws ↦ names_of_words ws | Err f ↦ [] ]

-- ---- one name

-- lines after the text about them; nothing if there is none
abbrev pub if_any : List ℕ → List ℕ → List ℕ
if_any said [] = []
if_any said (line ∷ lines) = said ++ lines_text (line ∷ lines)

-- the lines on which a name has a role
unfoldable pub role_part : List PlainAt → List ℕ → Role → List ℕ → List ℕ
role_part plain n role said = if_any said (lines_with role n at_start plain)

-- a remark, if it is so
unfoldable pub remark : Bool → List ℕ → List ℕ
remark true said = said
remark false said = []

-- a name has a role somewhere
abbrev pub has_role : List PlainAt → List ℕ → Role → Bool
has_role plain n role = not (length (lines_with role n at_start plain) == 0)

-- the other of setting and reading
abbrev pub opposite : Role → Role
opposite Set = Read
opposite _ = Set

-- the words set or read a name only, but that they declare it
unfoldable pub only_with : List PlainAt → List ℕ → Role → Bool
only_with plain n role =
    has_role plain n role && not (has_role plain n (opposite role)) && not (has_role plain n Named)

-- a name, and how often it occurs
abbrev pub name_head : List ℕ → ℕ → List ℕ
name_head n count = n ++ codes ": " ++ decimal count ++ codes ", "

-- a name, how often it occurs, its kind, and the line of its declaration
unfoldable pub name_front : List PlainAt → List ℕ → ℕ → List ℕ
name_front plain n count =
    name_head n count ++ known_text (knowledge_of (collection wanted.Declared [] at_start [] plain) n)

-- the lines on which it has each role
abbrev pub roles_told : List PlainAt → List ℕ → List ℕ
roles_told plain n =
    role_part plain n Declared (codes ", declared on")
    ++ role_part plain n Set (codes ", set on")
    ++ role_part plain n Read (codes ", read on")
    ++ role_part plain n Named (codes ", named on")

-- the remark that it occurs once
unfoldable pub once_remark : ℕ → List ℕ
once_remark count = remark (count == 1) (codes ", ONLY ONCE")

-- the remark that it is set or read only
unfoldable pub only_remark : List PlainAt → List ℕ → Role → List ℕ → List ℕ
only_remark plain n role said = remark (only_with plain n role) said

-- the remarks about it
abbrev pub remarks : List PlainAt → List ℕ → ℕ → List ℕ
remarks plain n count =
    once_remark count
    ++ only_remark plain n Read (codes ", NEVER SET")
    ++ only_remark plain n Set (codes ", NEVER READ")

-- the report on a name that occurs `count` times
abbrev pub told_of_name : List PlainAt → List ℕ → ℕ → List ℕ
told_of_name plain n count =
    name_front plain n count ++ roles_told plain n ++ remarks plain n count ++ codes "\n"

-- the report that there is no such name
abbrev pub no_name : List ℕ → List ℕ
no_name n = codes "NO NAME " ++ n ++ codes "\n"

-- the report on a name of these words
abbrev pub name_told : List PlainAt → List ℕ → List ℕ
name_told plain n = let count = count_by (bytes_eq n) (names_in plain) in
    elim (count == 0) [ true ↦ no_name n | false ↦ told_of_name plain n count ]

-- the report on a name of a model; nothing if a rule L refuses the model
abbrev pub name_text : List ℕ → List ℕ → List ℕ
name_text model n = elim (words_of model) [ Ok ws ↦ name_told (plain_words_of ws) n | Err f ↦ [] ]
