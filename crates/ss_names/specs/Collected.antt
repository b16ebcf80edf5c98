-- The declarations of a text, and the facts in its items about sets and events.
use Rattle.std.specs.Prelude.{ℕ, Bool, true, false, ◌&&◌, ◌||◌, List, [], ◌∷◌, Option, Some, None, if◌then◌else◌}
use Rattle.ss_words.specs.declared.reserved.Reserved.{Reserved as AReserved}
use Rattle.ss_words.specs.declared.reserved.Reserved.TheVariants as r
use Rattle.ss_words.specs.Plain.{PlainAt, name, number, mark, picture}
use Rattle.ss_names.specs.declared.collected.Wanted.{Wanted}
use Rattle.ss_names.specs.declared.collected.Wanted.TheVariants.{Declared, Owned, Joined, Keys, Ordered}
use Rattle.ss_names.specs.declared.collected.Wanted.TheVariants.{Disciplines, Ties, Externals}
use Rattle.ss_names.specs.declared.here.Here.{Here}
use Rattle.ss_names.specs.declared.meaning.Meaning.{Meaning}
use Rattle.ss_names.specs.declared.meaning.Meaning.TheVariants as m
use Rattle.ss_names.specs.Here.{at_name, behind}
use Rattle.ss_names.specs.Meanings.{Declaration, with_declaration}

-- OWNS
abbrev pub is_owns : Option AReserved → Bool
is_owns (Some r.Owns) = true
is_owns _ = false

-- TO, as in BELONGS TO
abbrev pub is_to : Option AReserved → Bool
is_to (Some r.To) = true
is_to _ = false

-- HIGH or LOW
abbrev pub is_rank : Option AReserved → Bool
is_rank (Some r.High) = true
is_rank (Some r.Low) = true
is_rank _ = false

-- DEFINE
abbrev pub is_define : Option AReserved → Bool
is_define (Some r.Define) = true
is_define _ = false

-- PRIORITY
abbrev pub is_priority : Option AReserved → Bool
is_priority (Some r.Priority) = true
is_priority _ = false

-- BREAK
abbrev pub is_break : Option AReserved → Bool
is_break (Some r.Break) = true
is_break _ = false

-- EXTERNAL
abbrev pub is_external : Option AReserved → Bool
is_external (Some r.External) = true
is_external _ = false

-- a set
abbrev pub is_set : Option Meaning → Bool
is_set (Some m.Set) = true
is_set _ = false

-- a name here is collected, if it has a meaning: in the list after OWNS, BELONGS TO, PRIORITY ORDER IS or EXTERNAL
-- EVENTS ARE; as a key or a set in a DEFINE; directly after BREAK
abbrev pub is_wanted : Wanted → Here → Bool
is_wanted Declared here = true
is_wanted Owned here = is_owns here.last
is_wanted Joined here = is_to here.last
is_wanted Keys here = is_rank here.last && is_define here.begun
is_wanted Ordered here = is_priority here.begun
is_wanted Disciplines here = is_define here.last && is_set here.names
is_wanted Ties here = is_break here.last
is_wanted Externals here = is_external here.begun

-- the meaning of a name that is collected here: by the words about it, or its declared meaning
abbrev pub meaning_as : Wanted → Option Meaning → Option Meaning
meaning_as Keys names = Some m.Attribute
meaning_as Ordered names = Some m.Event
meaning_as Ties names = Some m.Event
meaning_as Externals names = Some m.Event
meaning_as _ names = names

-- the meaning as which a name is collected here, if it is wanted
abbrev pub collected_as : Wanted → Here → Option Meaning
collected_as wanted here = if is_wanted wanted here then meaning_as wanted here.names else None

-- the place of a word, at which a name may begin an assignment
abbrev pub here_at : Here → PlainAt → Here
here_at here word =
    elim word.word [ name n ↦ at_name here word.line | number n ↦ here | mark k ↦ here | picture ls ↦ here ]

-- the place after a word, before these
abbrev pub here_behind : Here → PlainAt → List PlainAt → Here
here_behind here word ws = behind (here_at here word) word.word word.line ws

-- EVERY
abbrev pub is_every : Option AReserved → Bool
is_every (Some r.Every) = true
is_every _ = false

-- the class of EVERY, or the last set of DEFINE, after a word: the word itself, if it is that
abbrev pub class_at : Here → List ℕ → PlainAt → List ℕ
class_at here class word = if is_every here.last || is_define here.last
    then elim word.word [ name n ↦ n | number n ↦ class | mark k ↦ class | picture ls ↦ class ]
    else class

-- the class whose clause declares a name here, or the set that a key ranks; empty if there is none
abbrev pub class_of : Here → List ℕ → List ℕ
class_of here class = if is_every here.begun || is_rank here.last then class else []

-- a name on a line, with its place, is declared as this here
abbrev pub declaration : Here → List ℕ → List ℕ → PlainAt → Meaning → Declaration
declaration here class n word meaning = record {
  name = n;
  meaning = meaning;
  of = class_of here class;
  line = word.line;
}

-- the collected declarations, with a name put to them if it is wanted
abbrev pub with_name : List Declaration → Wanted → Here → List ℕ → List ℕ → PlainAt → List Declaration
with_name ds wanted h class n w = elim (collected_as wanted h) [
  | Some meaning ↦ with_declaration ds (declaration h class n w meaning)
  | None ↦ ds
]

-- the collected declarations, with a word put to them
abbrev pub with_word : List Declaration → Wanted → Here → List ℕ → PlainAt → List Declaration
with_word ds wanted here class word = elim word.word [
  | name n ↦ with_name ds wanted here class n word
  | number n ↦ ds
  | mark k ↦ ds
  | picture ls ↦ ds
]

-- the collected declarations, with the first place of each wanted name among words after others
unfoldable pub collection : Wanted → List Declaration → Here → List ℕ → List PlainAt → List Declaration
collection wanted ds here class [] = ds
collection wanted ds here class (w ∷ ws) =
    let k = here_at here w in
    collection wanted (with_word ds wanted k class w) (behind k w.word w.line ws) (class_at k class w) ws
