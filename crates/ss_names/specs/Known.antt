-- The kind of a name, and the text that says it.
use Rattle.std.specs.Prelude.{ℕ, ◌==◌, Bool, true, false, nat_lt, List, [], ◌++◌, length, map, take, drop, codes}
use Rattle.std.specs.Prelude.{decimal, Option, Some, None, if◌then◌else◌}
use Rattle.ss_columns.specs.Reserved.{is_among}
use Rattle.ss_names.specs.declared.known.Known.{Known}
use Rattle.ss_names.specs.declared.known.TheConstants.{OF_CLASS}
use Rattle.ss_names.specs.declared.language.TheConstants.{CLOCK, COMPANIONS, FUNCTIONS}
use Rattle.ss_names.specs.declared.known.What.{What}
use Rattle.ss_names.specs.declared.known.What.TheVariants as k
use Rattle.ss_names.specs.declared.meaning.Meaning.{Meaning}
use Rattle.ss_names.specs.declared.meaning.Meaning.TheVariants as m
use Rattle.ss_names.specs.Meanings.{Declaration, declared_as}

-- the kind of a name, its class or set, and the line of the declaration, 0 if there is none
pub record Knowledge : Type 0 where
  -- its kind
  pub what : What
  -- its class or set
  pub of : List ℕ
  -- the line of the declaration
  pub line : ℕ

-- the knowledge of the code about a name
abbrev pub known_at : Known → Knowledge
known_at a = record { what = a.what; of = a.of.now; line = a.line }

-- a kind without a class, a set or a line
abbrev pub plainly : What → Knowledge
plainly what = record { what = what; of = []; line = 0 }

-- before the name of a set: F., L. and N. of its owners, P., S. and M. of its members
abbrev pub kept_what : List ℕ → What
kept_what front = if is_among front (map (λ row. row.now) COMPANIONS) then k.OfSet else k.Undeclared

-- before the name of a permanent class: N.
abbrev pub count_what : List ℕ → What
count_what front = if is_among front (map (λ row. row.now) OF_CLASS) then k.Count else k.Undeclared

-- before a name that is declared as this
abbrev pub companion_what : List ℕ → Meaning → What
companion_what front m.Set = kept_what front
companion_what front m.Permanent = count_what front
companion_what front _ = k.Undeclared

-- before a declared name
abbrev pub companion_of : List ℕ → Declaration → Knowledge
companion_of front declaration =
    record { what = companion_what front declaration.meaning; of = declaration.name; line = declaration.line }

-- before a name, if that is declared
abbrev pub companion_by : List ℕ → Option Declaration → Knowledge
companion_by front (Some d) = companion_of front d
companion_by front None = plainly k.Undeclared

-- a name that begins like the names that are kept of a set or class
abbrev pub companion : List Declaration → List ℕ → Knowledge
companion ds n =
    if nat_lt (length n) 3 then plainly k.Undeclared else companion_by (take 2 n) (declared_as ds (drop 2 n))

-- the kind that the language, a set or a class gives a name, whatever else it is declared as
abbrev pub knowledge_given : List Declaration → List ℕ → Knowledge
knowledge_given ds n = if is_among n (map (λ row. row.now) CLOCK) then plainly k.Clock else
    if is_among n (map (λ row. row.now) FUNCTIONS) then plainly k.Function else companion ds n

-- the kind by a name's own declaration, if it has one, and else the given kind
abbrev pub known_by : List Declaration → List ℕ → Option Declaration → Knowledge
known_by ds n (Some d) = record { what = k.Declared d.meaning; of = d.of; line = d.line }
known_by ds n None = knowledge_given ds n

-- the kind of a name
abbrev pub knowledge_of : List Declaration → List ℕ → Knowledge
knowledge_of ds n = known_by ds n (declared_as ds n)

-- ---- the text about a name

-- the text for a meaning
abbrev pub meaning_text : Meaning → List ℕ
meaning_text m.Class = codes "a class under no heading"
meaning_text m.Permanent = codes "a class of permanent entities"
meaning_text m.Temporary = codes "a class of temporary entities"
meaning_text m.Event = codes "a class of event notices"
meaning_text m.Attribute = codes "an attribute of "
meaning_text m.Variable = codes "a variable"
meaning_text m.Set = codes "a set"
meaning_text m.Routine = codes "a routine"

-- the text for a kind, before its class or set
abbrev pub what_text : What → List ℕ
what_text k.Undeclared = codes "declared nowhere"
what_text (k.Declared x) = meaning_text x
what_text k.OfSet = codes "kept of the set "
what_text k.Count = codes "the count of the class "
what_text k.Clock = codes "the clock"
what_text k.Function = codes "a function of the language"

-- the kinds whose text gives a class or set: an attribute, and a name kept of a set or class
abbrev pub tells_of : What → Bool
tells_of (k.Declared m.Attribute) = true
tells_of k.OfSet = true
tells_of k.Count = true
tells_of _ = false

-- the class or set of a name, if its text gives one
abbrev pub of_text : Bool → List ℕ → List ℕ
of_text true of = of
of_text false of = []

-- the line of a declaration, if there is one
abbrev pub line_text : ℕ → List ℕ
line_text line = if line == 0 then [] else codes ", line " ++ decimal line

-- the kind of a name, its class or set, and the line of its declaration
abbrev pub known_text : Knowledge → List ℕ
known_text knowledge =
    what_text knowledge.what ++ of_text (tells_of knowledge.what) knowledge.of ++ line_text knowledge.line
