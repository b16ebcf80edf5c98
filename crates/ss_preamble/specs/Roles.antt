-- The limits to which the names of a preamble count.
use Rattle.std.specs.Prelude.{ℕ, suc, List, [], ◌∷◌, Option, Some, None}
use Rattle.ss_words.specs.declared.mark.Mark.TheVariants as m
use Rattle.ss_words.specs.declared.word.Sign.TheVariants as s
use Rattle.ss_words.specs.declared.reserved.Reserved.{Reserved}
use Rattle.ss_words.specs.declared.reserved.Reserved.TheVariants as r
use Rattle.ss_words.specs.Plain.{Plain, name, mark}
use Rattle.ss_words.specs.Lists.{Name}

-- the limits to which names count: none; classes, as after INCLUDE and EVERY; names after HAS, by
-- their owner; sets, as after OWNS and BELONGS, and in their DEFINE; variables; keys
pub data CountedKind : Type 0 where
  NoNames Classes Owned Sets Variables Keys : CountedKind

-- a class of this name, an attribute of this class, a variable, a set of this name, a key with its number in its
-- ranking, from 1; or nothing that is limited, as words that are no names
pub data Role : Type 0 where
  AClass : Name → Role
  AnAttribute : Name → Role
  AVariable : Role
  ASet : Name → Role
  AKey : ℕ → Role
  Nothing : Role

-- after a word: the next names' limit, the class to which HAS gives, the ranking's keys so far
pub record Standing : Type 0 where
  -- the limit to which the next names count
  pub counted : CountedKind
  -- the class that HAS gives to; none: the system
  pub owner : Option Name
  -- the keys of the ranking so far
  pub keys : ℕ

-- before the first word
abbrev pub at_start : Standing
at_start = record { counted = NoNames; owner = None; keys = 0 }

-- the limit of the names of a DEFINE, by a word after AS
abbrev pub kind_by_word : Plain → CountedKind
kind_by_word (mark (m.Reserved r.Integer)) = Variables
kind_by_word (mark (m.Reserved r.Fifo)) = Sets
kind_by_word (mark (m.Reserved r.Lifo)) = Sets
kind_by_word (mark (m.Reserved r.Sets)) = Sets
kind_by_word _ = NoNames

-- the limit of the names of a DEFINE, if the word after AS is the first of these
abbrev pub kind_behind_as : List Plain → CountedKind
kind_behind_as [] = NoNames
kind_behind_as (w ∷ ws) = kind_by_word w

-- the limit of the names of a DEFINE, by the words after it: the word after AS decides, and if
-- there is none they count to nothing
abbrev pub kind_behind_define : List Plain → CountedKind
kind_behind_define (name n ∷ ws) = kind_behind_define ws
kind_behind_define (mark (m.Sign s.Comma) ∷ ws) = kind_behind_define ws
kind_behind_define (mark (m.Reserved r.As) ∷ ws) = kind_behind_as ws
kind_behind_define _ = NoNames

-- after a reserved word, which the words ws follow
abbrev pub behind_reserved : Standing → Reserved → List Plain → Standing
behind_reserved standing r.Include ws = record standing { counted = Classes }
behind_reserved standing r.Every ws = record standing { counted = Classes }
behind_reserved standing r.System ws = record standing { counted = NoNames; owner = None }
behind_reserved standing r.Has ws = record standing { counted = Owned }
behind_reserved standing r.Owns ws = record standing { counted = Sets }
behind_reserved standing r.Belongs ws = record standing { counted = Sets }
behind_reserved standing r.Define ws = record standing { counted = kind_behind_define ws }
behind_reserved standing r.Priority ws = record standing { counted = NoNames }
behind_reserved standing r.Break ws = record standing { counted = NoNames }
behind_reserved standing r.External ws = record standing { counted = NoNames }
behind_reserved standing r.Ranked ws = record standing { counted = Keys; keys = 0 }
behind_reserved standing r.Ties ws = record standing { counted = Keys; keys = 0 }
behind_reserved standing r.By ws = record standing { keys = suc standing.keys }
behind_reserved standing _ ws = standing

-- after a name: a class is the owner of the names after HAS
abbrev pub behind_name : Standing → Name → Standing
behind_name standing named = elim standing.counted [ Classes ↦ record standing { owner = Some named } | _ ↦ standing ]

-- after a word, which the words ws follow
abbrev pub behind_word : Standing → Plain → List Plain → Standing
behind_word standing (name n) ws = behind_name standing n
behind_word standing (mark (m.Reserved w)) ws = behind_reserved standing w ws
behind_word standing _ ws = standing

-- the role of a name after HAS, by its owner
abbrev pub owned_role : Option Name → Role
owned_role None = AVariable
owned_role (Some c) = AnAttribute c

-- the role of a name
abbrev pub name_role : Standing → Name → Role
name_role standing named = elim standing.counted [
  | NoNames ↦ Nothing
  | Classes ↦ AClass named
  | Owned ↦ owned_role standing.owner
  | Sets ↦ ASet named
  | Variables ↦ AVariable
  | Keys ↦ AKey standing.keys
]

-- the role of a word
abbrev pub role : Standing → Plain → Role
role standing (name n) = name_role standing n
role standing _ = Nothing

-- the role of each word, after a standing
abbrev pub roles_from : Standing → List Plain → List Role
roles_from standing [] = []
roles_from standing (w ∷ ws) = role standing w ∷ roles_from (behind_word standing w ws) ws

-- the role of each word
abbrev pub roles : List Plain → List Role
roles ws = roles_from at_start ws
