-- How a name is used, as far as the words directly before it show.
use Rattle.std.specs.Prelude.{ℕ, Bool, true, false, List, [], ◌∷◌, ◌++◌, Option, Some, None, decimal}
use Rattle.std.specs.Prelude.{bytes_eq, ◌&&◌, ◌||◌}
use Rattle.ss_words.specs.declared.mark.Mark.{Mark}
use Rattle.ss_words.specs.declared.mark.Mark.TheVariants.{Reserved, Sign}
use Rattle.ss_words.specs.declared.reserved.Reserved.{Reserved as AReserved}
use Rattle.ss_words.specs.declared.reserved.Reserved.TheVariants as r
use Rattle.ss_words.specs.declared.word.Sign.{Sign as ASign}
use Rattle.ss_words.specs.declared.word.Sign.TheVariants as s
use Rattle.ss_words.specs.Plain.{PlainAt, name, number, mark, picture}
use Rattle.ss_names.specs.declared.roles.Role.{Role}
use Rattle.ss_names.specs.declared.roles.Role.TheVariants.{Declared, Set, Read, Named}
use Rattle.ss_names.specs.declared.here.Here.{Here}
use Rattle.ss_names.specs.Collected.{here_behind}
use Rattle.ss_names.specs.Positions.{is_call}

-- a reserved word that sets the name directly after it, in a statement that this word begins: YIELDING does in a CALL,
-- and in a head it declares
abbrev pub sets_name : AReserved → Option AReserved → Bool
sets_name r.Let begun = true
sets_name r.Read begun = true
sets_name r.Compute begun = true
sets_name r.Yielding begun = is_call begun
sets_name _ begun = false

-- a reserved word after which a name is read
abbrev pub reads_name : AReserved → Bool
reads_name r.Ne = true
reads_name r.If = true
reads_name r.With = true
reads_name r.Unless = true
reads_name r.While = true
reads_name r.Until = true
reads_name r.Or = true
reads_name r.And = true
reads_name _ = false

-- a sign after which a name is read
abbrev pub sign_reads : ASign → Bool
sign_reads s.Open = false
sign_reads s.Close = false
sign_reads s.Comma = false
sign_reads _ = true

-- read, or else named in another way
abbrev pub read_or_named : Bool → Role
read_or_named true = Read
read_or_named false = Named

-- set; or the other role
abbrev pub set_or : Bool → Role → Role
set_or true other = Set
set_or false other = other

-- the role directly after a mark, if one is there
abbrev pub role_behind : Option AReserved → Option Mark → Role
role_behind begun None = Named
role_behind begun (Some (Sign x)) = read_or_named (sign_reads x)
role_behind begun (Some (Reserved w)) = set_or (sets_name w begun) (read_or_named (reads_name w))

-- DEFINE or HAS
abbrev pub declares : Option AReserved → Bool
declares (Some r.Define) = true
declares (Some r.Has) = true
declares _ = false

-- the role of a name at this place; DEFINE and HAS declare up to the next reserved word
abbrev pub role_at : Here → Role
role_at here = elim (declares here.last) [ true ↦ Declared | false ↦ role_behind here.begun here.before ]

-- HAS
abbrev pub is_has : Option AReserved → Bool
is_has (Some r.Has) = true
is_has _ = false

-- FOR
abbrev pub is_for : Option Mark → Bool
is_for (Some (Reserved r.For)) = true
is_for _ = false

-- a name may well occur once here: as an attribute, which may only carry a value given in its
-- place, or as the variable of a loop that only counts
abbrev pub may_occur_once : Here → Bool
may_occur_once here = is_has here.last || is_for here.before

-- two roles are the same
abbrev pub same_role : Role → Role → Bool
same_role Declared Declared = true
same_role Set Set = true
same_role Read Read = true
same_role Named Named = true
same_role _ _ = false

-- ---- lines

-- the lines on which this name has this role
unfoldable pub lines_with : Role → List ℕ → Here → List PlainAt → List ℕ
lines_with role name_told h [] = []
lines_with role name_told h (w ∷ ws) = let rest = lines_with role name_told (here_behind h w ws) ws in elim w.word [
  | name n ↦ elim (same_role (role_at h) role && bytes_eq n name_told) [ true ↦ w.line ∷ rest | false ↦ rest ]
  | number n ↦ rest
  | mark m ↦ rest
  | picture ls ↦ rest
]

-- the numbers of lines, each after a blank
unfoldable pub lines_text : List ℕ → List ℕ
lines_text [] = []
lines_text (line ∷ lines) = (32 ∷ decimal line) ++ lines_text lines
