-- The meanings with which names are declared, and lists of declarations.
use Rattle.std.specs.Prelude.{ℕ, Bool, true, false, List, [], ◌∷◌, ◌++◌, map, bytes_eq, Option, Some, None, is_some}
use Rattle.std.specs.Prelude.{if◌then◌else◌}
use Rattle.ss_names.specs.declared.meaning.Meaning.{Meaning}
use Rattle.ss_names.specs.declared.meaning.Meaning.TheVariants as m
use Rattle.ss_names.specs.declared.meaning.Row.{Row}

-- a name, its declared meaning, and its place
pub record Declaration : Type 0 where
  -- the name
  pub name : List ℕ
  -- its declared meaning
  pub meaning : Meaning
  -- the class of EVERY by whose clause it is declared, empty if there is none
  pub of : List ℕ
  -- its line
  pub line : ℕ

-- a declaration of the code
abbrev pub declaration_at : Row → Declaration
declaration_at row = record {
  name = row.name.now;
  meaning = row.meaning;
  of = row.of.now;
  line = row.line;
}

-- the names of declarations
abbrev pub names_of : List Declaration → List (List ℕ)
names_of ds = map (λ d. d.name) ds

-- the declaration of a name among these, if it has one
abbrev pub declared_as : List Declaration → List ℕ → Option Declaration
declared_as [] n = None
declared_as (d ∷ ds) n = if bytes_eq n d.name then Some d else declared_as ds n

-- declarations with a further one, unless its name has one
abbrev pub with_declaration : List Declaration → Declaration → List Declaration
with_declaration ds declaration = if is_some (declared_as ds declaration.name) then ds else ds ++ declaration ∷ []
