-- The symbol table of a text: the meaning of each name that an expression of its sections may use.
use Rattle.std.specs.Prelude.{List, map}
use Rattle.ss_words.specs.Lists.{Name}
use Rattle.ss_preamble.specs.Tree.{Decls}
use Rattle.ss_routines.specs.Places.{Section}
use Rattle.ss_check.specs.Declarations.{Declared, declared_by_program, heads}
use Rattle.ss_check.specs.ResolvedNames.{Names, names, locals_of}

-- the symbol table of a text
pub record Symbols : Type 0 where
  -- its declarations
  pub declared : Declared
  -- the tables in which its names have their numbers
  pub names : Names
  -- the names of the local variables of each section
  pub locals : List (List Name)

-- the symbols of sections with these declarations
abbrev pub symbols_with : Declared → List Section → Symbols
symbols_with declared sections = record {
  declared = declared;
  names = names declared (heads sections);
  locals = map (locals_of declared) sections;
}

-- those of a text with these items and sections
abbrev pub symbols_of : Decls → List Section → Symbols
symbols_of decls sections = symbols_with (declared_by_program decls.items sections) sections
