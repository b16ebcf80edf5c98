-- The kind as which a name is declared. A local variable is not declared.
use Rattle.std.specs.Prelude.{Option}
use Rattle.ss_words.specs.Lists.{Name}
use Rattle.ss_words.specs.declared.terms.OwnerKept.{OwnerKept as OfOwner}
use Rattle.ss_words.specs.declared.terms.MemberKept.{MemberKept as OfMember}
use Rattle.ss_preamble.specs.declared.item.Heading.{Heading}
use Rattle.ss_check.specs.LanguageFunction.{LanguageFunction}

-- a class, with its heading, none if an item EVERY has none over it; an attribute of a class; a
-- variable of the preamble; N.c of a permanent class c; a set; a routine; TIME.V; an attribute kept
-- in a set's owner, F.s, L.s or N.s of set s; one kept in its members, P.s, S.s or M.s; a function
-- of the language
pub data NameKind : Type 0 where
  Class : Option Heading → NameKind
  Attribute : Name → NameKind
  Variable ClassCount Set Routine Clock : NameKind
  OwnerKept : OfOwner → Name → NameKind
  MemberKept : OfMember → Name → NameKind
  Function : LanguageFunction → NameKind
