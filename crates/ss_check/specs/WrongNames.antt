-- A statement that breaks a rule on names is refused by a name that breaks it.
use Rattle.std.specs.Prelude.{◌≡◌, Bool, false, true, List, ◌∷◌, ◌++◌, Some}
use Rattle.std.specs.List.{list_any}
use Rattle.ss_words.specs.Lists.{Name, all_of}
use Rattle.ss_routines.specs.Places.{LocalNames}
use Rattle.ss_check.specs.declared.fault.CheckRule.{CheckRule}
use Rattle.ss_check.specs.declared.wrong.Reason.TheVariants.{DeclaredTwice}
use Rattle.ss_check.specs.Declarations.{Declared, is_declared}
use Rattle.ss_check.specs.ItemRules.{local_rule, local_wrong}
use Rattle.ss_check.specs.PlaceRules.{breaks_rule, name_used, place_wrong, use_breaks, use_reason}
use Rattle.ss_check.specs.Statements.{about, lowest}
use Rattle.ss_check.specs.Uses.{Use}

-- an element of a list passes a test, and none before it does
pub record IsFirst {X : Type 0} (test : X → Bool) (list : List X) (element : X) : Type 0 where
  -- those before it
  pub before : List X
  -- those after it
  pub rest : List X
  -- the list is of them
  pub parts : list ≡ before ++ element ∷ rest
  -- it passes
  pub passes : test element ≡ true
  -- those before it do not
  pub none : list_any test before ≡ false

-- a place that breaks a rule on names is refused by its first use that breaks it
abbrev pub PlacesNameTheirUse : Type 0
PlacesNameTheirUse =
    (declared : Declared) (us : List Use) (broken : CheckRule) → lowest (use_breaks declared us) ≡ Some broken →
    (u : Use) × IsFirst (breaks_rule declared broken) us u
    × (place_wrong declared us broken ≡ about (use_reason broken u) (Some (name_used u)))

-- a local DEFINE that breaks a rule is refused by its first name that is declared
abbrev pub LocalsNameTheDeclared : Type 0
LocalsNameTheDeclared =
    (declared : Declared) (locals : LocalNames) (broken : CheckRule) → local_rule declared locals ≡ Some broken →
    (n : Name) × IsFirst (is_declared declared) (all_of locals.names) n
    × (local_wrong declared locals ≡ about DeclaredTwice (Some n))
