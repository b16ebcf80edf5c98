-- The condition that words are within the limits, by the role of each of them.
use Rattle.std.specs.Prelude.{◌≡◌, ◌≤◌, Bool, false, true, List, [], ◌∷◌, length, bytes_eq, count_by, leb, not}
use Rattle.std.specs.List.{flat_map}
use Rattle.ss_words.specs.declared.limits.TheConstants.{MOST_CLASSES, MOST_ATTRIBUTES, MOST_VARIABLES}
use Rattle.ss_words.specs.declared.limits.TheConstants.{MOST_SETS, MOST_KEYS}
use Rattle.ss_words.specs.Lists.{Name}
use Rattle.ss_preamble.specs.Roles.{Role, AClass, AnAttribute, AVariable, ASet, AKey}
use Rattle.ss_preamble.specs.Limits.{distinct}

-- the names of classes
abbrev pub class_of : Role → List Name
class_of (AClass n) = n ∷ []
class_of _ = []

-- the names of sets
abbrev pub set_of : Role → List Name
set_of (ASet n) = n ∷ []
set_of _ = []

-- whether it is an attribute of this class
abbrev pub is_attribute_of : Name → Role → Bool
is_attribute_of c (AnAttribute n) = bytes_eq c n
is_attribute_of c _ = false

-- whether it is a variable
abbrev pub is_variable : Role → Bool
is_variable AVariable = true
is_variable _ = false

-- whether it is a key after as many others of its ranking as there may be
abbrev pub is_late_key : Role → Bool
is_late_key (AKey k) = not (leb k MOST_KEYS)
is_late_key _ = false

-- the counts of these words are within the limits: classes and sets by their distinct names;
-- attributes of one class, variables and keys of one ranking as they are written
pub record AreWithin (rs : List Role) : Type 0 where
  -- the distinct classes
  pub classes : length (distinct (flat_map class_of rs)) ≤ MOST_CLASSES
  -- the attributes of each class
  pub attributes : (c : Name) → count_by (is_attribute_of c) rs ≤ MOST_ATTRIBUTES
  -- the variables
  pub variables : count_by is_variable rs ≤ MOST_VARIABLES
  -- the distinct sets
  pub sets : length (distinct (flat_map set_of rs)) ≤ MOST_SETS
  -- no key is past its limit
  pub keys : count_by is_late_key rs ≡ 0
