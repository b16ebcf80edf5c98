-- Counting from word to word.
use Rattle.std.specs.Prelude.{ℕ, ◌+◌, Bool, true, leb, List, [], ◌∷◌, ◌++◌, length, map, bytes_eq, count_by}
use Rattle.std.specs.List.{flat_map}
use Rattle.std.specs.Borrow.{Bor}
use Rattle.ss_words.specs.declared.limits.TheConstants.{MOST_CLASSES, MOST_ATTRIBUTES, MOST_VARIABLES}
use Rattle.ss_words.specs.declared.limits.TheConstants.{MOST_SETS, MOST_KEYS}
use Rattle.ss_words.specs.Lists.{Name}
use Rattle.ss_words.specs.Reading.{option_view}
use Rattle.ss_preamble.specs.declared.limits.CountedKind.{CountedKind as CodeCountedKind}
use Rattle.ss_preamble.specs.declared.limits.CountedKind.TheVariants as k
use Rattle.ss_preamble.specs.declared.limits.Role.{Role as CodeRole}
use Rattle.ss_preamble.specs.declared.limits.Role.TheVariants as c
use Rattle.ss_preamble.specs.declared.limits.Standing.{Standing as CodeStanding}
use Rattle.ss_preamble.specs.declared.limits.Tally.{Tally as CodeTally}
use Rattle.ss_preamble.specs.Roles.{CountedKind, NoNames, Classes, Owned, Sets, Variables, Keys}
use Rattle.ss_preamble.specs.Roles.{Role, AClass, AnAttribute, AVariable, ASet, AKey, Nothing, Standing}
use Rattle.ss_preamble.specs.Limits.{with_name, distinct}
use Rattle.ss_preamble.specs.WordLimits.{class_of, set_of, is_variable}

-- the bytes of names
abbrev pub texts : List (Bor (List ℕ)) → List Name
texts ns = map (λ n. n.now) ns

-- the limits to which names count, of the code
abbrev pub counted_view : CodeCountedKind → CountedKind
counted_view k.NoNames = NoNames
counted_view k.Classes = Classes
counted_view k.Owned = Owned
counted_view k.Sets = Sets
counted_view k.Variables = Variables
counted_view k.Keys = Keys

-- a standing of the code
abbrev pub standing_view : CodeStanding → Standing
standing_view a = record { counted = counted_view a.counted; owner = option_view (λ n. n.now) a.owner; keys = a.keys }

-- a role of the code
abbrev pub role_view : CodeRole → Role
role_view (c.Class n) = AClass n.now
role_view (c.Attribute n) = AnAttribute n.now
role_view c.Variable = AVariable
role_view (c.Set n) = ASet n.now
role_view (c.Key n) = AKey n
role_view c.Nothing = Nothing

-- distinct classes, the class of each attribute, how many variables, distinct sets
pub record Counts : Type 0 where
  -- the distinct classes
  pub classes : List Name
  -- the class of each attribute
  pub attributes : List Name
  -- how many variables
  pub variables : ℕ
  -- the distinct sets
  pub sets : List Name

-- counts of the code
abbrev pub tally_view : CodeTally → Counts
tally_view a =
    record {
      classes = texts a.classes.items;
      attributes = texts a.attributes.items;
      variables = a.variables;
      sets = texts a.sets.items;
    }

-- the class of an attribute
abbrev pub attribute_owner : Role → List Name
attribute_owner (AnAttribute n) = n ∷ []
attribute_owner _ = []

-- the names with their roles, counted
abbrev pub tally_of : List Role → Counts
tally_of rs = record {
  classes = distinct (flat_map class_of rs);
  attributes = flat_map attribute_owner rs;
  variables = count_by is_variable rs;
  sets = distinct (flat_map set_of rs);
}

-- counts and one more name
abbrev pub with_role : Counts → Role → Counts
with_role counts (AClass n) = record counts { classes = with_name counts.classes n }
with_role counts (AnAttribute n) = record counts { attributes = counts.attributes ++ n ∷ [] }
with_role counts AVariable = record counts { variables = counts.variables + 1 }
with_role counts (ASet n) = record counts { sets = with_name counts.sets n }
with_role counts _ = counts

-- whether the count of this name is within its limit
abbrev pub is_in_room : Counts → Role → Bool
is_in_room counts (AClass n) = leb (length counts.classes) MOST_CLASSES
is_in_room counts (AnAttribute n) = leb (count_by (bytes_eq n) counts.attributes) MOST_ATTRIBUTES
is_in_room counts AVariable = leb counts.variables MOST_VARIABLES
is_in_room counts (ASet n) = leb (length counts.sets) MOST_SETS
is_in_room counts (AKey k) = leb k MOST_KEYS
is_in_room counts Nothing = true
