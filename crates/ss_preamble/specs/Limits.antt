-- How much of each limited thing the items of a preamble have, and when they are within the limits.
use Rattle.std.specs.Prelude.{◌≤◌, ℕ, List, [], ◌∷◌, ◌++◌, length, if◌then◌else◌, bytes_eq, fold, All, Some}
use Rattle.std.specs.List.{flat_map, list_any, sum_by}
use Rattle.ss_words.specs.declared.limits.TheConstants.{MOST_CLASSES, MOST_ATTRIBUTES, MOST_VARIABLES}
use Rattle.ss_words.specs.declared.limits.TheConstants.{MOST_SETS, MOST_KEYS}
use Rattle.ss_words.specs.Lists.{Name, Several, all_of}
use Rattle.ss_preamble.specs.Tree.{Clause, Has, Owns, BelongsTo, Ranked, Variables, Sets, BreakTies, Item, Headed}
use Rattle.ss_preamble.specs.Tree.{OfEvery, OfSystem, Defines, Orders, Preamble}

-- ---- names that count once

-- some names and one more, if it isn't among them
abbrev pub with_name : List Name → Name → List Name
with_name ns name = if list_any (bytes_eq name) ns then ns else ns ++ name ∷ []

-- the names, each once
abbrev pub distinct : List Name → List Name
distinct ns = fold with_name [] ns

-- the names of classes: those after INCLUDE, and the one after EVERY
abbrev pub class_names : Item → List Name
class_names (Headed h (Some ns)) = all_of ns
class_names (OfEvery n cs) = n ∷ []
class_names _ = []

-- the names of sets in a clause: those after OWNS and BELONGS TO
abbrev pub clause_sets : Clause → List Name
clause_sets (Has ns) = []
clause_sets (Owns ns) = all_of ns
clause_sets (BelongsTo ns) = all_of ns

-- the names of sets: those in the clauses of EVERY and SYSTEM, and those that a DEFINE makes sets
abbrev pub set_names : Item → List Name
set_names (OfEvery n cs) = flat_map clause_sets (all_of cs)
set_names (OfSystem cs) = flat_map clause_sets (all_of cs)
set_names (Defines (Sets ns k)) = all_of ns
set_names _ = []

-- ---- names that count as often as they are written

-- the names after HAS
abbrev pub clause_has : Clause → List Name
clause_has (Has ns) = all_of ns
clause_has _ = []

-- how many names some clauses have after HAS
abbrev pub has_count : Several Clause → ℕ
has_count cs = length (flat_map clause_has (all_of cs))

-- how many attributes an item gives to class c: the names after HAS in an EVERY of this class
abbrev pub attribute_count : Name → Item → ℕ
attribute_count c (OfEvery n cs) = if bytes_eq c n then has_count cs else 0
attribute_count c _ = 0

-- how many variables an item declares: the names after HAS of SYSTEM, and the variables of a DEFINE
abbrev pub variable_count : Item → ℕ
variable_count (OfSystem cs) = has_count cs
variable_count (Defines (Variables ns)) = length (all_of ns)
variable_count _ = 0

-- how many keys the ranking of an item has, in a DEFINE of ranked sets or in BREAK TIES
abbrev pub key_count : Item → ℕ
key_count (Defines (Sets ns (Ranked ks))) = length (all_of ks)
key_count (Orders (BreakTies n ks)) = length (all_of ks)
key_count _ = 0

-- ---- within the limits

-- a preamble is within the limits
pub record IsWithin (is : Preamble) : Type 0 where
  -- its distinct classes
  pub classes : length (distinct (flat_map class_names is)) ≤ MOST_CLASSES
  -- the attributes of each class, over all items EVERY of this class
  pub attributes : (c : Name) → sum_by (attribute_count c) is ≤ MOST_ATTRIBUTES
  -- the variables of the system and of the preamble together
  pub variables : sum_by variable_count is ≤ MOST_VARIABLES
  -- its distinct sets
  pub sets : length (distinct (flat_map set_names is)) ≤ MOST_SETS
  -- the keys of each ranking
  pub keys : All (λ i. key_count i ≤ MOST_KEYS) is
