-- Names in lists, and tables of facts on names.
use Rattle.std.specs.Prelude.{Bool, false, not, ◌||◌, if◌then◌else◌, List, [], ◌∷◌, ◌++◌, map, bytes_eq, Option}
use Rattle.std.specs.Prelude.{Some, None, option_map}
use Rattle.std.specs.List.{list_any, find, fold}
use Rattle.ss_words.specs.Lists.{Name}

-- ---- names

-- whether a name is among others
abbrev pub is_among : Name → List Name → Bool
is_among name names = list_any (bytes_eq name) names

-- whether one of these names is among those before it
abbrev pub repeats : List Name → List Name → Bool
repeats before [] = false
repeats before (n ∷ ns) = is_among n before || repeats (before ++ n ∷ []) ns

-- the first of these names that is among those before it, if there is one
abbrev pub first_repeat : List Name → List Name → Option Name
first_repeat before [] = None
first_repeat before (n ∷ ns) = if is_among n before then Some n else first_repeat (before ++ n ∷ []) ns

-- the first name, if there is one
abbrev pub first_of : List Name → Option Name
first_of [] = None
first_of (n ∷ ns) = Some n

-- whether one of these names is not among others
abbrev pub is_one_outside : List Name → List Name → Bool
is_one_outside others names = list_any (λ n. not (is_among n others)) names

-- each name once, at its first place
abbrev pub each_once : List Name → List Name
each_once names = fold (λ table n. if is_among n table then table else table ++ n ∷ []) [] names

-- ---- tables

-- a name, and the fact about it
pub record Fact (A : Type 0) : Type 0 where
  -- the name
  pub name : Name
  -- the fact about it
  pub what : A

-- this holds of a name
abbrev pub fact : {A : Type 0} → Name → A → Fact A
fact name x = record { name = name; what = x }

-- the first fact of a name, if there is one
abbrev pub fact_of : {A : Type 0} → List (Fact A) → Name → Option A
fact_of table name = option_map (λ f. f.what) (find (λ f. bytes_eq name f.name) table)

-- the names that have facts
abbrev pub names_of : {A : Type 0} → List (Fact A) → List Name
names_of table = map (λ f. f.name) table
