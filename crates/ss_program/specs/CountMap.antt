-- Private: a map from each name to the number of times that it is in a list.
use Rattle.std.specs.Prelude.{◌≡◌, ℕ, List, bytes_eq, count_by, unwrap_or}
use Rattle.std.specs.Global.{Vec}
use Rattle.std.specs.BTreeMap.{BTreeMap}
use Rattle.ss_words.specs.Lists.{Name}
use Rattle.ss_program.specs.NameIndex.{entry_of}

-- the map gives the count of each name in a list; a name without an entry has count 0
unfoldable pub AreCounts : List Name → BTreeMap (Vec ℕ) ℕ → Type 0
AreCounts names m = (n : Name) → unwrap_or (entry_of m n) 0 ≡ count_by (bytes_eq n) names
