-- The next item of the data (its end, a number, a mark, a name), and the place at which an entry of
-- an external event ends.
use Rattle.std.specs.Prelude.{ℕ, ◌+◌, Bool, false, ◌&&◌, nat_le, if◌then◌else◌, List, length, drop, position, codes}
use Rattle.std.specs.Prelude.{bytes_eq, Option, Some, None, option_map, is_some, slice_get}
use Rattle.std.specs.List.{list_all}
use Rattle.std.specs.Str.{str_eq_ignore_ascii_case}
use Rattle.ss_words.specs.declared.limits.TheConstants.{LONGEST_RUN}
use Rattle.ss_words.specs.TextBytes.{in_run}
use Rattle.ss_words.specs.TextRuns.{has_letter, without_stops}
use Rattle.ss_data.specs.declared.entry.PieceKind.{PieceKind}
use Rattle.ss_data.specs.declared.entry.PieceKind.TheVariants.{End, Number, Mark, Other}
use Rattle.ss_data.specs.Items.{Item, DataRead}

-- the mark that ends an entry
abbrev pub is_mark : List ℕ → Bool
is_mark piece = bytes_eq piece (codes "*")

-- the kind of an item
abbrev pub kind_of_item : Item → PieceKind
kind_of_item item = if is_some item.value then Number else (if is_mark item.bytes then Mark else Other)

-- the kind of an item, or the end
abbrev pub kind_or_end : Option Item → PieceKind
kind_or_end None = End
kind_or_end (Some i) = kind_of_item i

-- the kind of the first item that is not taken
abbrev pub next_kind : DataRead → PieceKind
next_kind read = kind_or_end (slice_get read.items read.taken)

-- letters, digits and stops, with a letter, and not too long
abbrev pub is_name : List ℕ → Bool
is_name piece = list_all in_run piece && has_letter piece && nat_le (length piece) LONGEST_RUN

-- a piece is a name, and this one but for capitals and the stops at its end
abbrev pub writes_name : List ℕ → List ℕ → Bool
writes_name name piece = is_name piece && str_eq_ignore_ascii_case (without_stops piece) name

-- an item that is there writes this name
abbrev pub item_writes : List ℕ → Option Item → Bool
item_writes name None = false
item_writes name (Some i) = writes_name name i.bytes

-- the first item that is not taken writes this name
abbrev pub next_writes : List ℕ → DataRead → Bool
next_writes name read = item_writes name (slice_get read.items read.taken)

-- the place after the next mark, from a place on
abbrev pub behind_mark : List Item → ℕ → Option ℕ
behind_mark items from = option_map (λ n. from + n + 1) (position (λ i. is_mark i.bytes) (drop from items))

-- the place after the next mark among the items that are not taken
abbrev pub place_behind_mark : DataRead → Option ℕ
place_behind_mark read = behind_mark read.items read.taken
