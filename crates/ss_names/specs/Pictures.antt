-- The values of a PRINT and the fields of its picture.
use Rattle.std.specs.Prelude.{ℕ, Bool, true, false, List, [], ◌∷◌, ◌++◌, codes, Option, Some, None}
use Rattle.std.specs.Prelude.{if◌then◌else◌}
use Rattle.ss_words.specs.declared.mark.Mark.{Mark}
use Rattle.ss_words.specs.declared.mark.Mark.TheVariants.{Reserved}
use Rattle.ss_words.specs.declared.reserved.Reserved.TheVariants as r
use Rattle.ss_words.specs.Plain.{PlainAt, name, number, mark, picture}
use Rattle.ss_words.specs.PlainRules.{mark_in}
use Rattle.ss_report.specs.Pictures.{field_count, has_decimal_field}
use Rattle.ss_names.specs.Saying.{number_text}
use Rattle.ss_names.specs.Values.{list_count}

-- WITH
abbrev pub is_with : Option Mark → Bool
is_with (Some (Reserved r.With)) = true
is_with _ = false

-- THUS
abbrev pub is_thus : Option Mark → Bool
is_thus (Some (Reserved r.Thus)) = true
is_thus _ = false

-- how many values a PRINT has before these words: those of the list after WITH, before THUS
unfoldable pub value_count : List PlainAt → ℕ
value_count [] = 0
value_count (w ∷ ws) = let j = mark_in w.word in
    if is_with j then list_count 0 1 ws else if is_thus j then 0 else value_count ws

-- the lines of the first picture among words
unfoldable pub first_picture : List PlainAt → List (List ℕ)
first_picture [] = []
first_picture (w ∷ ws) = elim w.word [
  | name n ↦ first_picture ws
  | number n ↦ first_picture ws
  | mark j ↦ first_picture ws
  | picture ls ↦ ls
]

-- how many fields a picture has, if none has decimals
abbrev pub fields_in : List (List ℕ) → Option ℕ
fields_in ls = if has_decimal_field ls then None else Some (field_count ls)

-- the text about values and fields
abbrev pub picture_text : ℕ → Option ℕ → List ℕ
picture_text values None = codes "A field of the picture has decimals: a stop is between two asterisks.\n"
picture_text values (Some fields) =
    number_text (codes "Values: ") values (codes ". ")
    ++ number_text (codes "Fields of the picture: ") fields (codes ".\n")
