-- When two marks are one, and the readings of one word.
use denote.Enum.Bare.{sameb}
use Rattle.std.specs.Prelude.{ℕ, Bool, true, false, List, Option, Some}
use Rattle.ss_words.specs.contracts.reserved.Reserved.{the_type as reserved_type}
use Rattle.ss_words.specs.contracts.word.Sign.{the_type as sign_type}
use Rattle.ss_words.specs.declared.mark.Mark.{Mark}
use Rattle.ss_words.specs.declared.mark.Mark.TheVariants as m
use Rattle.ss_words.specs.declared.refusal.Refusal.TheVariants.{Unexpected}
use Rattle.ss_words.specs.Plain.{Plain, name, number, mark, picture}
use Rattle.ss_words.specs.Reading.{Reading, look, skip, pure, refuse}

-- whether two marks are one mark
abbrev pub same_mark : Mark → Mark → Bool
same_mark (m.Sign a) (m.Sign b) = sameb sign_type a b
same_mark (m.Reserved a) (m.Reserved b) = sameb reserved_type a b
same_mark (m.Sign a) (m.Reserved b) = false
same_mark (m.Reserved a) (m.Sign b) = false

-- whether the next word is this mark
abbrev pub is : Mark → Option Plain → Bool
is wanted (Some (mark j)) = same_mark wanted j
is wanted _ = false

-- passes this mark, or refuses the word in its place
unfoldable pub expect : Mark → Reading (Unit {0})
expect wanted = look (λ w. elim (is wanted w) [ true ↦ skip (pure tt) | false ↦ refuse Unexpected ])

-- whether the next word is this mark, which is then passed
unfoldable pub eat : Mark → Reading Bool
eat wanted = look (λ w. elim (is wanted w) [ true ↦ skip (pure true) | false ↦ pure false ])

-- passes a name, or refuses the word in its place
abbrev pub name_by : Option Plain → Reading (List ℕ)
name_by (Some (name n)) = skip (pure n)
name_by _ = refuse Unexpected

-- passes a name and gives it
unfoldable pub a_name : Reading (List ℕ)
a_name = look name_by

-- passes a number, or refuses the word in its place
abbrev pub number_by : Option Plain → Reading ℕ
number_by (Some (number n)) = skip (pure n)
number_by _ = refuse Unexpected

-- passes a number and gives it
unfoldable pub a_number : Reading ℕ
a_number = look number_by

-- passes a picture, or refuses the word in its place
abbrev pub picture_by : Option Plain → Reading (List (List ℕ))
picture_by (Some (picture ls)) = skip (pure ls)
picture_by _ = refuse Unexpected

-- passes a picture and gives its lines
unfoldable pub a_picture : Reading (List (List ℕ))
a_picture = look picture_by
