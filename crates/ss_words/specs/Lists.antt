-- Lists of names with commas between: their spelling, and their reading from left to right.
use Rattle.std.specs.Prelude.{ℕ, true, false, List, [], ◌∷◌, ◌++◌, map, Option, Some, None}
use Rattle.std.specs.List.{flat_map}
use Rattle.ss_words.specs.declared.mark.Mark.{Mark}
use Rattle.ss_words.specs.declared.mark.Mark.TheVariants as m
use Rattle.ss_words.specs.declared.word.Sign.TheVariants as s
use Rattle.ss_words.specs.declared.several.Several.{Several as CodeSeveral}
use Rattle.ss_words.specs.Plain.{Plain, name, mark}
use Rattle.ss_words.specs.Reading.{Reading, ◌>>=◌, pure, many}
use Rattle.ss_words.specs.Marks.{eat, a_name}

-- the bytes of a name
abbrev pub Name : Type 0
Name = List ℕ

-- a list of one or more
pub record Several (A : Type 0) : Type 0 where
  -- the first
  pub first : A
  -- the items after the first
  pub others : List A

-- one or more items as a plain list
abbrev pub all_of : {A : Type 0} → Several A → List A
all_of xs = xs.first ∷ xs.others

-- one or more items of the code as a list of the definitions, each seen by f
abbrev pub several_view : {X A : Type 0} → (X → A) → CodeSeveral X → Several A
several_view f xs = record { first = f xs.first; others = map f xs.others.items }

-- each after a comma
abbrev pub spell_others : {A : Type 0} → (A → List Plain) → List A → List Plain
spell_others spell xs = flat_map (λ x. mark (m.Sign s.Comma) ∷ spell x) xs

-- one or more with commas between
abbrev pub spell_several : {A : Type 0} → (A → List Plain) → Several A → List Plain
spell_several spell xs = spell xs.first ++ spell_others spell xs.others

-- one or more names with commas between
abbrev pub spell_names : Several Name → List Plain
spell_names ns = spell_several (λ n. name n ∷ []) ns

-- one or more names after a mark, or nothing
abbrev pub spell_names_behind : Mark → Option (Several Name) → List Plain
spell_names_behind wanted None = []
spell_names_behind wanted (Some ns) = mark wanted ∷ spell_names ns

-- a comma and a name, or nothing
unfoldable pub next_name : Reading (Option Name)
next_name = eat (m.Sign s.Comma) >>= λ b. elim b [ true ↦ (a_name >>= λ n. pure (Some n)) | false ↦ pure None ]

-- names, each after its comma
unfoldable pub other_names : Reading (List Name)
other_names = many next_name [] (λ n ns. n ∷ ns)

-- name {"," name}
unfoldable pub names : Reading (Several Name)
names = a_name >>= λ n. other_names >>= λ ns. pure (record { first = n; others = ns })

-- [mark name {"," name}]
unfoldable pub names_behind : Mark → Reading (Option (Several Name))
names_behind wanted = eat wanted >>= λ b. elim b [ true ↦ (names >>= λ ns. pure (Some ns)) | false ↦ pure None ]
