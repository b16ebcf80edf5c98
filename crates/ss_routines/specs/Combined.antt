-- Readings that are made of readings.
use Rattle.std.specs.Prelude.{◌⊎◌, ℕ, zero, suc, Bool, true, false, List, [], ◌∷◌, Option, Some, None}
use mathlib.Core.Logic.{inl, inr}
use Rattle.ss_words.specs.declared.mark.Mark.{Mark}
use Rattle.ss_words.specs.declared.mark.Mark.TheVariants as m
use Rattle.ss_words.specs.declared.word.Sign.TheVariants as s
use Rattle.ss_words.specs.declared.refusal.Refusal.TheVariants.{Unexpected, PastLimit}
use Rattle.ss_words.specs.Plain.{Plain}
use Rattle.ss_words.specs.Reading.{Reading, ◌>>=◌, pure, refuse, look, skip, many}
use Rattle.ss_words.specs.Marks.{is, expect, eat}
use Rattle.ss_words.specs.Lists.{Several}

-- one reading and then another
unfoldable pub pair : {A B : Type 0} → Reading A → Reading B → Reading (A × B)
pair p q = p >>= λ a. q >>= λ b. pure (a, b)

-- a mark and then the part that p reads
unfoldable pub behind : {A : Type 0} → Mark → Reading A → Reading A
behind mark p = expect mark >>= λ u. p

-- the part that p reads and then a mark
unfoldable pub before : {A : Type 0} → Reading A → Mark → Reading A
before p mark = p >>= λ a. expect mark >>= λ u. pure a

-- the value that f makes of the part that p reads
unfoldable pub made : {A B : Type 0} → (A → B) → Reading A → Reading B
made f p = p >>= λ a. pure (f a)

-- a mark and the part that p reads, if the mark is here
unfoldable pub if_mark : {A : Type 0} → Mark → Reading A → Reading (Option A)
if_mark mark p = eat mark >>= λ b. elim b [ true ↦ (p >>= λ a. pure (Some a)) | false ↦ pure None ]

-- a word of a table and the part that p reads, if such a word is here
unfoldable pub if_word : {W A : Type 0} → Reading (Option W) → Reading A → Reading (Option (W × A))
if_word t p = t >>= λ o. elim o [ Some w ↦ (p >>= λ a. pure (Some (w, a))) | None ↦ pure None ]

-- the part that i reads, or else the part that q reads
unfoldable pub either : {A B : Type 0} → Reading (Option A) → Reading B → Reading (A ⊎ B)
either i q = i >>= λ o. elim o [ Some a ↦ pure (inl a) | None ↦ (q >>= λ b. pure (inr b)) ]

-- items as long as there is one
unfoldable pub star : {A : Type 0} → Reading (Option A) → Reading (List A)
star i = many i [] (λ a xs. a ∷ xs)

-- a word by a table, if it is here
unfoldable pub by_table : {W : Type 0} → (Option Plain → Option W) → Reading (Option W)
by_table of = look (λ v. elim (of v) [ Some w ↦ skip (pure (Some w)) | None ↦ pure None ])

-- whether a parenthesis opens here, which is then passed; refused if no more may be open
unfoldable pub eat_open : ℕ → Reading Bool
eat_open zero = look (λ w. elim (is (m.Sign s.Open) w) [ true ↦ refuse PastLimit | false ↦ pure false ])
eat_open (suc n) = eat (m.Sign s.Open)

-- the part that p reads in parentheses, if one opens here
unfoldable pub if_open : {A : Type 0} → ℕ → Reading A → Reading (Option A)
if_open n p = eat_open n >>= λ b. elim b [
  | true ↦ (p >>= λ a. expect (m.Sign s.Close) >>= λ u. pure (Some a))
  | false ↦ pure None
]

-- whether a mark is here, which is then passed; refused if no more of them may be open
unfoldable pub eat_allowed : ℕ → Mark → Reading Bool
eat_allowed zero mark = look (λ w. elim (is mark w) [ true ↦ refuse PastLimit | false ↦ pure false ])
eat_allowed (suc n) mark = eat mark

-- a mark of which n may be open and the part that p reads, if the mark is here
unfoldable pub if_allowed : {A : Type 0} → ℕ → Mark → Reading A → Reading (Option A)
if_allowed n mark p = eat_allowed n mark >>= λ b. elim b [ true ↦ (p >>= λ a. pure (Some a)) | false ↦ pure None ]

-- one or more with commas between
unfoldable pub several : {A : Type 0} → Reading A → Reading (Several A)
several p = made (λ x. record { first = x.0; others = x.1 }) (pair p (star (if_mark (m.Sign s.Comma) p)))

-- the part that i reads, or else the part that j reads, if one of them is here
unfoldable pub either_of : {A B : Type 0} → Reading (Option A) → Reading (Option B) → Reading (Option (A ⊎ B))
either_of i j = i >>= λ o. elim o [
  | Some a ↦ pure (Some (inl a))
  | None ↦ (j >>= λ q. elim q [ Some b ↦ pure (Some (inr b)) | None ↦ pure None ])
]

-- the value that f makes of the part that i reads, if it is here
unfoldable pub made_of : {A B : Type 0} → (A → B) → Reading (Option A) → Reading (Option B)
made_of f i = i >>= λ o. elim o [ Some a ↦ pure (Some (f a)) | None ↦ pure None ]

-- the part that i reads, which must be here
unfoldable pub must : {A : Type 0} → Reading (Option A) → Reading A
must i = i >>= λ o. elim o [ Some a ↦ pure a | None ↦ refuse Unexpected ]
