-- The steps that a reading of plain words is made of: each answers with the words that it left,
-- also if it refuses.
use Rattle.std.specs.Prelude.{◌≡◌, ℕ, zero, suc, List, [], ◌∷◌, length, Option, Some, None, Result, Ok, Err}
use Rattle.ss_words.specs.declared.refusal.Refusal.{Refusal}
use Rattle.ss_words.specs.declared.refusal.Refusal.TheVariants.{Unexpected, PastLimit, Memory}
use Rattle.ss_words.specs.Plain.{Plain, first}

-- an answer, and the words that are left
abbrev pub Read : Type 0 → Type 0
Read A = Result A Refusal × List Plain

-- the result of reading a list of words
abbrev pub Reading : Type 0 → Type 0
Reading A = List Plain → Read A

-- if something was read, the next reading goes on with it; a refusal stays
abbrev pub goes_on : {A B : Type 0} → (A → Reading B) → Result A Refusal → List Plain → Read B
goes_on f (Ok a) ws = f a ws
goes_on f (Err e) ws = (Err e, ws)

-- one reading and then another, chosen by the result of the first
unfoldable pub bind : {A B : Type 0} → Reading A → (A → Reading B) → Reading B
bind p f = λ ws. goes_on f (p ws).0 (p ws).1

-- `bind`, written between the two readings
infixl 10 ◌>>=◌
abbrev pub ◌>>=◌ : {A B : Type 0} → Reading A → (A → Reading B) → Reading B
p >>= f = bind p f

-- reads nothing
unfoldable pub pure : {A : Type 0} → A → Reading A
pure a = λ ws. (Ok a, ws)

-- refuses the next word
unfoldable pub refuse : {A : Type 0} → Refusal → Reading A
refuse refusal = λ ws. (Err refusal, ws)

-- goes by the next word
unfoldable pub look : {A : Type 0} → (Option Plain → Reading A) → Reading A
look f = λ ws. f (first ws) ws

-- the words after the next one
abbrev pub rest_of : List Plain → List Plain
rest_of [] = []
rest_of (w ∷ ws) = ws

-- passes the next word
unfoldable pub skip : {A : Type 0} → Reading A → Reading A
skip p = λ ws. p (rest_of ws)

-- one item after the other, at most n, until there is none
unfoldable pub many_from : {A B : Type 0} → Reading (Option A) → B → (A → B → B) → ℕ → Reading B
many_from item none one zero = pure none
many_from item none one (suc n) = item >>= λ o. elim o [
  | Some a ↦ (many_from item none one n >>= λ b. pure (one a b))
  | None ↦ pure none
]

-- `many_from` with room for every item: there are no more items than words
unfoldable pub many : {A B : Type 0} → Reading (Option A) → B → (A → B → B) → Reading B
many item none one = λ ws. many_from item none one (suc (length ws)) ws

-- refuses the next word, if there is one
unfoldable pub end_of_words : Reading (Unit {0})
end_of_words = look (λ w. elim w [ Some v ↦ refuse Unexpected | None ↦ pure tt ])

-- the result of p if no word is left after it
unfoldable pub whole : {A : Type 0} → Reading A → Reading A
whole p = p >>= λ a. end_of_words >>= λ _. pure a

-- all items before the result of the items after them
abbrev pub prepend : {A B : Type 0} → (A → B → B) → List A → B → B
prepend one [] b = b
prepend one (x ∷ xs) b = one x (prepend one xs b)

-- the value in an option, seen by f
abbrev pub option_view : {A B : Type 0} → (A → B) → Option A → Option B
option_view f None = None
option_view f (Some a) = Some (f a)

-- a function refused and left these words, as a reading did; a refusal of memory says nothing
abbrev pub Fails : {Y : Type 0} → Refusal → List Plain → Read Y → Type 0
Fails Unexpected ws read = read ≡ (Err Unexpected, ws)
Fails PastLimit ws read = read ≡ (Err PastLimit, ws)
Fails Memory ws read = Unit {0}

-- a function's answer, seen by view, and the words left are the reading's, unless memory is refused
abbrev pub Gives : {X Y : Type 0} → (X → Y) → Result X Refusal → List Plain → Read Y → Type 0
Gives view (Ok x) ws read = read ≡ (Ok (view x), ws)
Gives view (Err e) ws read = Fails e ws read
