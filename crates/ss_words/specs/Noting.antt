-- Readings that note their items after the items that were noted before.
use Rattle.std.specs.Prelude.{ℕ, zero, suc, ◌-◌, Bool, true, false, List, length, slice_index}
use Rattle.ss_words.specs.Reading.{Reading, ◌>>=◌, pure}

-- gives the items noted before and, after them, the items that it notes
abbrev pub Noting : Type 0 → Type 0
Noting S = List S → Reading (List S)

-- one item after the other, at most n, as long as there is one
unfoldable pub repeat_from : {S : Type 0} → (List S → Reading (Bool × List S)) → ℕ → Noting S
repeat_from item zero acc = pure acc
repeat_from item (suc n) acc = item acc >>= λ a. elim a.0 [ true ↦ repeat_from item n a.1 | false ↦ pure a.1 ]

-- `repeat_from` with room for every item: there are no more items than words
unfoldable pub repeat : {S : Type 0} → (List S → Reading (Bool × List S)) → Noting S
repeat item acc = λ ws. repeat_from item (suc (length ws)) acc ws

-- the line of word k of a text, from 0, whose words have these lines; 0 after the last
abbrev pub line : List ℕ → ℕ → ℕ
line lines k = slice_index lines k

-- goes by the next word's line
unfoldable pub here : {A : Type 0} → List ℕ → (ℕ → Reading A) → Reading A
here lines f = λ ws. f (line lines (length lines - length ws)) ws
