-- The last word of a text.
use Rattle.std.specs.Prelude.{ℕ, ◌+◌, List, [], ◌∷◌, take, drop, nat_eq, if◌then◌else◌}

-- the start of the last word, n so far; these bytes are left, the first of them in place i
abbrev pub word_from : ℕ → ℕ → List ℕ → ℕ
word_from n i [] = n
word_from n i (b ∷ bs) = word_from (if nat_eq b 32 then i + 1 else n) (i + 1) bs

-- the place at which the last word of a text begins: after its last blank
unfoldable pub word_at : List ℕ → ℕ
word_at text = word_from 0 0 text

-- the text before the last word
abbrev pub before_word : List ℕ → List ℕ
before_word text = take (word_at text) text

-- the last word, an empty one after a blank
abbrev pub last_word : List ℕ → List ℕ
last_word text = drop (word_at text) text
