-- The pieces of which texts are made.
use Rattle.std.specs.Prelude.{ℕ, ◌&&◌, ◌==◌, Bool, true, false, List, [], ◌∷◌, ◌++◌, codes, decimal}
use Rattle.std.specs.Prelude.{Option, Some, None, if◌then◌else◌}
use Rattle.std.specs.Borrow.{Bor}
use Rattle.ss_words.specs.declared.word.Sign.{Sign}
use Rattle.ss_words.specs.declared.word.Sign.TheVariants as s
use Rattle.ss_words.specs.declared.word.WordKind.{WordKind}
use Rattle.ss_words.specs.Words.{Kind, name, number, sign, picture, WordAt, kind_of}

-- a place for a word, `{}`
unfoldable pub begins_gap : List ℕ → Bool
begins_gap [] = false
begins_gap (b ∷ []) = false
begins_gap (b ∷ c ∷ bs) = b == 123 && c == 125

-- a sentence with a word in the place of its first `{}`, and another in that of its others
unfoldable pub gaps_filled : List ℕ → List ℕ → List ℕ → List ℕ
gaps_filled [] word others = []
gaps_filled (b ∷ []) word others = b ∷ []
gaps_filled (b ∷ c ∷ bs) word others = elim (b == 123 && c == 125) [
  | true ↦ word ++ gaps_filled bs others others
  | false ↦ b ∷ gaps_filled (c ∷ bs) word others
]

-- how a sign is printed
abbrev pub sign_text : Sign → List ℕ
sign_text s.Plus = codes "+"
sign_text s.Minus = codes "-"
sign_text s.Star = codes "*"
sign_text s.Open = codes "("
sign_text s.Close = codes ")"
sign_text s.Comma = codes "the comma"
sign_text s.Equal = codes "="
sign_text s.Less = codes "<"
sign_text s.Greater = codes ">"
sign_text s.LessEqual = codes "<="
sign_text s.GreaterEqual = codes ">="

-- how a word is printed
abbrev pub kind_text : Kind → List ℕ
kind_text (name n) = n
kind_text (number n) = decimal n
kind_text (sign s) = sign_text s
kind_text (picture ls) = codes "the picture"

-- a word of the code, if there is one
abbrev pub kind_seen : Option (Bor WordKind) → Option Kind
kind_seen None = None
kind_seen (Some k) = Some (kind_of k.now)

-- the kind of the last of these words, after this one
abbrev pub last_kind : Option Kind → List WordAt → Option Kind
last_kind last [] = last
last_kind last (w ∷ ws) = last_kind (Some w.kind) ws

-- how a word is printed, if there is one
abbrev pub word_told : Option Kind → List ℕ
word_told None = codes "the start of the text"
word_told (Some k) = kind_text k

-- how the last of these words is printed
abbrev pub last_text : List WordAt → List ℕ
last_text ws = word_told (last_kind None ws)

-- a column, if there is one
abbrev pub column_text : Option ℕ → List ℕ
column_text None = []
column_text (Some c) = codes ", column " ++ decimal c

-- a place
abbrev pub place_text : ℕ → Option ℕ → List ℕ
place_text line column = codes "Line " ++ decimal line ++ column_text column ++ codes ": "
