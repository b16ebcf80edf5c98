-- Words without their places in memory.
use Rattle.std.specs.Prelude.{ℕ, List, map}
use Rattle.ss_words.specs.declared.word.Sign.{Sign}
use Rattle.ss_words.specs.declared.word.Word.{Word}
use Rattle.ss_words.specs.declared.word.WordKind.{WordKind}
use Rattle.ss_words.specs.declared.word.WordKind.TheVariants as w

-- a name in upper case, a number, a sign, or the lines of a picture
pub data Kind : Type 0 where
  name : List ℕ → Kind
  number : ℕ → Kind
  sign : Sign → Kind
  picture : List (List ℕ) → Kind

-- a word with the line on which it begins, from 1
pub record WordAt : Type 0 where
  -- its line
  pub line : ℕ
  -- its kind: a name, a number, a sign or a picture
  pub kind : Kind

-- the bytes of each line
abbrev pub kind_of : WordKind → Kind
kind_of (w.Name n) = name n
kind_of (w.Number n) = number n
kind_of (w.Sign s) = sign s
kind_of (w.Picture ls) = picture (map (λ l. l.items) ls.value.items)

-- a word of the code
abbrev pub word_at : Word → WordAt
word_at a = record { line = a.line; kind = kind_of a.kind }
