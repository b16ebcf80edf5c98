-- Plain words without their places in memory.
use Rattle.std.specs.Prelude.{ℕ, List, [], ◌∷◌, map, Option, Some, None}
use Rattle.ss_words.specs.declared.mark.Mark.{Mark}
use Rattle.ss_words.specs.declared.plain_word.Plain.{Plain as Code}
use Rattle.ss_words.specs.declared.plain_word.Plain.TheVariants as c
use Rattle.ss_words.specs.declared.plain_word.PlainWord.{PlainWord}
use Rattle.ss_words.specs.Words.{Kind, kind_of}
use Rattle.ss_words.specs.Words as w
use Rattle.ss_words.specs.declared.mark.Mark.TheVariants.{Sign}

-- a name that is not reserved, a number, a reserved word or sign, or the lines of a picture
pub data Plain : Type 0 where
  name : List ℕ → Plain
  number : ℕ → Plain
  mark : Mark → Plain
  picture : List (List ℕ) → Plain

-- a plain word with its line and the place of its word in the list of words, from 0
pub record PlainAt : Type 0 where
  -- its line, from 1
  pub line : ℕ
  -- the place of its word
  pub index : ℕ
  -- the word
  pub word : Plain

-- a plain word of the code
abbrev pub plain_of : Code → Plain
plain_of (c.Name n) = name n.now
plain_of (c.Number n) = number n
plain_of (c.Mark m) = mark m
plain_of (c.Picture ls) = picture (map (λ l. l.items) ls.now)

-- a word of the text, if a name is none of the reserved ones
abbrev pub unreserved_word : Kind → Plain
unreserved_word (w.name n) = name n
unreserved_word (w.number n) = number n
unreserved_word (w.sign s) = mark (Sign s)
unreserved_word (w.picture ls) = picture ls

-- this reserved word or sign if there is one, and else the word as `unreserved_word` gives it
abbrev pub mark_or_word : Option Mark → Kind → Plain
mark_or_word None kind = unreserved_word kind
mark_or_word (Some m) kind = mark m

-- a plain word of a list of the code
abbrev pub plain_in : PlainWord → Plain
plain_in word = mark_or_word word.mark (kind_of word.word.now.kind)

-- a plain word of a list of the code, with its line and place
abbrev pub plain_at : PlainWord → PlainAt
plain_at word = record { line = word.word.now.line; index = word.index; word = plain_in word }

-- the plain words of a list of the code
abbrev pub plains_of : List PlainWord → List Plain
plains_of ws = map plain_in ws

-- the line of each plain word of a list of the code
abbrev pub word_lines : List PlainWord → List ℕ
word_lines ws = map (λ w. w.word.now.line) ws

-- the words without their lines and places
abbrev pub plains : List PlainAt → List Plain
plains ws = map (λ w. w.word) ws

-- the next word, or none at the text's end
abbrev pub first : List Plain → Option Plain
first [] = None
first (w ∷ ws) = Some w
