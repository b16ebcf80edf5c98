-- The results of the rules of the plain words on lists of words that are written out: for the laws
-- of src/plain_laws.rt.
use Rattle.std.specs.Prelude.{◌≡◌, ℕ, List, ◌++◌, map, codes, bytes_eq, if◌then◌else◌, ◌==◌}
use Rattle.std.specs.List.{slice_split}
use Rattle.ss_words.specs.declared.characters.TheConstants.{BLANK}
use Rattle.ss_words.specs.declared.word.Sign.TheVariants as s
use Rattle.ss_words.specs.Words.{Kind, WordAt, name, sign}
use Rattle.ss_words.specs.Plain.{plains}
use Rattle.ss_words.specs.PlainRules.{unruled_words, plain_words_of}

-- the pieces of a text between its blanks
abbrev pub pieces : List ℕ → List (List ℕ)
pieces text = slice_split (λ c. c == BLANK) text

-- a piece as a word: a comma and the comparisons are signs, all else is a name
abbrev pub kind_of_piece : List ℕ → Kind
kind_of_piece p =
    if bytes_eq p (codes ",") then sign s.Comma else
    if bytes_eq p (codes "=") then sign s.Equal else
    if bytes_eq p (codes "<") then sign s.Less else
    if bytes_eq p (codes ">") then sign s.Greater else
    if bytes_eq p (codes "<=") then sign s.LessEqual else
    if bytes_eq p (codes ">=") then sign s.GreaterEqual else name p

-- the pieces of a text as the words of one line
abbrev pub words_on : ℕ → List ℕ → List WordAt
words_on line text = map (λ p. record { line = line; kind = kind_of_piece p }) (pieces text)

-- the plain words of the first text are the words of the second one, each taken for itself
abbrev pub Becomes : List ℕ → List ℕ → Type 0
Becomes from to = plains (plain_words_of (words_on 1 from)) ≡ plains (unruled_words (words_on 1 to))

-- `Becomes` for each of the words `heads`, put before the two texts
abbrev pub BecomeBehind : List ℕ → List ℕ → List ℕ → Type 0
BecomeBehind heads from to =
    map (λ h. plains (plain_words_of (words_on 1 (h ++ from)))) (pieces heads)
    ≡ map (λ h. plains (unruled_words (words_on 1 (h ++ to)))) (pieces heads)
