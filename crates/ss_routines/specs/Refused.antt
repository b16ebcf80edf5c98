-- The contents of a list of plain words: the sections of a program, or the word at which it is
-- refused.
use Rattle.std.specs.Prelude.{◌≡◌, ◌≤◌, ◌<◌, ◌⊎◌, ℕ, ◌+◌, ◌-◌, Bool, true, false, List, [], ◌∷◌, ◌++◌, length, take}
use Rattle.std.specs.Prelude.{map, leb, Result, Ok, Err}
use Rattle.std.specs.List.{filter}
use Rattle.ss_words.specs.declared.fault.TextRule.{TextRule}
use Rattle.ss_words.specs.declared.fault.TextRule.TheVariants.{UnexpectedWord, UnexpectedEnd, PastLimit}
use Rattle.ss_words.specs.declared.fault.TextFault.{TextFault}
use Rattle.ss_words.specs.declared.fault.TextFault.TheVariants.{Refused, Memory}
use Rattle.ss_words.specs.declared.limits.TheConstants.{MOST_PARENTHESES, MOST_IFS, MOST_PHRASES}
use Rattle.ss_words.specs.declared.limits.TheConstants.{MOST_PARAMETERS, MOST_SECTIONS}
use Rattle.ss_words.specs.declared.mark.Mark.TheVariants as m
use Rattle.ss_words.specs.declared.word.Sign.TheVariants as s
use Rattle.ss_words.specs.declared.reserved.Reserved.TheVariants as r
use Rattle.ss_words.specs.Plain.{Plain, PlainAt, mark, plains}
use Rattle.ss_words.specs.Noting.{line}
use Rattle.ss_words.specs.Farthest.{IsFarthest}
use Rattle.ss_routines.specs.Places.{Section}
use Rattle.ss_routines.specs.Tree.{Tree, spell, depth, ifs, phrases, parameters}
use Rattle.ss_routines.specs.Written.{written}

-- the plain words from the word with number k on
abbrev pub words_from : ℕ → List PlainAt → List PlainAt
words_from k ws = filter (λ w. leb k w.index) ws

-- the line of each
abbrev pub lines : List PlainAt → List ℕ
lines ws = map (λ w. w.line) ws

-- a program within the limits
pub record IsWithin (tree : Tree) : Type 0 where
  -- open at once
  pub parentheses : depth tree ≤ MOST_PARENTHESES
  -- open at once
  pub ifs : ifs tree ≤ MOST_IFS
  -- open at once
  pub phrases : phrases tree ≤ MOST_PHRASES
  -- of a section, given and yielded
  pub parameters : parameters tree ≤ MOST_PARAMETERS
  -- all of them
  pub sections : length tree ≤ MOST_SECTIONS

-- some program begins with these words
abbrev pub Begins : List Plain → Type 0
Begins ws = (t : Tree) × (x : List Plain) × (spell t ≡ ws ++ x)

-- some program within the limits begins with these words
abbrev pub BeginsWithin : List Plain → Type 0
BeginsWithin ws = (t : Tree) × IsWithin t × (x : List Plain) × (spell t ≡ ws ++ x)

-- a word that counts to no limit itself but may need a parameter after it: a comma or YIELDING
abbrev pub announces : Plain → Bool
announces (mark (m.Sign s.Comma)) = true
announces (mark (m.Reserved r.Yielding)) = true
announces _ = false

-- programs begin with these words, and programs within the limits with all of them but the last, which counts to no
-- limit
pub record IsAnnounced (ws : List Plain) : Type 0 where
  -- all words but the last
  pub front : List Plain
  -- the last one
  pub last : Plain
  -- these are the words
  pub words : ws ≡ front ++ last ∷ []
  -- the last counts to no limit
  pub counts_not : announces last ≡ true
  -- programs within the limits begin with the others
  pub within : BeginsWithin front
  -- programs begin with all
  pub begins : Begins ws

-- the counted parts in these words are within the limits
abbrev pub InRoom : List Plain → Type 0
InRoom ws = BeginsWithin ws ⊎ IsAnnounced ws

-- Word k passes a limit: the words before it are within the limits, and with it they begin programs, but aren't.
pub record PassesLimit (ws : List Plain) (k : ℕ) : Type 0 where
  -- there is such a word
  pub is_word : k < length ws
  -- the words before it are within the limits
  pub before : InRoom (take k ws)
  -- with it they begin programs
  pub with_it : Begins (take (k + 1) ws)
  -- but aren't within the limits
  pub no_room : InRoom (take (k + 1) ws) → ⊥

-- P1: word k is the farthest word, and no word before it passes a limit.
pub record IsUnexpectedWord (ws : List Plain) (k : ℕ) : Type 0 where
  -- there is such a word
  pub is_word : k < length ws
  -- with it no program goes on
  pub farthest : IsFarthest spell ws k
  -- no word before it passes a limit
  pub in_room : InRoom (take k ws)

-- P2: the text's end is the farthest word, and no word before the last passes a limit.
pub record IsUnexpectedEnd (ws : List Plain) : Type 0 where
  -- programs go on after the last word, and none ends there
  pub farthest : IsFarthest spell ws (length ws)
  -- no word before the last passes a limit
  pub in_room : InRoom (take (length ws - 1) ws)

-- P3: word k passes a limit, and it is not the last word of a text whose end is refused.
pub record IsPastLimit (ws : List Plain) (k : ℕ) : Type 0 where
  -- the word passes a limit
  pub passes : PassesLimit ws k
  -- it is not the last word of a text whose end is refused
  pub goes_on : k + 1 ≡ length ws → IsFarthest spell ws (length ws) → ⊥

-- the words are refused by this rule at this line
abbrev pub IsRefused : TextRule → ℕ → List PlainAt → Type 0
IsRefused UnexpectedWord l ws = (k : ℕ) × IsUnexpectedWord (plains ws) k × (l ≡ line (lines ws) k)
IsRefused UnexpectedEnd l ws = IsUnexpectedEnd (plains ws) × (l ≡ line (lines ws) (length ws - 1))
IsRefused PastLimit l ws = (k : ℕ) × IsPastLimit (plains ws) k × (l ≡ line (lines ws) k)
IsRefused _ l ws = ⊥

-- the words spell a program within the limits, and these are the sections that it writes out
abbrev pub AreSections : List Section → List PlainAt → Type 0
AreSections sections ws = (t : Tree) × IsWithin t × (plains ws ≡ spell t) × (sections ≡ written (lines ws) t)

-- the words are refused so, or memory ran out
abbrev pub IsFault : TextFault → List PlainAt → Type 0
IsFault (Refused rule l) ws = IsRefused rule l ws
IsFault Memory ws = Unit {0}

-- the answers to the words
abbrev pub Answers : Result (List Section) TextFault → List PlainAt → Type 0
Answers (Ok ss) ws = AreSections ss ws
Answers (Err f) ws = IsFault f ws
