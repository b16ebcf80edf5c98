-- The refusal of a whole program: by the farthest word of its one spelling, and by the limits of
-- preambles and sections.
use Rattle.std.specs.Prelude.{◌≡◌, ◌<◌, ◌⊎◌, ℕ, ◌+◌, ◌-◌, List, ◌++◌, length, take, drop}
use Rattle.ss_words.specs.declared.fault.TextRule.{TextRule}
use Rattle.ss_words.specs.declared.fault.TextRule.TheVariants.{UnexpectedWord, UnexpectedEnd, PastLimit}
use Rattle.ss_words.specs.Plain.{Plain, PlainAt, plains}
use Rattle.ss_words.specs.Noting.{line}
use Rattle.ss_words.specs.Farthest.{IsFarthest}
use Rattle.ss_preamble.specs.Roles.{roles}
use Rattle.ss_preamble.specs.WordLimits.{AreWithin}
use Rattle.ss_preamble.specs.Laws.{Program, spell_program}
use Rattle.ss_preamble.specs.Refused.{HasPreamble, CountUpTo, lines}
use Rattle.ss_routines.specs.Tree.{Tree}
use Rattle.ss_routines.specs.Tree as grammar
use Rattle.ss_routines.specs.Refused as sections

-- the plain words of a preamble or none, and of sections
abbrev pub spell : Program Tree → List Plain
spell = spell_program grammar.spell

-- some program begins with these words
abbrev pub Begins : List Plain → Type 0
Begins ws = (t : Program Tree) × (x : List Plain) × (spell t ≡ ws ++ x)

-- the first n words count to the limits of preambles: none if no preamble begins; the words of the
-- preamble; if none is whole, the words before its farthest word
abbrev pub IsHead : List Plain → ℕ → Type 0
IsHead ws n = ((HasPreamble ws → ⊥) × (n ≡ 0)) ⊎ (HasPreamble ws × CountUpTo ws n)

-- the words before number k are within the limits: of the preamble, and after it of the sections
pub record InRoom (ws : List Plain) (k : ℕ) : Type 0 where
  -- the words of the preamble
  pub size : ℕ
  -- they are those that count to its limits
  pub head : IsHead ws size
  -- their roles are within these limits
  pub preamble_within : AreWithin (take k (roles (take size ws)))
  -- the words after them
  pub behind : sections.InRoom (take (k - size) (drop size ws))

-- Word k passes a limit: the words before it are within the limits, and with it they begin programs, but aren't.
pub record PassesLimit (ws : List Plain) (k : ℕ) : Type 0 where
  -- there is such a word
  pub is_word : k < length ws
  -- the words before it are within the limits
  pub before : InRoom ws k
  -- with it they begin programs
  pub with_it : Begins (take (k + 1) ws)
  -- but are not within the limits
  pub no_room : InRoom ws (k + 1) → ⊥

-- P1: word k is the farthest word, and no word before it passes a limit.
pub record IsUnexpectedWord (ws : List Plain) (k : ℕ) : Type 0 where
  -- there is such a word
  pub is_word : k < length ws
  -- it is the farthest word
  pub farthest : IsFarthest spell ws k
  -- the words before it are within the limits
  pub in_room : InRoom ws k

-- P2: the text's end is the farthest word, and no word before the last passes a limit.
pub record IsUnexpectedEnd (ws : List Plain) : Type 0 where
  -- the end is the farthest word
  pub farthest : IsFarthest spell ws (length ws)
  -- the words before the last are within the limits
  pub in_room : InRoom ws (length ws - 1)

-- P3: word k passes a limit, and it is not the last word of a text whose end is refused.
pub record IsPastLimit (ws : List Plain) (k : ℕ) : Type 0 where
  -- it passes a limit
  pub passes : PassesLimit ws k
  -- it is not the last word of a text whose end is refused
  pub goes_on : k + 1 ≡ length ws → IsFarthest spell ws (length ws) → ⊥

-- the words are refused by this rule at this line
abbrev pub IsRefused : TextRule → ℕ → List PlainAt → Type 0
IsRefused UnexpectedWord l ws = (k : ℕ) × IsUnexpectedWord (plains ws) k × (l ≡ line (lines ws) k)
IsRefused UnexpectedEnd l ws = IsUnexpectedEnd (plains ws) × (l ≡ line (lines ws) (length ws - 1))
IsRefused PastLimit l ws = (k : ℕ) × IsPastLimit (plains ws) k × (l ≡ line (lines ws) k)
IsRefused _ l ws = ⊥
