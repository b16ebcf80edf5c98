-- The head of a list of plain words: no preamble, a preamble, or the word at which it is refused.
use Rattle.std.specs.Prelude.{◌≡◌, ◌<◌, ◌⊎◌, ℕ, ◌+◌, ◌-◌, true, List, [], ◌++◌, length, take, map, slice_index, leb}
use Rattle.std.specs.Prelude.{None, Result, Ok, Err}
use Rattle.std.specs.List.{filter}
use Rattle.ss_words.specs.declared.fault.TextRule.{TextRule}
use Rattle.ss_words.specs.declared.fault.TextRule.TheVariants.{UnexpectedWord, UnexpectedEnd, PastLimit}
use Rattle.ss_words.specs.declared.fault.TextFault.{TextFault}
use Rattle.ss_words.specs.declared.fault.TextFault.TheVariants.{Refused, Memory}
use Rattle.ss_words.specs.declared.mark.Mark.TheVariants as m
use Rattle.ss_words.specs.declared.reserved.Reserved.TheVariants as r
use Rattle.ss_words.specs.Plain.{Plain, PlainAt, plains, first}
use Rattle.ss_words.specs.Marks.{is}
use Rattle.ss_words.specs.Noting.{line}
use Rattle.ss_words.specs.Farthest.{IsFarthest}
use Rattle.ss_preamble.specs.Tree.{Preamble, Decls}
use Rattle.ss_preamble.specs.Spelling.{spell}
use Rattle.ss_preamble.specs.Roles.{roles}
use Rattle.ss_preamble.specs.Limits.{IsWithin}
use Rattle.ss_preamble.specs.WordLimits.{AreWithin}
use Rattle.ss_preamble.specs.Written.{written}

-- the line of each
abbrev pub lines : List PlainAt → List ℕ
lines ws = map (λ w. w.line) ws

-- a preamble and the words after its END
pub record Text : Type 0 where
  -- the items
  pub preamble : Preamble
  -- the words after END
  pub behind : List Plain

-- its words
abbrev pub spell_text : Text → List Plain
spell_text t = spell t.preamble ++ t.behind

-- whether a preamble begins here
abbrev pub HasPreamble : List Plain → Type 0
HasPreamble ws = is (m.Reserved r.Preamble) (first ws) ≡ true

-- the counts of the words before number k are within the limits; ws are the words that count
abbrev pub InRoom : List Plain → ℕ → Type 0
InRoom ws k = AreWithin (take k (roles ws))

-- Word k passes a limit: the words before it are within the limits, and with it they aren't. The
-- words ws are those that count.
pub record PassesLimit (ws : List Plain) (k : ℕ) : Type 0 where
  -- there is such a word
  pub is_word : k < length ws
  -- the words before it are within the limits
  pub before : InRoom ws k
  -- with it they aren't
  pub no_room : InRoom ws (k + 1) → ⊥

-- The words before n count to the limits: n is the farthest place, or the one after END.
abbrev pub CountUpTo : List Plain → ℕ → Type 0
CountUpTo ws n =
    IsFarthest spell_text ws n ⊎ ((is : Preamble) × (behind : List Plain) × (ws ≡ spell is ++ behind)
    × (n ≡ length (spell is)))

-- P1: word k is the farthest word, and no word before it passes a limit.
pub record IsUnexpectedWord (ws : List Plain) (k : ℕ) : Type 0 where
  -- there is such a word
  pub is_word : k < length ws
  -- with it no preamble goes on
  pub farthest : IsFarthest spell_text ws k
  -- no word before it passes a limit
  pub in_room : AreWithin (roles (take k ws))

-- P2: the text's end is the farthest word, and no word before the last passes a limit.
pub record IsUnexpectedEnd (ws : List Plain) : Type 0 where
  -- a preamble goes on after the last word
  pub farthest : IsFarthest spell_text ws (length ws)
  -- no word before the last passes a limit
  pub in_room : InRoom ws (length ws - 1)

-- P3: word k is among the words that count, passes a limit, and is not the last word of the text.
pub record IsPastLimit (ws : List Plain) (k : ℕ) : Type 0 where
  -- how many words count
  pub last : ℕ
  -- these words do
  pub count : CountUpTo ws last
  -- the word passes a limit
  pub passes : PassesLimit (take last ws) k
  -- a word is after it
  pub goes_on : k + 1 < length ws

-- a preamble begins here and is refused by this rule at this line
abbrev pub IsRefusedBy : TextRule → ℕ → List PlainAt → Type 0
IsRefusedBy UnexpectedWord l ws = (k : ℕ) × IsUnexpectedWord (plains ws) k × (l ≡ line (lines ws) k)
IsRefusedBy UnexpectedEnd l ws = IsUnexpectedEnd (plains ws) × (l ≡ line (lines ws) (length ws - 1))
IsRefusedBy PastLimit l ws = (k : ℕ) × IsPastLimit (plains ws) k × (l ≡ line (lines ws) k)
IsRefusedBy _ l ws = ⊥

-- a preamble that begins here is refused
pub record IsRefused (rule : TextRule) (l : ℕ) (ws : List PlainAt) : Type 0 where
  -- a preamble begins here
  pub begins : HasPreamble (plains ws)
  -- by this rule, at this line
  pub refused : IsRefusedBy rule l ws

-- nothing is declared
abbrev pub no_decls : Decls
no_decls = record { items = []; end = None }

-- the number of the first word after n plain words: words are numbered as in the list of words from
-- which the plain words come
abbrev pub word_behind : List PlainAt → ℕ → ℕ
word_behind ws n = slice_index (map (λ w. w.index + 1) ws) (n - 1)

-- the words begin with a preamble within the limits, these are its items, and this is the number of
-- the first word after its END
pub record IsPreamble (declarations : Decls) (number : ℕ) (ws : List PlainAt) : Type 0 where
  -- the items
  pub items : Preamble
  -- the words after END
  pub behind : List Plain
  -- they are within the limits
  pub within : IsWithin items
  -- the text is the spelling of the items, and those words
  pub words : plains ws ≡ spell items ++ behind
  -- with their lines the items are the declarations
  pub declared : declarations ≡ written (lines ws) items
  -- the number is that of the first word after END
  pub number_is : number ≡ word_behind ws (length (spell items))

-- the plain words from the word with number k on
abbrev pub words_from : ℕ → List PlainAt → List PlainAt
words_from k ws = filter (λ w. leb k w.index) ws

-- the items of a text and the number of the first word after them; none and 0 without a preamble
abbrev pub AreDecls : Decls → ℕ → List PlainAt → Type 0
AreDecls declarations number ws =
    ((HasPreamble (plains ws) → ⊥) × (declarations ≡ no_decls) × (number ≡ 0)) ⊎ IsPreamble declarations number ws

-- the words are refused so, or memory ran out
abbrev pub IsFault : TextFault → List PlainAt → Type 0
IsFault (Refused rule l) ws = IsRefused rule l ws
IsFault Memory ws = Unit {0}

-- the answers to the words
abbrev pub Answers : Result (Decls × ℕ) TextFault → List PlainAt → Type 0
Answers (Ok (d, n)) ws = AreDecls d n ws
Answers (Err f) ws = IsFault f ws
