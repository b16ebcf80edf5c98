-- Laws on the spelling of preambles and on the refused words.
use Rattle.std.specs.Prelude.{◌≡◌, ◌<◌, ℕ, ◌+◌, ◌-◌, Bool, true, List, [], ◌∷◌, ◌++◌, length, take, Option, Some, None}
use Rattle.std.specs.Prelude.{Result, Ok, Err}
use Rattle.ss_words.specs.declared.fault.TextRule.TheVariants.{UnexpectedEnd, PastLimit}
use Rattle.ss_words.specs.declared.fault.TextFault.{TextFault}
use Rattle.ss_words.specs.declared.fault.TextFault.TheVariants.{Refused, Memory}
use Rattle.ss_words.specs.Words.{WordAt}
use Rattle.ss_words.specs.Plain.{Plain, PlainAt, plains, first}
use Rattle.ss_words.specs.PlainRules.{plain_words_of}
use Rattle.ss_words.specs.Noting.{line}
use Rattle.ss_words.specs.Farthest.{IsFarthest}
use Rattle.ss_preamble.specs.Tree.{Preamble, Decls}
use Rattle.ss_preamble.specs.Spelling.{spell}
use Rattle.ss_preamble.specs.Roles.{roles}
use Rattle.ss_preamble.specs.Limits.{IsWithin}
use Rattle.ss_preamble.specs.WordLimits.{AreWithin}
use Rattle.ss_preamble.specs.Written.{written}
use Rattle.ss_preamble.specs.Refused.{HasPreamble, PassesLimit, CountUpTo, Answers, spell_text, lines, word_behind}
use Rattle.ss_preamble.specs.Refused.{IsPreamble, words_from}

-- no two preambles have one spelling
abbrev pub SpellingIsUnique : Type 0
SpellingIsUnique = (t u : Preamble) → spell t ≡ spell u → t ≡ u

-- an answer that says something
abbrev pub IsDefinite : Result (Decls × ℕ) TextFault → Type 0
IsDefinite (Ok d) = Unit {0}
IsDefinite (Err (Refused rule l)) = Unit {0}
IsDefinite (Err Memory) = ⊥

-- words have an answer
abbrev pub AlwaysAnswered : Type 0
AlwaysAnswered = (ws : List PlainAt) → (a : Result (Decls × ℕ) TextFault) × IsDefinite a × Answers a ws

-- and no second
abbrev pub AnswerIsUnique : Type 0
AnswerIsUnique =
    (ws : List PlainAt) (a b : Result (Decls × ℕ) TextFault) → IsDefinite a → IsDefinite b → Answers a ws
    → Answers b ws → a ≡ b

-- the counts of the words of a preamble are within the limits exactly if its items are
abbrev pub WordsCountItems : Type 0
WordsCountItems =
    (is : Preamble) → (IsWithin is → AreWithin (roles (spell is))) × (AreWithin (roles (spell is)) → IsWithin is)

-- the answer to a preamble within the limits is its items and the number of the first word after it
abbrev pub LimitsLetPass : Type 0
LimitsLetPass =
    (ws : List PlainAt) (is : Preamble) (behind : List Plain) (a : Result (Decls × ℕ) TextFault) → IsWithin is
    → plains ws ≡ spell is ++ behind → IsDefinite a → Answers a ws
    → a ≡ Ok (written (lines ws) is, word_behind ws (length (spell is)))

-- a preamble past the limits is refused by P3, at a word that passes one
abbrev pub LimitsHold : Type 0
LimitsHold =
    (ws : List PlainAt) (is : Preamble) (behind : List Plain) (a : Result (Decls × ℕ) TextFault)
    → plains ws ≡ spell is ++ behind → (IsWithin is → ⊥) → IsDefinite a → Answers a ws
    → (k : ℕ) × PassesLimit (spell is) k × (a ≡ Err (Refused PastLimit (line (lines ws) k)))

-- a word that passes a limit and is not the text's last is refused by P3
abbrev pub LimitsRefuse : Type 0
LimitsRefuse =
    (ws : List PlainAt) (n k : ℕ) (a : Result (Decls × ℕ) TextFault) → HasPreamble (plains ws)
    → CountUpTo (plains ws) n → PassesLimit (take n (plains ws)) k → k + 1 < length ws → IsDefinite a → Answers a ws
    → a ≡ Err (Refused PastLimit (line (lines ws) k))

-- a text that ends inside a preamble within the limits is refused at its last word, by P2
abbrev pub BeginningsAreRefused : Type 0
BeginningsAreRefused =
    (ws : List PlainAt) (is : Preamble) (n : ℕ) → plains ws ≡ spell is → IsWithin is → 0 < n → n < length ws
    → Answers (Err (Refused UnexpectedEnd (line (lines ws) (n - 1)))) (take n ws)

-- from the number that is given with a preamble on, the words are those after its END
abbrev pub WordsStandBehind : Type 0
WordsStandBehind =
    (ws : List WordAt) (d : Decls) (number : ℕ) (p : IsPreamble d number (plain_words_of ws))
    → plains (words_from number (plain_words_of ws)) ≡ p.behind

-- ---- a whole program: a preamble or none, and sections, whatever the grammar of the sections is

-- a preamble or none, and sections
pub record Program (S : Type 0) : Type 0 where
  -- the items of the preamble, if the text has one
  pub preamble : Option Preamble
  -- the sections after it
  pub sections : S

-- the spelling of a preamble, if there is one
abbrev pub spell_head : Option Preamble → List Plain
spell_head None = []
spell_head (Some p) = spell p

-- the spelling of a program; sp spells sections
abbrev pub spell_program : {S : Type 0} → (S → List Plain) → Program S → List Plain
spell_program sp t = spell_head t.preamble ++ sp t.sections

-- the farthest word of a whole program: if a preamble begins and is not read, it is the preamble's;
-- if it is read, it is that of the sections, after the preamble
abbrev pub OneFarthestWord : {S : Type 0} → (S → List Plain) → Type 0
OneFarthestWord {S} sp =
    (ws : List Plain) → HasPreamble ws
    → ((k : ℕ) → IsFarthest spell_text ws k → IsFarthest (spell_program sp) ws k)
    × ((is : Preamble) (behind : List Plain) (k : ℕ) → ws ≡ spell is ++ behind → IsFarthest sp behind k
    → IsFarthest (spell_program sp) ws (length (spell is) + k))

-- so it is if there is some list of sections, and none begins with PREAMBLE
abbrev pub FarthestOfProgram : {S : Type 0} → (S → List Plain) → Type 0
FarthestOfProgram {S} sp = (some : S) → ((s : S) → HasPreamble (sp s) → ⊥) → OneFarthestWord sp

-- a word after END with which no sections begin, as the first word of an item, is the farthest word
abbrev pub WordBehindEnd : {S : Type 0} → (S → List Plain) → Type 0
WordBehindEnd {S} sp =
    (some : S) → ((s : S) → HasPreamble (sp s) → ⊥) → (is : Preamble) (w : Plain) (behind : List Plain)
    → ((s : S) → first (sp s) ≡ Some w → ⊥)
    → IsFarthest (spell_program sp) (spell is ++ w ∷ behind) (length (spell is))

-- a list of words that some sections spell; spells says which ones do
abbrev pub Spelled : (List Plain → Bool) → Type 0
Spelled spells = (ws : List Plain) × (spells ws ≡ true)

-- the words
abbrev pub words_spelled : (spells : List Plain → Bool) → Spelled spells → List Plain
words_spelled spells s = s.0

-- so it is whatever lists of words sections spell
abbrev pub FarthestOfPrograms : Type 0
FarthestOfPrograms = (spells : List Plain → Bool) → FarthestOfProgram (words_spelled spells)

-- and so for a word after END
abbrev pub WordsBehindEnd : Type 0
WordsBehindEnd = (spells : List Plain → Bool) → WordBehindEnd (words_spelled spells)
