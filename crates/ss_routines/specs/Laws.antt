-- Laws on the spelling of programs and on the refused words.
use Rattle.std.specs.Prelude.{◌≡◌, ◌⊎◌, ℕ, ◌+◌, List, length, Result, Ok, Err}
use Rattle.ss_words.specs.declared.fault.TextRule.TheVariants.{UnexpectedEnd, PastLimit}
use Rattle.ss_words.specs.declared.fault.TextFault.{TextFault}
use Rattle.ss_words.specs.declared.fault.TextFault.TheVariants.{Refused, Memory}
use Rattle.ss_words.specs.Plain.{PlainAt, plains}
use Rattle.ss_words.specs.Noting.{line}
use Rattle.ss_routines.specs.Places.{Section}
use Rattle.ss_routines.specs.Tree.{Tree, spell}
use Rattle.ss_routines.specs.Written.{written}
use Rattle.ss_routines.specs.Refused.{Answers, IsWithin, PassesLimit, lines}

-- no two trees have one spelling
abbrev pub SpellingIsUnique : Type 0
SpellingIsUnique = (t u : Tree) → spell t ≡ spell u → t ≡ u

-- an answer that says something
abbrev pub IsDefinite : Result (List Section) TextFault → Type 0
IsDefinite (Ok ss) = Unit {0}
IsDefinite (Err (Refused rule l)) = Unit {0}
IsDefinite (Err Memory) = ⊥

-- words have an answer
abbrev pub AlwaysAnswered : Type 0
AlwaysAnswered = (ws : List PlainAt) → (a : Result (List Section) TextFault) × IsDefinite a × Answers a ws

-- and no second
abbrev pub AnswerIsUnique : Type 0
AnswerIsUnique =
    (ws : List PlainAt) (a b : Result (List Section) TextFault) → IsDefinite a → IsDefinite b → Answers a ws
    → Answers b ws → a ≡ b

-- a program within the limits is answered with its sections
abbrev pub LimitsLetPass : Type 0
LimitsLetPass =
    (ws : List PlainAt) (t : Tree) (a : Result (List Section) TextFault) → IsWithin t → plains ws ≡ spell t
    → IsDefinite a → Answers a ws → a ≡ Ok (written (lines ws) t)

-- a program past the limits is refused by P3, at a word that passes one
abbrev pub LimitsHold : Type 0
LimitsHold =
    (ws : List PlainAt) (t : Tree) (a : Result (List Section) TextFault) → plains ws ≡ spell t → (IsWithin t → ⊥)
    → IsDefinite a → Answers a ws
    → (k : ℕ) × PassesLimit (plains ws) k × (a ≡ Err (Refused PastLimit (line (lines ws) k)))

-- a word past a limit is refused: by P3, or by P2 if the text ends at it and cannot end there
abbrev pub LimitsRefuse : Type 0
LimitsRefuse =
    (ws : List PlainAt) (k : ℕ) (a : Result (List Section) TextFault) → PassesLimit (plains ws) k → IsDefinite a
    → Answers a ws
    → (a ≡ Err (Refused PastLimit (line (lines ws) k)))
    ⊎ ((k + 1 ≡ length ws) × (a ≡ Err (Refused UnexpectedEnd (line (lines ws) k))))
