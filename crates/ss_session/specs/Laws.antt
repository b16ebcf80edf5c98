-- Laws on models: each model has exactly one outcome. A program has only its own spelling, and is
-- refused in one of its parts.
use Rattle.std.specs.Prelude.{◌≡◌, ◌⊎◌, ℕ, List}
use Rattle.ss_words.specs.declared.fault.TextRule.{TextRule}
use Rattle.ss_words.specs.Words.{WordAt}
use Rattle.ss_words.specs.Plain.{PlainAt}
use Rattle.ss_words.specs.PlainRules.{plain_words_of}
use Rattle.ss_preamble.specs.Tree.{Decls}
use Rattle.ss_preamble.specs.Refused.{AreDecls}
use Rattle.ss_preamble.specs.Refused as preamble
use Rattle.ss_routines.specs.Refused.{words_from}
use Rattle.ss_routines.specs.Refused as sections
use Rattle.ss_preamble.specs.Laws.{Program}
use Rattle.ss_routines.specs.Tree.{Tree}
use Rattle.ss_session.specs.Refused.{IsRefused, spell}
use Rattle.ss_session.specs.Model.{Outcome, IsOutcome}

-- each byte string, as a model, has an outcome
abbrev pub ModelHasOutcome : Type 0
ModelHasOutcome = (model : List ℕ) → (outcome : Outcome) × IsOutcome model outcome

-- and no second
abbrev pub OutcomeIsUnique : Type 0
OutcomeIsUnique = (model : List ℕ) (a b : Outcome) → IsOutcome model a → IsOutcome model b → a ≡ b

-- no two programs, of a preamble or none and of sections, have one spelling
abbrev pub ProgramSpellingIsUnique : Type 0
ProgramSpellingIsUnique = (t u : Program Tree) → spell t ≡ spell u → t ≡ u

-- plain words are refused in their preamble, or else in the sections after it
abbrev pub IsRefusedInPart : TextRule → ℕ → List PlainAt → Type 0
IsRefusedInPart rule line ws =
    preamble.IsRefused rule line ws
    ⊎ ((d : Decls) × (number : ℕ) × AreDecls d number ws × sections.IsRefused rule line (words_from number ws))

-- that is the refusal of the whole program, by the farthest word of preamble and sections together
abbrev pub ProgramIsRefusedInPart : Type 0
ProgramIsRefusedInPart =
    (ws : List WordAt) (rule : TextRule) (line : ℕ)
    → (IsRefusedInPart rule line (plain_words_of ws) → IsRefused rule line (plain_words_of ws))
    × (IsRefused rule line (plain_words_of ws) → IsRefusedInPart rule line (plain_words_of ws))
