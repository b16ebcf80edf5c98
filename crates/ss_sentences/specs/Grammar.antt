-- Whether words are a program, by its two parts, and whether a program goes on after them. These
-- are the refusals of the whole program, by the farthest word of preamble and sections together:
-- that is a law of ss_session (`program_is_refused_in_one_part`).
use Rattle.std.specs.Prelude.{◌≡◌, ◌⊎◌, ℕ, Bool, true, false, List}
use Rattle.ss_words.specs.declared.fault.TextRule.{TextRule}
use Rattle.ss_words.specs.declared.fault.TextRule.TheVariants.{UnexpectedEnd}
use Rattle.ss_words.specs.declared.fault.TextFault.{TextFault}
use Rattle.ss_words.specs.declared.fault.TextFault.TheVariants.{Refused, Memory}
use Rattle.ss_words.specs.Plain.{PlainAt}
use Rattle.ss_preamble.specs.Tree.{Decls}
use Rattle.ss_preamble.specs.Refused.{AreDecls}
use Rattle.ss_preamble.specs.Refused as preamble
use Rattle.ss_routines.specs.Places.{Section}
use Rattle.ss_routines.specs.Refused.{AreSections, words_from}
use Rattle.ss_routines.specs.Refused as sections

-- plain words are a preamble or none, and sections after it
abbrev pub IsSpelled : List PlainAt → Type 0
IsSpelled ws =
    (d : Decls) × (from : ℕ) × (ss : List Section) × AreDecls d from ws × AreSections ss (words_from from ws)

-- plain words are refused by this rule at this line: in their preamble, or in the sections after it
abbrev pub IsRefused : TextRule → ℕ → List PlainAt → Type 0
IsRefused rule line ws =
    preamble.IsRefused rule line ws
    ⊎ ((d : Decls) × (from : ℕ) × AreDecls d from ws × sections.IsRefused rule line (words_from from ws))

-- the words are refused so, or memory was refused
abbrev pub IsFault : TextFault → List PlainAt → Type 0
IsFault (Refused rule line) ws = IsRefused rule line ws
IsFault Memory ws = Unit {0}

-- whether it is P2
abbrev pub is_end : TextRule → Bool
is_end UnexpectedEnd = true
is_end _ = false

-- true: the words are a program, or are refused because they end; false: they are refused by another rule
abbrev pub IsGoing : Bool → List PlainAt → Type 0
IsGoing true ws = IsSpelled ws ⊎ ((rule : TextRule) × (line : ℕ) × IsRefused rule line ws × (is_end rule ≡ true))
IsGoing false ws = (rule : TextRule) × (line : ℕ) × IsRefused rule line ws × (is_end rule ≡ false)
