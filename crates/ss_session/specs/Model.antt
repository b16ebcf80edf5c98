-- The outcome of a model: refused by a rule at a line, or a program.
use Rattle.std.specs.Prelude.{◌≡◌, ◌⊎◌, ℕ, List, Some, None, Ok, Err}
use Rattle.ss_words.specs.declared.fault.TextRule.{TextRule}
use Rattle.ss_words.specs.declared.fault.TextFault.TheVariants.{Refused}
use Rattle.ss_words.specs.Words.{WordAt}
use Rattle.ss_words.specs.TextWords.{words_of}
use Rattle.ss_words.specs.PlainRules.{plain_words_of}
use Rattle.ss_words.specs.Plain.{PlainAt}
use Rattle.ss_preamble.specs.Tree.{Decls}
use Rattle.ss_preamble.specs.Refused.{AreDecls}
use Rattle.ss_routines.specs.Places.{Section}
use Rattle.ss_routines.specs.Refused.{AreSections, words_from}
use Rattle.ss_check.specs.declared.fault.CheckRule.{CheckRule}
use Rattle.ss_check.specs.Breach.{breach}
use Rattle.ss_check.specs.Resolved.{program_resolved}
use Rattle.ss_check.specs.Symbols.{Symbols, symbols_of}
use Rattle.ss_program.specs.Program.{ProgramTable}
use Rattle.ss_session.specs.Refused.{IsRefused}

-- refused by a rule L or P, refused by a rule C, or a program
pub data Outcome : Type 0 where
  refused_text : TextRule → ℕ → Outcome
  refused_check : CheckRule → ℕ → Outcome
  accepted : ProgramTable → Outcome

-- plain words are a preamble or none, which gives these declarations, and then these sections
abbrev pub AreProgram : Decls → List Section → List PlainAt → Type 0
AreProgram declarations sections ws =
    (number : ℕ) × AreDecls declarations number ws × AreSections sections (words_from number ws)

-- the words of a model spell a program with these declarations and these sections
abbrev pub Spells : List ℕ → Decls → List Section → Type 0
Spells model declarations sections =
    (ws : List WordAt) × (words_of model ≡ Ok ws) × AreProgram declarations sections (plain_words_of ws)

-- the refusal of the words if there is one, else that of the plain words, else the first breach of the program that
-- they spell, else that program with each name replaced by its place
abbrev pub IsOutcome : List ℕ → Outcome → Type 0
IsOutcome model (refused_text rule line) =
    (words_of model ≡ Err (Refused rule line))
    ⊎ ((ws : List WordAt) × (words_of model ≡ Ok ws) × IsRefused rule line (plain_words_of ws))
IsOutcome model (refused_check rule line) =
    (d : Decls) × (ss : List Section) × Spells model d ss × (breach d ss ≡ Some (rule, line))
IsOutcome model (accepted program) =
    (d : Decls) × (ss : List Section) × Spells model d ss × (breach d ss ≡ None) × (program ≡ program_resolved d ss)

-- a rule L or P refuses the model
abbrev pub IsTextRefused : List ℕ → Type 0
IsTextRefused model = (rule : TextRule) × (line : ℕ) × IsOutcome model (refused_text rule line)

-- a rule C refuses the model
abbrev pub IsCheckRefused : List ℕ → Type 0
IsCheckRefused model = (rule : CheckRule) × (line : ℕ) × IsOutcome model (refused_check rule line)

-- a program and a symbol table are those of one text without a breach, which the words of a model spell
abbrev pub IsOfModel : List ℕ → ProgramTable → Symbols → Type 0
IsOfModel model program symbols =
    (d : Decls) × (ss : List Section) × Spells model d ss × (breach d ss ≡ None) × (program ≡ program_resolved d ss)
    × (symbols ≡ symbols_of d ss)
