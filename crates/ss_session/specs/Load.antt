-- The fault that the reading of a model reports if it gives no program.
use Rattle.std.specs.Prelude.{◌≡◌, ℕ, List, Some}
use Rattle.ss_words.specs.declared.fault.TextFault.{TextFault}
use Rattle.ss_words.specs.declared.fault.TextFault.TheVariants as text
use Rattle.ss_preamble.specs.Tree.{Decls}
use Rattle.ss_routines.specs.Places.{Section}
use Rattle.ss_check.specs.Breach as rules
use Rattle.ss_check.specs.Statements.{refused}
use Rattle.ss_check.specs.declared.fault.CheckRule.{CheckRule}
use Rattle.ss_check.specs.declared.wrong.Wrong.{Wrong}
use Rattle.ss_check.specs.declared.fault.CheckFault.{CheckFault}
use Rattle.ss_check.specs.declared.fault.CheckFault.TheVariants as check
use Rattle.ss_session.specs.declared.load.LoadFault.{LoadFault}
use Rattle.ss_session.specs.declared.load.LoadFault.TheVariants as load
use Rattle.ss_session.specs.declared.whole.Refusal.{Refusal}
use Rattle.ss_session.specs.declared.whole.Refusal.TheVariants as refusal
use Rattle.ss_session.specs.Model.{refused_text, refused_check, IsOutcome, Spells}

-- a refusal of the text, or of memory for it, as a fault of the reading
abbrev pub load_fault_of_text : TextFault → LoadFault
load_fault_of_text (text.Refused rule line) = load.Text rule line
load_fault_of_text text.Memory = load.Memory

-- a refusal of the spelled model, or of memory for it, as a fault of the reading
abbrev pub load_fault_of_check : CheckFault → LoadFault
load_fault_of_check (check.Broken rule line wrong) = load.Check rule line wrong
load_fault_of_check check.Memory = load.Memory

-- what is wrong with the program that the words of a model spell, by the rule and the line of its first breach
abbrev pub IsWrong : List ℕ → CheckRule → ℕ → Wrong → Type 0
IsWrong model rule line wrong =
    (d : Decls) × (ss : List Section) × Spells model d ss
    × (rules.refusal d ss ≡ Some (refused line (λ broken. wrong) rule))

-- a fault of the reading reports the model's refusal, and what is wrong, unless memory was refused
abbrev pub IsLoadFault : LoadFault → List ℕ → Type 0
IsLoadFault (load.Text rule line) model = IsOutcome model (refused_text rule line)
IsLoadFault (load.Check rule line wrong) model =
    IsOutcome model (refused_check rule line) × IsWrong model rule line wrong
IsLoadFault load.Memory model = Unit {0}

-- a fault of the reading, without what is wrong
abbrev pub refused_by : LoadFault → Refusal
refused_by (load.Text rule line) = refusal.Text rule line
refused_by (load.Check rule line wrong) = refusal.Check rule line
refused_by load.Memory = refusal.Memory

-- the rule and the line are those of the model
abbrev pub IsRefusedBy : Refusal → List ℕ → Type 0
IsRefusedBy (refusal.Text rule line) model = IsOutcome model (refused_text rule line)
IsRefusedBy (refusal.Check rule line) model = IsOutcome model (refused_check rule line)
IsRefusedBy refusal.Memory model = Unit {0}
