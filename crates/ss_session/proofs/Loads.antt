-- A refusal that reading a model meets is the model's.
use Rattle.std.proofs.Common.{◌≡◌, inl, inr, subst, ℕ, List, Ok}
use Rattle.ss_words.specs.declared.fault.TextFault.{TextFault}
use Rattle.ss_words.specs.declared.fault.TextFault.TheVariants.{Refused, Memory}
use Rattle.ss_words.specs.Words.{WordAt}
use Rattle.ss_words.specs.TextWords.{words_of}
use Rattle.ss_words.specs.PlainRules.{plain_words_of}
use Rattle.ss_preamble.specs.Tree.{Decls}
use Rattle.ss_preamble.specs.Refused.{AreDecls}
use Rattle.ss_preamble.specs.Refused as preamble
use Rattle.ss_routines.specs.Places.{Section}
use Rattle.ss_routines.specs.Refused.{words_from}
use Rattle.ss_routines.specs.Refused as sections
use Rattle.ss_check.specs.declared.fault.CheckFault.{CheckFault}
use Rattle.ss_check.specs.declared.fault.CheckFault.TheVariants as check
use Rattle.ss_check.specs.Breach.{breach, refusal}
use Rattle.ss_check.specs.Statements.{IsBreach, IsRefusal}
use Rattle.ss_session.specs.Load.{load_fault_of_check, load_fault_of_text, refused_by, IsLoadFault, IsRefusedBy}
use Rattle.ss_session.specs.declared.load.LoadFault.{LoadFault}
use Rattle.ss_session.specs.declared.whole.Refusal.{Refusal}
use Rattle.ss_session.specs.declared.load.LoadFault.TheVariants as load
use Rattle.ss_session.specs.Model.{Spells}
use Rattle.ss_session.proofs.Refusals.{to_one}

-- a refusal in the preamble
pub told_in_preamble : (model : List ℕ) (ws : List WordAt) (f : TextFault) → words_of model ≡ Ok ws
    → preamble.IsFault f (plain_words_of ws) → IsLoadFault (load_fault_of_text f) model
told_in_preamble model ws (Refused r l) e h = inr (ws, e, to_one ws r l (inl h))
told_in_preamble model ws Memory e h = tt

-- a refusal in the sections after it
pub told_in_sections : (model : List ℕ) (ws : List WordAt) (d : Decls) (number : ℕ) (f : TextFault)
    → words_of model ≡ Ok ws → AreDecls d number (plain_words_of ws)
    → sections.IsFault f (words_from number (plain_words_of ws)) → IsLoadFault (load_fault_of_text f) model
told_in_sections model ws d number (Refused r l) e a h = inr (ws, e, to_one ws r l (inr (d, number, a, h)))
told_in_sections model ws d number Memory e a h = tt

-- a refusal by the checker, with what is wrong
pub told_by_check : (model : List ℕ) (d : Decls) (ss : List Section) (f : CheckFault) → Spells model d ss →
    IsBreach f (breach d ss) → IsRefusal f (refusal d ss) → IsLoadFault (load_fault_of_check f) model
told_by_check model d ss (check.Broken r l w) s b h = ((d, ss, s, b), (d, ss, s, h))
told_by_check model d ss check.Memory s b h = tt

-- the rule and the line of a fault are those of the model
pub refusal_told : (fault : LoadFault) (model : List ℕ) → IsLoadFault fault model → IsRefusedBy (refused_by fault) model
refusal_told (load.Text r l) model h = h
refusal_told (load.Check r l w) model h = h.0
refusal_told load.Memory model h = tt

-- the same of what the fault is without what is wrong
pub told_as : (fault : LoadFault) (model : List ℕ) (r : Refusal) → IsLoadFault fault model → refused_by fault ≡ r →
    IsRefusedBy r model
told_as fault model r h e = subst (λ (x : Refusal). IsRefusedBy x model) e (refusal_told fault model h)

-- the rules that the reading of a model uses
pub ruleset loads = (told_in_preamble, told_in_sections, told_by_check)
