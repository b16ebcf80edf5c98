-- The refusals of the two parts.
use Rattle.std.proofs.Common.{◌≡◌, inl, inr, ℕ, Bool, true, false, List, sym}
use Rattle.ss_words.specs.declared.fault.TextRule.{TextRule}
use Rattle.ss_words.specs.declared.fault.TextFault.{TextFault}
use Rattle.ss_words.specs.declared.fault.TextFault.TheVariants.{Refused, Memory}
use Rattle.ss_words.specs.Plain.{PlainAt}
use Rattle.ss_preamble.specs.Tree.{Decls}
use Rattle.ss_preamble.specs.Refused.{AreDecls}
use Rattle.ss_preamble.specs.Refused as preamble
use Rattle.ss_routines.specs.Refused.{words_from}
use Rattle.ss_routines.specs.Refused as sections
use Rattle.ss_sentences.specs.Grammar.{IsFault, IsGoing, IsRefused, IsSpelled, is_end}

-- one in the preamble
pub in_preamble : (ws : List PlainAt) (f : TextFault) → preamble.IsFault f ws → IsFault f ws
in_preamble ws (Refused r l) h = inl h
in_preamble ws Memory h = tt

-- one in the sections after it
pub in_sections : (ws : List PlainAt) (d : Decls) (from : ℕ) (f : TextFault) → AreDecls d from ws
    → sections.IsFault f (words_from from ws) → IsFault f ws
in_sections ws d from (Refused r l) a h = inr (d, from, a, h)
in_sections ws d from Memory a h = tt

-- the rule of a refusal says whether a program goes on
pub going : (b : Bool) (ws : List PlainAt) (r : TextRule) (l : ℕ) → b ≡ is_end r → IsRefused r l ws → IsGoing b ws
going true ws r l e h = inr (r, l, h, sym e)
going false ws r l e h = (r, l, h, sym e)

-- of parts
pub ruleset parts = (in_preamble, in_sections)

-- a program goes on if the words are one
pub going_on : (ws : List PlainAt) → IsSpelled ws → IsGoing true ws
going_on ws h = inl h

-- whether a program goes on
pub ruleset goings = (going, going_on)
