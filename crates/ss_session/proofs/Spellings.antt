-- A program has only its own spelling.
use Rattle.std.proofs.Common.{◌≡◌, ◌++◌, Option, Some, None, sym, ap}
use Rattle.ss_preamble.specs.Tree.{Preamble}
use Rattle.ss_preamble.specs.Laws.{Program, spell_head}
use Rattle.ss_preamble.proofs.Unique.{one_head, has_preamble}
use Rattle.ss_routines.specs.Tree.{Tree}
use Rattle.ss_routines.specs.Tree as grammar
use Rattle.ss_routines.proofs.Unique.{unique}
use Rattle.ss_session.specs.Laws.{ProgramSpellingIsUnique}
use Rattle.ss_session.proofs.Refusals.{none_begins}

-- a program of these parts
made_of : Option Preamble → Tree → Program Tree
made_of o s = record { preamble = o; sections = s }

-- words that begin with PREAMBLE are spelled by no sections
no_sections : (p : Preamble) (s r : Tree) → grammar.spell s ≡ spell_head (Some p) ++ grammar.spell r → ⊥
no_sections p s r e = none_begins s (has_preamble (grammar.spell s) p (grammar.spell r) e)

parts_are_one : (o p : Option Preamble) (s r : Tree)
    → spell_head o ++ grammar.spell s ≡ spell_head p ++ grammar.spell r → made_of o s ≡ made_of p r
unfolding made_of
parts_are_one None None s r e = ap (made_of None) (unique s r e)
parts_are_one None (Some p) s r e = absurd (no_sections p s r e)
parts_are_one (Some o) None s r e = absurd (no_sections o r s (sym e))
parts_are_one (Some o) (Some p) s r e =
    let both = one_head o p (grammar.spell s) (grammar.spell r) e in
    let same = unique s r both.1 in
    λ i. made_of (Some (both.0 i)) (same i)

pub one_program : ProgramSpellingIsUnique
unfolding made_of
one_program t u e = parts_are_one t.preamble u.preamble t.sections u.sections e
