-- The one tree of small texts.
use Rattle.std.proofs.Common.{◌≡◌, List, refl, sym, ◌∙◌, arith}
use Rattle.ss_words.specs.Plain.{Plain}
use Rattle.ss_routines.specs.Expr.{named}
use Rattle.ss_routines.specs.Tree.{Tree, spell, no_statements, statement, loop, repeated, compute}
use Rattle.ss_routines.specs.Refused.{IsWithin}
use Rattle.ss_routines.specs.Examples.{SpellOnly, ElseIsOfTheInnerIf, LoopEndsTheChain, ForControlsOneStatement}
use Rattle.ss_routines.specs.Examples.{AndBindsMoreTightly, ParenthesesAreTold, ComputeIsTwoPlaces, OpenPhrasesAreTold}
use Rattle.ss_routines.specs.Examples.{main_tree, every, value, x_as_sum, y_name, s_name, t_name}
use Rattle.ss_routines.proofs.Unique.{unique}

only : (ws : List Plain) (t : Tree) → spell t ≡ ws → SpellOnly ws t
only ws t e = (e, λ u h. unique u t (h ∙ sym e))

pub else_is_of_the_inner_if : ElseIsOfTheInnerIf
else_is_of_the_inner_if = only _ _ refl

pub loop_ends_the_chain : LoopEndsTheChain
loop_ends_the_chain = only _ _ refl

pub for_controls_one_statement : ForControlsOneStatement
for_controls_one_statement = only _ _ refl

pub and_binds_more_tightly : AndBindsMoreTightly
and_binds_more_tightly = only _ _ refl

pub parentheses_are_told : ParenthesesAreTold
parentheses_are_told = (only _ _ refl, only _ _ refl)

abbrev computing : Tree
computing =
    main_tree (statement (loop (every t_name) (repeated (statement (loop (every s_name)
    (compute x_as_sum (value (named y_name)))) no_statements))) no_statements)

computing_within : IsWithin computing
computing_within =
    record {
      parentheses = omega arith;
      ifs = omega arith;
      phrases = omega arith;
      parameters = omega arith;
      sections = omega arith;
    }

pub compute_is_two_places : ComputeIsTwoPlaces
compute_is_two_places = (computing, computing_within, refl, refl)

pub open_phrases_are_told : OpenPhrasesAreTold
open_phrases_are_told =
    ((refl, refl, refl, refl, refl), refl, (refl, refl, refl), (refl, refl), (refl, refl))
