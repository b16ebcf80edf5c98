-- Definitions that the readings of an expression and of a condition are made of, to compute them.
use Rattle.std.specs.Prelude.{⊤}
use Rattle.ss_words.specs.Marks.{expect, eat, a_name}
use Rattle.ss_words.specs.Reading.{many, many_from}
use Rattle.ss_routines.specs.Combined.{star, by_table, several, eat_open, if_open}
use Rattle.ss_routines.specs.ExprReading.{factor_with, term_with, expr_with, expr_at, rest_with}
use Rattle.ss_routines.specs.SimpleReading.{reference_at, subscript_at}
use Rattle.ss_routines.specs.ConditionReading.{copula, set_with, behind_value, value_with, relation_with, conjoined_with}
use Rattle.ss_routines.specs.ConditionReading.{conjunction_with, either_with, either_at, condition_at}
use Rattle.ss_routines.proofs.Unfoldings.{choices, whole_text}

-- the reading of an expression
unfoldable pub expressions : ⊤
unfolding choices whole_text expect eat a_name many many_from star by_table several eat_open if_open factor_with
    term_with expr_with expr_at
expressions = tt

-- the reading of a condition
unfoldable pub conditions : ⊤
unfolding expressions rest_with reference_at subscript_at copula set_with behind_value value_with relation_with
    conjoined_with conjunction_with either_with either_at condition_at
conditions = tt
