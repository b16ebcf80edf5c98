-- Whether a condition names a local variable.
use Rattle.std.specs.Prelude.{Bool, true, false, ◌||◌}
use Rattle.ss_program.specs.declared.variable.Variable.{Variable as AVariable}
use Rattle.ss_program.specs.declared.variable.Variable.TheVariants.{Local}
use Rattle.ss_program.specs.declared.target.SetRef.{SetRef}
use Rattle.ss_program.specs.ProgramExpr.{Expr, expr, Sums, no_sums, sum, Term, term, Products, no_products, product}
use Rattle.ss_program.specs.ProgramExpr.{Factor, digits, variable, absolute, greatest, least, quotient, remainder}
use Rattle.ss_program.specs.ProgramExpr.{attribute, owner_kept, member_kept, within, Subscript, implied, of_system, at}
use Rattle.ss_program.specs.ProgramExpr.{Exprs, no_exprs, exprs}
use Rattle.ss_program.specs.ProgramCondition.{Condition, any, Conjunctions, no_conjunctions, or_else, Conjunction, all}
use Rattle.ss_program.specs.ProgramCondition.{Relations, no_relations, and_also, Relation, compared, is_empty, is_in}
use Rattle.ss_program.specs.ProgramCondition.{nested}

-- a variable is a local one
abbrev pub is_local : AVariable → Bool
is_local (Local i) = true
is_local _ = false

-- some variable in a part of an expression is a local one
abbrev mutual
  -- in the whole expression
  pub expr_names_local : Expr → Bool
  expr_names_local (expr l t ss) = term_names_local t || sums_name_local ss

  -- in the terms after the first
  pub sums_name_local : Sums → Bool
  sums_name_local no_sums = false
  sums_name_local (sum s t ss) = term_names_local t || sums_name_local ss

  -- in a term
  pub term_names_local : Term → Bool
  term_names_local (term f ps) = factor_names_local f || products_name_local ps

  -- in the factors after the first
  pub products_name_local : Products → Bool
  products_name_local no_products = false
  products_name_local (product f ps) = factor_names_local f || products_name_local ps

  -- in a factor
  pub factor_names_local : Factor → Bool
  factor_names_local (digits k) = false
  factor_names_local (variable x) = is_local x
  factor_names_local (absolute e) = expr_names_local e
  factor_names_local (greatest e es) = expr_names_local e || exprs_name_local es
  factor_names_local (least e es) = expr_names_local e || exprs_name_local es
  factor_names_local (quotient e f) = expr_names_local e || expr_names_local f
  factor_names_local (remainder e f) = expr_names_local e || expr_names_local f
  factor_names_local (attribute c a i) = subscript_names_local i
  factor_names_local (owner_kept kept s i) = subscript_names_local i
  factor_names_local (member_kept kept s i) = subscript_names_local i
  factor_names_local (within e) = expr_names_local e

  -- in a subscript: the variable of a class is a global one
  pub subscript_names_local : Subscript → Bool
  subscript_names_local (implied v) = false
  subscript_names_local of_system = false
  subscript_names_local (at e) = expr_names_local e

  -- in the arguments after the first
  pub exprs_name_local : Exprs → Bool
  exprs_name_local no_exprs = false
  exprs_name_local (exprs e es) = expr_names_local e || exprs_name_local es

-- in the owner of a list
abbrev pub set_names_local : SetRef → Bool
set_names_local set = subscript_names_local set.owner

-- some variable in a part of a condition is a local one
abbrev mutual
  -- in the whole condition
  pub names_local : Condition → Bool
  names_local (any c cs) = conjunction_names_local c || conjunctions_name_local cs

  -- in the conjunctions after OR
  pub conjunctions_name_local : Conjunctions → Bool
  conjunctions_name_local no_conjunctions = false
  conjunctions_name_local (or_else c cs) = conjunction_names_local c || conjunctions_name_local cs

  -- in a conjunction
  pub conjunction_names_local : Conjunction → Bool
  conjunction_names_local (all r rs) = relation_names_local r || relations_name_local rs

  -- in the relations after AND
  pub relations_name_local : Relations → Bool
  relations_name_local no_relations = false
  relations_name_local (and_also r rs) = relation_names_local r || relations_name_local rs

  -- in a relation
  pub relation_names_local : Relation → Bool
  relation_names_local (compared e c f) = expr_names_local e || expr_names_local f
  relation_names_local (is_empty r is) = set_names_local r
  relation_names_local (is_in e is r) = expr_names_local e || set_names_local r
  relation_names_local (nested c) = names_local c
