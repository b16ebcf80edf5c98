-- What expressions and conditions name as values, in written order. What a subscript selects comes
-- before what it names.
use Rattle.std.specs.Prelude.{ℤ, List, [], ◌∷◌, ◌++◌, if◌then◌else◌, Result, Ok, Err}
use Rattle.ss_words.specs.declared.fault.RunFault.{RunFault}
use Rattle.ss_program.specs.declared.variable.Variable.{Variable as AVariable}
use Rattle.ss_program.specs.declared.variable.Variable.TheVariants.{Global}
use Rattle.ss_program.specs.declared.target.SetRef.{SetRef}
use Rattle.ss_program.specs.ProgramExpr.{Expr, expr, Sums, no_sums, sum, Term, term, Products, no_products, product}
use Rattle.ss_program.specs.ProgramExpr.{Factor, digits, variable, absolute, greatest, least, quotient, remainder}
use Rattle.ss_program.specs.ProgramExpr.{attribute, owner_kept, member_kept, within, Subscript, implied, of_system, at}
use Rattle.ss_program.specs.ProgramExpr.{Exprs, no_exprs, exprs}
use Rattle.ss_program.specs.ProgramCondition.{Condition, any, Conjunctions, no_conjunctions, or_else, Conjunction, all}
use Rattle.ss_program.specs.ProgramCondition.{Relations, no_relations, and_also, Relation, compared, is_empty, is_in}
use Rattle.ss_program.specs.ProgramCondition.{nested}
use Rattle.ss_values.specs.Values.{subscript_value}
use Rattle.ss_reads.specs.declared.part.Item.{Item}
use Rattle.ss_reads.specs.declared.part.Item.TheVariants as items
use Rattle.ss_reads.specs.declared.part.Part.TheVariants.{Variable, Of}
use Rattle.ss_reads.specs.declared.read.Read.{Read}
use Rattle.ss_reads.specs.declared.read.Read.TheVariants.{Part, Unvalued}
use Rattle.ss_reads.specs.Scenes.{Scene, is_given, sources}
use Rattle.ss_reads.specs.Written.{reference_text}

-- a variable, but for the one that has another value
abbrev pub variable_reads : Scene → AVariable → List Read
variable_reads s x = if is_given s.given x then [] else Part (Variable x) ∷ []

-- the part that an item with a subscript of this value is; without a value the reference's text
abbrev pub item_read : Scene → Item → Subscript → Result ℤ RunFault → Read
item_read s item i (Ok x) = Part (Of item x)
item_read s item i (Err fault) = Unvalued (reference_text s.program s.state.frame.section item i)

-- that of an item with a subscript
abbrev pub selected_read : Scene → Item → Subscript → Read
selected_read s item i = item_read s item i (subscript_value (sources s) i)

abbrev mutual
  -- an expression
  pub expr_reads : Scene → Expr → List Read
  expr_reads s (expr l t ss) = term_reads s t ++ sums_reads s ss

  -- the terms after the first
  pub sums_reads : Scene → Sums → List Read
  sums_reads s no_sums = []
  sums_reads s (sum sign t ss) = term_reads s t ++ sums_reads s ss

  -- a term
  pub term_reads : Scene → Term → List Read
  term_reads s (term f fs) = factor_reads s f ++ products_reads s fs

  -- the factors after the first
  pub products_reads : Scene → Products → List Read
  products_reads s no_products = []
  products_reads s (product f fs) = factor_reads s f ++ products_reads s fs

  -- a factor
  pub factor_reads : Scene → Factor → List Read
  factor_reads s (digits n) = []
  factor_reads s (variable x) = variable_reads s x
  factor_reads s (absolute e) = expr_reads s e
  factor_reads s (greatest e es) = expr_reads s e ++ exprs_reads s es
  factor_reads s (least e es) = expr_reads s e ++ exprs_reads s es
  factor_reads s (quotient e f) = expr_reads s e ++ expr_reads s f
  factor_reads s (remainder e f) = expr_reads s e ++ expr_reads s f
  factor_reads s (attribute c a i) = selected_read s (items.Attribute c a) i ∷ subscript_reads s i
  factor_reads s (owner_kept kept t i) = selected_read s (items.OwnerKept kept t) i ∷ subscript_reads s i
  factor_reads s (member_kept kept t i) = selected_read s (items.MemberKept kept t) i ∷ subscript_reads s i
  factor_reads s (within e) = expr_reads s e

  -- a subscript; without one the variable of the class is named
  pub subscript_reads : Scene → Subscript → List Read
  subscript_reads s (implied v) = variable_reads s (Global v)
  subscript_reads s of_system = []
  subscript_reads s (at e) = expr_reads s e

  -- the arguments after the first
  pub exprs_reads : Scene → Exprs → List Read
  exprs_reads s no_exprs = []
  exprs_reads s (exprs e es) = expr_reads s e ++ exprs_reads s es

-- an item with a subscript, then what the subscript names
abbrev pub item_reads : Scene → Item → Subscript → List Read
item_reads s item i = selected_read s item i ∷ subscript_reads s i

-- a list
abbrev pub list_reads : Scene → SetRef → List Read
list_reads s set = item_reads s (items.Members set.set) set.owner

-- also what comes after AND and OR
abbrev mutual
  -- a condition
  pub condition_reads : Scene → Condition → List Read
  condition_reads s (any c cs) = conjunction_reads s c ++ conjunctions_reads s cs

  -- the conjunctions after OR
  pub conjunctions_reads : Scene → Conjunctions → List Read
  conjunctions_reads s no_conjunctions = []
  conjunctions_reads s (or_else c cs) = conjunction_reads s c ++ conjunctions_reads s cs

  -- a conjunction
  pub conjunction_reads : Scene → Conjunction → List Read
  conjunction_reads s (all r rs) = relation_reads s r ++ relations_reads s rs

  -- the relations after AND
  pub relations_reads : Scene → Relations → List Read
  relations_reads s no_relations = []
  relations_reads s (and_also r rs) = relation_reads s r ++ relations_reads s rs

  -- a relation
  pub relation_reads : Scene → Relation → List Read
  relation_reads s (compared e c f) = expr_reads s e ++ expr_reads s f
  relation_reads s (is_empty set is) = list_reads s set
  relation_reads s (is_in e is set) = expr_reads s e ++ list_reads s set
  relation_reads s (nested c) = condition_reads s c
