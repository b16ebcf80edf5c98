-- The tree of a condition.
use Rattle.std.specs.Prelude.{List, [], ◌∷◌}
use Rattle.ss_words.specs.declared.terms.Comparison.{Comparison}
use Rattle.ss_words.specs.declared.terms.Copula.{Copula}
use Rattle.ss_program.specs.declared.target.SetRef.{SetRef}
use Rattle.ss_program.specs.declared.condition.Disjunction.{Disjunction as Code, fold-Disjunction}
use Rattle.ss_program.specs.declared.condition.Conjunction.{Conjunction as CodeConjunction, fold-Conjunction}
use Rattle.ss_program.specs.declared.condition.Relation.{Relation as CodeRelation, fold-Relation}
use Rattle.ss_program.specs.declared.condition.Relation.TheOpen.{Conjunction-F, Disjunction-F, Relation-F}
use Rattle.ss_program.specs.ProgramExpr.{Expr}

mutual
  -- a first conjunction, and those after OR
  pub data Condition : Type 0 where
    any : Conjunction → Conjunctions → Condition

  -- the conjunctions after OR
  pub data Conjunctions : Type 0 where
    no_conjunctions : Conjunctions
    or_else : Conjunction → Conjunctions → Conjunctions

  -- a first relation, and those after AND
  pub data Conjunction : Type 0 where
    all : Relation → Relations → Conjunction

  -- the relations after AND
  pub data Relations : Type 0 where
    no_relations : Relations
    and_also : Relation → Relations → Relations

  -- a comparison; a set IS or IS NOT EMPTY; a member IS or IS NOT IN a set; a condition in parentheses
  pub data Relation : Type 0 where
    compared : Expr → Comparison → Expr → Relation
    is_empty : SetRef → Copula → Relation
    is_in : Expr → Copula → SetRef → Relation
    nested : Condition → Relation

-- ---- the tree of a condition of the code

-- the conjunctions after OR, in order
abbrev pub conjunctions_of : List Conjunction → Conjunctions
conjunctions_of [] = no_conjunctions
conjunctions_of (c ∷ cs) = or_else c (conjunctions_of cs)

-- the relations after AND, in order
abbrev pub relations_of : List Relation → Relations
relations_of [] = no_relations
relations_of (r ∷ rs) = and_also r (relations_of rs)

-- one level of a conjunction, with each part already seen as its tree
abbrev pub conjunction_level : Conjunction-F Relation Conjunction Condition → Conjunction
conjunction_level c = all c.first (relations_of c.more.items)

-- one level of a disjunction
abbrev pub disjunction_level : Disjunction-F Relation Conjunction Condition → Condition
disjunction_level c = any c.first (conjunctions_of c.more.items)

-- one level of a relation
abbrev pub relation_level : Relation-F Relation Conjunction Condition → Relation
relation_level (Relation-F.Compared left comparison right) = compared left comparison right
relation_level (Relation-F.IsEmpty set copula) = is_empty set copula
relation_level (Relation-F.IsIn member copula set) = is_in member copula set
relation_level (Relation-F.Within c) = nested c.value

-- a condition's tree
abbrev pub condition_of : Code → Condition
condition_of = fold-Disjunction Relation Conjunction Condition relation_level conjunction_level disjunction_level

-- a conjunction's
abbrev pub conjunction_of : CodeConjunction → Conjunction
conjunction_of = fold-Conjunction Relation Conjunction Condition relation_level conjunction_level disjunction_level

-- a relation's
abbrev pub relation_of : CodeRelation → Relation
relation_of = fold-Relation Relation Conjunction Condition relation_level conjunction_level disjunction_level
