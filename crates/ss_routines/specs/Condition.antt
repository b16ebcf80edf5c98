-- References and the tree of a condition, their spelling and how deep their parentheses nest.
use Rattle.std.specs.Prelude.{ℕ, suc, max, List, [], ◌∷◌, ◌++◌, Option, Some, None}
use Rattle.ss_words.specs.declared.mark.Mark.TheVariants as m
use Rattle.ss_words.specs.declared.word.Sign.TheVariants as s
use Rattle.ss_words.specs.declared.reserved.Reserved.TheVariants as r
use Rattle.ss_words.specs.Plain.{Plain, name, mark}
use Rattle.ss_words.specs.Lists.{Name}
use Rattle.ss_words.specs.declared.terms.Comparison.{Comparison}
use Rattle.ss_words.specs.declared.terms.Comparison.TheVariants.{Equal, Unequal, Less, Greater, AtMost, AtLeast}
use Rattle.ss_words.specs.declared.terms.Copula.{Copula}
use Rattle.ss_words.specs.declared.terms.Copula.TheVariants.{Is, IsNot}
use Rattle.ss_routines.specs.Expr.{Expr, spell_within, spell_expr, depth_expr}

-- a name, with a subscript in parentheses or none
pub record Reference : Type 0 where
  -- the name
  pub name : Name
  -- the expression in the parentheses, if they are there
  pub subscript : Option Expr

-- disjunctions of conjunctions of relations
mutual
  -- a first conjunction, and those joined to it by OR
  pub data Condition : Type 0 where
    condition : Conjunction → Alternatives → Condition

  -- the conjunctions after the first
  pub data Alternatives : Type 0 where
    no_alternatives : Alternatives
    alternative : Conjunction → Alternatives → Alternatives

  -- a first relation, and those joined to it by AND
  pub data Conjunction : Type 0 where
    conjunction : Relation → Additions → Conjunction

  -- the relations after the first
  pub data Additions : Type 0 where
    no_additions : Additions
    addition : Relation → Additions → Additions

  -- a comparison; a set IS or IS NOT EMPTY; a value IS or IS NOT IN a set; a condition in parentheses
  pub data Relation : Type 0 where
    compared : Expr → Comparison → Expr → Relation
    is_empty : Reference → Copula → Relation
    is_in : Expr → Copula → Reference → Relation
    nested : Condition → Relation

-- an expression in parentheses, or nothing
abbrev pub spell_subscript : Option Expr → List Plain
spell_subscript None = []
spell_subscript (Some e) = spell_within (spell_expr e)

-- a name and its subscript
abbrev pub spell_reference : Reference → List Plain
spell_reference reference = name reference.name ∷ spell_subscript reference.subscript

-- the sign of a comparison, or NE
abbrev pub spell_comparison : Comparison → Plain
spell_comparison Equal = mark (m.Sign s.Equal)
spell_comparison Unequal = mark (m.Reserved r.Ne)
spell_comparison Less = mark (m.Sign s.Less)
spell_comparison Greater = mark (m.Sign s.Greater)
spell_comparison AtMost = mark (m.Sign s.LessEqual)
spell_comparison AtLeast = mark (m.Sign s.GreaterEqual)

-- IS or IS NOT
abbrev pub spell_copula : Copula → List Plain
spell_copula Is = mark (m.Reserved r.Is) ∷ []
spell_copula IsNot = mark (m.Reserved r.Is) ∷ mark (m.Reserved r.Not) ∷ []

-- the plain words of a condition, and of each part of it
abbrev mutual
  -- a condition
  pub spell_condition : Condition → List Plain
  spell_condition (condition c cs) = spell_conjunction c ++ spell_alternatives cs

  -- each after an OR
  pub spell_alternatives : Alternatives → List Plain
  spell_alternatives no_alternatives = []
  spell_alternatives (alternative c cs) = mark (m.Reserved r.Or) ∷ (spell_conjunction c ++ spell_alternatives cs)

  -- an alternative
  pub spell_conjunction : Conjunction → List Plain
  spell_conjunction (conjunction q qs) = spell_relation q ++ spell_additions qs

  -- each after an AND
  pub spell_additions : Additions → List Plain
  spell_additions no_additions = []
  spell_additions (addition q qs) = mark (m.Reserved r.And) ∷ (spell_relation q ++ spell_additions qs)

  -- a relation
  pub spell_relation : Relation → List Plain
  spell_relation (compared e c f) = spell_expr e ++ spell_comparison c ∷ spell_expr f
  spell_relation (is_empty v c) = spell_reference v ++ spell_copula c ++ mark (m.Reserved r.Empty) ∷ []
  spell_relation (is_in e c v) = spell_expr e ++ spell_copula c ++ mark (m.Reserved r.In) ∷ spell_reference v
  spell_relation (nested c) = spell_within (spell_condition c)

-- the greatest number of parentheses open at once, in an expression in parentheses or left out
abbrev pub depth_subscript : Option Expr → ℕ
depth_subscript None = 0
depth_subscript (Some e) = suc (depth_expr e)

-- in a reference
abbrev pub depth_reference : Reference → ℕ
depth_reference reference = depth_subscript reference.subscript

-- in a condition, and in each part of it
abbrev mutual
  -- in a condition
  pub depth_condition : Condition → ℕ
  depth_condition (condition c cs) = max (depth_conjunction c) (depth_alternatives cs)

  -- in the alternatives after the first
  pub depth_alternatives : Alternatives → ℕ
  depth_alternatives no_alternatives = 0
  depth_alternatives (alternative c cs) = max (depth_conjunction c) (depth_alternatives cs)

  -- in an alternative
  pub depth_conjunction : Conjunction → ℕ
  depth_conjunction (conjunction q qs) = max (depth_relation q) (depth_additions qs)

  -- in the relations after the first
  pub depth_additions : Additions → ℕ
  depth_additions no_additions = 0
  depth_additions (addition q qs) = max (depth_relation q) (depth_additions qs)

  -- in a relation
  pub depth_relation : Relation → ℕ
  depth_relation (compared e c f) = max (depth_expr e) (depth_expr f)
  depth_relation (is_empty v c) = depth_reference v
  depth_relation (is_in e c v) = max (depth_expr e) (depth_reference v)
  depth_relation (nested c) = suc (depth_condition c)

-- the conjunctions after a first one
abbrev pub alternatives_of : List Conjunction → Alternatives
alternatives_of [] = no_alternatives
alternatives_of (c ∷ cs) = alternative c (alternatives_of cs)

-- the relations after a first one
abbrev pub additions_of : List Relation → Additions
additions_of [] = no_additions
additions_of (q ∷ qs) = addition q (additions_of qs)
