-- The tree of an expression, its spelling and how deep its parentheses nest.
use Rattle.std.specs.Prelude.{ℕ, suc, max, List, [], ◌∷◌, ◌++◌, Option, Some, None}
use Rattle.ss_words.specs.declared.mark.Mark.TheVariants as m
use Rattle.ss_words.specs.declared.word.Sign.TheVariants as s
use Rattle.ss_words.specs.Plain.{Plain, name, number, mark}
use Rattle.ss_words.specs.Lists.{Name}
use Rattle.ss_words.specs.declared.terms.TermSign.{TermSign}
use Rattle.ss_words.specs.declared.terms.TermSign.TheVariants.{Plus, Minus}

-- sums of products of factors
mutual
  -- a sign at the head or none, a first term, and the terms after it
  pub data Expr : Type 0 where
    expr : Option TermSign → Term → Sums → Expr

  -- the terms after the first, each with its sign
  pub data Sums : Type 0 where
    no_sums : Sums
    sum : TermSign → Term → Sums → Sums

  -- a first factor, and the factors after it
  pub data Term : Type 0 where
    term : Factor → Products → Term

  -- the factors after the first
  pub data Products : Type 0 where
    no_products : Products
    product : Factor → Products → Products

  -- a number; a name; a name with arguments in parentheses, the first and the others; an expression in parentheses
  pub data Factor : Type 0 where
    digits : ℕ → Factor
    named : Name → Factor
    applied : Name → Expr → Exprs → Factor
    within : Expr → Factor

  -- the arguments after the first
  pub data Exprs : Type 0 where
    no_exprs : Exprs
    exprs : Expr → Exprs → Exprs

-- the sign between two terms
abbrev pub sign : TermSign → Plain
sign Plus = mark (m.Sign s.Plus)
sign Minus = mark (m.Sign s.Minus)

-- a sign at the head, or nothing
abbrev pub spell_lead : Option TermSign → List Plain
spell_lead None = []
spell_lead (Some b) = sign b ∷ []

-- words in parentheses
abbrev pub spell_within : List Plain → List Plain
spell_within ws = mark (m.Sign s.Open) ∷ (ws ++ mark (m.Sign s.Close) ∷ [])

-- the plain words of each part
abbrev mutual
  -- an expression
  pub spell_expr : Expr → List Plain
  spell_expr (expr l t ss) = spell_lead l ++ spell_term t ++ spell_sums ss

  -- each term after its sign
  pub spell_sums : Sums → List Plain
  spell_sums no_sums = []
  spell_sums (sum b t ss) = sign b ∷ (spell_term t ++ spell_sums ss)

  -- a term
  pub spell_term : Term → List Plain
  spell_term (term f ps) = spell_factor f ++ spell_products ps

  -- each factor after a star
  pub spell_products : Products → List Plain
  spell_products no_products = []
  spell_products (product f ps) = mark (m.Sign s.Star) ∷ (spell_factor f ++ spell_products ps)

  -- a factor
  pub spell_factor : Factor → List Plain
  spell_factor (digits n) = number n ∷ []
  spell_factor (named n) = name n ∷ []
  spell_factor (applied n e es) = name n ∷ spell_within (spell_expr e ++ spell_exprs es)
  spell_factor (within e) = spell_within (spell_expr e)

  -- each argument after a comma
  pub spell_exprs : Exprs → List Plain
  spell_exprs no_exprs = []
  spell_exprs (exprs e es) = mark (m.Sign s.Comma) ∷ (spell_expr e ++ spell_exprs es)

-- the greatest number of parentheses open at once
abbrev mutual
  -- in an expression
  pub depth_expr : Expr → ℕ
  depth_expr (expr l t ss) = max (depth_term t) (depth_sums ss)

  -- in the terms after the first
  pub depth_sums : Sums → ℕ
  depth_sums no_sums = 0
  depth_sums (sum b t ss) = max (depth_term t) (depth_sums ss)

  -- in a term
  pub depth_term : Term → ℕ
  depth_term (term f ps) = max (depth_factor f) (depth_products ps)

  -- in the factors after the first
  pub depth_products : Products → ℕ
  depth_products no_products = 0
  depth_products (product f ps) = max (depth_factor f) (depth_products ps)

  -- in a factor
  pub depth_factor : Factor → ℕ
  depth_factor (digits n) = 0
  depth_factor (named n) = 0
  depth_factor (applied n e es) = suc (max (depth_expr e) (depth_exprs es))
  depth_factor (within e) = suc (depth_expr e)

  -- in the arguments after the first
  pub depth_exprs : Exprs → ℕ
  depth_exprs no_exprs = 0
  depth_exprs (exprs e es) = max (depth_expr e) (depth_exprs es)

-- the terms after a first one
abbrev pub sums_of : List (TermSign × Term) → Sums
sums_of [] = no_sums
sums_of (x ∷ xs) = sum x.0 x.1 (sums_of xs)

-- the factors after a first one
abbrev pub products_of : List Factor → Products
products_of [] = no_products
products_of (f ∷ fs) = product f (products_of fs)

-- the arguments after a first one
abbrev pub exprs_of : List Expr → Exprs
exprs_of [] = no_exprs
exprs_of (e ∷ es) = exprs e (exprs_of es)
