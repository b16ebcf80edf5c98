-- The tree of an expression, with a variable in place of each name of the text.
use Rattle.std.specs.Prelude.{ℕ, List, [], ◌∷◌, Option}
use Rattle.ss_words.specs.declared.terms.TermSign.{TermSign}
use Rattle.ss_program.specs.declared.variable.Variable.{Variable}
use Rattle.ss_program.specs.declared.sum.Sum.{Sum as Code, fold-Sum}
use Rattle.ss_program.specs.declared.sum.Term.{Term as CodeTerm, fold-Term}
use Rattle.ss_program.specs.declared.sum.SignedTerm.{SignedTerm as CodeSigned, fold-SignedTerm}
use Rattle.ss_program.specs.declared.sum.Arguments.{Arguments as CodeArguments, fold-Arguments}
use Rattle.ss_program.specs.declared.sum.Factor.{Factor as CodeFactor, fold-Factor}
use Rattle.ss_program.specs.declared.sum.Factor.TheOpen.{Arguments-F, Factor-F, SignedTerm-F, Subscript-F}
use Rattle.ss_program.specs.declared.sum.Factor.TheOpen.{Subscripted-F, Sum-F, Term-F}
use Rattle.ss_program.specs.declared.sum.Subscript.{Subscript as CodeSubscript, fold-Subscript}
use Rattle.ss_program.specs.declared.sum.Subscripted.{Subscripted as CodeSubscripted, fold-Subscripted}
use Rattle.ss_words.specs.declared.terms.OwnerKept.{OwnerKept}
use Rattle.ss_words.specs.declared.terms.MemberKept.{MemberKept}

mutual
  -- a sign at the head or none, a first term, and the terms after it
  pub data Expr : Type 0 where
    expr : Option TermSign → Term → Sums → Expr

  -- the terms after the first, each with its sign
  pub data Sums : Type 0 where
    no_sums : Sums
    sum : TermSign → Term → Sums → Sums

  -- a first factor, and the factors after it
  pub data Term : Type 0 where
    term : Factor → Products → Term

  -- the factors after the first
  pub data Products : Type 0 where
    no_products : Products
    product : Factor → Products → Products

  -- a number; a variable; ABS.F of an expression; MAX.F and MIN.F of a first expression and further ones; DIV.F and
  -- MOD.F of a dividend and a divisor; an attribute by its class and its number there; a kept attribute by its set; an
  -- expression in parentheses
  pub data Factor : Type 0 where
    digits : ℕ → Factor
    variable : Variable → Factor
    absolute : Expr → Factor
    greatest least : Expr → Exprs → Factor
    quotient remainder : Expr → Expr → Factor
    attribute : ℕ → ℕ → Subscript → Factor
    owner_kept : OwnerKept → ℕ → Subscript → Factor
    member_kept : MemberKept → ℕ → Subscript → Factor
    within : Expr → Factor

  -- the entity that is meant: the one that a class's global variable names, if no subscript is
  -- written; the system; the one of a value
  pub data Subscript : Type 0 where
    implied : ℕ → Subscript
    of_system : Subscript
    at : Expr → Subscript

  -- the arguments after the first
  pub data Exprs : Type 0 where
    no_exprs : Exprs
    exprs : Expr → Exprs → Exprs

-- ---- the tree of an expression of the code

-- the terms after the first
abbrev pub sums_of : List (TermSign × Term) → Sums
sums_of [] = no_sums
sums_of (s ∷ ss) = sum s.0 s.1 (sums_of ss)

-- the factors after the first
abbrev pub products_of : List Factor → Products
products_of [] = no_products
products_of (f ∷ fs) = product f (products_of fs)

-- the arguments after the first
abbrev pub exprs_of : List Expr → Exprs
exprs_of [] = no_exprs
exprs_of (e ∷ es) = exprs e (exprs_of es)

-- one level, with each part already seen as its tree: arguments
abbrev pub arguments_level :
    Arguments-F Factor Subscript (Expr × Exprs) (TermSign × Term) (ℕ × Subscript) Expr Term → Expr × Exprs
arguments_level a = (a.first.value, exprs_of a.more.items)

-- a factor
abbrev pub factor_level : Factor-F Factor Subscript (Expr × Exprs) (TermSign × Term) (ℕ × Subscript) Expr Term → Factor
factor_level (Factor-F.Number n) = digits n
factor_level (Factor-F.Variable v) = variable v
factor_level (Factor-F.Absolute e) = absolute e.value
factor_level (Factor-F.Greatest a) = greatest a.value.0 a.value.1
factor_level (Factor-F.Least a) = least a.value.0 a.value.1
factor_level (Factor-F.Quotient e f) = quotient e.value f.value
factor_level (Factor-F.Remainder e f) = remainder e.value f.value
factor_level (Factor-F.Attribute c a) = attribute c a.value.0 a.value.1
factor_level (Factor-F.OwnerKept kept s) = owner_kept kept s.value.0 s.value.1
factor_level (Factor-F.MemberKept kept s) = member_kept kept s.value.0 s.value.1
factor_level (Factor-F.Within e) = within e.value

-- a subscript
abbrev pub subscript_level :
    Subscript-F Factor Subscript (Expr × Exprs) (TermSign × Term) (ℕ × Subscript) Expr Term → Subscript
subscript_level (Subscript-F.Implied v) = implied v
subscript_level Subscript-F.System = of_system
subscript_level (Subscript-F.Written e) = at e.value

-- a number, and which entity is meant
abbrev pub subscripted_level :
    Subscripted-F Factor Subscript (Expr × Exprs) (TermSign × Term) (ℕ × Subscript) Expr Term → ℕ × Subscript
subscripted_level s = (s.number, s.subscript)

-- a term with its sign
abbrev pub signed_level :
    SignedTerm-F Factor Subscript (Expr × Exprs) (TermSign × Term) (ℕ × Subscript) Expr Term → TermSign × Term
signed_level a = (a.sign, a.term)

-- an expression
abbrev pub sum_level : Sum-F Factor Subscript (Expr × Exprs) (TermSign × Term) (ℕ × Subscript) Expr Term → Expr
sum_level e = expr e.sign e.first (sums_of e.more.items)

-- a term
abbrev pub term_level : Term-F Factor Subscript (Expr × Exprs) (TermSign × Term) (ℕ × Subscript) Expr Term → Term
term_level t = term t.first (products_of t.more.items)

-- the tree of an expression
abbrev pub expr_of : Code → Expr
expr_of =
    fold-Sum Factor Subscript (Expr × Exprs) (TermSign × Term) (ℕ × Subscript) Expr Term
    factor_level subscript_level arguments_level signed_level subscripted_level sum_level term_level

-- the tree of a term
abbrev pub term_of : CodeTerm → Term
term_of =
    fold-Term Factor Subscript (Expr × Exprs) (TermSign × Term) (ℕ × Subscript) Expr Term
    factor_level subscript_level arguments_level signed_level subscripted_level sum_level term_level

-- the tree of a factor
abbrev pub factor_of : CodeFactor → Factor
factor_of =
    fold-Factor Factor Subscript (Expr × Exprs) (TermSign × Term) (ℕ × Subscript) Expr Term
    factor_level subscript_level arguments_level signed_level subscripted_level sum_level term_level

-- a sign, and the tree of its term
abbrev pub signed_of : CodeSigned → TermSign × Term
signed_of =
    fold-SignedTerm Factor Subscript (Expr × Exprs) (TermSign × Term) (ℕ × Subscript) Expr Term
    factor_level subscript_level arguments_level signed_level subscripted_level sum_level term_level

-- the first argument, and those after it
abbrev pub arguments_of : CodeArguments → Expr × Exprs
arguments_of =
    fold-Arguments Factor Subscript (Expr × Exprs) (TermSign × Term) (ℕ × Subscript) Expr Term
    factor_level subscript_level arguments_level signed_level subscripted_level sum_level term_level

-- the tree of a subscript
abbrev pub subscript_of : CodeSubscript → Subscript
subscript_of =
    fold-Subscript Factor Subscript (Expr × Exprs) (TermSign × Term) (ℕ × Subscript) Expr Term
    factor_level subscript_level arguments_level signed_level subscripted_level sum_level term_level

-- a number, and the tree of its subscript
abbrev pub subscripted_of : CodeSubscripted → ℕ × Subscript
subscripted_of =
    fold-Subscripted Factor Subscript (Expr × Exprs) (TermSign × Term) (ℕ × Subscript) Expr Term
    factor_level subscript_level arguments_level signed_level subscripted_level sum_level term_level
