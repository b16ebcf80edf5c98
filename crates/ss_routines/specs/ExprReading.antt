-- Reading an expression from left to right.
use Rattle.std.specs.Prelude.{◌⊎◌, ℕ, zero, suc, List, Option, Some, None}
use mathlib.Core.Logic.{inl, inr}
use Rattle.ss_words.specs.declared.mark.Mark.TheVariants as m
use Rattle.ss_words.specs.declared.word.Sign.TheVariants as s
use Rattle.ss_words.specs.declared.refusal.Refusal.TheVariants.{PastLimit}
use Rattle.ss_words.specs.Plain.{Plain, number, mark}
use Rattle.ss_words.specs.Reading.{Reading, refuse}
use Rattle.ss_words.specs.Marks.{a_name}
use Rattle.ss_words.specs.Lists.{Name, Several}
use Rattle.ss_routines.specs.Combined.{pair, made, if_mark, if_word, either, star, by_table, if_open, several}
use Rattle.ss_words.specs.declared.terms.TermSign.{TermSign}
use Rattle.ss_words.specs.declared.terms.TermSign.TheVariants.{Plus, Minus}
use Rattle.ss_routines.specs.Expr.{Expr, expr, Term, term, Factor, digits, named, applied, within}
use Rattle.ss_routines.specs.Expr.{sums_of, products_of, exprs_of}

-- the sign of a term
abbrev pub sign_of : Option Plain → Option TermSign
sign_of (Some (mark (m.Sign s.Plus))) = Some Plus
sign_of (Some (mark (m.Sign s.Minus))) = Some Minus
sign_of _ = None

-- a number
abbrev pub number_of : Option Plain → Option ℕ
number_of (Some (number k)) = Some k
number_of _ = None

-- a sign, if one is here
abbrev pub lead : Reading (Option TermSign)
lead = by_table sign_of

-- a name without arguments or with them
abbrev pub named_factor : Name × Option (Several Expr) → Factor
named_factor (n, None) = named n
named_factor (n, Some xs) = applied n xs.first (exprs_of xs.others)

-- an expression in parentheses, a number, or a name
abbrev pub factor_of : Expr ⊎ (ℕ ⊎ (Name × Option (Several Expr))) → Factor
factor_of (inl e) = within e
factor_of (inr (inl k)) = digits k
factor_of (inr (inr x)) = named_factor x

-- n parentheses may be open; in one more, inner reads
module _ (n : ℕ) (inner : Reading Expr) where
  -- a factor
  unfoldable pub factor_with : Reading Factor
  factor_with = made factor_of
      (either (if_open n inner) (either (by_table number_of) (pair a_name (if_open n (several inner)))))

  -- a first factor and those after it
  unfoldable pub term_with : Reading Term
  term_with = made (λ x. term x.0 (products_of x.1)) (pair factor_with (star (if_mark (m.Sign s.Star) factor_with)))

  -- a first term and those after it
  unfoldable pub expr_with : Reading Expr
  expr_with = made (λ x. expr x.0 x.1.0 (sums_of x.1.1)) (pair lead (pair term_with (star (if_word lead term_with))))

-- with at most n parentheses open at once
unfoldable pub expr_at : ℕ → Reading Expr
expr_at zero = expr_with 0 (refuse PastLimit)
expr_at (suc n) = expr_with (suc n) (expr_at n)

-- the part that is read in one more parenthesis
abbrev pub inner_at : ℕ → Reading Expr
inner_at zero = refuse PastLimit
inner_at (suc n) = expr_at n

-- ["*" factor]
abbrev pub next_factor_at : ℕ → Reading (Option Factor)
next_factor_at n = if_mark (m.Sign s.Star) (factor_with n (inner_at n))

-- [("+" | "-") term]
abbrev pub next_term_at : ℕ → Reading (Option (TermSign × Term))
next_term_at n = if_word lead (term_with n (inner_at n))

-- ["," expression], in one more parenthesis
abbrev pub next_inner_at : ℕ → Reading (Option Expr)
next_inner_at n = if_mark (m.Sign s.Comma) (inner_at n)

-- ["(" expressions ")"]
abbrev pub arguments_at : ℕ → Reading (Option (Several Expr))
arguments_at n = if_open n (several (inner_at n))

-- the part after a first factor: {"*" factor} {("+" | "-") term}
unfoldable pub rest_with : ℕ → Reading (List Factor × List (TermSign × Term))
rest_with n = pair (star (next_factor_at n)) (star (next_term_at n))
