-- Private: how the logic stores the tree of an expression: as a list of numbered tokens, each part before its own
-- parts,
-- read back from the last.
use Rattle.std.specs.Prelude.{◌≡◌, ℕ, zero, suc, List, [], ◌∷◌, Option, Some, None}
use Rattle.std.proofs.Common.{refl, ap, ◌∙◌}
use Rattle.std.specs.Coded.{Coded, code_by, coded×, coded_ℕ, coded_list}
use Rattle.ss_words.specs.Lists.{Name}
use Rattle.ss_words.specs.declared.terms.TermSign.{TermSign}
use Rattle.ss_words.specs.declared.terms.TermSign.TheVariants.{Plus, Minus}
use Rattle.ss_routines.specs.Expr.{Expr, expr, Sums, no_sums, sum, Term, term, Products, no_products, product}
use Rattle.ss_routines.specs.Expr.{Factor, digits, named, applied, within, Exprs, no_exprs, exprs}

-- a number that says which part it is, a number that it holds, and a name that it holds
abbrev pub Token : Type 0
Token = ℕ × (ℕ × Name)

-- a part of a tree
pub data Part : Type 0 where
  an_expr : Expr → Part
  some_sums : Sums → Part
  a_term : Term → Part
  some_products : Products → Part
  a_factor : Factor → Part
  some_exprs : Exprs → Part

-- a token that holds nothing
abbrev pub plain : ℕ → Token
plain k = (k, (0, []))

-- the token of a sign at the head
abbrev pub lead_token : Option TermSign → Token
lead_token None = (0, (0, []))
lead_token (Some Plus) = (0, (1, []))
lead_token (Some Minus) = (0, (2, []))

-- the token of a term's sign
abbrev pub sign_token : TermSign → Token
sign_token Plus = (2, (0, []))
sign_token Minus = (2, (1, []))

-- the tokens of a part, before those of the parts that follow
abbrev mutual
  -- an expression: the sign at its head, and its terms
  pub expr_tokens : Expr → List Token → List Token
  expr_tokens (expr l t ss) k = lead_token l ∷ term_tokens t (sums_tokens ss k)

  -- the terms after the first, each after its sign
  pub sums_tokens : Sums → List Token → List Token
  sums_tokens no_sums k = plain 1 ∷ k
  sums_tokens (sum s t ss) k = sign_token s ∷ term_tokens t (sums_tokens ss k)

  -- a term: its factors
  pub term_tokens : Term → List Token → List Token
  term_tokens (term f ps) k = plain 3 ∷ factor_tokens f (products_tokens ps k)

  -- the factors after the first
  pub products_tokens : Products → List Token → List Token
  products_tokens no_products k = plain 4 ∷ k
  products_tokens (product f ps) k = plain 5 ∷ factor_tokens f (products_tokens ps k)

  -- a factor: its kind, and the parts that belong to it
  pub factor_tokens : Factor → List Token → List Token
  factor_tokens (digits n) k = (6, (n, [])) ∷ k
  factor_tokens (named v) k = (7, (0, v)) ∷ k
  factor_tokens (applied v e es) k = (8, (0, v)) ∷ expr_tokens e (exprs_tokens es k)
  factor_tokens (within e) k = plain 9 ∷ expr_tokens e k

  -- the arguments after the first
  pub exprs_tokens : Exprs → List Token → List Token
  exprs_tokens no_exprs k = plain 10 ∷ k
  exprs_tokens (exprs e es) k = plain 11 ∷ expr_tokens e (exprs_tokens es k)

-- the sign at the head of this number
abbrev pub lead_of : ℕ → Option TermSign
lead_of zero = None
lead_of (suc zero) = Some Plus
lead_of (suc (suc n)) = Some Minus

-- the sign of this number
abbrev pub sign_of : ℕ → TermSign
sign_of zero = Plus
sign_of (suc n) = Minus

-- a token put before the parts that were read after it
abbrev pub expr_read : ℕ → List Part → List Part
expr_read n (a_term t ∷ some_sums ss ∷ st) = an_expr (expr (lead_of n) t ss) ∷ st
expr_read n st = st

-- the same of a further term
abbrev pub sum_read : ℕ → List Part → List Part
sum_read n (a_term t ∷ some_sums ss ∷ st) = some_sums (sum (sign_of n) t ss) ∷ st
sum_read n st = st

-- of a term
abbrev pub term_read : List Part → List Part
term_read (a_factor f ∷ some_products ps ∷ st) = a_term (term f ps) ∷ st
term_read st = st

-- of a further factor
abbrev pub product_read : List Part → List Part
product_read (a_factor f ∷ some_products ps ∷ st) = some_products (product f ps) ∷ st
product_read st = st

-- of a name with arguments
abbrev pub applied_read : Name → List Part → List Part
applied_read v (an_expr e ∷ some_exprs es ∷ st) = a_factor (applied v e es) ∷ st
applied_read v st = st

-- of parentheses
abbrev pub within_read : List Part → List Part
within_read (an_expr e ∷ st) = a_factor (within e) ∷ st
within_read st = st

-- of a further argument
abbrev pub argument_read : List Part → List Part
argument_read (an_expr e ∷ some_exprs es ∷ st) = some_exprs (exprs e es) ∷ st
argument_read st = st

-- of a token by its number
abbrev pub token_read : ℕ → ℕ → Name → List Part → List Part
token_read zero n v st = expr_read n st
token_read (suc zero) n v st = some_sums no_sums ∷ st
token_read (suc (suc zero)) n v st = sum_read n st
token_read (suc (suc (suc zero))) n v st = term_read st
token_read (suc (suc (suc (suc zero)))) n v st = some_products no_products ∷ st
token_read (suc (suc (suc (suc (suc zero))))) n v st = product_read st
token_read (suc (suc (suc (suc (suc (suc zero)))))) n v st = a_factor (digits n) ∷ st
token_read (suc (suc (suc (suc (suc (suc (suc zero))))))) n v st = a_factor (named v) ∷ st
token_read (suc (suc (suc (suc (suc (suc (suc (suc zero)))))))) n v st = applied_read v st
token_read (suc (suc (suc (suc (suc (suc (suc (suc (suc zero))))))))) n v st = within_read st
token_read (suc (suc (suc (suc (suc (suc (suc (suc (suc (suc zero)))))))))) n v st = some_exprs no_exprs ∷ st
token_read k n v st = argument_read st

-- the parts of a list of tokens
abbrev pub parts : List Token → List Part
parts [] = []
parts (w ∷ ws) = token_read w.0 w.1.0 w.1.1 (parts ws)

-- the expression that is first
abbrev pub first_expr : List Part → Expr
first_expr (an_expr e ∷ st) = e
first_expr st = expr None (term (digits 0) no_products) no_sums

-- the parts after a token
abbrev pub behind : Token → List Part → List Part
behind w st = token_read w.0 w.1.0 w.1.1 st

-- the token of an expression is read back
pub lead_again : (l : Option TermSign) (t : Term) (ss : Sums) (st : List Part) →
    behind (lead_token l) (a_term t ∷ some_sums ss ∷ st) ≡ an_expr (expr l t ss) ∷ st
lead_again None t ss st = refl
lead_again (Some Plus) t ss st = refl
lead_again (Some Minus) t ss st = refl

-- one of a further term
pub sign_again : (s : TermSign) (t : Term) (ss : Sums) (st : List Part) →
    behind (sign_token s) (a_term t ∷ some_sums ss ∷ st) ≡ some_sums (sum s t ss) ∷ st
sign_again Plus t ss st = refl
sign_again Minus t ss st = refl

-- the part that was written is read back
mutual
  expr_again : (e : Expr) (k : List Token) → parts (expr_tokens e k) ≡ an_expr e ∷ parts k
  expr_again (expr l t ss) k =
      ap (behind (lead_token l)) (term_again t (sums_tokens ss k) ∙ ap (λ st. a_term t ∷ st) (sums_again ss k))
      ∙ lead_again l t ss (parts k)

  sums_again : (ss : Sums) (k : List Token) → parts (sums_tokens ss k) ≡ some_sums ss ∷ parts k
  sums_again no_sums k = refl
  sums_again (sum s t ss) k =
      ap (behind (sign_token s)) (term_again t (sums_tokens ss k) ∙ ap (λ st. a_term t ∷ st) (sums_again ss k))
      ∙ sign_again s t ss (parts k)

  term_again : (t : Term) (k : List Token) → parts (term_tokens t k) ≡ a_term t ∷ parts k
  term_again (term f ps) k =
      ap term_read (factor_again f (products_tokens ps k) ∙ ap (λ st. a_factor f ∷ st) (products_again ps k))

  products_again : (ps : Products) (k : List Token) → parts (products_tokens ps k) ≡ some_products ps ∷ parts k
  products_again no_products k = refl
  products_again (product f ps) k =
      ap product_read (factor_again f (products_tokens ps k) ∙ ap (λ st. a_factor f ∷ st) (products_again ps k))

  factor_again : (f : Factor) (k : List Token) → parts (factor_tokens f k) ≡ a_factor f ∷ parts k
  factor_again (digits n) k = refl
  factor_again (named v) k = refl
  factor_again (applied v e es) k =
      ap (applied_read v) (expr_again e (exprs_tokens es k) ∙ ap (λ st. an_expr e ∷ st) (exprs_again es k))
  factor_again (within e) k = ap within_read (expr_again e k)

  exprs_again : (es : Exprs) (k : List Token) → parts (exprs_tokens es k) ≡ some_exprs es ∷ parts k
  exprs_again no_exprs k = refl
  exprs_again (exprs e es) k =
      ap argument_read (expr_again e (exprs_tokens es k) ∙ ap (λ st. an_expr e ∷ st) (exprs_again es k))

-- an expression as its tokens
abbrev pub tokens_of_expr : Expr → List Token
tokens_of_expr expression = expr_tokens expression []

-- and read back from them
abbrev pub expr_of_tokens : List Token → Expr
expr_of_tokens ws = first_expr (parts ws)

-- an expression comes back from its tokens
pub expr_of_tokens-tokens_of_expr : (e : Expr) → expr_of_tokens (tokens_of_expr e) ≡ e
expr_of_tokens-tokens_of_expr e = ap first_expr (expr_again e [])

-- how a name is stored
abbrev pub name_code : Coded Name
name_code = coded_list coded_ℕ

-- how an expression is stored
abbrev pub expr_code : Coded Expr
expr_code =
    code_by (List Token) (coded_list (coded× coded_ℕ (coded× coded_ℕ name_code))) tokens_of_expr expr_of_tokens
    expr_of_tokens-tokens_of_expr
