-- Private: how the logic stores the tree of an expression: as a list of numbered tokens, each part before its own
-- parts, read back from the last.
use Rattle.std.specs.Prelude.{◌≡◌, ℕ, zero, suc, List, [], ◌∷◌, Option, Some, None}
use Rattle.std.proofs.Common.{refl, ap, ◌∙◌}
use Rattle.std.specs.Coded.{Coded, code_by, coded×, coded_ℕ, coded_list}
use Rattle.ss_words.specs.declared.terms.TermSign.{TermSign}
use Rattle.ss_words.specs.declared.terms.TermSign.TheVariants.{Plus, Minus}
use Rattle.ss_program.specs.declared.variable.Variable.{Variable}
use Rattle.ss_program.specs.declared.variable.Variable.TheVariants as v
use Rattle.ss_words.specs.declared.terms.OwnerKept.{OwnerKept}
use Rattle.ss_words.specs.declared.terms.OwnerKept.TheVariants.{First, Last, Count}
use Rattle.ss_words.specs.declared.terms.MemberKept.{MemberKept}
use Rattle.ss_words.specs.declared.terms.MemberKept.TheVariants.{Predecessor, Successor, Membership}
use Rattle.ss_program.specs.ProgramExpr.{Expr, expr, Sums, no_sums, sum, Term, term, Products, no_products, product}
use Rattle.ss_program.specs.ProgramExpr.{Factor, digits, variable, absolute, greatest, least, quotient, remainder}
use Rattle.ss_program.specs.ProgramExpr.{attribute, owner_kept, member_kept, within, Subscript, implied, of_system, at}
use Rattle.ss_program.specs.ProgramExpr.{Exprs, no_exprs, exprs}

-- a part of a tree
pub data Part : Type 0 where
  an_expr : Expr → Part
  some_sums : Sums → Part
  a_term : Term → Part
  some_products : Products → Part
  a_factor : Factor → Part
  a_number : ℕ → Part
  a_subscript : Subscript → Part
  some_exprs : Exprs → Part

-- the token of a sign at the head
abbrev pub lead_token : Option TermSign → ℕ × ℕ
lead_token None = (0, 0)
lead_token (Some Plus) = (0, 1)
lead_token (Some Minus) = (0, 2)

-- the token of a term's sign
abbrev pub sign_token : TermSign → ℕ × ℕ
sign_token Plus = (2, 0)
sign_token Minus = (2, 1)

-- the token of a variable
abbrev pub variable_token : Variable → ℕ × ℕ
variable_token (v.Global i) = (7, i)
variable_token (v.Local i) = (8, i)
variable_token v.Clock = (9, 0)

-- the number of a kept attribute of an owner
abbrev pub owner_number : OwnerKept → ℕ
owner_number First = 0
owner_number Last = 1
owner_number Count = 2

-- the number of one of a member
abbrev pub member_number : MemberKept → ℕ
member_number Predecessor = 0
member_number Successor = 1
member_number Membership = 2

-- the tokens of a part, put before the tokens that follow
abbrev mutual
  -- an expression: the sign at its head, and its terms
  pub expr_tokens : Expr → List (ℕ × ℕ) → List (ℕ × ℕ)
  expr_tokens (expr l t ss) k = lead_token l ∷ term_tokens t (sums_tokens ss k)

  -- the terms after the first, each after its sign
  pub sums_tokens : Sums → List (ℕ × ℕ) → List (ℕ × ℕ)
  sums_tokens no_sums k = (1, 0) ∷ k
  sums_tokens (sum s t ss) k = sign_token s ∷ term_tokens t (sums_tokens ss k)

  -- a term: its factors
  pub term_tokens : Term → List (ℕ × ℕ) → List (ℕ × ℕ)
  term_tokens (term f ps) k = (3, 0) ∷ factor_tokens f (products_tokens ps k)

  -- the factors after the first
  pub products_tokens : Products → List (ℕ × ℕ) → List (ℕ × ℕ)
  products_tokens no_products k = (4, 0) ∷ k
  products_tokens (product f ps) k = (5, 0) ∷ factor_tokens f (products_tokens ps k)

  -- a factor: its kind, and the parts that belong to it
  pub factor_tokens : Factor → List (ℕ × ℕ) → List (ℕ × ℕ)
  factor_tokens (digits n) k = (6, n) ∷ k
  factor_tokens (variable x) k = variable_token x ∷ k
  factor_tokens (absolute e) k = (11, 0) ∷ expr_tokens e k
  factor_tokens (greatest e es) k = (12, 0) ∷ expr_tokens e (exprs_tokens es k)
  factor_tokens (least e es) k = (13, 0) ∷ expr_tokens e (exprs_tokens es k)
  factor_tokens (quotient e f) k = (14, 0) ∷ expr_tokens e (expr_tokens f k)
  factor_tokens (remainder e f) k = (15, 0) ∷ expr_tokens e (expr_tokens f k)
  factor_tokens (attribute c a i) k = (18, c) ∷ (19, a) ∷ subscript_tokens i k
  factor_tokens (owner_kept kept s i) k = (20, s) ∷ (19, owner_number kept) ∷ subscript_tokens i k
  factor_tokens (member_kept kept s i) k = (21, s) ∷ (19, member_number kept) ∷ subscript_tokens i k
  factor_tokens (within e) k = (10, 0) ∷ expr_tokens e k

  -- a subscript
  pub subscript_tokens : Subscript → List (ℕ × ℕ) → List (ℕ × ℕ)
  subscript_tokens (implied v) k = (22, v) ∷ k
  subscript_tokens of_system k = (23, 0) ∷ k
  subscript_tokens (at e) k = (24, 0) ∷ expr_tokens e k

  -- the arguments after the first
  pub exprs_tokens : Exprs → List (ℕ × ℕ) → List (ℕ × ℕ)
  exprs_tokens no_exprs k = (16, 0) ∷ k
  exprs_tokens (exprs e es) k = (17, 0) ∷ expr_tokens e (exprs_tokens es k)

-- the sign at the head of this number
abbrev pub lead_of : ℕ → Option TermSign
lead_of zero = None
lead_of (suc zero) = Some Plus
lead_of (suc (suc n)) = Some Minus

-- the sign of this number
abbrev pub sign_of : ℕ → TermSign
sign_of zero = Plus
sign_of (suc n) = Minus

-- a token put before the parts that were read after it
abbrev pub expr_read : ℕ → List Part → List Part
expr_read n (a_term t ∷ some_sums ss ∷ st) = an_expr (expr (lead_of n) t ss) ∷ st
expr_read n st = st

-- the sign of a further term put before the parts that were read after it
abbrev pub sum_read : ℕ → List Part → List Part
sum_read n (a_term t ∷ some_sums ss ∷ st) = some_sums (sum (sign_of n) t ss) ∷ st
sum_read n st = st

-- of a term
abbrev pub term_read : List Part → List Part
term_read (a_factor f ∷ some_products ps ∷ st) = a_term (term f ps) ∷ st
term_read st = st

-- of a further factor
abbrev pub product_read : List Part → List Part
product_read (a_factor f ∷ some_products ps ∷ st) = some_products (product f ps) ∷ st
product_read st = st

-- of parentheses
abbrev pub within_read : List Part → List Part
within_read (an_expr e ∷ st) = a_factor (within e) ∷ st
within_read st = st

-- of ABS.F
abbrev pub absolute_read : List Part → List Part
absolute_read (an_expr e ∷ st) = a_factor (absolute e) ∷ st
absolute_read st = st

-- of MAX.F
abbrev pub greatest_read : List Part → List Part
greatest_read (an_expr e ∷ some_exprs es ∷ st) = a_factor (greatest e es) ∷ st
greatest_read st = st

-- of MIN.F
abbrev pub least_read : List Part → List Part
least_read (an_expr e ∷ some_exprs es ∷ st) = a_factor (least e es) ∷ st
least_read st = st

-- of DIV.F
abbrev pub quotient_read : List Part → List Part
quotient_read (an_expr e ∷ an_expr f ∷ st) = a_factor (quotient e f) ∷ st
quotient_read st = st

-- of MOD.F
abbrev pub remainder_read : List Part → List Part
remainder_read (an_expr e ∷ an_expr f ∷ st) = a_factor (remainder e f) ∷ st
remainder_read st = st

-- of a further argument
abbrev pub argument_read : List Part → List Part
argument_read (an_expr e ∷ some_exprs es ∷ st) = some_exprs (exprs e es) ∷ st
argument_read st = st

-- the kept attribute of an owner with this number
abbrev pub owner_kept_of : ℕ → OwnerKept
owner_kept_of zero = First
owner_kept_of (suc zero) = Last
owner_kept_of (suc (suc n)) = Count

-- the one of a member
abbrev pub member_kept_of : ℕ → MemberKept
member_kept_of zero = Predecessor
member_kept_of (suc zero) = Successor
member_kept_of (suc (suc n)) = Membership

-- of an attribute
abbrev pub attribute_read : ℕ → List Part → List Part
attribute_read c (a_number a ∷ a_subscript i ∷ st) = a_factor (attribute c a i) ∷ st
attribute_read c st = st

-- of a kept attribute of an owner
abbrev pub owner_kept_read : ℕ → List Part → List Part
owner_kept_read s (a_number n ∷ a_subscript i ∷ st) = a_factor (owner_kept (owner_kept_of n) s i) ∷ st
owner_kept_read s st = st

-- of one of a member
abbrev pub member_kept_read : ℕ → List Part → List Part
member_kept_read s (a_number n ∷ a_subscript i ∷ st) = a_factor (member_kept (member_kept_of n) s i) ∷ st
member_kept_read s st = st

-- of a subscript that is written
abbrev pub at_read : List Part → List Part
at_read (an_expr e ∷ st) = a_subscript (at e) ∷ st
at_read st = st

-- ten more than a number, as the numbers of tokens are matched
pattern abbrev pub ten_more : ℕ → ℕ
ten_more n = suc (suc (suc (suc (suc (suc (suc (suc (suc (suc n)))))))))

-- of a token by its numbers
abbrev pub token_read : ℕ → ℕ → List Part → List Part
token_read zero n st = expr_read n st
token_read (suc zero) n st = some_sums no_sums ∷ st
token_read (suc (suc zero)) n st = sum_read n st
token_read (suc (suc (suc zero))) n st = term_read st
token_read (suc (suc (suc (suc zero)))) n st = some_products no_products ∷ st
token_read (suc (suc (suc (suc (suc zero))))) n st = product_read st
token_read (suc (suc (suc (suc (suc (suc zero)))))) n st = a_factor (digits n) ∷ st
token_read (suc (suc (suc (suc (suc (suc (suc zero))))))) n st = a_factor (variable (v.Global n)) ∷ st
token_read (suc (suc (suc (suc (suc (suc (suc (suc zero)))))))) n st = a_factor (variable (v.Local n)) ∷ st
token_read (suc (suc (suc (suc (suc (suc (suc (suc (suc zero))))))))) n st = a_factor (variable v.Clock) ∷ st
token_read (ten_more zero) n st = within_read st
token_read (ten_more (suc zero)) n st = absolute_read st
token_read (ten_more (suc (suc zero))) n st = greatest_read st
token_read (ten_more (suc (suc (suc zero)))) n st = least_read st
token_read (ten_more (suc (suc (suc (suc zero))))) n st = quotient_read st
token_read (ten_more (suc (suc (suc (suc (suc zero)))))) n st = remainder_read st
token_read (ten_more (suc (suc (suc (suc (suc (suc zero))))))) n st = some_exprs no_exprs ∷ st
token_read (ten_more (suc (suc (suc (suc (suc (suc (suc zero)))))))) n st = argument_read st
token_read (ten_more (suc (suc (suc (suc (suc (suc (suc (suc zero))))))))) n st = attribute_read n st
token_read (ten_more (suc (suc (suc (suc (suc (suc (suc (suc (suc zero)))))))))) n st = a_number n ∷ st
token_read (ten_more (ten_more zero)) n st = owner_kept_read n st
token_read (ten_more (ten_more (suc zero))) n st = member_kept_read n st
token_read (ten_more (ten_more (suc (suc zero)))) n st = a_subscript (implied n) ∷ st
token_read (ten_more (ten_more (suc (suc (suc zero))))) n st = a_subscript of_system ∷ st
token_read k n st = at_read st

-- the parts of a list of tokens
abbrev pub parts : List (ℕ × ℕ) → List Part
parts [] = []
parts (w ∷ ws) = token_read w.0 w.1 (parts ws)

-- the expression at the head of the parts
abbrev pub first_expr : List Part → Expr
first_expr (an_expr e ∷ st) = e
first_expr st = expr None (term (digits 0) no_products) no_sums

-- a token of an expression is read back
pub lead_again : (l : Option TermSign) (t : Term) (ss : Sums) (st : List Part) →
    token_read (lead_token l).0 (lead_token l).1 (a_term t ∷ some_sums ss ∷ st) ≡ an_expr (expr l t ss) ∷ st
lead_again None t ss st = refl
lead_again (Some Plus) t ss st = refl
lead_again (Some Minus) t ss st = refl

-- one of a further term
pub sign_again : (s : TermSign) (t : Term) (ss : Sums) (st : List Part) →
    token_read (sign_token s).0 (sign_token s).1 (a_term t ∷ some_sums ss ∷ st) ≡ some_sums (sum s t ss) ∷ st
sign_again Plus t ss st = refl
sign_again Minus t ss st = refl

-- one of a variable
pub variable_again : (x : Variable) (st : List Part) →
    token_read (variable_token x).0 (variable_token x).1 st ≡ a_factor (variable x) ∷ st
variable_again (v.Global i) st = refl
variable_again (v.Local i) st = refl
variable_again v.Clock st = refl

-- one of a kept attribute of an owner
pub owner_kept_again : (kept : OwnerKept) (s : ℕ) (i : Subscript) (st : List Part) →
    owner_kept_read s (a_number (owner_number kept) ∷ a_subscript i ∷ st) ≡ a_factor (owner_kept kept s i) ∷ st
owner_kept_again First s i st = refl
owner_kept_again Last s i st = refl
owner_kept_again Count s i st = refl

-- one of a kept attribute of a member
pub member_kept_again : (kept : MemberKept) (s : ℕ) (i : Subscript) (st : List Part) →
    member_kept_read s (a_number (member_number kept) ∷ a_subscript i ∷ st) ≡ a_factor (member_kept kept s i) ∷ st
member_kept_again Predecessor s i st = refl
member_kept_again Successor s i st = refl
member_kept_again Membership s i st = refl

-- the tokens that were written are read back as the same tree
mutual
  expr_again : (e : Expr) (k : List (ℕ × ℕ)) → parts (expr_tokens e k) ≡ an_expr e ∷ parts k
  expr_again (expr l t ss) k =
      ap (token_read (lead_token l).0 (lead_token l).1)
      (term_again t (sums_tokens ss k) ∙ ap (λ st. a_term t ∷ st) (sums_again ss k))
      ∙ lead_again l t ss (parts k)

  sums_again : (ss : Sums) (k : List (ℕ × ℕ)) → parts (sums_tokens ss k) ≡ some_sums ss ∷ parts k
  sums_again no_sums k = refl
  sums_again (sum s t ss) k =
      ap (token_read (sign_token s).0 (sign_token s).1)
      (term_again t (sums_tokens ss k) ∙ ap (λ st. a_term t ∷ st) (sums_again ss k))
      ∙ sign_again s t ss (parts k)

  term_again : (t : Term) (k : List (ℕ × ℕ)) → parts (term_tokens t k) ≡ a_term t ∷ parts k
  term_again (term f ps) k =
      ap term_read (factor_again f (products_tokens ps k) ∙ ap (λ st. a_factor f ∷ st) (products_again ps k))

  products_again : (ps : Products) (k : List (ℕ × ℕ)) → parts (products_tokens ps k) ≡ some_products ps ∷ parts k
  products_again no_products k = refl
  products_again (product f ps) k =
      ap product_read (factor_again f (products_tokens ps k) ∙ ap (λ st. a_factor f ∷ st) (products_again ps k))

  factor_again : (f : Factor) (k : List (ℕ × ℕ)) → parts (factor_tokens f k) ≡ a_factor f ∷ parts k
  factor_again (digits n) k = refl
  factor_again (variable x) k = variable_again x (parts k)
  factor_again (absolute e) k = ap absolute_read (expr_again e k)
  factor_again (greatest e es) k =
      ap greatest_read (expr_again e (exprs_tokens es k) ∙ ap (λ st. an_expr e ∷ st) (exprs_again es k))
  factor_again (least e es) k =
      ap least_read (expr_again e (exprs_tokens es k) ∙ ap (λ st. an_expr e ∷ st) (exprs_again es k))
  factor_again (quotient e f) k =
      ap quotient_read (expr_again e (expr_tokens f k) ∙ ap (λ st. an_expr e ∷ st) (expr_again f k))
  factor_again (remainder e f) k =
      ap remainder_read (expr_again e (expr_tokens f k) ∙ ap (λ st. an_expr e ∷ st) (expr_again f k))
  factor_again (attribute c a i) k = ap (λ st. attribute_read c (a_number a ∷ st)) (subscript_again i k)
  factor_again (owner_kept kept s i) k =
      ap (λ st. owner_kept_read s (a_number (owner_number kept) ∷ st)) (subscript_again i k)
      ∙ owner_kept_again kept s i (parts k)
  factor_again (member_kept kept s i) k =
      ap (λ st. member_kept_read s (a_number (member_number kept) ∷ st)) (subscript_again i k)
      ∙ member_kept_again kept s i (parts k)
  factor_again (within e) k = ap within_read (expr_again e k)

  subscript_again : (i : Subscript) (k : List (ℕ × ℕ)) → parts (subscript_tokens i k) ≡ a_subscript i ∷ parts k
  subscript_again (implied v) k = refl
  subscript_again of_system k = refl
  subscript_again (at e) k = ap at_read (expr_again e k)

  exprs_again : (es : Exprs) (k : List (ℕ × ℕ)) → parts (exprs_tokens es k) ≡ some_exprs es ∷ parts k
  exprs_again no_exprs k = refl
  exprs_again (exprs e es) k =
      ap argument_read (expr_again e (exprs_tokens es k) ∙ ap (λ st. an_expr e ∷ st) (exprs_again es k))

-- an expression as its tokens
abbrev pub tokens_of : Expr → List (ℕ × ℕ)
tokens_of expression = expr_tokens expression []

-- and read back from them
abbrev pub read_back : List (ℕ × ℕ) → Expr
read_back ws = first_expr (parts ws)

-- an expression comes back from its tokens
pub read_written : (e : Expr) → read_back (tokens_of e) ≡ e
read_written expression = ap first_expr (expr_again expression [])

-- how an expression is stored
abbrev pub expr_code : Coded Expr
expr_code = code_by (List (ℕ × ℕ)) (coded_list (coded× coded_ℕ coded_ℕ)) tokens_of read_back read_written

-- a subscript as its tokens
abbrev pub subscript_written : Subscript → List (ℕ × ℕ)
subscript_written subscript = subscript_tokens subscript []

-- the subscript at the head of the parts
abbrev pub first_subscript : List Part → Subscript
first_subscript (a_subscript i ∷ st) = i
first_subscript st = of_system

-- a subscript read back from its tokens
abbrev pub subscript_read_back : List (ℕ × ℕ) → Subscript
subscript_read_back ws = first_subscript (parts ws)

-- a subscript comes back from its tokens
pub subscript_read_written : (i : Subscript) → subscript_read_back (subscript_written i) ≡ i
subscript_read_written subscript = ap first_subscript (subscript_again subscript [])

-- how a subscript is stored
abbrev pub subscript_code : Coded Subscript
subscript_code =
    code_by (List (ℕ × ℕ)) (coded_list (coded× coded_ℕ coded_ℕ)) subscript_written subscript_read_back
    subscript_read_written
