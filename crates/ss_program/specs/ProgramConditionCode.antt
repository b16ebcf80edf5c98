-- Private: how the logic stores the tree of a condition: as a list of numbered tokens, each part before its own parts,
-- read back from the last.
use Rattle.std.specs.Prelude.{◌≡◌, ℕ, zero, suc, List, [], ◌∷◌, None}
use Rattle.std.proofs.Common.{refl, ap, ◌∙◌}
use Rattle.std.specs.Coded.{Coded, code_by, coded×, coded_ℕ, coded_list}
use Rattle.ss_words.specs.declared.terms.Comparison.{Comparison}
use Rattle.ss_words.specs.declared.terms.Copula.{Copula}
use Rattle.ss_words.specs.declared.terms.Copula.TheVariants.{Is, IsNot}
use Rattle.ss_program.specs.declared.target.SetRef.{SetRef}
use Rattle.ss_words.specs.declared.terms.Comparison.TheVariants.{Equal, Unequal, Less, Greater, AtMost, AtLeast}
use Rattle.ss_program.specs.ProgramExpr.{Expr, expr, no_sums, Term, term, no_products, Factor, digits, attribute}
use Rattle.ss_program.specs.ProgramExpr.{of_system}
use Rattle.ss_program.specs.ProgramExprCode.{expr_code, ten_more}
use Rattle.ss_program.specs.ProgramCondition.{Condition, any, Conjunctions, no_conjunctions, or_else, Conjunction, all}
use Rattle.ss_program.specs.ProgramCondition.{Relations, no_relations, and_also, Relation, compared, is_empty, is_in}
use Rattle.ss_program.specs.ProgramCondition.{nested}

-- a number, and the values of a comparison
abbrev pub Token : Type 0
Token = ℕ × (Expr × Expr)

-- a part of a tree
pub data Part : Type 0 where
  a_condition : Condition → Part
  some_conjunctions : Conjunctions → Part
  a_conjunction : Conjunction → Part
  some_relations : Relations → Part
  a_relation : Relation → Part

-- a value that is not read
abbrev pub no_value : Expr
no_value = expr None (term (digits 0) no_products) no_sums

-- a token without values
abbrev pub mark : ℕ → Token
mark n = (n, (no_value, no_value))

-- a set as a value: an attribute whose subscript is the set's
abbrev pub set_written : SetRef → Expr
set_written set = expr None (term (attribute set.set 0 set.owner) no_products) no_sums

-- the set of a factor
abbrev pub set_of_factor : Factor → SetRef
set_of_factor (attribute c a i) = record { set = c; owner = i }
set_of_factor factor = record { set = 0; owner = of_system }

-- the set of a term
abbrev pub set_of_term : Term → SetRef
set_of_term (term f ps) = set_of_factor f

-- the set that was written as a value
abbrev pub set_read : Expr → SetRef
set_read (expr l t ss) = set_of_term t

-- the numbers of IS EMPTY and IS NOT EMPTY
abbrev pub empty_number : Copula → ℕ
empty_number Is = 13
empty_number IsNot = 14

-- the numbers of IS IN and IS NOT IN
abbrev pub in_number : Copula → ℕ
in_number Is = 15
in_number IsNot = 16

-- the number of a comparison
abbrev pub comparison_number : Comparison → ℕ
comparison_number Equal = 5
comparison_number Unequal = 6
comparison_number Less = 7
comparison_number Greater = 8
comparison_number AtMost = 9
comparison_number AtLeast = 10

-- the tokens of a part, put before the tokens that follow
abbrev mutual
  -- a condition: its conjunctions
  pub condition_tokens : Condition → List Token → List Token
  condition_tokens (any c cs) k = mark 0 ∷ conjunction_tokens c (conjunctions_tokens cs k)

  -- the conjunctions after OR
  pub conjunctions_tokens : Conjunctions → List Token → List Token
  conjunctions_tokens no_conjunctions k = mark 1 ∷ k
  conjunctions_tokens (or_else c cs) k = mark 2 ∷ conjunction_tokens c (conjunctions_tokens cs k)

  -- a conjunction: its relations
  pub conjunction_tokens : Conjunction → List Token → List Token
  conjunction_tokens (all r rs) k = mark 3 ∷ relation_tokens r (relations_tokens rs k)

  -- the relations after AND
  pub relations_tokens : Relations → List Token → List Token
  relations_tokens no_relations k = mark 11 ∷ k
  relations_tokens (and_also r rs) k = mark 12 ∷ relation_tokens r (relations_tokens rs k)

  -- a relation
  pub relation_tokens : Relation → List Token → List Token
  relation_tokens (nested c) k = mark 4 ∷ condition_tokens c k
  relation_tokens (compared e c f) k = (comparison_number c, (e, f)) ∷ k
  relation_tokens (is_empty r is) k = (empty_number is, (no_value, set_written r)) ∷ k
  relation_tokens (is_in e is r) k = (in_number is, (e, set_written r)) ∷ k

-- a token put before the parts that were read after it
abbrev pub any_read : List Part → List Part
any_read (a_conjunction c ∷ some_conjunctions cs ∷ st) = a_condition (any c cs) ∷ st
any_read st = st

-- a token OR put before the parts that were read after it
abbrev pub or_read : List Part → List Part
or_read (a_conjunction c ∷ some_conjunctions cs ∷ st) = some_conjunctions (or_else c cs) ∷ st
or_read st = st

-- of a first relation
abbrev pub all_read : List Part → List Part
all_read (a_relation r ∷ some_relations rs ∷ st) = a_conjunction (all r rs) ∷ st
all_read st = st

-- of AND
abbrev pub and_read : List Part → List Part
and_read (a_relation r ∷ some_relations rs ∷ st) = some_relations (and_also r rs) ∷ st
and_read st = st

-- of parentheses
abbrev pub nested_read : List Part → List Part
nested_read (a_condition c ∷ st) = a_relation (nested c) ∷ st
nested_read st = st

-- of a token by its number
abbrev pub token_read : ℕ → Expr → Expr → List Part → List Part
token_read zero expression f st = any_read st
token_read (suc zero) expression f st = some_conjunctions no_conjunctions ∷ st
token_read (suc (suc zero)) expression f st = or_read st
token_read (suc (suc (suc zero))) e f st = all_read st
token_read (suc (suc (suc (suc zero)))) e f st = nested_read st
token_read (suc (suc (suc (suc (suc zero))))) e f st = a_relation (compared e Equal f) ∷ st
token_read (suc (suc (suc (suc (suc (suc zero)))))) e f st = a_relation (compared e Unequal f) ∷ st
token_read (suc (suc (suc (suc (suc (suc (suc zero))))))) e f st = a_relation (compared e Less f) ∷ st
token_read (suc (suc (suc (suc (suc (suc (suc (suc zero)))))))) e f st = a_relation (compared e Greater f) ∷ st
token_read (suc (suc (suc (suc (suc (suc (suc (suc (suc zero))))))))) e f st = a_relation (compared e AtMost f) ∷ st
token_read (ten_more zero) expression f st = a_relation (compared expression AtLeast f) ∷ st
token_read (ten_more (suc zero)) expression f st = some_relations no_relations ∷ st
token_read (ten_more (suc (suc zero))) e f st = and_read st
token_read (ten_more (suc (suc (suc zero)))) e f st = a_relation (is_empty (set_read f) Is) ∷ st
token_read (ten_more (suc (suc (suc (suc zero))))) e f st = a_relation (is_empty (set_read f) IsNot) ∷ st
token_read (ten_more (suc (suc (suc (suc (suc zero)))))) e f st = a_relation (is_in e Is (set_read f)) ∷ st
token_read n expression f st = a_relation (is_in expression IsNot (set_read f)) ∷ st

-- the parts of a list of tokens
abbrev pub parts : List Token → List Part
parts [] = []
parts (w ∷ ws) = token_read w.0 w.1.0 w.1.1 (parts ws)

-- the condition at the head of the parts
abbrev pub first_condition : List Part → Condition
first_condition (a_condition c ∷ st) = c
first_condition st = any (all (compared no_value Equal no_value) no_relations) no_conjunctions

-- the token of a comparison is read back
pub comparison_again : (c : Comparison) (e f : Expr) (st : List Part) →
    token_read (comparison_number c) e f st ≡ a_relation (compared e c f) ∷ st
comparison_again Equal e f st = refl
comparison_again Unequal e f st = refl
comparison_again Less e f st = refl
comparison_again Greater e f st = refl
comparison_again AtMost e f st = refl
comparison_again AtLeast e f st = refl

-- one of IS EMPTY and IS NOT EMPTY
pub empty_again : (r : SetRef) (is : Copula) (st : List Part) →
    token_read (empty_number is) no_value (set_written r) st ≡ a_relation (is_empty r is) ∷ st
empty_again r Is st = refl
empty_again r IsNot st = refl

-- one of IS IN and IS NOT IN
pub in_again : (e : Expr) (is : Copula) (r : SetRef) (st : List Part) →
    token_read (in_number is) e (set_written r) st ≡ a_relation (is_in e is r) ∷ st
in_again e Is r st = refl
in_again e IsNot r st = refl

-- the tokens that were written are read back as the same tree
mutual
  condition_again : (c : Condition) (k : List Token) → parts (condition_tokens c k) ≡ a_condition c ∷ parts k
  condition_again (any c cs) k =
      ap any_read
      (conjunction_again c (conjunctions_tokens cs k) ∙ ap (λ st. a_conjunction c ∷ st) (conjunctions_again cs k))

  conjunctions_again : (cs : Conjunctions) (k : List Token) →
      parts (conjunctions_tokens cs k) ≡ some_conjunctions cs ∷ parts k
  conjunctions_again no_conjunctions k = refl
  conjunctions_again (or_else c cs) k =
      ap or_read
      (conjunction_again c (conjunctions_tokens cs k) ∙ ap (λ st. a_conjunction c ∷ st) (conjunctions_again cs k))

  conjunction_again : (c : Conjunction) (k : List Token) → parts (conjunction_tokens c k) ≡ a_conjunction c ∷ parts k
  conjunction_again (all r rs) k =
      ap all_read (relation_again r (relations_tokens rs k) ∙ ap (λ st. a_relation r ∷ st) (relations_again rs k))

  relations_again : (rs : Relations) (k : List Token) → parts (relations_tokens rs k) ≡ some_relations rs ∷ parts k
  relations_again no_relations k = refl
  relations_again (and_also r rs) k =
      ap and_read (relation_again r (relations_tokens rs k) ∙ ap (λ st. a_relation r ∷ st) (relations_again rs k))

  relation_again : (r : Relation) (k : List Token) → parts (relation_tokens r k) ≡ a_relation r ∷ parts k
  relation_again (nested c) k = ap nested_read (condition_again c k)
  relation_again (compared e c f) k = comparison_again c e f (parts k)
  relation_again (is_empty r is) k = empty_again r is (parts k)
  relation_again (is_in e is r) k = in_again e is r (parts k)

-- a condition as its tokens
abbrev pub tokens_of : Condition → List Token
tokens_of condition = condition_tokens condition []

-- and read back from them
abbrev pub read_back : List Token → Condition
read_back ws = first_condition (parts ws)

-- a condition comes back from its tokens
pub read_written : (c : Condition) → read_back (tokens_of c) ≡ c
read_written condition = ap first_condition (condition_again condition [])

-- how a condition is stored
abbrev pub condition_code : Coded Condition
condition_code =
    code_by (List Token) (coded_list (coded× coded_ℕ (coded× expr_code expr_code))) tokens_of read_back read_written
