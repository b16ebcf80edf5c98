-- Private: how the logic stores the tree of a condition: as a list of numbered tokens, each part before its own parts,
-- read back from the last.
use Rattle.std.specs.Prelude.{◌≡◌, ℕ, zero, suc, List, [], ◌∷◌, Option, None}
use Rattle.std.proofs.Common.{refl, ap, ◌∙◌}
use Rattle.std.specs.Coded.{Coded, code_by, coded×, coded_ℕ, coded_list, coded_option}
use Rattle.ss_words.specs.declared.terms.Comparison.{Comparison}
use Rattle.ss_words.specs.declared.terms.Comparison.TheVariants.{Equal, Unequal, Less, Greater, AtMost, AtLeast}
use Rattle.ss_words.specs.declared.terms.Copula.{Copula}
use Rattle.ss_words.specs.declared.terms.Copula.TheVariants.{Is, IsNot}
use Rattle.ss_words.specs.Lists.{Name}
use Rattle.ss_routines.specs.Expr.{Expr, expr, no_sums, term, no_products, digits}
use Rattle.ss_routines.specs.ExprCode.{name_code, expr_code}
use Rattle.ss_routines.specs.Condition.{Reference, Condition, condition, Alternatives, no_alternatives, alternative}
use Rattle.ss_routines.specs.Condition.{Conjunction, conjunction, Additions, no_additions, addition}
use Rattle.ss_routines.specs.Condition.{Relation, compared, is_empty, is_in, nested}

-- the contents of a relation: two values, a name and a subscript
abbrev pub Held : Type 0
Held = (Expr × Expr) × (Name × Option Expr)

-- a number that says which part it is, and its contents
abbrev pub Token : Type 0
Token = ℕ × Held

-- a part of a tree
pub data Part : Type 0 where
  a_condition : Condition → Part
  some_alternatives : Alternatives → Part
  a_conjunction : Conjunction → Part
  some_additions : Additions → Part
  a_relation : Relation → Part

-- a value that is not read
abbrev pub no_value : Expr
no_value = expr None (term (digits 0) no_products) no_sums

-- nothing held
abbrev pub no_parts : Held
no_parts = ((no_value, no_value), ([], None))

-- the number of a comparison
abbrev pub comparison_number : Comparison → ℕ
comparison_number Equal = 5
comparison_number Unequal = 6
comparison_number Less = 7
comparison_number Greater = 8
comparison_number AtMost = 9
comparison_number AtLeast = 10

-- the number of IS EMPTY, and of IS NOT EMPTY
abbrev pub empty_number : Copula → ℕ
empty_number Is = 11
empty_number IsNot = 12

-- the number of IS IN, and of IS NOT IN
abbrev pub in_number : Copula → ℕ
in_number Is = 13
in_number IsNot = 14

-- the tokens of a part, before those of the parts that follow
abbrev mutual
  -- a condition: its alternatives
  pub condition_tokens : Condition → List Token → List Token
  condition_tokens (condition c cs) k = (0, no_parts) ∷ conjunction_tokens c (alternatives_tokens cs k)

  -- the alternatives after the first
  pub alternatives_tokens : Alternatives → List Token → List Token
  alternatives_tokens no_alternatives k = (1, no_parts) ∷ k
  alternatives_tokens (alternative c cs) k = (2, no_parts) ∷ conjunction_tokens c (alternatives_tokens cs k)

  -- an alternative: its relations
  pub conjunction_tokens : Conjunction → List Token → List Token
  conjunction_tokens (conjunction r rs) k = (3, no_parts) ∷ relation_tokens r (additions_tokens rs k)

  -- the relations after the first
  pub additions_tokens : Additions → List Token → List Token
  additions_tokens no_additions k = (15, no_parts) ∷ k
  additions_tokens (addition r rs) k = (16, no_parts) ∷ relation_tokens r (additions_tokens rs k)

  -- a relation
  pub relation_tokens : Relation → List Token → List Token
  relation_tokens (nested c) k = (4, no_parts) ∷ condition_tokens c k
  relation_tokens (compared e c f) k = (comparison_number c, ((e, f), ([], None))) ∷ k
  relation_tokens (is_empty v c) k = (empty_number c, ((no_value, no_value), (v.name, v.subscript))) ∷ k
  relation_tokens (is_in e c v) k = (in_number c, ((e, no_value), (v.name, v.subscript))) ∷ k

-- the reference that is held
abbrev pub held_reference : Held → Reference
held_reference held = record { name = held.1.0; subscript = held.1.1 }

-- a token put before the parts that were read after it
abbrev pub condition_read : List Part → List Part
condition_read (a_conjunction c ∷ some_alternatives cs ∷ st) = a_condition (condition c cs) ∷ st
condition_read st = st

-- the same of OR
abbrev pub or_read : List Part → List Part
or_read (a_conjunction c ∷ some_alternatives cs ∷ st) = some_alternatives (alternative c cs) ∷ st
or_read st = st

-- of a first relation
abbrev pub conjunction_read : List Part → List Part
conjunction_read (a_relation r ∷ some_additions rs ∷ st) = a_conjunction (conjunction r rs) ∷ st
conjunction_read st = st

-- of AND
abbrev pub and_read : List Part → List Part
and_read (a_relation r ∷ some_additions rs ∷ st) = some_additions (addition r rs) ∷ st
and_read st = st

-- of parentheses
abbrev pub nested_read : List Part → List Part
nested_read (a_condition c ∷ st) = a_relation (nested c) ∷ st
nested_read st = st

-- the relation of a token by its number, less 5
abbrev pub relation_of : ℕ → Held → Relation
relation_of zero held = compared held.0.0 Equal held.0.1
relation_of (suc zero) held = compared held.0.0 Unequal held.0.1
relation_of (suc (suc zero)) held = compared held.0.0 Less held.0.1
relation_of (suc (suc (suc zero))) h = compared h.0.0 Greater h.0.1
relation_of (suc (suc (suc (suc zero)))) h = compared h.0.0 AtMost h.0.1
relation_of (suc (suc (suc (suc (suc zero))))) h = compared h.0.0 AtLeast h.0.1
relation_of (suc (suc (suc (suc (suc (suc zero)))))) h = is_empty (held_reference h) Is
relation_of (suc (suc (suc (suc (suc (suc (suc zero))))))) h = is_empty (held_reference h) IsNot
relation_of (suc (suc (suc (suc (suc (suc (suc (suc zero)))))))) h = is_in h.0.0 Is (held_reference h)
relation_of (suc (suc (suc (suc (suc (suc (suc (suc (suc n))))))))) h = is_in h.0.0 IsNot (held_reference h)

-- a token that is after the relations by its number, less 15
abbrev pub addition_read : ℕ → List Part → List Part
addition_read zero st = some_additions no_additions ∷ st
addition_read (suc n) st = and_read st

-- of a token by its number
abbrev pub token_read : ℕ → Held → List Part → List Part
token_read zero held st = condition_read st
token_read (suc zero) held st = some_alternatives no_alternatives ∷ st
token_read (suc (suc zero)) held st = or_read st
token_read (suc (suc (suc zero))) h st = conjunction_read st
token_read (suc (suc (suc (suc zero)))) h st = nested_read st
token_read (suc (suc (suc (suc (suc (suc (suc (suc (suc (suc (suc (suc (suc (suc (suc n))))))))))))))) h st =
    addition_read n st
token_read (suc (suc (suc (suc (suc n))))) h st = a_relation (relation_of n h) ∷ st

-- the parts of a list of tokens
abbrev pub parts : List Token → List Part
parts [] = []
parts (w ∷ ws) = token_read w.0 w.1 (parts ws)

-- the condition that is first
abbrev pub first_condition : List Part → Condition
first_condition (a_condition c ∷ st) = c
first_condition st = condition (conjunction (compared no_value Equal no_value) no_additions) no_alternatives

-- the parts of the tokens of a relation that is no condition in parentheses
pub comparison_again : (e f : Expr) (c : Comparison) (st : List Part) →
    token_read (comparison_number c) ((e, f), ([], None)) st ≡ a_relation (compared e c f) ∷ st
comparison_again e f Equal st = refl
comparison_again e f Unequal st = refl
comparison_again e f Less st = refl
comparison_again e f Greater st = refl
comparison_again e f AtMost st = refl
comparison_again e f AtLeast st = refl

-- one of IS EMPTY and IS NOT EMPTY
pub empty_again : (v : Reference) (c : Copula) (st : List Part) →
    token_read (empty_number c) ((no_value, no_value), (v.name, v.subscript)) st ≡ a_relation (is_empty v c) ∷ st
empty_again v Is st = refl
empty_again v IsNot st = refl

-- one of IS IN and IS NOT IN
pub in_again : (e : Expr) (v : Reference) (c : Copula) (st : List Part) →
    token_read (in_number c) ((e, no_value), (v.name, v.subscript)) st ≡ a_relation (is_in e c v) ∷ st
in_again e v Is st = refl
in_again e v IsNot st = refl

-- the part that was written is read back
mutual
  condition_again : (c : Condition) (k : List Token) → parts (condition_tokens c k) ≡ a_condition c ∷ parts k
  condition_again (condition c cs) k =
      ap condition_read (conjunction_again c (alternatives_tokens cs k)
      ∙ ap (λ st. a_conjunction c ∷ st) (alternatives_again cs k))

  alternatives_again : (cs : Alternatives) (k : List Token)
      → parts (alternatives_tokens cs k) ≡ some_alternatives cs ∷ parts k
  alternatives_again no_alternatives k = refl
  alternatives_again (alternative c cs) k =
      ap or_read (conjunction_again c (alternatives_tokens cs k)
      ∙ ap (λ st. a_conjunction c ∷ st) (alternatives_again cs k))

  conjunction_again : (c : Conjunction) (k : List Token) → parts (conjunction_tokens c k) ≡ a_conjunction c ∷ parts k
  conjunction_again (conjunction r rs) k =
      ap conjunction_read (relation_again r (additions_tokens rs k)
      ∙ ap (λ st. a_relation r ∷ st) (additions_again rs k))

  additions_again : (rs : Additions) (k : List Token) → parts (additions_tokens rs k) ≡ some_additions rs ∷ parts k
  additions_again no_additions k = refl
  additions_again (addition r rs) k =
      ap and_read (relation_again r (additions_tokens rs k) ∙ ap (λ st. a_relation r ∷ st) (additions_again rs k))

  relation_again : (r : Relation) (k : List Token) → parts (relation_tokens r k) ≡ a_relation r ∷ parts k
  relation_again (nested c) k = ap nested_read (condition_again c k)
  relation_again (compared e c f) k = comparison_again e f c (parts k)
  relation_again (is_empty v c) k = empty_again v c (parts k)
  relation_again (is_in e c v) k = in_again e v c (parts k)

-- a condition as its tokens
abbrev pub tokens_of_condition : Condition → List Token
tokens_of_condition tree = condition_tokens tree []

-- and read back from them
abbrev pub condition_of_tokens : List Token → Condition
condition_of_tokens ws = first_condition (parts ws)

-- a condition comes back from its tokens
pub condition_of_tokens-tokens_of_condition : (c : Condition) → condition_of_tokens (tokens_of_condition c) ≡ c
condition_of_tokens-tokens_of_condition c = ap first_condition (condition_again c [])

-- how the contents of a relation are stored
abbrev pub held_code : Coded Held
held_code = coded× (coded× expr_code expr_code) (coded× name_code (coded_option expr_code))

-- how a condition is stored
abbrev pub condition_code : Coded Condition
condition_code =
    code_by (List Token) (coded_list (coded× coded_ℕ held_code)) tokens_of_condition condition_of_tokens
    condition_of_tokens-tokens_of_condition
