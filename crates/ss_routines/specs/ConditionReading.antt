-- Reading a condition from left to right.
-- A parenthesis may open a condition or an expression: its closing one shows which.
use Rattle.std.specs.Prelude.{◌⊎◌, ℕ, zero, suc, true, false, Option, Some, None}
use mathlib.Core.Logic.{inl, inr}
use Rattle.ss_words.specs.declared.mark.Mark.TheVariants as m
use Rattle.ss_words.specs.declared.word.Sign.TheVariants as s
use Rattle.ss_words.specs.declared.reserved.Reserved.TheVariants as r
use Rattle.ss_words.specs.declared.refusal.Refusal.TheVariants.{Unexpected, PastLimit}
use Rattle.ss_words.specs.Plain.{Plain, mark}
use Rattle.ss_words.specs.Reading.{Reading, ◌>>=◌, pure, refuse}
use Rattle.ss_words.specs.Marks.{expect, eat}
use Rattle.ss_words.specs.declared.terms.Comparison.{Comparison}
use Rattle.ss_words.specs.declared.terms.Comparison.TheVariants.{Equal, Unequal, Less, Greater, AtMost, AtLeast}
use Rattle.ss_words.specs.declared.terms.Copula.{Copula}
use Rattle.ss_words.specs.declared.terms.Copula.TheVariants.{Is, IsNot}
use Rattle.ss_routines.specs.Combined.{if_mark, star, by_table, if_open}
use Rattle.ss_routines.specs.Expr.{Expr, expr, no_sums, term, no_products, named, applied, within}
use Rattle.ss_routines.specs.Expr.{no_exprs, sums_of, products_of}
use Rattle.ss_routines.specs.ExprReading.{rest_with, expr_at}
use Rattle.ss_routines.specs.Condition.{Reference, Condition, condition}
use Rattle.ss_routines.specs.Condition.{Conjunction, conjunction}
use Rattle.ss_routines.specs.Condition.{Relation, compared, is_empty, is_in, nested}
use Rattle.ss_routines.specs.SimpleReading.{reference_at}
use Rattle.ss_routines.specs.Condition.{alternatives_of, additions_of}

-- the sign of a comparison, or NE
abbrev pub comparison_of : Option Plain → Option Comparison
comparison_of (Some (mark (m.Sign s.Equal))) = Some Equal
comparison_of (Some (mark (m.Reserved r.Ne))) = Some Unequal
comparison_of (Some (mark (m.Sign s.Less))) = Some Less
comparison_of (Some (mark (m.Sign s.Greater))) = Some Greater
comparison_of (Some (mark (m.Sign s.LessEqual))) = Some AtMost
comparison_of (Some (mark (m.Sign s.GreaterEqual))) = Some AtLeast
comparison_of _ = None

-- the reference that an expression is, if it is one
abbrev pub reference_of : Expr → Option Reference
reference_of (expr None (term (named n) no_products) no_sums) = Some (record { name = n; subscript = None })
reference_of (expr None (term (applied n e no_exprs) no_products) no_sums) =
    Some (record { name = n; subscript = Some e })
reference_of _ = None

-- NOT, or nothing, after IS
unfoldable pub copula : Reading Copula
copula = eat (m.Reserved r.Not) >>= λ b. elim b [ true ↦ pure IsNot | false ↦ pure Is ]

-- with at most n parentheses open at once
module _ (n : ℕ) where
  -- after IS [NOT]: IN ref, or EMPTY if the value is a reference
  unfoldable pub set_with : Expr → Copula → Reading Relation
  set_with e c = eat (m.Reserved r.In) >>= λ b. elim b [
    | true ↦ (reference_at n >>= λ v. pure (is_in e c v))
    | false ↦ elim (reference_of e) [
      | Some v ↦ (expect (m.Reserved r.Empty) >>= λ u. pure (is_empty v c))
      | None ↦ refuse Unexpected
    ]
  ]

  -- after a value: a comparison and a value, IS, or nothing of a relation
  unfoldable pub behind_value : Expr → Reading (Expr ⊎ Relation)
  behind_value e = by_table comparison_of >>= λ o. elim o [
    | Some c ↦ (expr_at n >>= λ f. pure (inr (compared e c f)))
    | None ↦ (eat (m.Reserved r.Is) >>= λ b. elim b [
      | true ↦ (copula >>= λ c. set_with e c >>= λ q. pure (inr q))
      | false ↦ pure (inl e)
    ])
  ]

-- n parentheses may be open; in one more, inner reads
module _ (n : ℕ) (inner : Reading (Expr ⊎ Condition)) where
  -- an expression or a relation
  unfoldable pub value_with : Reading (Expr ⊎ Relation)
  value_with = if_open n inner >>= λ o. elim o [
    | Some x ↦ elim x [
      | inl e ↦ (rest_with n >>= λ z. behind_value n (expr None (term (within e) (products_of z.0)) (sums_of z.1)))
      | inr c ↦ pure (inr (nested c))
    ]
    | None ↦ (expr_at n >>= behind_value n)
  ]

  -- a relation
  unfoldable pub relation_with : Reading Relation
  relation_with = value_with >>= λ x. elim x [ inl e ↦ refuse Unexpected | inr q ↦ pure q ]

  -- an expression or a conjunction
  unfoldable pub conjoined_with : Reading (Expr ⊎ Conjunction)
  conjoined_with = value_with >>= λ x. elim x [
    | inl e ↦ pure (inl e)
    | inr q ↦ (star (if_mark (m.Reserved r.And) relation_with)
        >>= λ qs. pure (inr (conjunction q (additions_of qs))))
  ]

  -- a conjunction
  unfoldable pub conjunction_with : Reading Conjunction
  conjunction_with = conjoined_with >>= λ x. elim x [ inl e ↦ refuse Unexpected | inr c ↦ pure c ]

  -- an expression or a condition
  unfoldable pub either_with : Reading (Expr ⊎ Condition)
  either_with = conjoined_with >>= λ x. elim x [
    | inl e ↦ pure (inl e)
    | inr c ↦ (star (if_mark (m.Reserved r.Or) conjunction_with)
        >>= λ cs. pure (inr (condition c (alternatives_of cs))))
  ]

-- with at most n parentheses open at once
unfoldable pub either_at : ℕ → Reading (Expr ⊎ Condition)
either_at zero = either_with 0 (refuse PastLimit)
either_at (suc n) = either_with (suc n) (either_at n)

-- the part that is read in one more parenthesis
abbrev pub inner_either : ℕ → Reading (Expr ⊎ Condition)
inner_either zero = refuse PastLimit
inner_either (suc n) = either_at n

-- a condition
unfoldable pub condition_at : ℕ → Reading Condition
condition_at n = either_at n >>= λ x. elim x [ inl e ↦ refuse Unexpected | inr c ↦ pure c ]
