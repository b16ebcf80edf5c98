-- the values of expressions are in range
use Rattle.std.proofs.Common.{ℕ, ℤ, pos, Bool, true, false, Option, refl}
use Rattle.std.specs.Prelude.{◌*ℤ◌, ◌+ℤ◌, ◌-ℤ◌, unsigned_abs, unwrap_or}
use Rattle.std.specs.Int.{int_min, int_max}
use Rattle.ss_words.specs.declared.terms.OwnerKept.{OwnerKept}
use Rattle.ss_words.specs.declared.terms.OwnerKept.TheVariants.{First, Last, Count}
use Rattle.ss_words.specs.declared.terms.MemberKept.{MemberKept}
use Rattle.ss_words.specs.declared.terms.MemberKept.TheVariants.{Predecessor, Successor, Membership}
use Rattle.ss_program.specs.declared.place.Assign.{Assign}
use Rattle.ss_program.specs.declared.place.Assign.TheVariants.{Let, Add, Subtract}
use Rattle.ss_program.specs.ProgramExpr.{Expr, expr, Sums, no_sums, sum, Term, term, Products, no_products, product}
use Rattle.ss_program.specs.ProgramExpr.{Factor, digits, variable, absolute, greatest, least, quotient, remainder}
use Rattle.ss_program.specs.ProgramExpr.{attribute, owner_kept, member_kept, within, Exprs, no_exprs, exprs}
use Rattle.ss_store.specs.Tables.{set_of}
use Rattle.ss_store.specs.Store.{number_of}
use Rattle.ss_store.specs.Filing.{walk_first, walk_last, count, predecessor, successor, membership}
use Rattle.ss_values.specs.Values.{Readings, result_in_range, with_sign, sum_or_difference, value_of, sums_value}
use Rattle.ss_values.specs.Values.{term_value, products_value, factor_value, subscript_value, greatest_value}
use Rattle.ss_values.specs.Values.{least_value, target_value, assigned_value, number_value, number_or_none, one_if}
use Rattle.ss_values.specs.Values.{owner_kept_value, member_kept_value}
use Rattle.ss_state.proofs.Ranges.{Got, after_got, anything, IsIn, AreIn, variable_in, ranged_in, sign_in, joined_in}
use Rattle.ss_state.proofs.Ranges.{max_in, min_in, quotient_in, remainder_in}
use Rattle.ss_state.proofs.Stores.{attribute_value_in}

-- the number of a member, or 0
none_in : (k : Option ℕ) → Got IsIn (number_or_none k)
none_in k = ranged_in (pos (unwrap_or k 0))

one_in : (b : Bool) → Got IsIn (one_if b)
one_in true = refl
one_in false = refl

owner_kept_in : (v : Readings) (kept : OwnerKept) (s : ℕ) (x : ℤ) → Got IsIn (owner_kept_value v kept s x)
owner_kept_in v First s x =
    after_got (λ (_ : Option ℕ). Unit {0}) IsIn (walk_first (set_of v.tables s) v.store (number_of x)) number_or_none
    (anything _) (λ k _. none_in k)
owner_kept_in v Last s x =
    after_got (λ (_ : Option ℕ). Unit {0}) IsIn (walk_last (set_of v.tables s) v.store (number_of x)) number_or_none
    (anything _) (λ k _. none_in k)
owner_kept_in v Count s x =
    after_got (λ (_ : ℕ). Unit {0}) IsIn (count (set_of v.tables s) v.store (number_of x)) number_value (anything _)
    (λ n _. ranged_in (pos n))

member_kept_in : (v : Readings) (kept : MemberKept) (s : ℕ) (x : ℤ) → Got IsIn (member_kept_value v kept s x)
member_kept_in v Predecessor s x =
    after_got (λ (_ : Option ℕ). Unit {0}) IsIn (predecessor (set_of v.tables s) v.store (number_of x)) number_or_none
    (anything _) (λ k _. none_in k)
member_kept_in v Successor s x =
    after_got (λ (_ : Option ℕ). Unit {0}) IsIn (successor (set_of v.tables s) v.store (number_of x)) number_or_none
    (anything _) (λ k _. none_in k)
member_kept_in v Membership s x =
    after_got (λ (_ : Bool). Unit {0}) IsIn (membership (set_of v.tables s) v.store (number_of x)) one_if (anything _)
    (λ b _. one_in b)

mutual
  pub value_in : (v : Readings) (e : Expr) → AreIn v → Got IsIn (value_of v e)
  value_in v (expr l t ss) h =
      after_got IsIn IsIn (term_value v t) _ (term_in v t h)
      (λ x p. after_got IsIn IsIn (with_sign l x) _ (sign_in l x p) (λ y q. sums_in v y ss h q))

  sums_in : (v : Readings) (x : ℤ) (ss : Sums) → AreIn v → IsIn x → Got IsIn (sums_value v x ss)
  sums_in v x no_sums h p = p
  sums_in v x (sum s t ss) h p =
      after_got IsIn IsIn (term_value v t) _ (term_in v t h)
      (λ y q. after_got IsIn IsIn (sum_or_difference s x y) _ (joined_in s x y) (λ z r. sums_in v z ss h r))

  term_in : (v : Readings) (t : Term) → AreIn v → Got IsIn (term_value v t)
  term_in v (term f ps) h = after_got IsIn IsIn (factor_value v f) _ (factor_in v f h) (λ x p. products_in v x ps h p)

  products_in : (v : Readings) (x : ℤ) (ps : Products) → AreIn v → IsIn x → Got IsIn (products_value v x ps)
  products_in v x no_products h p = p
  products_in v x (product f ps) h p =
      after_got IsIn IsIn (factor_value v f) _ (factor_in v f h)
      (λ y q. after_got IsIn IsIn (result_in_range (x *ℤ y)) _ (ranged_in (x *ℤ y)) (λ z r. products_in v z ps h r))

  factor_in : (v : Readings) (f : Factor) → AreIn v → Got IsIn (factor_value v f)
  factor_in v (digits n) h = ranged_in (pos n)
  factor_in v (variable x) h = variable_in v x h
  factor_in v (absolute e) h =
      after_got IsIn IsIn (value_of v e) _ (value_in v e h) (λ x p. ranged_in (pos (unsigned_abs x)))
  factor_in v (greatest e es) h = after_got IsIn IsIn (value_of v e) _ (value_in v e h) (λ x p. greatest_in v x es h p)
  factor_in v (least e es) h = after_got IsIn IsIn (value_of v e) _ (value_in v e h) (λ x p. least_in v x es h p)
  factor_in v (quotient e f) h =
      after_got IsIn IsIn (value_of v e) _ (value_in v e h) (λ x p. after_got IsIn IsIn (value_of v f) _
      (value_in v f h) (λ y q. quotient_in x y))
  factor_in v (remainder e f) h =
      after_got IsIn IsIn (value_of v e) _ (value_in v e h) (λ x p. after_got IsIn IsIn (value_of v f) _
      (value_in v f h) (λ y q. remainder_in x y q))
  factor_in v (attribute c a i) h =
      after_got (λ (_ : ℤ). Unit {0}) IsIn (subscript_value v i) _ (anything _)
      (λ x _. attribute_value_in v.store c a (number_of x) h.store)
  factor_in v (owner_kept kept s i) h =
      after_got (λ (_ : ℤ). Unit {0}) IsIn (subscript_value v i) _ (anything _) (λ x _. owner_kept_in v kept s x)
  factor_in v (member_kept kept s i) h =
      after_got (λ (_ : ℤ). Unit {0}) IsIn (subscript_value v i) _ (anything _) (λ x _. member_kept_in v kept s x)
  factor_in v (within e) h = value_in v e h

  greatest_in : (v : Readings) (x : ℤ) (es : Exprs) → AreIn v → IsIn x → Got IsIn (greatest_value v x es)
  greatest_in v x no_exprs h p = p
  greatest_in v x (exprs e es) h p =
      after_got IsIn IsIn (value_of v e) _ (value_in v e h) (λ y q. greatest_in v (int_max x y) es h (max_in x y p q))

  least_in : (v : Readings) (x : ℤ) (es : Exprs) → AreIn v → IsIn x → Got IsIn (least_value v x es)
  least_in v x no_exprs h p = p
  least_in v x (exprs e es) h p =
      after_got IsIn IsIn (value_of v e) _ (value_in v e h) (λ y q. least_in v (int_min x y) es h (min_in x y p q))

-- the value that an assignment assigns
pub assigned_value_in : (v : Readings) (a : Assign) → AreIn v → Got IsIn (assigned_value v a)
assigned_value_in v (Let b x e) h = value_in v e h
assigned_value_in v (Add e x) h =
    after_got (λ (_ : ℤ). Unit {0}) IsIn (value_of v e) _ (anything _) (λ y _.
    after_got (λ (_ : ℤ). Unit {0}) IsIn (target_value v x) _ (anything _) (λ z _. ranged_in (z +ℤ y)))
assigned_value_in v (Subtract e x) h =
    after_got (λ (_ : ℤ). Unit {0}) IsIn (value_of v e) _ (anything _) (λ y _.
    after_got (λ (_ : ℤ). Unit {0}) IsIn (target_value v x) _ (anything _) (λ z _. ranged_in (z -ℤ y)))
