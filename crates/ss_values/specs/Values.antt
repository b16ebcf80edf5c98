-- The value of an expression: integers without limit, from the left; the first fault decides.
use Rattle.std.specs.Prelude.{◌≡◌, ℕ, ℤ, pos, neg_ℤ, ◌+ℤ◌, ◌-ℤ◌, ◌*ℤ◌, int_div, int_rem, unsigned_abs}
use Rattle.std.specs.Prelude.{nat_eq, Bool, if◌then◌else◌, List, [], ◌∷◌, Option, Some, None, Result, Ok, Err}
use Rattle.std.specs.Prelude.{unwrap_or, slice_index_or}
use Rattle.std.specs.Int.{int_min, int_max}
use Rattle.ss_words.specs.declared.fault.RunFault.{RunFault}
use Rattle.ss_words.specs.declared.fault.RunFault.TheVariants.{OutOfRange, ZeroDivisor}
use Rattle.ss_words.specs.declared.fault.StepFault.{StepFault}
use Rattle.ss_words.specs.declared.fault.StepFault.TheVariants.{Fault, Memory}
use Rattle.ss_words.specs.declared.terms.TermSign.{TermSign}
use Rattle.ss_words.specs.declared.terms.TermSign.TheVariants.{Plus, Minus}
use Rattle.ss_words.specs.declared.terms.OwnerKept.{OwnerKept}
use Rattle.ss_words.specs.declared.terms.OwnerKept.TheVariants.{First, Last, Count}
use Rattle.ss_words.specs.declared.terms.MemberKept.{MemberKept}
use Rattle.ss_words.specs.declared.terms.MemberKept.TheVariants.{Predecessor, Successor, Membership}
use Rattle.ss_program.specs.declared.place.Assign.{Assign}
use Rattle.ss_program.specs.declared.place.Assign.TheVariants.{Let, Add, Subtract}
use Rattle.ss_program.specs.declared.target.Target.{Target}
use Rattle.ss_program.specs.declared.target.Target.TheVariants.{Variable, Attribute}
use Rattle.ss_program.specs.declared.variable.Variable.{Variable as AVariable}
use Rattle.ss_program.specs.declared.variable.Variable.TheVariants.{Global, Local, Clock}
use Rattle.ss_program.specs.ProgramExpr.{Expr, expr, Sums, no_sums, sum, Term, term, Products, no_products, product}
use Rattle.ss_program.specs.ProgramExpr.{Factor, digits, variable, absolute, greatest, least, quotient, remainder}
use Rattle.ss_program.specs.ProgramExpr.{attribute, owner_kept, member_kept, within, Subscript, implied, of_system, at}
use Rattle.ss_program.specs.ProgramExpr.{Exprs, no_exprs, exprs}
use Rattle.ss_words.specs.Ranges.{in_range}
use Rattle.ss_values.specs.Faults.{◌>>=◌, ◌>>◌, refuse_if}
use Rattle.ss_store.specs.Tables.{Tables, set_of}
use Rattle.ss_store.specs.Store.{Store, number_of, attribute_of}
use Rattle.ss_store.specs.Filing.{walk_first, walk_last, count, predecessor, successor, membership}

-- the sources of values: the tables of classes and sets, the entities and their lists, the global
-- variables, the locals of the last frame, and the clock
pub record Readings : Type 0 where
  -- the tables of classes and sets
  pub tables : Tables
  -- the entities and their lists
  pub store : Store
  -- the global variables
  pub variables : List ℤ
  -- the locals of the last frame
  pub locals : List ℤ
  -- the clock
  pub clock : ℤ

-- ---- numbers

-- a result, or F1 if it is out of range
abbrev pub result_in_range : ℤ → Result ℤ RunFault
result_in_range z = if in_range z then Ok z else Err OutOfRange

-- a value with the sign at the head of an expression, which belongs to the first term
abbrev pub with_sign : Option TermSign → ℤ → Result ℤ RunFault
with_sign None x = Ok x
with_sign (Some Plus) x = Ok x
with_sign (Some Minus) x = result_in_range (neg_ℤ x)

-- the value of a term joined to the value before it
abbrev pub sum_or_difference : TermSign → ℤ → ℤ → Result ℤ RunFault
sum_or_difference Plus x y = result_in_range (x +ℤ y)
sum_or_difference Minus x y = result_in_range (x -ℤ y)

-- F2 if a divisor is 0
abbrev pub non_zero : ℤ → Result (Unit {0}) RunFault
non_zero y = refuse_if (nat_eq (unsigned_abs y) 0) ZeroDivisor

-- DIV.F, which cuts towards zero
abbrev pub quotient_value : ℤ → ℤ → Result ℤ RunFault
quotient_value x y = non_zero y >> result_in_range (int_div x y)

-- MOD.F, which has the sign of the dividend
abbrev pub remainder_value : ℤ → ℤ → Result ℤ RunFault
remainder_value x y = non_zero y >> Ok (int_rem x y)

-- ---- values that are read

-- a number of entities, or the number of one, as a value
abbrev pub number_value : ℕ → Result ℤ RunFault
number_value n = result_in_range (pos n)

-- the number of a member as a value, 0 if there is none
abbrev pub number_or_none : Option ℕ → Result ℤ RunFault
number_or_none k = number_value (unwrap_or k 0)

-- 1 or 0
abbrev pub one_if : Bool → Result ℤ RunFault
one_if b = Ok (if b then pos 1 else pos 0)

-- F.s, L.s and N.s of the owner that a value names
abbrev pub owner_kept_value : Readings → OwnerKept → ℕ → ℤ → Result ℤ RunFault
owner_kept_value readings First s x =
    walk_first (set_of readings.tables s) readings.store (number_of x) >>= number_or_none
owner_kept_value readings Last s x =
    walk_last (set_of readings.tables s) readings.store (number_of x) >>= number_or_none
owner_kept_value readings Count s x = count (set_of readings.tables s) readings.store (number_of x) >>= number_value

-- P.s, S.s and M.s of the member that a value names
abbrev pub member_kept_value : Readings → MemberKept → ℕ → ℤ → Result ℤ RunFault
member_kept_value readings Predecessor s x =
    predecessor (set_of readings.tables s) readings.store (number_of x) >>= number_or_none
member_kept_value readings Successor s x =
    successor (set_of readings.tables s) readings.store (number_of x) >>= number_or_none
member_kept_value readings Membership s x =
    membership (set_of readings.tables s) readings.store (number_of x) >>= one_if

-- the value of a variable
abbrev pub variable_value : Readings → AVariable → ℤ
variable_value readings (Global i) = slice_index_or readings.variables i (pos 0)
variable_value readings (Local i) = slice_index_or readings.locals i (pos 0)
variable_value readings Clock = readings.clock

-- each part from the left; x is the value of the part before further terms or factors, and the
-- greatest or the least of the arguments before further ones
abbrev mutual
  -- an expression
  pub value_of : Readings → Expr → Result ℤ RunFault
  value_of v (expr l t ss) = term_value v t >>= λ x. with_sign l x >>= λ y. sums_value v y ss

  -- with further terms
  pub sums_value : Readings → ℤ → Sums → Result ℤ RunFault
  sums_value v x no_sums = Ok x
  sums_value v x (sum s t ss) = term_value v t >>= λ y. sum_or_difference s x y >>= λ z. sums_value v z ss

  -- a term
  pub term_value : Readings → Term → Result ℤ RunFault
  term_value v (term f ps) = factor_value v f >>= λ x. products_value v x ps

  -- with further factors
  pub products_value : Readings → ℤ → Products → Result ℤ RunFault
  products_value v x no_products = Ok x
  products_value v x (product f ps) =
      factor_value v f >>= λ y. result_in_range (x *ℤ y) >>= λ z. products_value v z ps

  -- a factor
  pub factor_value : Readings → Factor → Result ℤ RunFault
  factor_value v (digits n) = result_in_range (pos n)
  factor_value v (variable x) = Ok (variable_value v x)
  factor_value v (absolute e) = value_of v e >>= λ x. result_in_range (pos (unsigned_abs x))
  factor_value v (greatest e es) = value_of v e >>= λ x. greatest_value v x es
  factor_value v (least e es) = value_of v e >>= λ x. least_value v x es
  factor_value v (quotient e f) = value_of v e >>= λ x. value_of v f >>= λ y. quotient_value x y
  factor_value v (remainder e f) = value_of v e >>= λ x. value_of v f >>= λ y. remainder_value x y
  factor_value v (attribute c a i) = subscript_value v i >>= λ x. attribute_of v.store c a (number_of x)
  factor_value v (owner_kept kept s i) = subscript_value v i >>= owner_kept_value v kept s
  factor_value v (member_kept kept s i) = subscript_value v i >>= member_kept_value v kept s
  factor_value v (within e) = value_of v e

  -- the number that a subscript means
  pub subscript_value : Readings → Subscript → Result ℤ RunFault
  subscript_value v (implied i) = Ok (variable_value v (Global i))
  subscript_value v of_system = Ok (pos 0)
  subscript_value v (at e) = value_of v e

  -- the greatest, with further arguments
  pub greatest_value : Readings → ℤ → Exprs → Result ℤ RunFault
  greatest_value v x no_exprs = Ok x
  greatest_value v x (exprs e es) = value_of v e >>= λ y. greatest_value v (int_max x y) es

  -- the least, with further arguments
  pub least_value : Readings → ℤ → Exprs → Result ℤ RunFault
  least_value v x no_exprs = Ok x
  least_value v x (exprs e es) = value_of v e >>= λ y. least_value v (int_min x y) es

-- ---- assignments

-- the value of a target
abbrev pub target_value : Readings → Target → Result ℤ RunFault
target_value readings (Variable x) = Ok (variable_value readings x)
target_value readings (Attribute c a i) =
    subscript_value readings i >>= λ x. attribute_of readings.store c a (number_of x)

-- the assigned value: for LET the value, for ADD and SUBTRACT the target's old value with it
abbrev pub assigned_value : Readings → Assign → Result ℤ RunFault
assigned_value readings (Let written t e) = value_of readings e
assigned_value readings (Add e t) =
    value_of readings e >>= λ x. target_value readings t >>= λ y. result_in_range (y +ℤ x)
assigned_value readings (Subtract e t) =
    value_of readings e >>= λ x. target_value readings t >>= λ y. result_in_range (y -ℤ x)

-- ---- lists

-- the values of several expressions in order, or the first fault
abbrev pub values_of : Readings → List Expr → Result (List ℤ) RunFault
values_of readings [] = Ok []
values_of readings (e ∷ es) = value_of readings e >>= λ x. values_of readings es >>= λ xs. Ok (x ∷ xs)

-- a fault comes in place of the values; missing memory says nothing of them
abbrev pub FaultIs : {A : Type 0} → StepFault → Result A RunFault → Type 0
FaultIs (Fault f) got = got ≡ Err f
FaultIs Memory got = Unit {0}
