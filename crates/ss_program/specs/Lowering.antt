-- The operations that a linear expression is lowered to: on one accumulator, in text order.
use Rattle.std.specs.Prelude.{◌≡◌, ℕ, ℤ, Bool, true, false, pos, List, [], ◌∷◌, ◌++◌, Option, Some, None}
use Rattle.std.specs.Prelude.{option_map, option_and_then, unwrap_or, is_some, ◌||◌, if◌then◌else◌}
use Rattle.ss_words.specs.Ranges.{in_range}
use Rattle.ss_words.specs.declared.terms.TermSign.{TermSign}
use Rattle.ss_words.specs.declared.terms.TermSign.TheVariants.{Plus, Minus}
use Rattle.ss_program.specs.declared.variable.Variable.{Variable}
use Rattle.ss_program.specs.declared.variable.Variable.TheVariants.{Global, Local, Clock}
use Rattle.ss_program.specs.ProgramExpr.{Expr, expr, Sums, no_sums, sum, Term, term, Products, no_products, product}
use Rattle.ss_program.specs.ProgramExpr.{Factor, digits, variable, absolute, quotient, remainder, attribute, within}
use Rattle.ss_program.specs.ProgramExpr.{Subscript, implied, of_system, at}
use Rattle.ss_program.specs.declared.op.Op.{Op}
use Rattle.ss_program.specs.declared.op.Op.TheVariants.{LoadConstant, LoadGlobal, LoadLocal, LoadClock, LoadAttribute}
use Rattle.ss_program.specs.declared.op.Op.TheVariants.{AddConstant, AddGlobal, AddLocal, AddScaledGlobal}
use Rattle.ss_program.specs.declared.op.Op.TheVariants.{AddScaledLocal, AddAttributeGlobal, AddAttributeLocal}
use Rattle.ss_program.specs.declared.op.Op.TheVariants.{SubtractConstant, SubtractGlobal, SubtractLocal}
use Rattle.ss_program.specs.declared.op.Op.TheVariants.{SubtractScaledGlobal, SubtractScaledLocal}
use Rattle.ss_program.specs.declared.op.Op.TheVariants.{SubtractAttributeGlobal, SubtractAttributeLocal}
use Rattle.ss_program.specs.declared.op.Op.TheVariants.{MultiplyConstant, MultiplyGlobal, MultiplyLocal}
use Rattle.ss_program.specs.declared.op.Op.TheVariants.{DivideConstant, RemainderConstant, Negate, Absolute}

-- a number as a constant, if it is in range
abbrev pub constant_of : ℕ → Option ℤ
constant_of n = if in_range (pos n) then Some (pos n) else None

-- the factor of a term, if the term is one factor only
abbrev pub lone_factor : Term → Option Factor
lone_factor (term f no_products) = Some f
lone_factor (term f (product g ps)) = None

-- the factor of an expression, if the expression is one factor only
abbrev pub factor_alone : Expr → Option Factor
factor_alone (expr None t no_sums) = lone_factor t
factor_alone (expr None t (sum s u ss)) = None
factor_alone (expr (Some s) t ss) = None

-- the constant that a factor is, if it is one
abbrev pub constant_factor : Factor → Option ℤ
constant_factor (digits n) = constant_of n
constant_factor _ = None

-- the variable that a factor is, if it is one
abbrev pub variable_factor : Factor → Option Variable
variable_factor (variable x) = Some x
variable_factor _ = None

-- the constant of an expression, if the expression is one constant only
abbrev pub constant_in : Expr → Option ℤ
constant_in e = option_and_then constant_factor (factor_alone e)

-- the variable of an expression, if the expression is one variable only
abbrev pub variable_in : Expr → Option Variable
variable_in e = option_and_then variable_factor (factor_alone e)

-- the variable of a subscript, if the subscript is one variable only
abbrev pub subscript_variable : Subscript → Option Variable
subscript_variable (implied i) = Some (Global i)
subscript_variable of_system = None
subscript_variable (at e) = variable_in e

-- the operation that loads a variable
abbrev pub load_op : Variable → Op
load_op (Global i) = LoadGlobal i
load_op (Local i) = LoadLocal i
load_op Clock = LoadClock

-- the operation that adds or subtracts a constant
abbrev pub constant_op : TermSign → ℤ → Op
constant_op Plus c = AddConstant c
constant_op Minus c = SubtractConstant c

-- the one that adds or subtracts a variable
abbrev pub variable_op : TermSign → Variable → Option Op
variable_op Plus (Global i) = Some (AddGlobal i)
variable_op Plus (Local i) = Some (AddLocal i)
variable_op Minus (Global i) = Some (SubtractGlobal i)
variable_op Minus (Local i) = Some (SubtractLocal i)
variable_op Plus Clock = None
variable_op Minus Clock = None

-- the one that adds or subtracts a constant times a variable
abbrev pub scaled_op : TermSign → ℤ → Variable → Option Op
scaled_op Plus c (Global i) = Some (AddScaledGlobal c i)
scaled_op Plus c (Local i) = Some (AddScaledLocal c i)
scaled_op Minus c (Global i) = Some (SubtractScaledGlobal c i)
scaled_op Minus c (Local i) = Some (SubtractScaledLocal c i)
scaled_op Plus c Clock = None
scaled_op Minus c Clock = None

-- the one that adds or subtracts an attribute of the entity that a variable names
abbrev pub attribute_op : TermSign → ℕ → ℕ → Variable → Option Op
attribute_op Plus c a (Global i) = Some (AddAttributeGlobal c a i)
attribute_op Plus c a (Local i) = Some (AddAttributeLocal c a i)
attribute_op Minus c a (Global i) = Some (SubtractAttributeGlobal c a i)
attribute_op Minus c a (Local i) = Some (SubtractAttributeLocal c a i)
attribute_op Plus c a Clock = None
attribute_op Minus c a Clock = None

-- the operation of a further term that is one factor only
abbrev pub lone_term_op : TermSign → Factor → Option Op
lone_term_op s (digits n) = option_map (constant_op s) (constant_of n)
lone_term_op s (variable x) = variable_op s x
lone_term_op s (attribute c a i) = option_and_then (attribute_op s c a) (subscript_variable i)
lone_term_op s _ = None

-- the one of a further term that is two factors: a constant times a variable
abbrev pub pair_term_op : TermSign → Factor → Factor → Option Op
pair_term_op s f g = option_and_then (λ c. option_and_then (scaled_op s c) (variable_factor g)) (constant_factor f)

-- the one of a further term
abbrev pub term_op : TermSign → Term → Option Op
term_op s (term f no_products) = lone_term_op s f
term_op s (term f (product g no_products)) = pair_term_op s f g
term_op s (term f (product g (product h ps))) = None

-- the one that multiplies by a variable
abbrev pub product_op : Variable → Option Op
product_op (Global i) = Some (MultiplyGlobal i)
product_op (Local i) = Some (MultiplyLocal i)
product_op Clock = None

-- the one of a further factor
abbrev pub factor_op : Factor → Option Op
factor_op (digits n) = option_map MultiplyConstant (constant_of n)
factor_op (variable x) = product_op x
factor_op _ = None

-- operations, and those of the further terms after them
abbrev pub sums_onto : List Op → Sums → Option (List Op)
sums_onto code no_sums = Some code
sums_onto code (sum s t ss) = option_and_then (λ op. sums_onto (code ++ op ∷ []) ss) (term_op s t)

-- operations, and those of the further factors after them
abbrev pub products_onto : List Op → Products → Option (List Op)
products_onto code no_products = Some code
products_onto code (product f ps) = option_and_then (λ op. products_onto (code ++ op ∷ []) ps) (factor_op f)

-- operations, and that of the sign at the head after them
abbrev pub signed_onto : List Op → Option TermSign → List Op
signed_onto code None = code
signed_onto code (Some Plus) = code
signed_onto code (Some Minus) = code ++ Negate ∷ []

-- the operations of a tree, if it is linear
abbrev mutual
  -- of an expression
  pub lowered : Expr → Option (List Op)
  lowered (expr l t ss) = option_and_then (λ code. sums_onto (signed_onto code l) ss) (lowered_term t)

  -- of a term
  pub lowered_term : Term → Option (List Op)
  lowered_term (term f ps) = option_and_then (λ code. products_onto code ps) (lowered_factor f)

  -- of a factor
  pub lowered_factor : Factor → Option (List Op)
  lowered_factor (digits n) = option_map (λ c. LoadConstant c ∷ []) (constant_of n)
  lowered_factor (variable x) = Some (load_op x ∷ [])
  lowered_factor (absolute e) = option_map (λ code. code ++ Absolute ∷ []) (lowered e)
  lowered_factor (attribute c a i) = option_map (λ code. code ++ LoadAttribute c a ∷ []) (lowered_subscript i)
  lowered_factor (quotient e f) =
      option_and_then (λ c. option_map (λ code. code ++ DivideConstant c ∷ []) (lowered e)) (constant_in f)
  lowered_factor (remainder e f) =
      option_and_then (λ c. option_map (λ code. code ++ RemainderConstant c ∷ []) (lowered e)) (constant_in f)
  lowered_factor (within e) = lowered e
  lowered_factor _ = None

  -- of a subscript
  pub lowered_subscript : Subscript → Option (List Op)
  lowered_subscript (implied i) = Some (LoadGlobal i ∷ [])
  lowered_subscript of_system = None
  lowered_subscript (at e) = lowered e

-- the operations, if the tree is linear
abbrev pub if_linear : Bool → List Op → Option (List Op)
if_linear true code = Some code
if_linear false _ = None

-- whether an expression is a single number or variable; its tree is read faster than an operation
abbrev pub is_plain : Expr → Bool
is_plain e = is_some (constant_in e) || is_some (variable_in e)

-- the operations that are kept of an expression: those of a linear one that is not plain, else none
abbrev pub code_of : Expr → List Op
code_of e = if is_plain e then [] else unwrap_or (lowered e) []
