-- The operations of an expression give its value, or its fault.
use Rattle.std.proofs.Common.{◌≡◌, ℕ, ℤ, pos, ◌*ℤ◌, List, [], ◌∷◌, ◌++◌, refl, sym, ap, subst, ◌∙◌}
use Rattle.std.specs.Prelude.{◌≢◌, Option, Some, None, IfSome, Result, Ok, Err, Bool, true, false, unwrap_or}
use Rattle.std.specs.Prelude.{if◌then◌else◌}
use Rattle.std.proofs.lemmas.Option.{IfSome_then}
use Rattle.ss_words.specs.declared.fault.RunFault.TheVariants.{OutOfRange}
use Rattle.ss_words.specs.Ranges.{in_range}
use Rattle.ss_words.specs.declared.fault.RunFault.{RunFault}
use Rattle.ss_words.specs.declared.terms.TermSign.{TermSign}
use Rattle.ss_words.specs.declared.terms.TermSign.TheVariants.{Plus, Minus}
use Rattle.ss_program.specs.declared.variable.Variable.{Variable}
use Rattle.ss_program.specs.declared.variable.Variable.TheVariants.{Global, Local, Clock}
use Rattle.ss_program.specs.declared.op.Op.{Op}
use Rattle.ss_program.specs.declared.op.Op.TheVariants.{LoadAttribute, Negate, Absolute, DivideConstant}
use Rattle.ss_program.specs.declared.op.Op.TheVariants.{RemainderConstant}
use Rattle.ss_program.specs.ProgramExpr.{Expr, expr, Sums, no_sums, sum, Term, term, Products, no_products, product}
use Rattle.ss_program.specs.ProgramExpr.{Factor, digits, variable, absolute, quotient, remainder}
use Rattle.ss_program.specs.ProgramExpr.{attribute, within, Subscript, implied, of_system, at}
use Rattle.ss_program.specs.Lowering.{constant_of, lone_factor, factor_alone, constant_factor, variable_factor}
use Rattle.ss_program.specs.Lowering.{constant_in, variable_in, subscript_variable, load_op, constant_op, variable_op}
use Rattle.ss_program.specs.Lowering.{scaled_op, attribute_op, lone_term_op, pair_term_op, term_op, product_op}
use Rattle.ss_program.specs.Lowering.{factor_op, sums_onto, products_onto, signed_onto, lowered, lowered_term}
use Rattle.ss_program.specs.Lowering.{lowered_factor, lowered_subscript, is_plain, code_of}
use Rattle.ss_store.specs.Store.{number_of, attribute_of}
use Rattle.ss_values.specs.Faults.{◌>>=◌}
use Rattle.ss_values.specs.Values.{Readings, result_in_range, with_sign, sum_or_difference, value_of, sums_value}
use Rattle.ss_values.specs.Values.{term_value, products_value, factor_value, subscript_value, variable_value}
use Rattle.ss_values.specs.Values.{quotient_value, remainder_value}
use Rattle.ss_values.specs.Running.{acted, run}
use Rattle.ss_values.proofs.Options.{then_holds, map_holds, is_held}

-- ---- steps after values that were read

-- one after the other
bind_assoc : (r : Result ℤ RunFault) (f g : ℤ → Result ℤ RunFault) → ((r >>= f) >>= g) ≡ (r >>= λ x. f x >>= g)
bind_assoc (Ok x) f g = refl
bind_assoc (Err e) f g = refl

-- nothing after it
bind_ok : (r : Result ℤ RunFault) → (r >>= λ x. Ok x) ≡ r
bind_ok (Ok x) = refl
bind_ok (Err e) = refl

-- the same after it
bind_same : (r : Result ℤ RunFault) {f g : ℤ → Result ℤ RunFault} → ((x : ℤ) → f x ≡ g x) → (r >>= f) ≡ (r >>= g)
bind_same (Ok x) same = same x
bind_same (Err e) same = refl

-- one operation more
run-snoc : (v : Readings) (x : ℤ) (code : List Op) (op : Op) → run v x (code ++ op ∷ []) ≡ (run v x code >>= acted v op)
run-snoc v x [] op = bind_ok (acted v op x)
run-snoc v x (o ∷ code) op =
    bind_same (acted v o x) (λ y. run-snoc v y code op) ∙ sym (bind_assoc (acted v o x) (λ y. run v y code) (acted v op))

-- ---- constants and variables

-- a constant is the value of its number
constant_is : (n : ℕ) → IfSome (constant_of n) (λ c. result_in_range (pos n) ≡ Ok c)
constant_is n = go (in_range (pos n))
  where
    go : (b : Bool) → IfSome (if b then Some (pos n) else None) (λ c. (if b then Ok (pos n) else Err OutOfRange) ≡ Ok c)
    go true = refl
    go false = tt

-- a term of one factor only has the value of the factor
lone_factor_is : (v : Readings) (t : Term) → IfSome (lone_factor t) (λ f. term_value v t ≡ factor_value v f)
lone_factor_is v (term f no_products) = bind_ok (factor_value v f)
lone_factor_is v (term f (product g ps)) = tt

-- and the expression's
factor_alone_is : (v : Readings) (e : Expr) → IfSome (factor_alone e) (λ f. value_of v e ≡ factor_value v f)
factor_alone_is v (expr None t no_sums) =
    IfSome_then (lone_factor t) (lone_factor_is v t) (λ f is. bind_ok (term_value v t) ∙ is)
factor_alone_is v (expr None t (sum s u ss)) = tt
factor_alone_is v (expr (Some s) t ss) = tt

-- a factor that is a constant
constant_factor_is : (v : Readings) (f : Factor) → IfSome (constant_factor f) (λ c. factor_value v f ≡ Ok c)
constant_factor_is v (digits n) = constant_is n
constant_factor_is v _ = tt

-- a factor that is a variable
variable_factor_is : (v : Readings) (f : Factor)
    → IfSome (variable_factor f) (λ y. factor_value v f ≡ Ok (variable_value v y))
variable_factor_is v (variable y) = refl
variable_factor_is v _ = tt

-- an expression that is a constant
constant_in_is : (v : Readings) (e : Expr) → IfSome (constant_in e) (λ c. value_of v e ≡ Ok c)
constant_in_is v e =
    then_holds _ _ _ (factor_alone e) (factor_alone_is v e)
    (λ f alone. IfSome_then (constant_factor f) (constant_factor_is v f) (λ c is. alone ∙ is))

-- an expression that is a variable
variable_in_is : (v : Readings) (e : Expr) → IfSome (variable_in e) (λ y. value_of v e ≡ Ok (variable_value v y))
variable_in_is v e =
    then_holds _ _ _ (factor_alone e) (factor_alone_is v e)
    (λ f alone. IfSome_then (variable_factor f) (variable_factor_is v f) (λ y is. alone ∙ is))

-- a subscript that is a variable
subscript_variable_is : (v : Readings) (i : Subscript)
    → IfSome (subscript_variable i) (λ y. subscript_value v i ≡ Ok (variable_value v y))
subscript_variable_is v (implied i) = refl
subscript_variable_is v of_system = tt
subscript_variable_is v (at e) = variable_in_is v e

-- ---- further terms

-- a constant
law_constant_op : (v : Readings) (s : TermSign) (c x : ℤ) → acted v (constant_op s c) x ≡ sum_or_difference s x c
law_constant_op v Plus c x = refl
law_constant_op v Minus c x = refl

-- a variable
law_variable_op : (v : Readings) (s : TermSign) (y : Variable)
    → IfSome (variable_op s y) (λ op. (x : ℤ) → acted v op x ≡ sum_or_difference s x (variable_value v y))
law_variable_op v Plus (Global i) = λ x. refl
law_variable_op v Plus (Local i) = λ x. refl
law_variable_op v Plus Clock = tt
law_variable_op v Minus (Global i) = λ x. refl
law_variable_op v Minus (Local i) = λ x. refl
law_variable_op v Minus Clock = tt

-- a constant times a variable
law_scaled_op : (v : Readings) (s : TermSign) (c : ℤ) (y : Variable)
    → IfSome (scaled_op s c y) (λ op. (x : ℤ) → acted v op x
    ≡ (result_in_range (c *ℤ variable_value v y) >>= λ z. sum_or_difference s x z))
law_scaled_op v Plus c (Global i) = λ x. refl
law_scaled_op v Plus c (Local i) = λ x. refl
law_scaled_op v Plus c Clock = tt
law_scaled_op v Minus c (Global i) = λ x. refl
law_scaled_op v Minus c (Local i) = λ x. refl
law_scaled_op v Minus c Clock = tt

-- an attribute of the entity that a variable names
law_attribute_op : (v : Readings) (s : TermSign) (c a : ℕ) (y : Variable)
    → IfSome (attribute_op s c a y) (λ op. (x : ℤ) → acted v op x
    ≡ (attribute_of v.store c a (number_of (variable_value v y)) >>= λ z. sum_or_difference s x z))
law_attribute_op v Plus c a (Global i) = λ x. refl
law_attribute_op v Plus c a (Local i) = λ x. refl
law_attribute_op v Plus c a Clock = tt
law_attribute_op v Minus c a (Global i) = λ x. refl
law_attribute_op v Minus c a (Local i) = λ x. refl
law_attribute_op v Minus c a Clock = tt

-- a term of one factor only
law_lone_term_op : (v : Readings) (s : TermSign) (f : Factor)
    → IfSome (lone_term_op s f) (λ op. (x : ℤ) → acted v op x ≡ (factor_value v f >>= λ y. sum_or_difference s x y))
law_lone_term_op v s (digits n) =
    map_holds _ _ _ (constant_of n) (constant_is n)
    (λ c is x. law_constant_op v s c x ∙ ap (λ r. r >>= λ y. sum_or_difference s x y) (sym is))
law_lone_term_op v s (variable y) = law_variable_op v s y
law_lone_term_op v s (attribute c a i) =
    then_holds _ _ _ (subscript_variable i) (subscript_variable_is v i)
    (λ y is. IfSome_then (attribute_op s c a y) (law_attribute_op v s c a y)
    (λ op same x. same x
    ∙ ap (λ r. (r >>= λ z. attribute_of v.store c a (number_of z)) >>= λ z. sum_or_difference s x z) (sym is)))
law_lone_term_op v s _ = tt

-- two factors
law_pair_term_op : (v : Readings) (s : TermSign) (f g : Factor)
    → IfSome (pair_term_op s f g) (λ op. (x : ℤ) → acted v op x
    ≡ ((factor_value v f >>= λ c. factor_value v g >>= λ y. result_in_range (c *ℤ y))
    >>= λ z. sum_or_difference s x z))
law_pair_term_op v s f g =
    then_holds _ _ _ (constant_factor f) (constant_factor_is v f)
    (λ c first. then_holds _ _ _ (variable_factor g) (variable_factor_is v g)
    (λ y second. IfSome_then (scaled_op s c y) (law_scaled_op v s c y)
    (λ op same x. same x ∙ ap (λ r. r >>= λ z. sum_or_difference s x z)
    (sym (ap (λ r. r >>= λ b. factor_value v g >>= λ z. result_in_range (b *ℤ z)) first
    ∙ ap (λ r. r >>= λ z. result_in_range (c *ℤ z)) second)))))

-- any
law_term_op : (v : Readings) (s : TermSign) (t : Term)
    → IfSome (term_op s t) (λ op. (x : ℤ) → acted v op x ≡ (term_value v t >>= λ y. sum_or_difference s x y))
law_term_op v s (term f no_products) =
    IfSome_then (lone_term_op s f) (law_lone_term_op v s f)
    (λ op same x. same x ∙ ap (λ r. r >>= λ y. sum_or_difference s x y) (sym (bind_ok (factor_value v f))))
law_term_op v s (term f (product g no_products)) =
    IfSome_then (pair_term_op s f g) (law_pair_term_op v s f g)
    (λ op same x. same x ∙ ap (λ r. r >>= λ y. sum_or_difference s x y)
    (sym (bind_same (factor_value v f)
    (λ c. bind_same (factor_value v g) (λ y. bind_ok (result_in_range (c *ℤ y)))))))
law_term_op v s (term f (product g (product h ps))) = tt

-- those of a sum
law_sums : (v : Readings) (code : List Op) (ss : Sums)
    → IfSome (sums_onto code ss) (λ c. (x : ℤ) → run v x c ≡ (run v x code >>= λ y. sums_value v y ss))
law_sums v code no_sums = λ x. sym (bind_ok (run v x code))
law_sums v code (sum s t ss) =
    then_holds _ _ _ (term_op s t) (law_term_op v s t)
    (λ op is. IfSome_then (sums_onto (code ++ op ∷ []) ss) (law_sums v (code ++ op ∷ []) ss)
    (λ c same x. same x
    ∙ ap (λ r. r >>= λ y. sums_value v y ss) (run-snoc v x code op)
    ∙ bind_assoc (run v x code) (acted v op) (λ y. sums_value v y ss)
    ∙ bind_same (run v x code) (λ y. ap (λ r. r >>= λ z. sums_value v z ss) (is y)
    ∙ bind_assoc (term_value v t) (λ z. sum_or_difference s y z) (λ z. sums_value v z ss))))

-- ---- further factors

-- a variable
law_product_op : (v : Readings) (y : Variable)
    → IfSome (product_op y) (λ op. (x : ℤ) → acted v op x ≡ result_in_range (x *ℤ variable_value v y))
law_product_op v (Global i) = λ x. refl
law_product_op v (Local i) = λ x. refl
law_product_op v Clock = tt

-- any
law_factor_op : (v : Readings) (f : Factor)
    → IfSome (factor_op f) (λ op. (x : ℤ) → acted v op x ≡ (factor_value v f >>= λ y. result_in_range (x *ℤ y)))
law_factor_op v (digits n) =
    map_holds _ _ _ (constant_of n) (constant_is n) (λ c is x. ap (λ r. r >>= λ y. result_in_range (x *ℤ y)) (sym is))
law_factor_op v (variable y) = law_product_op v y
law_factor_op v _ = tt

-- those of a term
law_products : (v : Readings) (code : List Op) (ps : Products)
    → IfSome (products_onto code ps) (λ c. (x : ℤ) → run v x c ≡ (run v x code >>= λ y. products_value v y ps))
law_products v code no_products = λ x. sym (bind_ok (run v x code))
law_products v code (product f ps) =
    then_holds _ _ _ (factor_op f) (law_factor_op v f)
    (λ op is. IfSome_then (products_onto (code ++ op ∷ []) ps) (law_products v (code ++ op ∷ []) ps)
    (λ c same x. same x
    ∙ ap (λ r. r >>= λ y. products_value v y ps) (run-snoc v x code op)
    ∙ bind_assoc (run v x code) (acted v op) (λ y. products_value v y ps)
    ∙ bind_same (run v x code) (λ y. ap (λ r. r >>= λ z. products_value v z ps) (is y)
    ∙ bind_assoc (factor_value v f) (λ z. result_in_range (y *ℤ z)) (λ z. products_value v z ps))))

-- ---- trees

-- the sign at the head
law_signed : (v : Readings) (x : ℤ) (code : List Op) (l : Option TermSign)
    → run v x (signed_onto code l) ≡ (run v x code >>= with_sign l)
law_signed v x code None = sym (bind_ok (run v x code))
law_signed v x code (Some Plus) = sym (bind_ok (run v x code))
law_signed v x code (Some Minus) = run-snoc v x code Negate

-- a variable that is loaded
law_load : (v : Readings) (x : ℤ) (y : Variable) → run v x (load_op y ∷ []) ≡ Ok (variable_value v y)
law_load v x (Global i) = refl
law_load v x (Local i) = refl
law_load v x Clock = refl

mutual
  -- an expression: its value does not depend on the old value of the accumulator
  law_expr : (v : Readings) (e : Expr) → IfSome (lowered e) (λ c. (x : ℤ) → run v x c ≡ value_of v e)
  law_expr v (expr l t ss) =
      then_holds _ _ _ (lowered_term t) (law_lowered_term v t)
      (λ code is. IfSome_then (sums_onto (signed_onto code l) ss) (law_sums v (signed_onto code l) ss)
      (λ c same x. same x
      ∙ ap (λ r. r >>= λ y. sums_value v y ss) (law_signed v x code l
      ∙ ap (λ r. r >>= with_sign l) (is x))
      ∙ bind_assoc (term_value v t) (with_sign l) (λ y. sums_value v y ss)))

  -- a term
  law_lowered_term : (v : Readings) (t : Term) → IfSome (lowered_term t) (λ c. (x : ℤ) → run v x c ≡ term_value v t)
  law_lowered_term v (term f ps) =
      then_holds _ _ _ (lowered_factor f) (law_lowered_factor v f)
      (λ code is. IfSome_then (products_onto code ps) (law_products v code ps)
      (λ c same x. same x ∙ ap (λ r. r >>= λ y. products_value v y ps) (is x)))

  -- a factor
  law_lowered_factor : (v : Readings) (f : Factor)
      → IfSome (lowered_factor f) (λ c. (x : ℤ) → run v x c ≡ factor_value v f)
  law_lowered_factor v (digits n) = map_holds _ _ _ (constant_of n) (constant_is n) (λ c is x. sym is)
  law_lowered_factor v (variable y) = λ x. law_load v x y
  law_lowered_factor v (absolute e) =
      map_holds _ _ _ (lowered e) (law_expr v e)
      (λ code is x. run-snoc v x code Absolute ∙ ap (λ r. r >>= acted v Absolute) (is x))
  law_lowered_factor v (attribute c a i) =
      map_holds _ _ _ (lowered_subscript i) (law_subscript v i)
      (λ code is x. run-snoc v x code (LoadAttribute c a) ∙ ap (λ r. r >>= acted v (LoadAttribute c a)) (is x))
  law_lowered_factor v (quotient e f) =
      then_holds _ _ _ (constant_in f) (constant_in_is v f)
      (λ c is. map_holds _ _ _ (lowered e) (law_expr v e)
      (λ code same x. run-snoc v x code (DivideConstant c)
      ∙ ap (λ r. r >>= acted v (DivideConstant c)) (same x)
      ∙ bind_same (value_of v e) (λ y. ap (λ r. r >>= λ z. quotient_value y z) (sym is))))
  law_lowered_factor v (remainder e f) =
      then_holds _ _ _ (constant_in f) (constant_in_is v f)
      (λ c is. map_holds _ _ _ (lowered e) (law_expr v e)
      (λ code same x. run-snoc v x code (RemainderConstant c)
      ∙ ap (λ r. r >>= acted v (RemainderConstant c)) (same x)
      ∙ bind_same (value_of v e) (λ y. ap (λ r. r >>= λ z. remainder_value y z) (sym is))))
  law_lowered_factor v (within e) = law_expr v e
  law_lowered_factor v _ = tt

  -- a subscript
  law_subscript : (v : Readings) (i : Subscript)
      → IfSome (lowered_subscript i) (λ c. (x : ℤ) → run v x c ≡ subscript_value v i)
  law_subscript v (implied i) = λ x. refl
  law_subscript v of_system = tt
  law_subscript v (at e) = law_expr v e

-- operations that are kept are those of a linear expression
pub kept_is : (b : Bool) (o : Option (List Op))
    → (if b then [] else unwrap_or o []) ≢ [] → o ≡ Some (if b then [] else unwrap_or o [])
kept_is true o some = absurd (some refl)
kept_is false None some = absurd (some refl)
kept_is false (Some code) some = refl

-- the operations that are kept of an expression have its value
pub lowered_run : (v : Readings) (e : Expr) (code : List Op) (x : ℤ)
    → code ≡ code_of e → code ≢ [] → run v x code ≡ value_of v e
lowered_run v e code x is some =
    subst (λ c. c ≢ [] → run v x c ≡ value_of v e) (sym is)
    (λ kept. is_held _ (lowered e) (law_expr v e) (kept_is (is_plain e) (lowered e) kept) x) some
