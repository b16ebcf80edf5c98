-- The operations of a sound expression name only variables of the tables.
use Rattle.std.proofs.Common.{◌≡◌, ℕ, ℤ, List, [], ◌∷◌, ◌++◌, sym, subst, arith}
use Rattle.std.specs.Prelude.{Option, Some, None, IfSome, Bool, true, false, unwrap_or, if◌then◌else◌}
use Rattle.std.specs.List.{All}
use Rattle.std.proofs.lemmas.List.Elements.{All-cons, All-push}
use Rattle.ss_words.specs.declared.terms.TermSign.{TermSign}
use Rattle.ss_words.specs.declared.terms.TermSign.TheVariants.{Plus, Minus}
use Rattle.ss_program.specs.declared.variable.Variable.{Variable}
use Rattle.ss_program.specs.declared.variable.Variable.TheVariants.{Global, Local, Clock}
use Rattle.ss_program.specs.declared.op.Op.{Op}
use Rattle.ss_program.specs.declared.op.Op.TheVariants.{LoadConstant, LoadGlobal, LoadAttribute, Negate, Absolute}
use Rattle.ss_program.specs.declared.op.Op.TheVariants.{DivideConstant, RemainderConstant}
use Rattle.ss_program.specs.ProgramExpr.{Expr, expr, Sums, no_sums, sum, Term, term, Products, no_products, product}
use Rattle.ss_program.specs.ProgramExpr.{Factor, digits, variable, absolute, quotient, remainder}
use Rattle.ss_program.specs.ProgramExpr.{attribute, within, Subscript, implied, of_system, at}
use Rattle.ss_program.specs.ProgramSound.{Scope, IsSoundExpr, IsSoundTerm, IsSoundFactor, IsSoundSubscript}
use Rattle.ss_program.specs.ProgramSound.{IsSoundSums, IsSoundProducts, IsSoundVariable}
use Rattle.ss_program.specs.Lowering.{constant_of, lone_factor, factor_alone, constant_factor, variable_factor}
use Rattle.ss_program.specs.Lowering.{constant_in, variable_in, subscript_variable, load_op, constant_op, variable_op}
use Rattle.ss_program.specs.Lowering.{scaled_op, attribute_op, lone_term_op, pair_term_op, term_op, product_op}
use Rattle.ss_program.specs.Lowering.{factor_op, sums_onto, products_onto, signed_onto, lowered, lowered_term}
use Rattle.ss_program.specs.Lowering.{lowered_factor, lowered_subscript, is_plain, code_of}
use Rattle.ss_values.specs.Running.{IsSoundOp}
use Rattle.ss_values.proofs.Options.{then_holds, map_holds, always}

-- ---- lists of operations

-- none
sound_none : (sc : Scope) → All (IsSoundOp sc) []
sound_none sc k d below = absurd (omega (arith, below))

-- one only
sound_one : (sc : Scope) (op : Op) → IsSoundOp sc op → All (IsSoundOp sc) (op ∷ [])
sound_one sc op one = All-cons (IsSoundOp sc) op [] one (sound_none sc)

-- one more
sound-snoc : (sc : Scope) (code : List Op) (op : Op)
    → All (IsSoundOp sc) code → IsSoundOp sc op → All (IsSoundOp sc) (code ++ op ∷ [])
sound-snoc sc code op sound one = All-push (IsSoundOp sc) code op sound one

-- ---- variables

-- of the factor of a term of one factor only
lone_factor_sound : (sc : Scope) (t : Term) → IsSoundTerm sc t → IfSome (lone_factor t) (IsSoundFactor sc)
lone_factor_sound sc (term f no_products) sound = sound.0
lone_factor_sound sc (term f (product g ps)) sound = tt

-- of the factor of an expression of one factor only
factor_alone_sound : (sc : Scope) (e : Expr) → IsSoundExpr sc e → IfSome (factor_alone e) (IsSoundFactor sc)
factor_alone_sound sc (expr None t no_sums) sound = lone_factor_sound sc t sound.0
factor_alone_sound sc (expr None t (sum s u ss)) sound = tt
factor_alone_sound sc (expr (Some s) t ss) sound = tt

-- the one that a factor is
variable_factor_sound : (sc : Scope) (f : Factor) → IsSoundFactor sc f → IfSome (variable_factor f) (IsSoundVariable sc)
variable_factor_sound sc (variable y) sound = sound
variable_factor_sound sc _ sound = tt

-- the one that an expression is
variable_in_sound : (sc : Scope) (e : Expr) → IsSoundExpr sc e → IfSome (variable_in e) (IsSoundVariable sc)
variable_in_sound sc e sound =
    then_holds _ _ _ (factor_alone e) (factor_alone_sound sc e sound) (λ f one. variable_factor_sound sc f one)

-- the one that a subscript is
subscript_variable_sound : (sc : Scope) (i : Subscript)
    → IsSoundSubscript sc i → IfSome (subscript_variable i) (IsSoundVariable sc)
subscript_variable_sound sc (implied i) sound = sound
subscript_variable_sound sc of_system sound = tt
subscript_variable_sound sc (at e) sound = variable_in_sound sc e sound

-- ---- further terms

-- a constant
sound_constant_op : (sc : Scope) (s : TermSign) (c : ℤ) → IsSoundOp sc (constant_op s c)
sound_constant_op sc Plus c = tt
sound_constant_op sc Minus c = tt

-- a variable
sound_variable_op : (sc : Scope) (s : TermSign) (y : Variable)
    → IsSoundVariable sc y → IfSome (variable_op s y) (IsSoundOp sc)
sound_variable_op sc Plus (Global i) sound = sound
sound_variable_op sc Plus (Local i) sound = sound
sound_variable_op sc Plus Clock sound = tt
sound_variable_op sc Minus (Global i) sound = sound
sound_variable_op sc Minus (Local i) sound = sound
sound_variable_op sc Minus Clock sound = tt

-- a constant times a variable
sound_scaled_op : (sc : Scope) (s : TermSign) (c : ℤ) (y : Variable)
    → IsSoundVariable sc y → IfSome (scaled_op s c y) (IsSoundOp sc)
sound_scaled_op sc Plus c (Global i) sound = sound
sound_scaled_op sc Plus c (Local i) sound = sound
sound_scaled_op sc Plus c Clock sound = tt
sound_scaled_op sc Minus c (Global i) sound = sound
sound_scaled_op sc Minus c (Local i) sound = sound
sound_scaled_op sc Minus c Clock sound = tt

-- an attribute of the entity that a variable names
sound_attribute_op : (sc : Scope) (s : TermSign) (c a : ℕ) (y : Variable)
    → IsSoundVariable sc y → IfSome (attribute_op s c a y) (IsSoundOp sc)
sound_attribute_op sc Plus c a (Global i) sound = sound
sound_attribute_op sc Plus c a (Local i) sound = sound
sound_attribute_op sc Plus c a Clock sound = tt
sound_attribute_op sc Minus c a (Global i) sound = sound
sound_attribute_op sc Minus c a (Local i) sound = sound
sound_attribute_op sc Minus c a Clock sound = tt

-- a term of one factor only
sound_lone_term_op : (sc : Scope) (s : TermSign) (f : Factor)
    → IsSoundFactor sc f → IfSome (lone_term_op s f) (IsSoundOp sc)
sound_lone_term_op sc s (digits n) sound =
    map_holds _ _ _ (constant_of n) (always (constant_of n)) (λ c is. sound_constant_op sc s c)
sound_lone_term_op sc s (variable y) sound = sound_variable_op sc s y sound
sound_lone_term_op sc s (attribute c a i) sound =
    then_holds _ _ _ (subscript_variable i) (subscript_variable_sound sc i sound.1)
    (λ y one. sound_attribute_op sc s c a y one)
sound_lone_term_op sc s _ sound = tt

-- two factors
sound_pair_term_op : (sc : Scope) (s : TermSign) (f g : Factor)
    → IsSoundFactor sc g → IfSome (pair_term_op s f g) (IsSoundOp sc)
sound_pair_term_op sc s f g sound =
    then_holds _ (IsSoundOp sc) _ (constant_factor f) (always (constant_factor f))
    (λ c is. then_holds _ (IsSoundOp sc) _ (variable_factor g) (variable_factor_sound sc g sound)
    (λ y one. sound_scaled_op sc s c y one))

-- any
sound_term_op : (sc : Scope) (s : TermSign) (t : Term) → IsSoundTerm sc t → IfSome (term_op s t) (IsSoundOp sc)
sound_term_op sc s (term f no_products) sound = sound_lone_term_op sc s f sound.0
sound_term_op sc s (term f (product g no_products)) sound = sound_pair_term_op sc s f g sound.1.0
sound_term_op sc s (term f (product g (product h ps))) sound = tt

-- those of a sum
sound_sums : (sc : Scope) (code : List Op) (ss : Sums)
    → All (IsSoundOp sc) code → IsSoundSums sc ss → IfSome (sums_onto code ss) (All (IsSoundOp sc))
sound_sums sc code no_sums all sound = all
sound_sums sc code (sum s t ss) all sound =
    then_holds _ _ _ (term_op s t) (sound_term_op sc s t sound.0)
    (λ op one. sound_sums sc (code ++ op ∷ []) ss (sound-snoc sc code op all one) sound.1)

-- ---- further factors

-- a variable
sound_product_op : (sc : Scope) (y : Variable) → IsSoundVariable sc y → IfSome (product_op y) (IsSoundOp sc)
sound_product_op sc (Global i) sound = sound
sound_product_op sc (Local i) sound = sound
sound_product_op sc Clock sound = tt

-- any
sound_factor_op : (sc : Scope) (f : Factor) → IsSoundFactor sc f → IfSome (factor_op f) (IsSoundOp sc)
sound_factor_op sc (digits n) sound =
    map_holds _ (IsSoundOp sc) _ (constant_of n) (always (constant_of n)) (λ c is. tt)
sound_factor_op sc (variable y) sound = sound_product_op sc y sound
sound_factor_op sc _ sound = tt

-- those of a term
sound_products : (sc : Scope) (code : List Op) (ps : Products)
    → All (IsSoundOp sc) code → IsSoundProducts sc ps → IfSome (products_onto code ps) (All (IsSoundOp sc))
sound_products sc code no_products all sound = all
sound_products sc code (product f ps) all sound =
    then_holds _ _ _ (factor_op f) (sound_factor_op sc f sound.0)
    (λ op one. sound_products sc (code ++ op ∷ []) ps (sound-snoc sc code op all one) sound.1)

-- ---- trees

-- the sign at the head
sound_signed : (sc : Scope) (code : List Op) (l : Option TermSign)
    → All (IsSoundOp sc) code → All (IsSoundOp sc) (signed_onto code l)
sound_signed sc code None all = all
sound_signed sc code (Some Plus) all = all
sound_signed sc code (Some Minus) all = sound-snoc sc code Negate all tt

-- a variable that is loaded
sound_load : (sc : Scope) (y : Variable) → IsSoundVariable sc y → IsSoundOp sc (load_op y)
sound_load sc (Global i) sound = sound
sound_load sc (Local i) sound = sound
sound_load sc Clock sound = tt

mutual
  -- an expression
  sound_expr : (sc : Scope) (e : Expr) → IsSoundExpr sc e → IfSome (lowered e) (All (IsSoundOp sc))
  sound_expr sc (expr l t ss) sound =
      then_holds _ _ _ (lowered_term t) (sound_lowered_term sc t sound.0)
      (λ code all. sound_sums sc (signed_onto code l) ss (sound_signed sc code l all) sound.1)

  -- a term
  sound_lowered_term : (sc : Scope) (t : Term) → IsSoundTerm sc t → IfSome (lowered_term t) (All (IsSoundOp sc))
  sound_lowered_term sc (term f ps) sound =
      then_holds _ _ _ (lowered_factor f) (sound_lowered_factor sc f sound.0)
      (λ code all. sound_products sc code ps all sound.1)

  -- a factor
  sound_lowered_factor : (sc : Scope) (f : Factor) → IsSoundFactor sc f → IfSome (lowered_factor f) (All (IsSoundOp sc))
  sound_lowered_factor sc (digits n) sound =
      map_holds _ _ _ (constant_of n) (always (constant_of n)) (λ c is. sound_one sc (LoadConstant c) tt)
  sound_lowered_factor sc (variable y) sound = sound_one sc (load_op y) (sound_load sc y sound)
  sound_lowered_factor sc (absolute e) sound =
      map_holds _ _ _ (lowered e) (sound_expr sc e sound) (λ code all. sound-snoc sc code Absolute all tt)
  sound_lowered_factor sc (attribute c a i) sound =
      map_holds _ _ _ (lowered_subscript i) (sound_subscript sc i sound.1)
      (λ code all. sound-snoc sc code (LoadAttribute c a) all tt)
  sound_lowered_factor sc (quotient e f) sound =
      then_holds _ (All (IsSoundOp sc)) _ (constant_in f) (always (constant_in f))
      (λ c is. map_holds _ _ _ (lowered e) (sound_expr sc e sound.0)
      (λ code all. sound-snoc sc code (DivideConstant c) all tt))
  sound_lowered_factor sc (remainder e f) sound =
      then_holds _ (All (IsSoundOp sc)) _ (constant_in f) (always (constant_in f))
      (λ c is. map_holds _ _ _ (lowered e) (sound_expr sc e sound.0)
      (λ code all. sound-snoc sc code (RemainderConstant c) all tt))
  sound_lowered_factor sc (within e) sound = sound_expr sc e sound
  sound_lowered_factor sc _ sound = tt

  -- a subscript
  sound_subscript : (sc : Scope) (i : Subscript) → IsSoundSubscript sc i → IfSome (lowered_subscript i) (All (IsSoundOp sc))
  sound_subscript sc (implied i) sound = sound_one sc (LoadGlobal i) sound
  sound_subscript sc of_system sound = tt
  sound_subscript sc (at e) sound = sound_expr sc e sound

-- those that are kept
kept_sound : (sc : Scope) (b : Bool) (o : Option (List Op))
    → IfSome o (All (IsSoundOp sc)) → All (IsSoundOp sc) (if b then [] else unwrap_or o [])
kept_sound sc true o sound = sound_none sc
kept_sound sc false None sound = sound_none sc
kept_sound sc false (Some code) sound = sound

-- the operations that are kept of a sound expression are sound
pub lowered_sound : (sc : Scope) (e : Expr) (code : List Op)
    → code ≡ code_of e → IsSoundExpr sc e → All (IsSoundOp sc) code
lowered_sound sc e code is sound =
    subst (All (IsSoundOp sc)) (sym is) (kept_sound sc (is_plain e) (lowered e) (sound_expr sc e sound))
