-- A condition that names no local variable can be evaluated in every section.
use Rattle.std.proofs.Common.{◌≡◌, ℕ, Bool, true, false, ◌||◌, refl, sym, subst}
use Rattle.ss_program.specs.declared.variable.Variable.{Variable as AVariable}
use Rattle.ss_program.specs.declared.variable.Variable.TheVariants.{Global, Local, Clock}
use Rattle.ss_program.specs.declared.target.SetRef.{SetRef}
use Rattle.ss_program.specs.Program.{ProgramTable}
use Rattle.ss_program.specs.ProgramExpr.{Expr, expr, Sums, no_sums, sum, Term, term, Products, no_products, product}
use Rattle.ss_program.specs.ProgramExpr.{Factor, digits, variable, absolute, greatest, least, quotient, remainder}
use Rattle.ss_program.specs.ProgramExpr.{attribute, owner_kept, member_kept, within, Subscript, implied, of_system, at}
use Rattle.ss_program.specs.ProgramExpr.{Exprs, no_exprs, exprs}
use Rattle.ss_program.specs.ProgramCondition.{Condition, any, Conjunctions, no_conjunctions, or_else, Conjunction, all}
use Rattle.ss_program.specs.ProgramCondition.{Relations, no_relations, and_also, Relation, compared, is_empty, is_in}
use Rattle.ss_program.specs.ProgramCondition.{nested}
use Rattle.ss_program.specs.ProgramSound.{Scope, IsSoundVariable, IsSoundExpr, IsSoundSums, IsSoundTerm, IsSoundProducts}
use Rattle.ss_program.specs.ProgramSound.{IsSoundFactor, IsSoundSubscript, AreSoundArguments, IsSoundSetRef}
use Rattle.ss_program.specs.ProgramSound.{IsSoundCondition, AreSoundConjunctions, IsSoundConjunction, AreSoundRelations}
use Rattle.ss_program.specs.ProgramSound.{IsSoundRelation, scope_in}
use Rattle.ss_expressions.specs.LocalNames.{is_local, expr_names_local, sums_name_local, term_names_local}
use Rattle.ss_expressions.specs.LocalNames.{products_name_local, factor_names_local, subscript_names_local}
use Rattle.ss_expressions.specs.LocalNames.{exprs_name_local, set_names_local, names_local, conjunctions_name_local}
use Rattle.ss_expressions.specs.LocalNames.{conjunction_names_local, relations_name_local, relation_names_local}

-- neither part is true if both together are not
left : (a b : Bool) → (a || b) ≡ false → a ≡ false
left false b h = refl
left true b h = absurd (cc)

right : (a b : Bool) → (a || b) ≡ false → b ≡ false
right false b h = h
right true b h = absurd (cc)

-- the same tables, with another number of local variables
abbrev with_locals : Scope → ℕ → Scope
with_locals sc n = record { globals = sc.globals; locals = n; permanent = sc.permanent; sets = sc.sets }

variable_anywhere : (sc : Scope) (n : ℕ) (x : AVariable) → is_local x ≡ false → IsSoundVariable sc x →
    IsSoundVariable (with_locals sc n) x
variable_anywhere sc n (Global i) e h = h
variable_anywhere sc n (Local i) e h = absurd (cc)
variable_anywhere sc n Clock e h = h

mutual
  expr_anywhere : (sc : Scope) (n : ℕ) (x : Expr) → expr_names_local x ≡ false → IsSoundExpr sc x →
      IsSoundExpr (with_locals sc n) x
  expr_anywhere sc n (expr l t ss) e h = (
    term_anywhere sc n t (left (term_names_local t) (sums_name_local ss) e) h.0,
    sums_anywhere sc n ss (right (term_names_local t) (sums_name_local ss) e) h.1,
  )

  sums_anywhere : (sc : Scope) (n : ℕ) (x : Sums) → sums_name_local x ≡ false → IsSoundSums sc x →
      IsSoundSums (with_locals sc n) x
  sums_anywhere sc n no_sums e h = h
  sums_anywhere sc n (sum s t ss) e h = (
    term_anywhere sc n t (left (term_names_local t) (sums_name_local ss) e) h.0,
    sums_anywhere sc n ss (right (term_names_local t) (sums_name_local ss) e) h.1,
  )

  term_anywhere : (sc : Scope) (n : ℕ) (x : Term) → term_names_local x ≡ false → IsSoundTerm sc x →
      IsSoundTerm (with_locals sc n) x
  term_anywhere sc n (term f ps) e h = (
    factor_anywhere sc n f (left (factor_names_local f) (products_name_local ps) e) h.0,
    products_anywhere sc n ps (right (factor_names_local f) (products_name_local ps) e) h.1,
  )

  products_anywhere : (sc : Scope) (n : ℕ) (x : Products) → products_name_local x ≡ false → IsSoundProducts sc x →
      IsSoundProducts (with_locals sc n) x
  products_anywhere sc n no_products e h = h
  products_anywhere sc n (product f ps) e h = (
    factor_anywhere sc n f (left (factor_names_local f) (products_name_local ps) e) h.0,
    products_anywhere sc n ps (right (factor_names_local f) (products_name_local ps) e) h.1,
  )

  factor_anywhere : (sc : Scope) (n : ℕ) (x : Factor) → factor_names_local x ≡ false → IsSoundFactor sc x →
      IsSoundFactor (with_locals sc n) x
  factor_anywhere sc n (digits k) e h = h
  factor_anywhere sc n (variable x) e h = variable_anywhere sc n x e h
  factor_anywhere sc n (absolute x) e h = expr_anywhere sc n x e h
  factor_anywhere sc n (greatest x xs) e h = (
    expr_anywhere sc n x (left (expr_names_local x) (exprs_name_local xs) e) h.0,
    exprs_anywhere sc n xs (right (expr_names_local x) (exprs_name_local xs) e) h.1,
  )
  factor_anywhere sc n (least x xs) e h = (
    expr_anywhere sc n x (left (expr_names_local x) (exprs_name_local xs) e) h.0,
    exprs_anywhere sc n xs (right (expr_names_local x) (exprs_name_local xs) e) h.1,
  )
  factor_anywhere sc n (quotient x y) e h = (
    expr_anywhere sc n x (left (expr_names_local x) (expr_names_local y) e) h.0,
    expr_anywhere sc n y (right (expr_names_local x) (expr_names_local y) e) h.1,
  )
  factor_anywhere sc n (remainder x y) e h = (
    expr_anywhere sc n x (left (expr_names_local x) (expr_names_local y) e) h.0,
    expr_anywhere sc n y (right (expr_names_local x) (expr_names_local y) e) h.1,
  )
  factor_anywhere sc n (attribute c a i) e h = (h.0, subscript_anywhere sc n i e h.1)
  factor_anywhere sc n (owner_kept kept s i) e h = (h.0, subscript_anywhere sc n i e h.1)
  factor_anywhere sc n (member_kept kept s i) e h = (h.0, subscript_anywhere sc n i e h.1)
  factor_anywhere sc n (within x) e h = expr_anywhere sc n x e h

  subscript_anywhere : (sc : Scope) (n : ℕ) (x : Subscript) → subscript_names_local x ≡ false → IsSoundSubscript sc x →
      IsSoundSubscript (with_locals sc n) x
  subscript_anywhere sc n (implied v) e h = h
  subscript_anywhere sc n of_system e h = h
  subscript_anywhere sc n (at x) e h = expr_anywhere sc n x e h

  exprs_anywhere : (sc : Scope) (n : ℕ) (x : Exprs) → exprs_name_local x ≡ false → AreSoundArguments sc x →
      AreSoundArguments (with_locals sc n) x
  exprs_anywhere sc n no_exprs e h = h
  exprs_anywhere sc n (exprs x xs) e h = (
    expr_anywhere sc n x (left (expr_names_local x) (exprs_name_local xs) e) h.0,
    exprs_anywhere sc n xs (right (expr_names_local x) (exprs_name_local xs) e) h.1,
  )

set_anywhere : (sc : Scope) (n : ℕ) (x : SetRef) → set_names_local x ≡ false → IsSoundSetRef sc x →
    IsSoundSetRef (with_locals sc n) x
set_anywhere sc n x e h = (h.0, subscript_anywhere sc n x.owner e h.1)

mutual
  condition_anywhere : (sc : Scope) (n : ℕ) (x : Condition) → names_local x ≡ false → IsSoundCondition sc x →
      IsSoundCondition (with_locals sc n) x
  condition_anywhere sc n (any c cs) e h = (
    conjunction_anywhere sc n c (left (conjunction_names_local c) (conjunctions_name_local cs) e) h.0,
    conjunctions_anywhere sc n cs (right (conjunction_names_local c) (conjunctions_name_local cs) e) h.1,
  )

  conjunctions_anywhere : (sc : Scope) (n : ℕ) (x : Conjunctions) → conjunctions_name_local x ≡ false →
      AreSoundConjunctions sc x → AreSoundConjunctions (with_locals sc n) x
  conjunctions_anywhere sc n no_conjunctions e h = h
  conjunctions_anywhere sc n (or_else c cs) e h = (
    conjunction_anywhere sc n c (left (conjunction_names_local c) (conjunctions_name_local cs) e) h.0,
    conjunctions_anywhere sc n cs (right (conjunction_names_local c) (conjunctions_name_local cs) e) h.1,
  )

  conjunction_anywhere : (sc : Scope) (n : ℕ) (x : Conjunction) → conjunction_names_local x ≡ false →
      IsSoundConjunction sc x → IsSoundConjunction (with_locals sc n) x
  conjunction_anywhere sc n (all r rs) e h = (
    relation_anywhere sc n r (left (relation_names_local r) (relations_name_local rs) e) h.0,
    relations_anywhere sc n rs (right (relation_names_local r) (relations_name_local rs) e) h.1,
  )

  relations_anywhere : (sc : Scope) (n : ℕ) (x : Relations) → relations_name_local x ≡ false → AreSoundRelations sc x →
      AreSoundRelations (with_locals sc n) x
  relations_anywhere sc n no_relations e h = h
  relations_anywhere sc n (and_also r rs) e h = (
    relation_anywhere sc n r (left (relation_names_local r) (relations_name_local rs) e) h.0,
    relations_anywhere sc n rs (right (relation_names_local r) (relations_name_local rs) e) h.1,
  )

  relation_anywhere : (sc : Scope) (n : ℕ) (x : Relation) → relation_names_local x ≡ false → IsSoundRelation sc x →
      IsSoundRelation (with_locals sc n) x
  relation_anywhere sc n (compared x c y) e h = (
    expr_anywhere sc n x (left (expr_names_local x) (expr_names_local y) e) h.0,
    expr_anywhere sc n y (right (expr_names_local x) (expr_names_local y) e) h.1,
  )
  relation_anywhere sc n (is_empty r is) e h = set_anywhere sc n r e h
  relation_anywhere sc n (is_in x is r) e h = (
    expr_anywhere sc n x (left (expr_names_local x) (set_names_local r) e) h.0,
    set_anywhere sc n r (right (expr_names_local x) (set_names_local r) e) h.1,
  )
  relation_anywhere sc n (nested c) e h = condition_anywhere sc n c e h

-- a condition that names no local variable is sound in another section, too
pub elsewhere : (p : ProgramTable) (q r : ℕ) (c : Condition) → names_local c ≡ false →
    IsSoundCondition (scope_in p q) c → IsSoundCondition (scope_in p r) c
elsewhere p q r c e h = condition_anywhere (scope_in p q) (scope_in p r).locals c e h

-- where a condition may be evaluated: in its section, or, if it names no local variable, in every one
pub in_its_section : (p : ProgramTable) (q r : ℕ) (c : Condition) → r ≡ q → IsSoundCondition (scope_in p q) c →
    IsSoundCondition (scope_in p r) c
in_its_section p q r c e h = subst (λ (n : ℕ). IsSoundCondition (scope_in p n) c) (sym e) h

-- so is an expression
pub expression_elsewhere : (p : ProgramTable) (q r : ℕ) (x : Expr) → expr_names_local x ≡ false →
    IsSoundExpr (scope_in p q) x → IsSoundExpr (scope_in p r) x
expression_elsewhere p q r x e h = expr_anywhere (scope_in p q) (scope_in p r).locals x e h
