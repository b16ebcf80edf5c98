-- The findings about expressions, targets and entities fit the results of their evaluation.
use Rattle.std.proofs.Common.{◌≡◌, ℕ, Bool, true, false, refl, sym}
use Rattle.std.proofs.Common.{subst, Option, Some, None, Result, Ok, Err}
use Rattle.std.specs.Prelude.{ℤ, pos, not, unsigned_abs, ◌*ℤ◌, ◌+ℤ◌, ◌-ℤ◌, is_some}
use Rattle.std.specs.Int.{int_min, int_max}
use Rattle.ss_words.specs.declared.fault.RunFault.{RunFault}
use Rattle.ss_words.specs.declared.fault.RunFault.TheVariants.{NoEntity}
use Rattle.ss_program.specs.declared.target.Target.{Target}
use Rattle.ss_program.specs.declared.target.Target.TheVariants as targets
use Rattle.ss_program.specs.declared.place.Assign.{Assign}
use Rattle.ss_program.specs.declared.place.Assign.TheVariants.{Let, Add, Subtract}
use Rattle.ss_program.specs.declared.making.Making.{Making}
use Rattle.ss_program.specs.declared.making.Making.TheVariants.{Create, CreateEvery, Destroy}
use Rattle.ss_program.specs.Program.{ProgramTable}
use Rattle.ss_program.specs.ProgramExpr.{Expr, expr, Sums, no_sums, sum, Term, term, Products, no_products, product}
use Rattle.ss_program.specs.ProgramExpr.{Factor, digits, variable, absolute, greatest, least, quotient, remainder}
use Rattle.ss_program.specs.ProgramExpr.{attribute, owner_kept, member_kept, within, Subscript, implied, of_system}
use Rattle.ss_program.specs.ProgramExpr.{at}
use Rattle.ss_program.specs.ProgramExpr.{Exprs, no_exprs, exprs}
use Rattle.ss_store.specs.Tables.{tables_of}
use Rattle.ss_store.specs.Store.{Entity, Store, number_of, entity, exists, attribute_in, attribute_of, unless}
use Rattle.ss_store.specs.Store.{with_attribute, with_changed, with_value}
use Rattle.ss_values.specs.Faults.{◌>>=◌, ◌>>◌, refuse_if}
use Rattle.ss_values.specs.Values.{value_of, sums_value, term_value, products_value}
use Rattle.ss_values.specs.Values.{factor_value}
use Rattle.ss_values.specs.Values.{subscript_value, greatest_value, least_value, result_in_range, with_sign}
use Rattle.ss_values.specs.Values.{sum_or_difference, quotient_value, remainder_value}
use Rattle.ss_values.specs.Values.{owner_kept_value, member_kept_value, target_value}
use Rattle.ss_state.specs.State.{State}
use Rattle.ss_state.specs.Statements.{state_with_value}
use Rattle.ss_state.specs.Statements.{state_with_taken, state_with_store, entity_named}
use Rattle.ss_state.specs.Statements.Assigning.{state_after_assign}
use Rattle.ss_state.specs.Statements.Entities.{state_after_create_every, store_without, state_after_making}
use Rattle.ss_faults.specs.declared.told.Told.{Told}
use Rattle.ss_faults.specs.declared.told.Told.TheVariants.{Value, Untold, Missing, Unclear}
use Rattle.ss_faults.specs.Readings.{behind, both, at_entity, attribute_read, attribute_told}
use Rattle.ss_faults.specs.Readings.{owner_told}
use Rattle.ss_faults.specs.Readings.{member_told, entity_told, signed_told, told_of, sums_told, term_told}
use Rattle.ss_faults.specs.Readings.{products_told, factor_told, subscript_told, arguments_told}
use Rattle.ss_faults.specs.Missing.{target_told, named_told, assign_told, making_told}
use Rattle.ss_faults.proofs.Fitting.{read, FitsValue, Fits, IsThere, Stops, there_stops, fit_there, fit_stops}
use Rattle.ss_faults.proofs.Fitting.{further, got_fits, behind_fits, both_fits, both_stops, at_fits, at_stops}
use Rattle.ss_faults.proofs.Fitting.{at_there, number_fits, variable_fits, attribute_fits, owner_fits}
use Rattle.ss_faults.proofs.Fitting.{member_kept_fits, signed_fits}

-- ---- expressions

pub ends_fit : (t : Told) (r : Result ℤ RunFault) → Fits t r → Fits t (r >>= λ y. Ok y)
ends_fit t (Ok y) h = h
ends_fit t (Err e) h = tt

-- the steps after two values, one by one
pub regrouped : (r : Result ℤ RunFault) (g h : ℤ → Result ℤ RunFault) → ((r >>= g) >>= h) ≡ (r >>= λ y. g y >>= h)
regrouped (Ok y) g h = refl
regrouped (Err e) g h = refl

pub joined : (r q : Result ℤ RunFault) (s : ℤ → ℤ → Result ℤ RunFault) (h : ℤ → Result ℤ RunFault) →
    ((r >>= λ y. q >>= λ z. s y z) >>= h) ≡ (r >>= λ y. q >>= λ z. s y z >>= h)
joined (Ok y) (Ok z) s h = refl
joined (Ok y) (Err e) s h = refl
joined (Err e) q s h = refl

-- a part after others, with the result of both
pub joined_fits : (t u : Told) (r q : Result ℤ RunFault) (s : ℤ → ℤ → Result ℤ RunFault) → Fits t r → Fits u q →
    Fits (both t u) (r >>= λ y. q >>= λ z. s y z)
joined_fits t u r q s h k =
    both_fits t u r (λ y. q >>= λ z. s y z) h (λ y. further u q (λ z. s y z) (fit_stops u q k))

pub absolute_fits : (t : Told) (r : Result ℤ RunFault) → Fits t r →
    Fits (behind t) (r >>= λ x. result_in_range (pos (unsigned_abs x)))
absolute_fits t (Ok y) h =
    behind_fits t (result_in_range (pos (unsigned_abs y)))
    (there_stops t (result_in_range (pos (unsigned_abs y))) (fit_there t y h))
absolute_fits t (Err e) h = tt

mutual
  -- an expression
  pub expr_fits : (p : ProgramTable) (s : State) (e : Expr) → Fits (told_of p s e) (value_of (read p s) e)
  expr_fits p s (expr l t ss) =
      subst (λ (q : Result ℤ RunFault). Fits (sums_told p s (signed_told l (term_told p s t)) ss) q)
      (regrouped (term_value (read p s) t) (with_sign l) (λ y. sums_value (read p s) y ss))
      (sums_fits p s (signed_told l (term_told p s t)) (term_value (read p s) t >>= with_sign l) ss
      (signed_fits l (term_told p s t) (term_value (read p s) t) (term_fits p s t)))

  -- with further terms
  pub sums_fits : (p : ProgramTable) (s : State) (t : Told) (r : Result ℤ RunFault) (ss : Sums) → Fits t r →
      Fits (sums_told p s t ss) (r >>= λ y. sums_value (read p s) y ss)
  sums_fits p s t r no_sums h = ends_fit t r h
  sums_fits p s t r (sum w u ss) h =
      subst (λ (q : Result ℤ RunFault). Fits (sums_told p s (both t (term_told p s u)) ss) q)
      (joined r (term_value (read p s) u) (sum_or_difference w) (λ y. sums_value (read p s) y ss))
      (sums_fits p s (both t (term_told p s u)) (r >>= λ y. term_value (read p s) u >>= λ z. sum_or_difference w y z) ss
      (joined_fits t (term_told p s u) r (term_value (read p s) u) (sum_or_difference w) h (term_fits p s u)))

  -- a term
  pub term_fits : (p : ProgramTable) (s : State) (t : Term) → Fits (term_told p s t) (term_value (read p s) t)
  term_fits p s (term f ps) = products_fits p s (factor_told p s f) (factor_value (read p s) f) ps (factor_fits p s f)

  -- with further factors
  pub products_fits : (p : ProgramTable) (s : State) (t : Told) (r : Result ℤ RunFault) (ps : Products) → Fits t r →
      Fits (products_told p s t ps) (r >>= λ x. products_value (read p s) x ps)
  products_fits p s t r no_products h = ends_fit t r h
  products_fits p s t r (product f ps) h =
      subst (λ (q : Result ℤ RunFault). Fits (products_told p s (both t (factor_told p s f)) ps) q)
      (joined r (factor_value (read p s) f) (λ x y. result_in_range (x *ℤ y)) (λ y. products_value (read p s) y ps))
      (products_fits p s (both t (factor_told p s f))
      (r >>= λ x. factor_value (read p s) f >>= λ y. result_in_range (x *ℤ y)) ps
      (joined_fits t (factor_told p s f) r (factor_value (read p s) f) (λ x y. result_in_range (x *ℤ y)) h
      (factor_fits p s f)))

  -- a factor
  pub factor_fits : (p : ProgramTable) (s : State) (f : Factor) → Fits (factor_told p s f) (factor_value (read p s) f)
  factor_fits p s (digits n) = number_fits (result_in_range (pos n))
  factor_fits p s (variable x) = variable_fits p s x
  factor_fits p s (absolute e) =
      absolute_fits (told_of p s e) (value_of (read p s) e) (expr_fits p s e)
  factor_fits p s (greatest e es) =
      greatest_fits p s (behind (told_of p s e)) (value_of (read p s) e) es
      (behind_fits (told_of p s e) (value_of (read p s) e)
      (fit_stops (told_of p s e) (value_of (read p s) e) (expr_fits p s e)))
  factor_fits p s (least e es) =
      least_fits p s (behind (told_of p s e)) (value_of (read p s) e) es
      (behind_fits (told_of p s e) (value_of (read p s) e)
      (fit_stops (told_of p s e) (value_of (read p s) e) (expr_fits p s e)))
  factor_fits p s (quotient e f) =
      joined_fits (told_of p s e) (told_of p s f) (value_of (read p s) e) (value_of (read p s) f) quotient_value
      (expr_fits p s e) (expr_fits p s f)
  factor_fits p s (remainder e f) =
      joined_fits (told_of p s e) (told_of p s f) (value_of (read p s) e) (value_of (read p s) f) remainder_value
      (expr_fits p s e) (expr_fits p s f)
  factor_fits p s (attribute c a i) =
      at_fits (subscript_told p s i) (attribute_told s c a) (subscript_value (read p s) i)
      (λ x. attribute_of s.store c a (number_of x)) (subscript_fits p s i)
      (λ x. attribute_fits c x (attribute_of s.store c a (number_of x)))
  factor_fits p s (owner_kept kept set i) =
      at_fits (subscript_told p s i) (owner_told p s kept set) (subscript_value (read p s) i)
      (owner_kept_value (read p s) kept set) (subscript_fits p s i) (λ x. owner_fits p s kept set x)
  factor_fits p s (member_kept kept set i) =
      at_fits (subscript_told p s i) (member_told p s kept set) (subscript_value (read p s) i)
      (member_kept_value (read p s) kept set) (subscript_fits p s i) (λ x. member_kept_fits p s kept set x)
  factor_fits p s (within e) = expr_fits p s e

  -- a subscript
  pub subscript_fits : (p : ProgramTable) (s : State) (i : Subscript) →
      Fits (subscript_told p s i) (subscript_value (read p s) i)
  subscript_fits p s (implied i) = refl
  subscript_fits p s of_system = refl
  subscript_fits p s (at e) = expr_fits p s e

  -- the greatest, with further arguments
  pub greatest_fits : (p : ProgramTable) (s : State) (t : Told) (r : Result ℤ RunFault) (es : Exprs) → Fits t r →
      Fits (arguments_told p s t es) (r >>= λ x. greatest_value (read p s) x es)
  greatest_fits p s t r no_exprs h = ends_fit t r h
  greatest_fits p s t r (exprs e es) h =
      subst (λ (q : Result ℤ RunFault). Fits (arguments_told p s (both t (told_of p s e)) es) q)
      (joined r (value_of (read p s) e) (λ x y. Ok (int_max x y)) (λ y. greatest_value (read p s) y es))
      (greatest_fits p s (both t (told_of p s e)) (r >>= λ x. value_of (read p s) e >>= λ y. Ok (int_max x y)) es
      (joined_fits t (told_of p s e) r (value_of (read p s) e) (λ x y. Ok (int_max x y)) h (expr_fits p s e)))

  -- the least, with further arguments
  pub least_fits : (p : ProgramTable) (s : State) (t : Told) (r : Result ℤ RunFault) (es : Exprs) → Fits t r →
      Fits (arguments_told p s t es) (r >>= λ x. least_value (read p s) x es)
  least_fits p s t r no_exprs h = ends_fit t r h
  least_fits p s t r (exprs e es) h =
      subst (λ (q : Result ℤ RunFault). Fits (arguments_told p s (both t (told_of p s e)) es) q)
      (joined r (value_of (read p s) e) (λ x y. Ok (int_min x y)) (λ y. least_value (read p s) y es))
      (least_fits p s (both t (told_of p s e)) (r >>= λ x. value_of (read p s) e >>= λ y. Ok (int_min x y)) es
      (joined_fits t (told_of p s e) r (value_of (read p s) e) (λ x y. Ok (int_min x y)) h (expr_fits p s e)))

pub expr_there : (p : ProgramTable) (s : State) (e : Expr) (x : ℤ) → value_of (read p s) e ≡ Ok x →
    IsThere (told_of p s e)
expr_there p s e x h =
    fit_there (told_of p s e) x (got_fits (told_of p s e) (value_of (read p s) e) x h (expr_fits p s e))

pub expr_stops : (p : ProgramTable) (s : State) (e : Expr) → Stops (told_of p s e) (value_of (read p s) e)
expr_stops p s e = fit_stops (told_of p s e) (value_of (read p s) e) (expr_fits p s e)

-- ---- targets

pub write_stops : (c a : ℕ) (x : ℤ) (o : Option Entity) (st : Store) (g : Store → State) →
    Stops (attribute_read c x (attribute_in a o)) (unless NoEntity (is_some o) (Ok st) >>= λ r. Ok (g r))
write_stops c a x (Some e) st g = tt
write_stops c a x None st g = tt

pub target_stops : (p : ProgramTable) (s : State) (t : Target) (z : ℤ) →
    Stops (target_told p s t) (state_with_value (tables_of p) s t z)
target_stops p s (targets.Variable v) z = tt
target_stops p s (targets.Attribute c a i) z =
    at_stops (subscript_told p s i) (attribute_told s c a) (subscript_value (read p s) i)
    (λ x. with_attribute s.store c a (number_of x) z >>= λ r. Ok (state_with_store s r)) (subscript_fits p s i)
    (λ x. write_stops c a x (entity s.store c (number_of x)) (with_changed (with_value a z) s.store c (number_of x))
    (state_with_store s))

-- that with items taken
pub taken_stops : (p : ProgramTable) (s : State) (n : ℕ) (t : Target) (z : ℤ) →
    Stops (target_told p s t) (state_with_value (tables_of p) (state_with_taken s n) t z)
taken_stops p s n (targets.Variable v) z = tt
taken_stops p s n (targets.Attribute c a i) z =
    at_stops (subscript_told p s i) (attribute_told s c a) (subscript_value (read p s) i)
    (λ x. with_attribute s.store c a (number_of x) z >>= λ r. Ok (state_with_store (state_with_taken s n) r))
    (subscript_fits p s i)
    (λ x. write_stops c a x (entity s.store c (number_of x)) (with_changed (with_value a z) s.store c (number_of x))
    (state_with_store (state_with_taken s n)))

pub target_fits : (p : ProgramTable) (s : State) (t : Target) → Fits (target_told p s t) (target_value (read p s) t)
target_fits p s (targets.Variable v) = tt
target_fits p s (targets.Attribute c a i) =
    at_fits (subscript_told p s i) (attribute_told s c a) (subscript_value (read p s) i)
    (λ x. attribute_of s.store c a (number_of x)) (subscript_fits p s i)
    (λ x. attribute_fits c x (attribute_of s.store c a (number_of x)))

-- ADD and SUBTRACT, which make this of both values
pub sum_stops : (p : ProgramTable) (s : State) (e : Expr) (t : Target) (f : ℤ → ℤ → Result ℤ RunFault) →
    Stops (both (told_of p s e) (target_told p s t))
    ((value_of (read p s) e >>= λ x. target_value (read p s) t >>= λ y. f x y)
    >>= state_with_value (tables_of p) s t)
sum_stops p s e t f =
    further (both (told_of p s e) (target_told p s t))
    (value_of (read p s) e >>= λ x. target_value (read p s) t >>= λ y. f x y) (state_with_value (tables_of p) s t)
    (both_stops (told_of p s e) (target_told p s t) (value_of (read p s) e)
    (λ x. target_value (read p s) t >>= λ y. f x y) (expr_fits p s e)
    (λ x. further (target_told p s t) (target_value (read p s) t) (λ y. f x y)
    (fit_stops (target_told p s t) (target_value (read p s) t) (target_fits p s t))))

pub assign_stops : (p : ProgramTable) (s : State) (a : Assign) →
    Stops (assign_told p s a) (state_after_assign (tables_of p) s a)
assign_stops p s (Let written t e) =
    both_stops (told_of p s e) (target_told p s t) (value_of (read p s) e) (state_with_value (tables_of p) s t)
    (expr_fits p s e) (λ x. target_stops p s t x)
assign_stops p s (Add e t) = sum_stops p s e t (λ x y. result_in_range (y +ℤ x))
assign_stops p s (Subtract e t) = sum_stops p s e t (λ x y. result_in_range (y -ℤ x))

-- ---- entities that values name

pub named_by : (b : Bool) (c : ℕ) (x : ℤ) (k : ℕ) →
    Stops (elim b [ true ↦ Value x | false ↦ Missing c x ]) (refuse_if (not b) NoEntity >> Ok k)
named_by true c x k = tt
named_by false c x k = tt

pub named_stops : (p : ProgramTable) (s : State) (c : ℕ) (e : Expr) →
    Stops (named_told p s c e) (value_of (read p s) e >>= entity_named s.store c)
named_stops p s c e =
    at_stops (told_of p s e) (entity_told s c) (value_of (read p s) e) (entity_named s.store c) (expr_fits p s e)
    (λ x. named_by (exists s.store c (number_of x)) c x (number_of x))

-- that of a value that was got
pub at_named : (s : State) (c : ℕ) (t : Told) (y : ℤ) → FitsValue t y →
    Stops (at_entity t (entity_told s c)) (entity_named s.store c y)
at_named s c (Value x) y h =
    subst (λ (z : ℤ). Stops (entity_told s c x) (entity_named s.store c z)) (sym h)
    (named_by (exists s.store c (number_of x)) c x (number_of x))
at_named s c Untold y h = there_stops Unclear (entity_named s.store c y) tt
at_named s c (Missing d x) y h = absurd h
at_named s c Unclear y h = there_stops Unclear (entity_named s.store c y) tt

pub entity_by : (c : ℕ) (x : ℤ) (b : Bool) → b ≡ true → IsThere (elim b [ true ↦ Value x | false ↦ Missing c x ])
entity_by c x true h = tt
entity_by c x false h = absurd cc

pub named_there : (s : State) (c : ℕ) (t : Told) (y : ℤ) → FitsValue t y → exists s.store c (number_of y) ≡ true →
    IsThere (at_entity t (entity_told s c))
named_there s c t y h k =
    at_there t (entity_told s c) y h (entity_by c y (exists s.store c (number_of y)) k)

pub making_stops : (p : ProgramTable) (s : State) (m : Making) →
    Stops (making_told p s m) (state_after_making (tables_of p) s m)
making_stops p s (Create c is_called t) =
    there_stops Unclear (state_after_making (tables_of p) s (Create c is_called t)) tt
making_stops p s (CreateEvery c None n) =
    there_stops Untold (state_after_making (tables_of p) s (CreateEvery c None n)) tt
making_stops p s (CreateEvery c (Some e) n) =
    further (told_of p s e) (value_of (read p s) e) (state_after_create_every (tables_of p) s c n) (expr_stops p s e)
making_stops p s (Destroy c is_called e) =
    further (named_told p s c e)
    (value_of (read p s) e >>= entity_named s.store c >>= store_without (tables_of p) s c)
    (λ st. Ok (state_with_store s st))
    (further (named_told p s c e) (value_of (read p s) e >>= entity_named s.store c) (store_without (tables_of p) s c)
    (named_stops p s c e))
