-- An entity that a finding gives as missing does not exist.
use Rattle.std.proofs.Common.{◌≡◌, ℕ, zero, suc, ◌+◌, ◌<◌, Bool, true, false, nat_lt, List, [], ◌∷◌, length, map, refl, sym, ap, ◌∙◌}
use Rattle.std.proofs.Common.{arith}
use Rattle.std.proofs.Common.{Option, Some, None, Result, Ok, Err}
use Rattle.std.specs.Prelude.{ℤ, slice_get, unwrap_or, is_some, option_map}
use Rattle.std.specs.List.{range_with_len}
use borrow.Author.Tests.{ltb-true}
use Rattle.ss_words.specs.declared.fault.RunFault.{RunFault}
use Rattle.ss_words.specs.declared.fault.RunFault.TheVariants.{NoEntity}
use Rattle.ss_words.specs.declared.terms.TermSign.{TermSign}
use Rattle.ss_words.specs.declared.terms.OwnerKept.{OwnerKept}
use Rattle.ss_words.specs.declared.terms.OwnerKept.TheVariants.{First, Last, Count}
use Rattle.ss_words.specs.declared.terms.MemberKept.{MemberKept}
use Rattle.ss_words.specs.declared.terms.MemberKept.TheVariants.{Predecessor, Successor, Membership}
use Rattle.ss_program.specs.declared.kinds.Owner.{Owner}
use Rattle.ss_program.specs.declared.kinds.Owner.TheVariants.{System, OwnedBy}
use Rattle.ss_program.specs.declared.target.Target.{Target}
use Rattle.ss_program.specs.declared.target.Target.TheVariants as targets
use Rattle.ss_program.specs.declared.target.SetRef.{SetRef}
use Rattle.ss_program.specs.declared.place.Assign.{Assign}
use Rattle.ss_program.specs.declared.place.Assign.TheVariants.{Let, Add, Subtract}
use Rattle.ss_program.specs.declared.place.Output.{Output}
use Rattle.ss_program.specs.declared.place.Output.TheVariants.{Print, Skip}
use Rattle.ss_program.specs.declared.place.Place.{Place}
use Rattle.ss_program.specs.declared.place.Place.TheVariants as places
use Rattle.ss_program.specs.declared.branch.Question.{Question}
use Rattle.ss_program.specs.declared.branch.Question.TheVariants.{Whether, WasFound, WasNone}
use Rattle.ss_program.specs.declared.branch.Branch.{Branch}
use Rattle.ss_program.specs.declared.branch.Branch.TheVariants.{If, Else, Always}
use Rattle.ss_program.specs.declared.making.Making.{Making}
use Rattle.ss_program.specs.declared.making.Making.TheVariants.{Create, CreateEvery, Destroy}
use Rattle.ss_program.specs.declared.filing.Position.{Position}
use Rattle.ss_program.specs.declared.filing.Position.TheVariants as position
use Rattle.ss_program.specs.declared.filing.Filing.{Filing}
use Rattle.ss_program.specs.declared.filing.Filing.TheVariants.{File, FileAt, RemoveAt, Remove}
use Rattle.ss_program.specs.declared.looping.Looping.{Looping}
use Rattle.ss_program.specs.declared.looping.Looping.TheVariants.{For, Loop, Find, Gather, Tell}
use Rattle.ss_program.specs.declared.timing.Notice.{Notice}
use Rattle.ss_program.specs.declared.timing.Notice.TheVariants.{New, Known}
use Rattle.ss_program.specs.declared.timing.Listing.{Listing}
use Rattle.ss_program.specs.declared.timing.Listing.TheVariants.{InParentheses, Given}
use Rattle.ss_program.specs.declared.timing.When.{When}
use Rattle.ss_program.specs.declared.timing.When.TheVariants.{At, Now, In}
use Rattle.ss_program.specs.declared.timing.Timing.{Timing}
use Rattle.ss_program.specs.declared.timing.Timing.TheVariants as timings
use Rattle.ss_program.specs.Program.{ProgramTable, set_of}
use Rattle.ss_program.specs.ProgramExpr.{Expr, expr, Sums, no_sums, sum, Term, term, Products, no_products, product}
use Rattle.ss_program.specs.ProgramExpr.{Factor, digits, variable, absolute, greatest, least, quotient, remainder}
use Rattle.ss_program.specs.ProgramExpr.{attribute, owner_kept, member_kept, within, Subscript, implied, of_system, at}
use Rattle.ss_program.specs.ProgramExpr.{Exprs, no_exprs, exprs}
use Rattle.ss_program.specs.ProgramCondition.{Condition, any, no_conjunctions, or_else, Conjunction, all}
use Rattle.ss_program.specs.ProgramCondition.{Relations, no_relations, and_also, Relation, compared, is_empty, is_in}
use Rattle.ss_program.specs.ProgramCondition.{nested}
use Rattle.ss_store.specs.Tables.{set_shape, no_set}
use Rattle.ss_store.specs.Store.{Entity, number_of, entity, exists, attribute_in, list_by, list_number}
use Rattle.ss_store.specs.Store.{unless, is_filed, list_holding}
use Rattle.ss_links.specs.Seats.{next_in, prev_in}
use Rattle.ss_state.specs.State.{State}
use Rattle.ss_faults.specs.declared.told.Told.{Told}
use Rattle.ss_faults.specs.declared.told.Told.TheVariants.{Value, Untold, Missing, Unclear}
use Rattle.ss_faults.specs.Readings.{behind, both, at_entity, shape_of, number_told, attribute_read, attribute_told}
use Rattle.ss_faults.specs.Readings.{owner_missing, member_read, count_read, truth_read, of_owner, of_member, owner_told}
use Rattle.ss_faults.specs.Readings.{member_told, entity_told, signed_value, signed_told, told_of, sums_told, term_told}
use Rattle.ss_faults.specs.Readings.{products_told, factor_told, subscript_told, arguments_told}
use Rattle.ss_faults.specs.Missing.{target_told, values_told, option_told, named_told, list_told, assign_told, making_told}
use Rattle.ss_faults.specs.Missing.{position_told, placed_told, filed_told, filing_told, output_told, relation_told}
use Rattle.ss_faults.specs.Missing.{relations_told, conjunction_told, first_told, condition_told, question_told}
use Rattle.ss_faults.specs.Missing.{branch_told, looping_told, notice_value_told, notice_told, listing_told, when_told}
use Rattle.ss_faults.specs.Missing.{timing_told, read_told, place_told}
use Rattle.ss_faults.specs.Laws.{WhatIsMissingIsNotThere}

-- the finding about a part is a missing entity only if that does not exist
abbrev IsRight : State → Told → Type 0
IsRight s (Value x) = Unit {0}
IsRight s Untold = Unit {0}
IsRight s (Missing c x) = exists s.store c (number_of x) ≡ false
IsRight s Unclear = Unit {0}

-- ---- parts in order

behind_right : (s : State) (t : Told) → IsRight s t → IsRight s (behind t)
behind_right s (Value x) h = tt
behind_right s Untold h = tt
behind_right s (Missing c x) h = h
behind_right s Unclear h = tt

both_right : (s : State) (t u : Told) → IsRight s t → IsRight s u → IsRight s (both t u)
both_right s (Value x) u h k = behind_right s u k
both_right s Untold u h k = behind_right s u k
both_right s (Missing c x) u h k = h
both_right s Unclear u h k = tt

at_right : (s : State) (t : Told) (f : ℤ → Told) → IsRight s t → ((x : ℤ) → IsRight s (f x)) →
    IsRight s (at_entity t f)
at_right s (Value x) f h k = k x
at_right s Untold f h k = tt
at_right s (Missing c x) f h k = h
at_right s Unclear f h k = tt

-- ---- readings

get_range : {X : Type 0} (f : ℕ → X) (a n i : ℕ) → i < n → slice_get (map f (range_with_len a n)) i ≡ Some (f (a + i))
get_range f a zero i h = absurd (omega (arith, h))
get_range f a (suc n) zero h = let same : a ≡ a + 0 = omega arith in ap (λ k. Some (f k)) same
get_range f a (suc n) (suc i) h =
    let same : a + 1 + i ≡ a + suc i = omega arith in
    get_range f (a + 1) n i (omega (arith, h)) ∙ ap (λ k. Some (f k)) same

-- a set as the store has it
pub shape_is : (p : ProgramTable) (set : ℕ) → nat_lt set (length p.sets) ≡ true → shape_of p set ≡ set_shape p set
shape_is p set h =
    let same : 0 + set ≡ set = omega arith in
    ap (λ o. unwrap_or o no_set)
    (get_range (set_shape p) 0 (length p.sets) set (omega (arith, ltb-true _ _ h)) ∙ ap (λ k. Some (set_shape p k)) same)

number_right : (s : State) (r : Result ℤ RunFault) → IsRight s (number_told r)
number_right s (Ok x) = tt
number_right s (Err f) = tt

attribute_right : (s : State) (c a : ℕ) (x : ℤ) (o : Option Entity) → o ≡ entity s.store c (number_of x) →
    IsRight s (attribute_read c x (attribute_in a o))
attribute_right s c a x None e = ap is_some (sym e)
attribute_right s c a x (Some o) e = tt

there : (s : State) (c : ℕ) (x : ℤ) (b : Bool) → exists s.store c (number_of x) ≡ b →
    IsRight s (elim b [ true ↦ Value x | false ↦ Missing c x ])
there s c x true e = tt
there s c x false e = e

entity_right : (s : State) (c : ℕ) (x : ℤ) → IsRight s (entity_told s c x)
entity_right s c x = there s c x _ refl

-- a list that an owner lacks: the owner does not exist
lacking : (o : Option Entity) (n : ℕ) → is_some (option_map (λ e. list_number e.owned n) o) ≡ false → is_some o ≡ false
lacking None n h = refl
lacking (Some e) n h = h

owner_right : (s : State) (owner : Owner) (n : ℕ) (x : ℤ) →
    is_some (list_by owner n s.store (number_of x)) ≡ false → IsRight s (owner_missing owner x)
owner_right s System n x h = tt
owner_right s (OwnedBy c) n x h = lacking (entity s.store c (number_of x)) n h

member_of_list : (s : State) (t : Told) (b : Bool) (k : Option ℕ) → (b ≡ false → IsRight s t) →
    IsRight s (member_read t (unless NoEntity b (Ok k)))
member_of_list s t true k h = tt
member_of_list s t false k h = h refl

count_of_list : (s : State) (t : Told) (b : Bool) (n : ℕ) → (b ≡ false → IsRight s t) →
    IsRight s (count_read t (unless NoEntity b (Ok n)))
count_of_list s t true n h = tt
count_of_list s t false n h = h refl

truth_of_list : (s : State) (t : Told) (b : Bool) (v : Bool) → (b ≡ false → IsRight s t) →
    IsRight s (truth_read t (unless NoEntity b (Ok v)))
truth_of_list s t true v h = tt
truth_of_list s t false v h = h refl

-- a member that is not there
absent_member : (s : State) (m : ℕ) (x : ℤ) (k : Option ℕ) →
    IsRight s (member_read (Missing m x) (unless NoEntity (exists s.store m (number_of x)) (Ok k)))
absent_member s m x k = member_of_list s (Missing m x) (exists s.store m (number_of x)) k (λ e. e)

absent_truth : (s : State) (m : ℕ) (x : ℤ) (b : Bool) →
    IsRight s (truth_read (Missing m x) (unless NoEntity (exists s.store m (number_of x)) (Ok b)))
absent_truth s m x b = truth_of_list s (Missing m x) (exists s.store m (number_of x)) b (λ e. e)

kept_of_owner : (p : ProgramTable) (s : State) (kept : OwnerKept) (set : ℕ) (x : ℤ) →
    nat_lt set (length p.sets) ≡ true → IsRight s (of_owner p s kept set x)
kept_of_owner p s First set x h =
    rw (shape_is p set h) (member_of_list s _ _ _ (owner_right s (set_of p set).owner _ x))
kept_of_owner p s Last set x h =
    rw (shape_is p set h) (member_of_list s _ _ _ (owner_right s (set_of p set).owner _ x))
kept_of_owner p s Count set x h =
    rw (shape_is p set h) (count_of_list s _ _ _ (owner_right s (set_of p set).owner _ x))

kept_of_member : (p : ProgramTable) (s : State) (kept : MemberKept) (set : ℕ) (x : ℤ) →
    nat_lt set (length p.sets) ≡ true → IsRight s (of_member p s kept set x)
kept_of_member p s Predecessor set x h =
    rw (shape_is p set h) (absent_member s (set_of p set).member x
    (prev_in (list_holding (set_shape p set) s.store (number_of x)) (number_of x)))
kept_of_member p s Successor set x h =
    rw (shape_is p set h) (absent_member s (set_of p set).member x
    (next_in (list_holding (set_shape p set) s.store (number_of x)) (number_of x)))
kept_of_member p s Membership set x h =
    rw (shape_is p set h) (absent_truth s (set_of p set).member x
    (is_filed (set_shape p set) s.store (number_of x)))

owner_by : (p : ProgramTable) (s : State) (kept : OwnerKept) (set : ℕ) (x : ℤ) (b : Bool) →
    nat_lt set (length p.sets) ≡ b → IsRight s (elim b [ true ↦ of_owner p s kept set x | false ↦ Unclear ])
owner_by p s kept set x true h = kept_of_owner p s kept set x h
owner_by p s kept set x false h = tt

owner_kept_right : (p : ProgramTable) (s : State) (kept : OwnerKept) (set : ℕ) (x : ℤ) →
    IsRight s (owner_told p s kept set x)
owner_kept_right p s kept set x = owner_by p s kept set x _ refl

member_by : (p : ProgramTable) (s : State) (kept : MemberKept) (set : ℕ) (x : ℤ) (b : Bool) →
    nat_lt set (length p.sets) ≡ b → IsRight s (elim b [ true ↦ of_member p s kept set x | false ↦ Unclear ])
member_by p s kept set x true h = kept_of_member p s kept set x h
member_by p s kept set x false h = tt

member_kept_right : (p : ProgramTable) (s : State) (kept : MemberKept) (set : ℕ) (x : ℤ) →
    IsRight s (member_told p s kept set x)
member_kept_right p s kept set x = member_by p s kept set x _ refl

sign_right : (s : State) (sign : TermSign) (t : Told) → IsRight s t → IsRight s (signed_value sign t)
sign_right s sign (Value x) h = number_right s _
sign_right s sign Untold h = tt
sign_right s sign (Missing c x) h = h
sign_right s sign Unclear h = tt

signed_right : (s : State) (sign : Option TermSign) (t : Told) → IsRight s t → IsRight s (signed_told sign t)
signed_right s None t h = h
signed_right s (Some sign) t h = sign_right s sign t h

-- ---- expressions

mutual
  -- an expression
  expr_right : (p : ProgramTable) (s : State) (e : Expr) → IsRight s (told_of p s e)
  expr_right p s (expr l t ss) =
      sums_right p s (signed_told l (term_told p s t)) ss (signed_right s l (term_told p s t) (term_right p s t))

  -- with further terms
  sums_right : (p : ProgramTable) (s : State) (a : Told) (ss : Sums) → IsRight s a → IsRight s (sums_told p s a ss)
  sums_right p s a no_sums h = h
  sums_right p s a (sum w t ss) h =
      sums_right p s (both a (term_told p s t)) ss (both_right s a (term_told p s t) h (term_right p s t))

  -- a term
  term_right : (p : ProgramTable) (s : State) (t : Term) → IsRight s (term_told p s t)
  term_right p s (term f ps) = products_right p s (factor_told p s f) ps (factor_right p s f)

  -- with further factors
  products_right : (p : ProgramTable) (s : State) (a : Told) (ps : Products) → IsRight s a →
      IsRight s (products_told p s a ps)
  products_right p s a no_products h = h
  products_right p s a (product f ps) h =
      products_right p s (both a (factor_told p s f)) ps (both_right s a (factor_told p s f) h (factor_right p s f))

  -- a factor
  factor_right : (p : ProgramTable) (s : State) (f : Factor) → IsRight s (factor_told p s f)
  factor_right p s (digits n) = number_right s _
  factor_right p s (variable x) = tt
  factor_right p s (absolute e) = behind_right s (told_of p s e) (expr_right p s e)
  factor_right p s (greatest e es) =
      arguments_right p s (behind (told_of p s e)) es (behind_right s (told_of p s e) (expr_right p s e))
  factor_right p s (least e es) =
      arguments_right p s (behind (told_of p s e)) es (behind_right s (told_of p s e) (expr_right p s e))
  factor_right p s (quotient e f) =
      both_right s (told_of p s e) (told_of p s f) (expr_right p s e) (expr_right p s f)
  factor_right p s (remainder e f) =
      both_right s (told_of p s e) (told_of p s f) (expr_right p s e) (expr_right p s f)
  factor_right p s (attribute c a i) =
      at_right s (subscript_told p s i) (attribute_told s c a) (subscript_right p s i)
      (λ x. attribute_right s c a x _ refl)
  factor_right p s (owner_kept kept set i) =
      at_right s (subscript_told p s i) (owner_told p s kept set) (subscript_right p s i)
      (λ x. owner_kept_right p s kept set x)
  factor_right p s (member_kept kept set i) =
      at_right s (subscript_told p s i) (member_told p s kept set) (subscript_right p s i)
      (λ x. member_kept_right p s kept set x)
  factor_right p s (within e) = expr_right p s e

  -- a subscript
  subscript_right : (p : ProgramTable) (s : State) (i : Subscript) → IsRight s (subscript_told p s i)
  subscript_right p s (implied i) = tt
  subscript_right p s of_system = tt
  subscript_right p s (at e) = expr_right p s e

  -- with further arguments
  arguments_right : (p : ProgramTable) (s : State) (a : Told) (es : Exprs) → IsRight s a →
      IsRight s (arguments_told p s a es)
  arguments_right p s a no_exprs h = h
  arguments_right p s a (exprs e es) h =
      arguments_right p s (both a (told_of p s e)) es (both_right s a (told_of p s e) h (expr_right p s e))

-- ---- parts of statements

target_right : (p : ProgramTable) (s : State) (t : Target) → IsRight s (target_told p s t)
target_right p s (targets.Variable x) = tt
target_right p s (targets.Attribute c a i) =
    at_right s (subscript_told p s i) (attribute_told s c a) (subscript_right p s i) (λ x. attribute_right s c a x _ refl)

values_right : (p : ProgramTable) (s : State) (a : Told) (es : List Expr) → IsRight s a →
    IsRight s (values_told p s a es)
values_right p s a [] h = h
values_right p s a (e ∷ es) h =
    values_right p s (both a (told_of p s e)) es (both_right s a (told_of p s e) h (expr_right p s e))

named_right : (p : ProgramTable) (s : State) (c : ℕ) (e : Expr) → IsRight s (named_told p s c e)
named_right p s c e = at_right s (told_of p s e) (entity_told s c) (expr_right p s e) (λ x. entity_right s c x)

list_right : (p : ProgramTable) (s : State) (r : SetRef) → IsRight s (list_told p s r)
list_right p s r =
    at_right s (subscript_told p s r.owner) (owner_told p s Count r.set) (subscript_right p s r.owner)
    (λ x. owner_kept_right p s Count r.set x)

two_right : (p : ProgramTable) (s : State) (e : Expr) (u : Told) → IsRight s u → IsRight s (both (told_of p s e) u)
two_right p s e u h = both_right s (told_of p s e) u (expr_right p s e) h

assign_right : (p : ProgramTable) (s : State) (a : Assign) → IsRight s (assign_told p s a)
assign_right p s (Let written t e) = two_right p s e (target_told p s t) (target_right p s t)
assign_right p s (Add e t) = two_right p s e (target_told p s t) (target_right p s t)
assign_right p s (Subtract e t) = two_right p s e (target_told p s t) (target_right p s t)

option_right : (p : ProgramTable) (s : State) (e : Option Expr) → IsRight s (option_told p s e)
option_right p s None = tt
option_right p s (Some e) = expr_right p s e

making_right : (p : ProgramTable) (s : State) (m : Making) → IsRight s (making_told p s m)
making_right p s (Create c is_called t) = tt
making_right p s (CreateEvery c e count) = option_right p s e
making_right p s (Destroy c is_called e) = named_right p s c e

position_right : (p : ProgramTable) (s : State) (how : Position) → IsRight s (position_told p s how)
position_right p s position.ByRule = tt
position_right p s (position.AtEnd end) = tt
position_right p s (position.Before e) = expr_right p s e
position_right p s (position.After e) = expr_right p s e

placed_right : (p : ProgramTable) (s : State) (c : ℕ) (how : Position) → IsRight s (placed_told p s c how)
placed_right p s c position.ByRule = tt
placed_right p s c (position.AtEnd end) = tt
placed_right p s c (position.Before e) = named_right p s c e
placed_right p s c (position.After e) = named_right p s c e

filed_right : (p : ProgramTable) (s : State) (e : Expr) (t : Told) (r : SetRef) → IsRight s t →
    IsRight s (filed_told p s e t r)
filed_right p s e t r h =
    both_right s (both (both (told_of p s e) t) (list_told p s r)) (named_told p s (set_of p r.set).member e)
    (both_right s (both (told_of p s e) t) (list_told p s r) (two_right p s e t h) (list_right p s r))
    (named_right p s (set_of p r.set).member e)

filing_right : (p : ProgramTable) (s : State) (f : Filing) → IsRight s (filing_told p s f)
filing_right p s (File e how r) =
    both_right s (filed_told p s e (position_told p s how) r) (placed_told p s (set_of p r.set).member how)
    (filed_right p s e (position_told p s how) r (position_right p s how))
    (placed_right p s (set_of p r.set).member how)
filing_right p s (FileAt end e r) = filed_right p s e Untold r tt
filing_right p s (RemoveAt end t r) = list_right p s r
filing_right p s (Remove e r) = filed_right p s e Untold r tt

output_right : (p : ProgramTable) (s : State) (o : Output) → IsRight s (output_told p s o)
output_right p s (Print count values picture) = values_right p s Untold values tt
output_right p s (Skip e) = expr_right p s e

relation_right : (p : ProgramTable) (s : State) (r : Relation) → IsRight s (relation_told p s r)
relation_right p s (compared e c f) = two_right p s e (told_of p s f) (expr_right p s f)
relation_right p s (is_empty r is) = list_right p s r
relation_right p s (is_in e is r) = filed_right p s e Untold r tt
relation_right p s (nested c) = tt

relations_right : (p : ProgramTable) (s : State) (a : Told) (rs : Relations) → IsRight s a →
    IsRight s (relations_told p s a rs)
relations_right p s a no_relations h = h
relations_right p s a (and_also r rs) h =
    relations_right p s (both a (relation_told p s r)) rs
    (both_right s a (relation_told p s r) h (relation_right p s r))

conjunction_right : (p : ProgramTable) (s : State) (c : Conjunction) → IsRight s (conjunction_told p s c)
conjunction_right p s (all r rs) = relations_right p s (relation_told p s r) rs (relation_right p s r)

first_right : (p : ProgramTable) (s : State) (c : Conjunction) → IsRight s (first_told p s c)
first_right p s (all r rs) = relation_right p s r

condition_right : (p : ProgramTable) (s : State) (c : Condition) → IsRight s (condition_told p s c)
condition_right p s (any c no_conjunctions) = conjunction_right p s c
condition_right p s (any c (or_else d ds)) = first_right p s c

question_right : (p : ProgramTable) (s : State) (q : Question) → IsRight s (question_told p s q)
question_right p s (Whether c) = condition_right p s c
question_right p s WasFound = tt
question_right p s WasNone = tt

branch_right : (p : ProgramTable) (s : State) (b : Branch) → IsRight s (branch_told p s b)
branch_right p s (If q) = question_right p s q
branch_right p s Else = tt
branch_right p s Always = tt

looping_right : (p : ProgramTable) (s : State) (l : Looping) → IsRight s (looping_told p s l)
looping_right p s (For f) = tt
looping_right p s Loop = tt
looping_right p s Find = tt
looping_right p s (Gather e) = expr_right p s e
looping_right p s (Tell ts) = tt

notice_value_right : (p : ProgramTable) (s : State) (n : Notice) → IsRight s (notice_value_told p s n)
notice_value_right p s (New is_called t) = tt
notice_value_right p s (Known is_called e) = expr_right p s e

notice_right : (p : ProgramTable) (s : State) (c : ℕ) (n : Notice) → IsRight s (notice_told p s c n)
notice_right p s c (New is_called t) = tt
notice_right p s c (Known is_called e) = named_right p s c e

listing_right : (p : ProgramTable) (s : State) (l : Listing) (n : Notice) (es : List Expr) →
    IsRight s (listing_told p s l n es)
listing_right p s InParentheses n es =
    both_right s (values_told p s Untold es) (notice_value_told p s n) (values_right p s Untold es tt)
    (notice_value_right p s n)
listing_right p s Given n es = values_right p s (notice_value_told p s n) es (notice_value_right p s n)

when_right : (p : ProgramTable) (s : State) (w : When) → IsRight s (when_told p s w)
when_right p s (At e) = expr_right p s e
when_right p s Now = tt
when_right p s (In e) = expr_right p s e

timing_right : (p : ProgramTable) (s : State) (x : Timing) → IsRight s (timing_told p s x)
timing_right p s (timings.Schedule x) =
    both_right s (both (listing_told p s x.listing x.notice x.arguments) (when_told p s x.when))
    (notice_told p s x.class x.notice)
    (both_right s (listing_told p s x.listing x.notice x.arguments) (when_told p s x.when)
    (listing_right p s x.listing x.notice x.arguments) (when_right p s x.when))
    (notice_right p s x.class x.notice)
timing_right p s (timings.Cancel c is_called e) = named_right p s c e
timing_right p s timings.Start = tt

read_right : (p : ProgramTable) (s : State) (ts : List Target) → IsRight s (read_told p s ts)
read_right p s [] = tt
read_right p s (t ∷ ts) = target_right p s t

-- ---- statements

place_right : (p : ProgramTable) (s : State) (x : Place) → IsRight s (place_told p s x)
place_right p s (places.Assign a) = assign_right p s a
place_right p s (places.Making m) = making_right p s m
place_right p s (places.Filing f) = filing_right p s f
place_right p s (places.Output o) = output_right p s o
place_right p s (places.Control c) = tt
place_right p s (places.Branch b) = branch_right p s b
place_right p s (places.Looping l) = looping_right p s l
place_right p s (places.Call c) = values_right p s Untold c.given tt
place_right p s (places.Timing x) = timing_right p s x
place_right p s (places.Read ts) = read_right p s ts

missing_is : (s : State) (t : Told) (c : ℕ) (x : ℤ) → IsRight s t → t ≡ Missing c x →
    exists s.store c (number_of x) ≡ false
missing_is s t c x h e = rw e at h

pub not_there : WhatIsMissingIsNotThere
not_there p s place c x e = missing_is s (place_told p s place) c x (place_right p s place) e
