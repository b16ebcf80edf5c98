-- The truth of a condition: AND and OR stop when they are decided.
use Rattle.std.specs.Prelude.{ℤ, int_lt, int_le, ◌==◌, Bool, true, false, not, Result, Ok}
use Rattle.std.specs.Ordering.{int_eq}
use Rattle.ss_words.specs.declared.fault.RunFault.{RunFault}
use Rattle.ss_words.specs.declared.terms.Comparison.{Comparison}
use Rattle.ss_words.specs.declared.terms.Comparison.TheVariants.{Equal, Unequal, Less, Greater, AtMost, AtLeast}
use Rattle.ss_words.specs.declared.terms.Copula.{Copula}
use Rattle.ss_words.specs.declared.terms.Copula.TheVariants.{Is, IsNot}
use Rattle.ss_program.specs.declared.target.SetRef.{SetRef}
use Rattle.ss_program.specs.ProgramExpr.{Expr}
use Rattle.ss_store.specs.Tables.{set_of}
use Rattle.ss_store.specs.Store.{number_of}
use Rattle.ss_store.specs.Filing.{count, is_in as member_stands}
use Rattle.ss_program.specs.ProgramCondition.{Condition, any, Conjunctions, no_conjunctions, or_else, Conjunction, all}
use Rattle.ss_program.specs.ProgramCondition.{Relations, no_relations, and_also, Relation, compared, is_empty, is_in}
use Rattle.ss_program.specs.ProgramCondition.{nested}
use Rattle.ss_values.specs.Faults.{◌>>=◌}
use Rattle.ss_values.specs.Values.{Readings, value_of, subscript_value}

-- the truth of a comparison
abbrev pub comparison_holds : Comparison → ℤ → ℤ → Bool
comparison_holds Equal x y = int_eq x y
comparison_holds Unequal x y = not (int_eq x y)
comparison_holds Less x y = int_lt x y
comparison_holds Greater x y = int_lt y x
comparison_holds AtMost x y = int_le x y
comparison_holds AtLeast x y = int_le y x

-- the truth of the second part, unless the first part is true
abbrev pub true_or : Bool → Result Bool RunFault → Result Bool RunFault
true_or true r = Ok true
true_or false r = r

-- the truth of the second part, if the first part is true
abbrev pub true_and : Bool → Result Bool RunFault → Result Bool RunFault
true_and true r = r
true_and false r = Ok false

-- IS leaves a truth, IS NOT turns it
abbrev pub truth_by : Copula → Bool → Bool
truth_by Is b = b
truth_by IsNot b = not b

-- the value that names the owner of a list
abbrev pub owner_value : Readings → SetRef → Result ℤ RunFault
owner_value readings set = subscript_value readings set.owner

-- whether a list has no member; its owner exists
abbrev pub is_empty_list : Readings → SetRef → Result Bool RunFault
is_empty_list readings set =
    owner_value readings set >>= λ o. count (set_of readings.tables set.set) readings.store (number_of o)
    >>= λ n. Ok (n == 0)

-- whether a list has a member: both values first, then whether owner and member exist
abbrev pub is_in_list : Readings → Expr → SetRef → Result Bool RunFault
is_in_list readings expression set =
    value_of readings expression >>= λ x. owner_value readings set
    >>= λ o. member_stands (set_of readings.tables set.set) readings.store (number_of o) (number_of x)

-- each part from the left; b is the truth of the part before further conjunctions or relations
abbrev mutual
  -- a condition
  pub holds : Readings → Condition → Result Bool RunFault
  holds v (any c cs) = conjunction_holds v c >>= λ b. any_holds v b cs

  -- with further conjunctions, of which one holds
  pub any_holds : Readings → Bool → Conjunctions → Result Bool RunFault
  any_holds v b no_conjunctions = Ok b
  any_holds v b (or_else c cs) = true_or b (conjunction_holds v c >>= λ d. any_holds v d cs)

  -- a conjunction
  pub conjunction_holds : Readings → Conjunction → Result Bool RunFault
  conjunction_holds v (all r rs) = relation_holds v r >>= λ b. all_hold v b rs

  -- with further relations, which all hold
  pub all_hold : Readings → Bool → Relations → Result Bool RunFault
  all_hold v b no_relations = Ok b
  all_hold v b (and_also r rs) = true_and b (relation_holds v r >>= λ d. all_hold v d rs)

  -- a relation
  pub relation_holds : Readings → Relation → Result Bool RunFault
  relation_holds v (compared e c f) = value_of v e >>= λ x. value_of v f >>= λ y. Ok (comparison_holds c x y)
  relation_holds v (is_empty r is) = is_empty_list v r >>= λ b. Ok (truth_by is b)
  relation_holds v (is_in e is r) = is_in_list v e r >>= λ b. Ok (truth_by is b)
  relation_holds v (nested c) = holds v c
